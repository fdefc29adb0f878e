-- What a record cancels in a log as it is entered. Assumes nothing.
--     born n x               whether x was made in a spell that has given out n numbers
--     stored_before x rs     the stamp that the first store of x in rs expects, or none
--     expecting e d          the edit e, expecting d where that is a stamp
--     erase_store x rs       rs without the first store of x
--     erase_object x rs      rs without the records of x
--     named_by_other x rs    whether a record of another object names x as parent or new parent
--     entered n rs r         the log rs of such a spell after r is entered: what stands behind an erased record moves up
use Rattle.std.specs.Prelude.{ℕ, ◌+◌, Bool, cond, not, ◌&&◌, List, [], ◌∷◌, ◌++◌, Some, None, Option, ◌==◌, nat_le, nat_lt}
use Rattle.vocab.specs.declared.stamp.Stamp.{Stamp}
use Rattle.vocab.specs.Limits.{temporary}
use Rattle.tree.specs.Trees.{keep, some_of}
use Rattle.model.specs.Records.{Edit, mkdir, create, store, remove, rmdir, rename, Record, object, stores, names, expectation, with_edit}

abbrev pub born : ℕ → ℕ → Bool
born n x = nat_le temporary x && nat_lt x (temporary + n)

abbrev pub stored_before : ℕ → List Record → Option Stamp
stored_before x [] = None
stored_before x (r ∷ rs) = cond (stores x r.edit) (expectation r.edit) (stored_before x rs)

abbrev pub expecting : Edit → Option Stamp → Edit
expecting e None = e
expecting (mkdir x p n) (Some d) = mkdir x p n
expecting (create x p n) (Some d) = create x p n
expecting (store x c e) (Some d) = store x c d
expecting (remove x p n e) (Some d) = remove x p n d
expecting (rmdir x p n) (Some d) = rmdir x p n
expecting (rename x p n q m) (Some d) = rename x p n q m

abbrev pub erase_store : ℕ → List Record → List Record
erase_store x [] = []
erase_store x (r ∷ rs) = cond (stores x r.edit) rs (r ∷ erase_store x rs)

abbrev pub erase_object : ℕ → List Record → List Record
erase_object x rs = keep (λ r. not (object r.edit == x)) rs

abbrev pub named_by_other : ℕ → List Record → Bool
named_by_other x rs = some_of (λ r. not (object r.edit == x) && names x r.edit) rs

abbrev pub at_end : List Record → Record → List Record
at_end rs r = rs ++ (r ∷ [])

-- the store's expected stamp is taken over
abbrev pub over_store : ℕ → List Record → Record → List Record
over_store x rs r = at_end (erase_store x rs) (with_edit r (expecting r.edit (stored_before x rs)))

abbrev pub entered_edit : ℕ → List Record → Record → Edit → List Record
entered_edit n rs r (mkdir x p m) = at_end rs r
entered_edit n rs r (create x p m) = at_end rs r
entered_edit n rs r (store x c e) = over_store x rs r
entered_edit n rs r (remove x p m e) = cond (born n x) (erase_object x rs) (over_store x rs r)
entered_edit n rs r (rmdir x p m) = cond (born n x && not (named_by_other x rs)) (erase_object x rs) (at_end rs r)
entered_edit n rs r (rename x p m q o) = at_end rs r

abbrev pub entered : ℕ → List Record → Record → List Record
entered n rs r = entered_edit n rs r r.edit
