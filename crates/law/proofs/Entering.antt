-- What a record lands on and touches, and what it cancels. Assumes nothing.
--     lands d e          whether e puts something under d
--     lands_other x r    whether r, of another object than x, puts something under x
--     births d e         whether e makes d
--     touches x r        whether r stores or removes x
--     Alone e rs         where e is a store, rs neither stores nor removes its file
--     Lone rs            each store of rs is alone in what follows
--     expected x e rs    the stamp that the first store of x in rs expects, or e
--     cancel t rs r      the log rs after r is entered, where t tells the numbers made in the spell
use Rattle.std.proofs.Common.{◌≡◌, ℕ, Bool, false, cond, not, ◌&&◌, ◌||◌, eqb, List, [], ◌∷◌, ◌++◌, Some, None, Option, refl, rules}
use Rattle.model.specs.Cancelling.{born, entered, erase_object, erase_store, expecting, named_by_other, stored_before}
use Rattle.model.specs.Records.{Edit, Record, create, mkdir, object, remove, removes, rename, rmdir, stamp_of, store, stores}
use Rattle.tree.specs.Trees.{some_of}
use Rattle.vocab.specs.declared.stamp.Stamp.{Stamp}
use Rattle.law.proofs.Runs.{rec}

abbrev pub lands : ℕ → Edit → Bool
lands d (mkdir x p n) = eqb p d
lands d (create x p n) = eqb p d
lands d (store x c e) = false
lands d (remove x p n e) = false
lands d (rmdir x p n) = false
lands d (rename x p n q m) = eqb q d

abbrev pub lands_other : ℕ → Record → Bool
lands_other x r = not (eqb (object r.edit) x) && lands x r.edit

abbrev pub births : ℕ → Edit → Bool
births d (mkdir x p n) = eqb x d
births d (create x p n) = eqb x d
births d (store x c e) = false
births d (remove x p n e) = false
births d (rmdir x p n) = false
births d (rename x p n q m) = false

abbrev pub touches : ℕ → Record → Bool
touches x r = stores x r.edit || removes x r.edit

abbrev pub Alone : Edit → List Record → Type 0
Alone (mkdir x p n) rs = Unit {0}
Alone (create x p n) rs = Unit {0}
Alone (store x c e) rs = some_of (touches x) rs ≡ false
Alone (remove x p n e) rs = Unit {0}
Alone (rmdir x p n) rs = Unit {0}
Alone (rename x p n q m) rs = Unit {0}

abbrev pub Lone : List Record → Type 0
Lone [] = Unit {0}
Lone (r ∷ rs) = Alone r.edit rs × Lone rs

abbrev pub instead : Stamp → Option Stamp → Stamp
instead e None = e
instead e (Some d) = d

abbrev pub expected : ℕ → Stamp → List Record → Stamp
expected x e rs = instead e (stored_before x rs)

abbrev pub cancel_edit : (ℕ → Bool) → List Record → Stamp → Edit → List Record
cancel_edit t rs s (mkdir x p n) = rs ++ (rec s (mkdir x p n) ∷ [])
cancel_edit t rs s (create x p n) = rs ++ (rec s (create x p n) ∷ [])
cancel_edit t rs s (store x c e) = erase_store x rs ++ (rec s (store x c (expected x e rs)) ∷ [])
cancel_edit t rs s (remove x p n e) = cond (t x) (erase_object x rs) (erase_store x rs ++ (rec s (remove x p n (expected x e rs)) ∷ []))
cancel_edit t rs s (rmdir x p n) = cond (t x && not (named_by_other x rs)) (erase_object x rs) (rs ++ (rec s (rmdir x p n) ∷ []))
cancel_edit t rs s (rename x p n q m) = rs ++ (rec s (rename x p n q m) ∷ [])

abbrev pub cancel : (ℕ → Bool) → List Record → Record → List Record
cancel t rs r = cancel_edit t rs (stamp_of r) r.edit

expecting_store : (x : ℕ) (c : List ℕ) (e : Stamp) (d : Option Stamp) → expecting (store x c e) d ≡ store x c (instead e d)
expecting_store x c e None = refl
expecting_store x c e (Some d) = refl

expecting_remove : (x p : ℕ) (n : List ℕ) (e : Stamp) (d : Option Stamp) → expecting (remove x p n e) d ≡ remove x p n (instead e d)
expecting_remove x p n e None = refl
expecting_remove x p n e (Some d) = refl

entered_edits : (k : ℕ) (rs : List Record) (s : Stamp) (e : Edit) → entered k rs (rec s e) ≡ cancel_edit (born k) rs s e
entered_edits k rs s e = search rules

-- entering is such a cancelling
pub entered_cancel : (k : ℕ) (rs : List Record) (r : Record) → entered k rs r ≡ cancel (born k) rs r
entered_cancel k rs r = entered_edits k rs (stamp_of r) r.edit
