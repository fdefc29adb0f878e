-- What applying a record to a tree does: its own checks in order, then what a store does. Assumes nothing.
--     stands p n o       whether the object o is named n in p
--     stamped e o        whether its stamp is e
--     own_checks r t     the record's checks, each with its refusal
--     asked r t          the change of a store that it asks for
--     first_check cs t c the checks cs, and then the change c of t
--     applied r t        the tree after, and the answer
--     all_checks r t     its own checks and what the store still refuses, in order
--     effect r l         the objects after
-- The last two say the same in another way: see AppliedInOrder.
use Rattle.std.specs.Prelude.{ℕ, Bool, false, cond, not, ◌&&◌, List, [], ◌∷◌, ◌++◌, length, Some, None, Err, Option, ◌==◌, nat_le, nat_lt}
use Rattle.vocab.specs.declared.kind.Kind.TheVariants.{Directory, File}
use Rattle.vocab.specs.declared.refusal.Refusal.TheVariants.{BadName, NumberInUse, NoSuchDirectory, NameTaken, StoreFull, NoSuchObject, ContentsTooLong, HasChildren, BeneathItself, PlaceDiffers, StampDiffers}
use Rattle.vocab.specs.declared.stamp.Stamp.{Stamp}
use Rattle.vocab.specs.Checks.{Check, check}
use Rattle.vocab.specs.Limits.{longest_contents}
use Rattle.vocab.specs.Names.{valid_name}
use Rattle.tree.specs.Changes.{Changed, added, dropped, fresh, moved, put, with_contents, with_place}
use Rattle.tree.specs.Questions.{climbs, dir_at, has_child, is_dir, is_file, is_some, placed, taken}
use Rattle.tree.specs.Trees.{Object, Tree, at, change, insert, without}
use Rattle.model.specs.Records.{Edit, mkdir, create, store, remove, rmdir, rename, Record, stamp_of}

abbrev pub stands : ℕ → List ℕ → Option Object → Bool
stands p n None = false
stands p n (Some o) = placed p n o

abbrev pub same_stamp : Stamp → Stamp → Bool
same_stamp a b = a.author == b.author && a.serial == b.serial

abbrev pub stamped : Stamp → Option Object → Bool
stamped e None = false
stamped e (Some o) = same_stamp o.stamp e

-- ---- as a record says it

abbrev pub place_checks : ℕ → List ℕ → Tree → List Check
place_checks p n t =
    check (dir_at p t.objects) NoSuchDirectory
    ∷ check (not (taken p n t.objects)) NameTaken
    ∷ []

abbrev pub new_checks : ℕ → List ℕ → Tree → List Check
new_checks p n t = place_checks p n t ++ (check (nat_lt (length t.objects) t.capacity) StoreFull ∷ [])

abbrev pub own_checks : Edit → Tree → List Check
own_checks (mkdir x p n) t = new_checks p n t
own_checks (create x p n) t = new_checks p n t
own_checks (store x c e) t =
    check (is_file (at x t.objects)) NoSuchObject
    ∷ check (stamped e (at x t.objects)) StampDiffers
    ∷ []
own_checks (remove x p n e) t =
    check (is_file (at x t.objects)) NoSuchObject
    ∷ check (stands p n (at x t.objects)) PlaceDiffers
    ∷ check (stamped e (at x t.objects)) StampDiffers
    ∷ []
own_checks (rmdir x p n) t =
    check (is_dir (at x t.objects)) NoSuchObject
    ∷ check (stands p n (at x t.objects)) PlaceDiffers
    ∷ check (not (has_child x t.objects)) HasChildren
    ∷ []
own_checks (rename x p n q m) t =
    check (is_some (at x t.objects)) NoSuchObject
    ∷ check (stands p n (at x t.objects)) PlaceDiffers
    ∷ (place_checks q m t ++ (check (not (climbs t.capacity x q t.objects)) BeneathItself ∷ []))

abbrev pub asked : Stamp → Edit → Tree → Changed
asked s (mkdir x p n) t = added t Directory p n x s
asked s (create x p n) t = added t File p n x s
asked s (store x c e) t = put t x c s
asked s (remove x p n e) t = dropped t x
asked s (rmdir x p n) t = dropped t x
asked s (rename x p n q m) t = moved t x q m

abbrev pub first_check : List Check → Tree → Changed → Changed
first_check [] t c = c
first_check (k ∷ ks) t c = cond k.holds (first_check ks t c) (t, Err k.else)

abbrev pub applied : Record → Tree → Changed
applied r t = first_check (own_checks r.edit t) t (asked (stamp_of r) r.edit t)

-- ---- as one list of checks, and one effect

abbrev pub store_checks : Edit → Tree → List Check
store_checks (mkdir x p n) t = check (valid_name n) BadName ∷ check (nat_le 2 x && not (is_some (at x t.objects))) NumberInUse ∷ []
store_checks (create x p n) t = check (valid_name n) BadName ∷ check (nat_le 2 x && not (is_some (at x t.objects))) NumberInUse ∷ []
store_checks (store x c e) t = check (nat_le (length c) longest_contents) ContentsTooLong ∷ []
store_checks (remove x p n e) t = check (not (has_child x t.objects)) HasChildren ∷ []
store_checks (rmdir x p n) t = []
store_checks (rename x p n q m) t = check (valid_name m) BadName ∷ []

abbrev pub all_checks : Edit → Tree → List Check
all_checks e t = own_checks e t ++ store_checks e t

abbrev pub effect : Stamp → Edit → List Object → List Object
effect s (mkdir x p n) l = insert (fresh Directory p n x s) l
effect s (create x p n) l = insert (fresh File p n x s) l
effect s (store x c e) l = change x (with_contents c s) l
effect s (remove x p n e) l = without x l
effect s (rmdir x p n) l = without x l
effect s (rename x p n q m) l = change x (with_place q m) l
