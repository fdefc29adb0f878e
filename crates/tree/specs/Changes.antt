-- How a tree is changed: the checks of each change in their order, then its effect. Assumes nothing.
--     added t k p n x s      a directory or an empty file of number x and stamp s, named n in p
--     put t x c s            contents c and stamp s for the file x
--     dropped t x            the object x is gone
--     moved t x q m          the object x is named m in q
--     next_set t n           the next number is n
--     cleared t              no objects; capacity and next number stay
-- Each but the last gives the tree after, and the answer.
use Rattle.std.specs.Prelude.{ℕ, not, ◌&&◌, List, [], ◌∷◌, length, Result, nat_le, nat_lt}
use Rattle.vocab.specs.declared.kind.Kind.{Kind}
use Rattle.vocab.specs.declared.stamp.Stamp.{Stamp}
use Rattle.vocab.specs.declared.refusal.Refusal.{Refusal}
use Rattle.vocab.specs.declared.refusal.Refusal.TheVariants.{BadName, NumberInUse, NoSuchDirectory, NameTaken, StoreFull, NoSuchObject, ContentsTooLong, HasChildren, BeneathItself, NextOutOfRange}
use Rattle.vocab.specs.Checks.{Check, check, judge}
use Rattle.vocab.specs.Limits.{longest_contents, temporary}
use Rattle.vocab.specs.Names.{valid_name}
use Rattle.tree.specs.Trees.{file, Object, Tree, at, insert, without, change, with_objects}
use Rattle.tree.specs.Questions.{is_some, is_file, dir_at, taken, has_child, climbs, new_body}

abbrev pub Changed : Type 0
Changed = Tree × Result (Unit {0}) Refusal

abbrev pub change_if : Tree → List Check → List Object → Changed
change_if t cs l = judge cs t (with_objects t l, tt)

-- ---- add

abbrev pub fresh : Kind → ℕ → List ℕ → ℕ → Stamp → Object
fresh k p n x s = record { number = x; parent = p; name = n; stamp = s; body = new_body k }

abbrev pub add_checks : Tree → ℕ → List ℕ → ℕ → List Check
add_checks t p n x =
    check (valid_name n) BadName
    ∷ check (nat_le 2 x && not (is_some (at x t.objects))) NumberInUse
    ∷ check (dir_at p t.objects) NoSuchDirectory
    ∷ check (not (taken p n t.objects)) NameTaken
    ∷ check (nat_lt (length t.objects) t.capacity) StoreFull
    ∷ []

abbrev pub added : Tree → Kind → ℕ → List ℕ → ℕ → Stamp → Changed
added t k p n x s = change_if t (add_checks t p n x) (insert (fresh k p n x s) t.objects)

-- ---- put

abbrev pub with_contents : List ℕ → Stamp → Object → Object
with_contents c s o = record { number = o.number; parent = o.parent; name = o.name; stamp = s; body = file c }

abbrev pub put_checks : Tree → ℕ → List ℕ → List Check
put_checks t x c =
    check (is_file (at x t.objects)) NoSuchObject
    ∷ check (nat_le (length c) longest_contents) ContentsTooLong
    ∷ []

abbrev pub put : Tree → ℕ → List ℕ → Stamp → Changed
put t x c s = change_if t (put_checks t x c) (change x (with_contents c s) t.objects)

-- ---- drop

abbrev pub drop_checks : Tree → ℕ → List Check
drop_checks t x =
    check (is_some (at x t.objects)) NoSuchObject
    ∷ check (not (has_child x t.objects)) HasChildren
    ∷ []

abbrev pub dropped : Tree → ℕ → Changed
dropped t x = change_if t (drop_checks t x) (without x t.objects)

-- ---- move

abbrev pub with_place : ℕ → List ℕ → Object → Object
with_place q m o = record { number = o.number; parent = q; name = m; stamp = o.stamp; body = o.body }

abbrev pub move_checks : Tree → ℕ → ℕ → List ℕ → List Check
move_checks t x q m =
    check (valid_name m) BadName
    ∷ check (is_some (at x t.objects)) NoSuchObject
    ∷ check (dir_at q t.objects) NoSuchDirectory
    ∷ check (not (taken q m t.objects)) NameTaken
    ∷ check (not (climbs t.capacity x q t.objects)) BeneathItself
    ∷ []

abbrev pub moved : Tree → ℕ → ℕ → List ℕ → Changed
moved t x q m = change_if t (move_checks t x q m) (change x (with_place q m) t.objects)

-- ---- next number, clear

abbrev pub with_next : Tree → ℕ → Tree
with_next t n = record { capacity = t.capacity; next = n; objects = t.objects }

abbrev pub next_set : Tree → ℕ → Changed
next_set t n = judge (check (nat_le t.next n && nat_le n temporary) NextOutOfRange ∷ []) t (with_next t n, tt)

abbrev pub cleared : Tree → Tree
cleared t = with_objects t []
