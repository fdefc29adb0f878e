-- The office's calls: edits that are made at the server itself. Assumes nothing.
--     Call                what is asked for: a directory or a file made in a parent under a name, contents stored in a file, a file or a
--                         directory taken away from a parent and name, an object renamed from one place to another
--     bound p n t         the number bound to the name n in p, or 0, which no object has
--     stamp_at x t        the stamp of the object x as it stands
--     edit_of k c t       the edit of the call's record, if what it makes gets the number k
--     spends c            how many numbers it uses up: one for a stamp or a new object
--     office_record c t   its record: author 0, and the next number as serial
--     call_checks c t     what the call refuses before its record is applied
--     raised c r          the tree after an accepted record, its next number raised by what the call spends
--     called c t          the tree after the call, and the answer
--     called_checks c t   all that the call can refuse on a lawful tree, in order: see OfficeInOrder
use Rattle.std.specs.Prelude.{ℕ, ◌+◌, not, ◌&&◌, List, [], ◌∷◌, ◌++◌, length, Some, None, Ok, Err, nat_le, nat_lt}
use Rattle.vocab.specs.declared.refusal.Refusal.TheVariants.{BadName, NoSuchObject, ContentsTooLong, HasChildren, BeneathItself, NumbersSpent, NumberInUse}
use Rattle.vocab.specs.declared.stamp.Stamp.{Stamp}
use Rattle.vocab.specs.Checks.{Check, check}
use Rattle.vocab.specs.Limits.{longest_contents, temporary}
use Rattle.vocab.specs.Names.{valid_name}
use Rattle.tree.specs.Changes.{Changed, with_next}
use Rattle.tree.specs.Questions.{climbs, has_child, is_dir, is_file, is_some, look}
use Rattle.tree.specs.Trees.{Tree, at, with_objects}
use Rattle.model.specs.Records.{Edit, mkdir, create, store, remove, rmdir, rename, Record, stamp_of}
use Rattle.model.specs.Applying.{applied, effect, first_check, new_checks, place_checks}

pub data Call : Type 0 where
  make_directory : ℕ → List ℕ → Call
  make_file : ℕ → List ℕ → Call
  store_into : ℕ → List ℕ → Call
  remove_file : ℕ → List ℕ → Call
  remove_directory : ℕ → List ℕ → Call
  rename_object : ℕ → List ℕ → ℕ → List ℕ → Call

abbrev pub bound : ℕ → List ℕ → Tree → ℕ
bound p n t = elim (look p n t.objects) [ None ↦ 0 | Some x ↦ x ]

abbrev pub stamp_at : ℕ → Tree → Stamp
stamp_at x t = elim (at x t.objects) [ None ↦ record { author = 0; serial = 0 } | Some o ↦ o.stamp ]

abbrev pub edit_of : ℕ → Call → Tree → Edit
edit_of k (make_directory p n) t = mkdir k p n
edit_of k (make_file p n) t = create k p n
edit_of k (store_into x c) t = store x c (stamp_at x t)
edit_of k (remove_file p n) t = remove (bound p n t) p n (stamp_at (bound p n t) t)
edit_of k (remove_directory p n) t = rmdir (bound p n t) p n
edit_of k (rename_object p n q m) t = rename (bound p n t) p n q m

abbrev pub spends : Call → ℕ
spends (make_directory p n) = 1
spends (make_file p n) = 1
spends (store_into x c) = 1
spends (remove_file p n) = 0
spends (remove_directory p n) = 0
spends (rename_object p n q m) = 0

abbrev pub office_record : Call → Tree → Record
office_record c t = record { author = 0; serial = t.next; edit = edit_of t.next c t }

-- what every call refuses before any tree is changed; a loader's edits have the same, but for the numbers
abbrev pub form_checks : Call → List Check
form_checks (make_directory p n) = check (valid_name n) BadName ∷ []
form_checks (make_file p n) = check (valid_name n) BadName ∷ []
form_checks (store_into x c) = check (nat_le (length c) longest_contents) ContentsTooLong ∷ []
form_checks (remove_file p n) = []
form_checks (remove_directory p n) = []
form_checks (rename_object p n q m) = check (valid_name m) BadName ∷ []

abbrev pub number_checks : Call → Tree → List Check
number_checks (make_directory p n) t = check (nat_lt t.next temporary) NumbersSpent ∷ []
number_checks (make_file p n) t = check (nat_lt t.next temporary) NumbersSpent ∷ []
number_checks (store_into x c) t = check (nat_lt t.next temporary) NumbersSpent ∷ []
number_checks (remove_file p n) t = []
number_checks (remove_directory p n) t = []
number_checks (rename_object p n q m) t = []

abbrev pub call_checks : Call → Tree → List Check
call_checks c t = form_checks c ++ number_checks c t

abbrev pub raised : ℕ → Changed → Changed
raised k (t, Ok u) = (with_next t (t.next + k), Ok tt)
raised k (t, Err e) = (t, Err e)

abbrev pub called : Call → Tree → Changed
called c t = first_check (call_checks c t) t (raised (spends c) (applied (office_record c t) t))

-- ---- as one list of checks, and one effect

abbrev pub called_checks : Call → Tree → List Check
called_checks (make_directory p n) t = call_checks (make_directory p n) t ++ (new_checks p n t ++ (check (nat_le 2 t.next && not (is_some (at t.next t.objects))) NumberInUse ∷ []))
called_checks (make_file p n) t = call_checks (make_file p n) t ++ (new_checks p n t ++ (check (nat_le 2 t.next && not (is_some (at t.next t.objects))) NumberInUse ∷ []))
called_checks (store_into x c) t = call_checks (store_into x c) t ++ (check (is_file (at x t.objects)) NoSuchObject ∷ [])
called_checks (remove_file p n) t = check (is_file (at (bound p n t) t.objects)) NoSuchObject ∷ []
called_checks (remove_directory p n) t =
    check (is_dir (at (bound p n t) t.objects)) NoSuchObject
    ∷ check (not (has_child (bound p n t) t.objects)) HasChildren
    ∷ []
called_checks (rename_object p n q m) t =
    check (valid_name m) BadName
    ∷ check (is_some (at (bound p n t) t.objects)) NoSuchObject
    ∷ (place_checks q m t ++ (check (not (climbs t.capacity (bound p n t) q t.objects)) BeneathItself ∷ []))

abbrev pub called_tree : Call → Tree → Tree
called_tree c t = with_next (with_objects t (effect (stamp_of (office_record c t)) (office_record c t).edit t.objects)) (t.next + spends c)
