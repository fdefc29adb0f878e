-- What is proved of records, cancelling and replay. Assumes nothing.
use Rattle.std.specs.Prelude.{◌≡◌, ℕ, ◌<◌, true}
use Rattle.vocab.specs.Checks.{judge}
use Rattle.tree.specs.Law.{Lawful}
use Rattle.tree.specs.Questions.{is_some}
use Rattle.tree.specs.Trees.{Tree, at, with_objects}
use Rattle.model.specs.Records.{Record, stamp_of}
use Rattle.model.specs.Applying.{applied, all_checks, effect}
use Rattle.model.specs.Office.{Call, called, called_checks, called_tree}

-- a record's own checks and what the store refuses after them are one list of checks, and one effect follows
abbrev pub AppliedInOrder : Type 0
AppliedInOrder = (t : Tree) (r : Record) → applied r t ≡ judge (all_checks r.edit t) t (with_objects t (effect (stamp_of r) r.edit t.objects), tt)

-- ---- the office's calls

-- what a call on a lawful tree refuses, and in which order; what an accepted one leaves
abbrev pub OfficeInOrder : Type 0
OfficeInOrder = (t : Tree) → Lawful t → (c : Call) → called c t ≡ judge (called_checks c t) t (called_tree c t, tt)

abbrev pub OfficeKeepsLaw : Type 0
OfficeKeepsLaw = (t : Tree) → Lawful t → (c : Call) → Lawful (called c t).0

-- every number on the server is below its next number
abbrev pub NumbersBelowNext : Tree → Type 0
NumbersBelowNext t = (x : ℕ) → is_some (at x t.objects) ≡ true → x < t.next

abbrev pub OfficeKeepsNumbers : Type 0
OfficeKeepsNumbers = (t : Tree) → NumbersBelowNext t → (c : Call) → NumbersBelowNext (called c t).0
