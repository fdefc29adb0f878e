-- What is proved of spells and their logs. Assumes nothing.
--     CancellingLosesNothing       where all that a spell recorded would pass on a later tree, its log passes, and leaves the same tree
--     CountGrows, CopyGrows, SpellGrows, LogGrows    what one record more at the end does
use Rattle.std.specs.Prelude.{◌≡◌, ℕ, ◌+◌, ◌<◌, ◌≤◌, List, [], ◌∷◌, ◌++◌, Ok}
use Rattle.vocab.specs.Limits.{temporary}
use Rattle.tree.specs.Theorems.{Accepted}
use Rattle.tree.specs.Trees.{Tree}
use Rattle.model.specs.Applying.{applied}
use Rattle.model.specs.Cancelling.{entered}
use Rattle.model.specs.Records.{Record}
use Rattle.model.specs.Replaying.{replay}
use Rattle.model.specs.Past.{copy_after, given, given_by}
use Rattle.law.specs.Spells.{Numbered, Spell, Under, logged}

-- the spell began on a copy of a tree whose next number was m; t is the tree later
abbrev pub CancellingLosesNothing : Type 0
CancellingLosesNothing =
    (m : ℕ) → 1 < m → (copy : Tree) → Under m copy.objects → (us : List Record) → Spell 0 us copy
    → (t : Tree) → Under t.next t.objects → m ≤ t.next → t.next ≤ temporary
    → (u : Tree) → replay (given_by us) us t ≡ Ok u → replay (given_by us) (logged 0 [] us) t ≡ Ok u

-- ---- one record more

abbrev pub CountGrows : Type 0
CountGrows = (us : List Record) (r : Record) → given_by (us ++ (r ∷ [])) ≡ given_by us + given r.edit

abbrev pub CopyGrows : Type 0
CopyGrows = (us : List Record) (r : Record) (copy : Tree) → copy_after (us ++ (r ∷ [])) copy ≡ (applied r (copy_after us copy)).0

abbrev pub SpellGrows : Type 0
SpellGrows =
    (n : ℕ) (us : List Record) (r : Record) (copy : Tree) → Spell n us copy
    → Numbered (n + given_by us) r.edit → Accepted (applied r (copy_after us copy)) → Spell n (us ++ (r ∷ [])) copy

abbrev pub LogGrows : Type 0
LogGrows = (n : ℕ) (rs us : List Record) (r : Record) → logged n rs (us ++ (r ∷ [])) ≡ entered (n + given_by (us ++ (r ∷ []))) (logged n rs us) r
