-- A spell of edits on a copy, and the log that it leaves. Assumes nothing.
--     Under b l          the objects l ascend from number 2 on, and their numbers and parents lie below b
--     Numbered n e       a new object of e has the temporary number that comes after n given out
--     Spell n us copy    the records us were made one after another on the copy, from where n numbers were given out
--     logged n rs us     the log rs of a spell that has given out n numbers, after us are entered one by one
-- Each record is entered with the count of the numbers given out so far, its own among them: see LogGrows.
use Rattle.std.specs.Prelude.{◌≡◌, ℕ, ◌+◌, ◌<◌, List, [], ◌∷◌}
use Rattle.std.specs.List.{AllByRecursion}
use Rattle.vocab.specs.Limits.{temporary}
use Rattle.tree.specs.Theorems.{Accepted}
use Rattle.tree.specs.Trees.{Ascends, Object, Tree}
use Rattle.model.specs.Applying.{applied}
use Rattle.model.specs.Cancelling.{entered}
use Rattle.model.specs.Past.{given}
use Rattle.model.specs.Records.{Edit, mkdir, create, store, remove, rmdir, rename, Record}

pub record Under (b : ℕ) (l : List Object) : Type 0 where
  pub ascending : Ascends 2 l
  pub below : AllByRecursion (λ o. (o.number < b) × (o.parent < b)) l

abbrev pub Numbered : ℕ → Edit → Type 0
Numbered k (mkdir x p n) = x ≡ temporary + k
Numbered k (create x p n) = x ≡ temporary + k
Numbered k (store x c e) = Unit {0}
Numbered k (remove x p n e) = Unit {0}
Numbered k (rmdir x p n) = Unit {0}
Numbered k (rename x p n q m) = Unit {0}

abbrev pub Spell : ℕ → List Record → Tree → Type 0
Spell n [] copy = Unit {0}
Spell n (r ∷ us) copy = Numbered n r.edit × Accepted (applied r copy) × Spell (n + given r.edit) us (applied r copy).0

abbrev pub logged : ℕ → List Record → List Record → List Record
logged n rs [] = rs
logged n rs (r ∷ us) = logged (n + given r.edit) (entered (n + given r.edit) rs r) us
