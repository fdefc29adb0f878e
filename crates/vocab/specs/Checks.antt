-- Checks in order, then an effect. Assumes nothing.
--     check b r          a check that holds where b is true, and else refuses with r
--     judge cs s e       the state and the answer of a call in state s: those of e where all of cs hold, else s and the first refusal
--     Holds cs           all of cs hold
use Rattle.std.specs.Prelude.{◌≡◌, Bool, true, cond, List, [], ◌∷◌, Ok, Err, Result}
use Rattle.vocab.specs.declared.refusal.Refusal.{Refusal}

pub record Check : Type 0 where
  pub holds : Bool
  pub else : Refusal

abbrev pub check : Bool → Refusal → Check
check b r = record { holds = b; else = r }

abbrev pub judge : {S A : Type 0} → List Check → S → S × A → S × Result A Refusal
judge [] s e = (e.0, Ok e.1)
judge (c ∷ cs) s e = cond c.holds (judge cs s e) (s, Err c.else)

abbrev pub Holds : List Check → Type 0
Holds [] = Unit {0}
Holds (c ∷ cs) = (c.holds ≡ true) × Holds cs
