-- What a stack holds, and how many it can hold. Assumes nothing.
--     Pile X        the elements held, the last that came first, and the number of places
--     pile n l      the pile of n places that holds l
--     pushed x s    s after x came, and the answer
--     first l       the first of l, or none
--     popped s      s without the last that came, and the last that came, or none
use Rattle.std.specs.Prelude.{ℕ, List, [], ◌∷◌, length, drop, Some, None, Option, Result, nat_lt}
use Rattle.vocab.specs.declared.refusal.Refusal.{Refusal}
use Rattle.vocab.specs.declared.refusal.Refusal.TheVariants.{ListShort}
use Rattle.vocab.specs.Checks.{check, judge}

pub record Pile (X : Type 0) : Type 0 where
  pub held : List X
  pub places : ℕ

abbrev pub pile : {X : Type 0} → ℕ → List X → Pile X
pile n l = record { held = l; places = n }

abbrev pub pushed : {X : Type 0} → X → Pile X → Pile X × Result (Unit {0}) Refusal
pushed x s = judge (check (nat_lt (length s.held) s.places) ListShort ∷ []) s (pile s.places (x ∷ s.held), tt)

abbrev pub first : {X : Type 0} → List X → Option X
first [] = None
first (x ∷ l) = Some x

abbrev pub popped : {X : Type 0} → Pile X → Pile X × Option X
popped s = (pile s.places (drop 1 s.held), first s.held)
