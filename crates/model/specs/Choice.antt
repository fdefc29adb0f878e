-- What a walk keeps, said without the way in which it is found. Assumes nothing.
--     GoesBefore f h o p       o has a higher priority than p under the policy f, or the same and a lower number
--     InOrder f h c            each of c goes before all that stand behind it
--     Apart c                  no two of c have one number
--     FirstSixteen f h l c     c is what the hoard h shall keep of the objects l
use Rattle.std.specs.Prelude.{◌≡◌, ℕ, ◌<◌, min, true, ◌⊎◌, List, [], ◌∷◌, map, length, Some, None}
use Rattle.std.specs.List.{AllByRecursion}
use Rattle.tree.specs.Questions.{is_some, regular}
use Rattle.tree.specs.Trees.{Ascends, Object, at, keep}
use Rattle.model.specs.Hoard.{Hoard, Policy, chosen, kept_in, priority, walked}

abbrev pub GoesBefore : Policy → Hoard → Object → Object → Type 0
GoesBefore f h o p = (priority f h p < priority f h o) ⊎ ((priority f h o ≡ priority f h p) × (o.number < p.number))

abbrev pub InOrder : Policy → Hoard → List Object → Type 0
InOrder f h [] = Unit {0}
InOrder f h (o ∷ c) = AllByRecursion (GoesBefore f h o) c × InOrder f h c

abbrev pub Apart : List Object → Type 0
Apart [] = Unit {0}
Apart (o ∷ c) = (at o.number c ≡ None) × Apart c

pub record FirstSixteen (f : Policy) (h : Hoard) (l c : List Object) : Type 0 where
  -- 16, or as many as there are files
  pub count : length c ≡ min 16 (length (keep regular l))
  -- each is a file of l, as it stands there
  pub files : AllByRecursion (λ o. (at o.number l ≡ Some o) × (regular o ≡ true)) c
  pub apart : Apart c
  pub ordered : InOrder f h c
  -- each goes before every file of l that is left out
  pub best : (x : ℕ) (p : Object) → at x l ≡ Some p → regular p ≡ true → at x c ≡ None → AllByRecursion (λ o. GoesBefore f h o p) c

-- for every policy, every hoard, and every list of objects whose numbers ascend, as in each lawful tree
abbrev pub KeepsTheFirstSixteen : Type 0
KeepsTheFirstSixteen = (f : Policy) (h : Hoard) (n : ℕ) (l : List Object) → Ascends n l → FirstSixteen f h l (chosen f h l)

-- and no other list is such a one
abbrev pub FirstSixteenAreOneList : Type 0
FirstSixteenAreOneList = (f : Policy) (h : Hoard) (l c d : List Object) → FirstSixteen f h l c → FirstSixteen f h l d → c ≡ d

-- the walked hoard keeps just these, in this order
abbrev pub WalkKeepsTheChosen : Type 0
WalkKeepsTheChosen = (f : Policy) (h : Hoard) (l : List Object) → map (λ k. k.number) (walked f h l).kept ≡ map (λ o. o.number) (chosen f h l)

abbrev pub KeptIsChosen : Type 0
KeptIsChosen = (f : Policy) (h : Hoard) (l : List Object) (x : ℕ) → kept_in (walked f h l) x ≡ is_some (at x (chosen f h l))
