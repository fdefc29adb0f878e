-- The listing of a tree: every object once, each followed by all that lies beneath it, by number. Assumes nothing.
--     beneath k d l      the numbers of what lies beneath d, at most k levels down: the objects of d, each followed by what lies beneath it
--     listing t          all that lies beneath the root
--     times x l          how often x stands in l
use Rattle.std.specs.Prelude.{◌≡◌, ℕ, zero, suc, cond, List, [], ◌∷◌, count_by, nat_eq}
use Rattle.std.specs.List.{flat_map}
use Rattle.tree.specs.Law.{Lawful}
use Rattle.tree.specs.Questions.{child_of, is_some}
use Rattle.tree.specs.Trees.{Object, Tree, at, keep}

abbrev pub beneath : ℕ → ℕ → List Object → List ℕ
beneath zero d l = []
beneath (suc k) d l = flat_map (λ o. o.number ∷ beneath k o.number l) (keep (child_of d) l)

abbrev pub listing : Tree → List ℕ
listing t = beneath t.capacity 1 t.objects

abbrev pub times : ℕ → List ℕ → ℕ
times x l = count_by (λ y. nat_eq y x) l

-- every object stands in the listing once, and nothing else does
abbrev pub ListsEachOnce : Type 0
ListsEachOnce = (t : Tree) → Lawful t → (x : ℕ) → times x (listing t) ≡ cond (is_some (at x t.objects)) 1 0
