-- The law of trees. Assumes nothing.
--     Lawful t           t is a lawful tree
--     LawfulObject       what the law says of an object of the list l of a tree of capacity cap
--     empty cap          the tree of a store that was just opened
-- `climbs cap 1 p l` says that the parents lead from p to the root: no way up is longer than the tree's capacity.
use Rattle.std.specs.Prelude.{◌≡◌, ℕ, ◌^◌, ◌<◌, ◌≤◌, true, List, [], length, Some}
use Rattle.vocab.specs.declared.stamp.Stamp.{Stamp}
use Rattle.vocab.specs.Limits.{longest_contents, temporary}
use Rattle.vocab.specs.Names.{valid_name}
use Rattle.tree.specs.Trees.{Object, Tree, Ascends, at}
use Rattle.tree.specs.Questions.{contents, placed, dir_at, climbs}

abbrev pub StampFits : Stamp → Type 0
StampFits s = (s.author < 2 ^ 16) × (s.serial < 2 ^ 32)

pub record LawfulObject (cap : ℕ) (l : List Object) (o : Object) : Type 0 where
  pub number : o.number < 2 ^ 32
  pub name : valid_name o.name ≡ true
  pub stamp : StampFits o.stamp
  pub short : length (contents o) ≤ longest_contents
  pub home : dir_at o.parent l ≡ true
  pub rooted : climbs cap 1 o.parent l ≡ true

pub record Lawful (t : Tree) : Type 0 where
  pub next_low : 2 ≤ t.next
  pub next_high : t.next ≤ temporary
  pub ascending : Ascends 2 t.objects
  pub each : (x : ℕ) (o : Object) → at x t.objects ≡ Some o → LawfulObject t.capacity t.objects o
  pub names : (x y : ℕ) (o p : Object) → at x t.objects ≡ Some o → at y t.objects ≡ Some p → placed o.parent o.name p ≡ true → x ≡ y
  pub room : length t.objects ≤ t.capacity

abbrev pub empty : ℕ → Tree
empty cap = record { capacity = cap; next = 2; objects = [] }
