-- What a test says of an object. Assumes nothing.
--     passing p o     whether the test p passes at the number, the parent and the name of o
use Rattle.std.specs.Prelude.{ℕ, Bool, List}
use Rattle.tree.specs.Trees.{Object}

abbrev pub passing : (ℕ → ℕ → List ℕ → Bool) → Object → Bool
passing p o = p o.number o.parent o.name
