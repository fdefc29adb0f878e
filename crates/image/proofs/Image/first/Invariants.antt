use Rattle.asking.specs.Tests.{passing}
use Rattle.format.specs.Images.{section}
use Rattle.image.specs.Searches.{Before}
use Rattle.image.specs.Stores.{store_sections}
use Rattle.image.proofs.Image.first.Given as goal

abbrev pub invariant-loop-index : goal.invariant-loop-index
invariant-loop-index g l = Before (passing (g.T.Test.passes l.test)) (section l.kind (store_sections l.self)) l.index
