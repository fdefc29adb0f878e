use Rattle.std.proofs.Common.{rules, of_calls}
use Rattle.asking.specs.Tests.{passing}
use Rattle.image.specs.Stores.{tree_of}
use Rattle.image.proofs.Locating.{either}
use Rattle.image.proofs.Image.find_first.Goals as goal

pub returns : goal.returns
returns g c =
    let q = passing (g.T.Test.passes c.args.test.now) in
    either (tree_of c.args.self.now) q c.first.result c.or_else.result c.first.ensures (λ m. search (rules, of_calls)) c.or_else.ensures
