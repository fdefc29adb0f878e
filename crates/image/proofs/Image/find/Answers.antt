use Rattle.std.proofs.Common.{rules, of_calls}
use Rattle.image.specs.Stores.{tree_of}
use Rattle.image.proofs.Locating.{found_any}
use Rattle.image.proofs.Standing.{law}
use Rattle.image.proofs.Image.find.Goals as goal

pub returns : goal.returns
returns c =
    let s = c.args.self.now in
    found_any (tree_of s) (law s) c.args.number c.find_in.result c.or_else.result c.find_in.ensures (λ m. search (rules, of_calls)) c.or_else.ensures
