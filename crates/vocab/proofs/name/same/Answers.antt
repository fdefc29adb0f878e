use Rattle.std.proofs.Common.{rules}
use Rattle.vocab.specs.Names.{same_name}
use Rattle.vocab.proofs.name.same.Goals as goal

pub returns : goal.returns
unfolding same_name
returns c = search rules
