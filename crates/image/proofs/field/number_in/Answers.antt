use Rattle.std.proofs.Common.{rules}
use Rattle.format.specs.Fields.{word}
use Rattle.image.proofs.field.number_in.Goals as goal

pub returns : goal.returns
unfolding word
returns c = search rules
