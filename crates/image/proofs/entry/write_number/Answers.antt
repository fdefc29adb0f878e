use Rattle.std.proofs.Common.{rules}
use Rattle.format.specs.Fields.{le32}
use Rattle.image.proofs.entry.write_number.Goals as goal

pub returns : goal.returns
unfolding le32
returns c = search rules
