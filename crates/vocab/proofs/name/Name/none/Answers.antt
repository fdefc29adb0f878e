use Rattle.std.proofs.Common.{ap, ◌∙◌}
use Rattle.vocab.specs.Names.{name_or_none}
use Rattle.vocab.proofs.Naming.{unnamed}
use Rattle.vocab.proofs.name.Name.none.Goals as goal

pub invariant_of-result : goal.invariant_of-result
invariant_of-result c = ap name_or_none c.empty.ensures ∙ unnamed
