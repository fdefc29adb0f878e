use Rattle.std.proofs.Common.{rules}
use Rattle.tree.proofs.Asking.{look_taken}
use Rattle.asking.proofs.questions.has_name.Goals as goal

pub returns : goal.returns
returns g c = search (look_taken, rules)
