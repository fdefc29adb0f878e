use Rattle.tree.proofs.AnyWay.{climbs_any, lawful_any}
use Rattle.tree.proofs.laws.climbs_by_any_steps.Goals as goal

pub returns : goal.returns
returns c = record { steps = climbs_any; law = lawful_any }
