use Rattle.law.proofs.Lost.{nothing_lost}
use Rattle.law.proofs.cancelling_loses_nothing.Goals as goal

pub returns : goal.returns
returns c = nothing_lost
