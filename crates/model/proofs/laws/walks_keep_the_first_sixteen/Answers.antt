use Rattle.model.proofs.Choosing.{are_one_list, first_sixteen}
use Rattle.model.proofs.laws.walks_keep_the_first_sixteen.Goals as goal

pub returns-clause-choice : goal.returns-clause-choice
returns-clause-choice c = first_sixteen

pub returns-clause-alone : goal.returns-clause-alone
returns-clause-alone c = are_one_list
