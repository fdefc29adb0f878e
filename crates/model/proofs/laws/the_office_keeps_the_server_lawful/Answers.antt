use Rattle.model.proofs.Calling.{office_order}
use Rattle.model.proofs.Serving.{office_lawful, office_numbers}
use Rattle.model.proofs.laws.the_office_keeps_the_server_lawful.Goals as goal

pub returns : goal.returns
returns c = record { order = office_order; law = office_lawful; numbers = office_numbers }
