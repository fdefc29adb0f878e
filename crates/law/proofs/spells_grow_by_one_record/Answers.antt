use Rattle.law.proofs.Growing.{copy_grows, count_grows, log_grows, spell_grows}
use Rattle.law.proofs.spells_grow_by_one_record.Goals as goal

pub returns : goal.returns
returns c = record { count = count_grows; copy = copy_grows; spell = spell_grows; log = log_grows }
