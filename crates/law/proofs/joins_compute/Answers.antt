use Rattle.std.proofs.Common.{refl}
use Rattle.vocab.specs.Names.{same_name, valid_name}
use Rattle.law.proofs.joins_compute.Goals as goal

pub returns : goal.returns
unfolding same_name valid_name
returns c = record {
  is_away = (_, _, record { there = refl; out = refl });
  file_touched = refl;
  file_there = refl;
  file_seen = refl;
  log_is = refl;
  first_passes = refl;
  second_fails = refl;
}
