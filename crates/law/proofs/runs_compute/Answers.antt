use Rattle.std.proofs.Common.{refl, arith}
use Rattle.vocab.specs.Names.{same_name, valid_name}
use Rattle.law.proofs.runs_compute.Goals as goal

pub returns : goal.returns
unfolding same_name valid_name
returns c = record {
  starts = record {
    numbers = record { ascending = tt; below = tt };
    low = omega arith;
    high = omega arith;
    new = ((refl, refl, omega arith), tt);
    differ = (refl, tt);
    stamps = tt;
  };
  list_passes = refl;
  join_passes = refl;
  join_leaves = refl;
  conflicts = refl;
  nothing_changed = refl;
  last_number = refl;
  no_number = refl;
}
