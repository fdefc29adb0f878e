use Rattle.std.proofs.Common.{refl}
use Rattle.vocab.specs.Names.{same_name, valid_name}
use Rattle.model.proofs.laws.cases_compute.Goals as goal

pub returns : goal.returns
unfolding same_name valid_name
returns c = record {
  two_stores = refl;
  store_and_remove = refl;
  named_directory = refl;
  emptied_directory = refl;
  trial_cancels = refl;
  trial_passes = refl;
  trial_clashes = refl;
  weighted_high = refl;
  weighted_low = refl;
  stale_store = refl;
}
