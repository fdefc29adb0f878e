use Rattle.listing.proofs.Counting.{lists_each_once}
use Rattle.listing.proofs.lists_once.Goals as goal

pub returns : goal.returns
returns c = lists_each_once
