use Rattle.std.proofs.Common.{length, rules}
use Rattle.listing.proofs.Walking.{begins}
use Rattle.listing.proofs.Listing.new.Goals as goal

pub returns-clause-begins : goal.returns-clause-begins
returns-clause-begins g c = search (rules, begins _ (g.V.TreeView.lawful c.args.view.now) (length c.args.list.now))
