use Rattle.std.proofs.Common.{rules}
use Rattle.rows.proofs.Holding.{child_by}
use Rattle.rows.proofs.search.least.Goals as goal

pub returns : goal.returns
returns c = child_by c.args.parent c.args.above c.args.rows.now c.least_that.result (search rules)
