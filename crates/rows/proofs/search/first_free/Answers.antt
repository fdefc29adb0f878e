use Rattle.std.proofs.Common.{rules}
use Rattle.rows.specs.Rows.{free}
use Rattle.rows.proofs.Searching.{place_by}
use Rattle.rows.proofs.search.first_free.Goals as goal

pub returns : goal.returns
returns c = place_by free c.args.rows.now c.position.result (search rules)
