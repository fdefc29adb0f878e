use Rattle.std.proofs.Common.{rules}
use Rattle.rows.proofs.Holding.{at_searched}
use Rattle.table.specs.Tables.{rows_of}
use Rattle.table.proofs.Table.find.Goals as goal

pub returns-clause-object : goal.returns-clause-object
returns-clause-object c = at_searched c.args.number (rows_of c.args.self.now) c.first.result (search rules)
