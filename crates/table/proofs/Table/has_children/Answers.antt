use Rattle.std.proofs.Common.{rules}
use Rattle.tree.specs.Questions.{child_of}
use Rattle.rows.proofs.Holding.{some_searched}
use Rattle.table.specs.Tables.{rows_of}
use Rattle.table.proofs.Table.has_children.Goals as goal

pub returns : goal.returns
returns c =
    let some = some_searched (child_of c.args.number) (rows_of c.args.self.now) c.first.result (search rules) in
    search rules
