use Rattle.rows.specs.Rows.{on}
use Rattle.rows.proofs.Searching.{FailsBelow}
use Rattle.rows.proofs.search.first.Given as goal

abbrev pub invariant-loop-index : goal.invariant-loop-index
invariant-loop-index g l = FailsBelow (on (g.T.Test.passes l.test)) l.rows l.index
