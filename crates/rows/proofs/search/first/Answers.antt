use Rattle.std.proofs.Common.{None, sym, ap, ◌∙◌, below_more, arith}
use Rattle.std.proofs.lemmas.List.{get_or_default}
use Rattle.rows.specs.Rows.{on}
use Rattle.rows.proofs.Searching.{found_by, nowhere_by}
use Rattle.rows.proofs.search.first.Goals as goal
use Rattle.rows.proofs.search.first.Goals.{in-Some+else-test, in_default}

pub loop-index-init : goal.loop-index-init
loop-index-init g c = λ k h. absurd (omega arith)

pub returns-then-test : goal.returns-then-test
returns-then-test g c =
    let row = get_or_default c.args.rows.now c.loop-index.index None c.index-rows-index.result c.loop-index-test.true ∙ sym c.index-rows-index.is ∙ c.in-Some.is in
    found_by _ c.args.rows.now _ c.loop-index-test.true row (sym c.if-test.ensures) c.loop-index.invariant

pub loop-index-preserved : goal.loop-index-preserved
loop-index-preserved g c =
    let q = g.T.Test.passes c.args.test.now in
    let read = ap (on q) (get_or_default c.args.rows.now c.loop-index.index None c.index-rows-index.result c.loop-index-test.true ∙ sym c.index-rows-index.is) in
    below_more _ _ c.loop-index.invariant
    (read ∙ elim c.match-row.branch [
      | in-Some+else-test w ↦ ap (on q) w.in-Some.is ∙ sym w.test.ensures ∙ w.if-test.false
      | in_default w ↦ ap (on q) w.in_default.is
    ])

pub returns : goal.returns
returns g c = nowhere_by _ c.args.rows.now (λ k h. c.loop-index.invariant k (omega arith))
