use Rattle.std.proofs.Common.{sym, ◌∙◌, below_more}
use Rattle.image.proofs.Image.first.Goals as goal

pub loop-index-preserved : goal.loop-index-preserved
loop-index-preserved g c =
    let h = c.head.ensures in
    let x = sym h.number in
    let p = sym h.parent in
    let n = sym h.name in
    below_more _ _ c.loop-index.invariant ((λ i. g.T.Test.passes c.args.test.now (x i) (p i) (n i)) ∙ sym c.if-test.ensures)
