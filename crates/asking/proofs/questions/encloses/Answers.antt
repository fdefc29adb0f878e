use Rattle.std.proofs.Common.{◌≡◌, arith, rules}
use Rattle.std.proofs.lemmas.Bool.Decides.{nat_tests}
use Rattle.tree.specs.Meaning.{status_of}
use Rattle.tree.proofs.Ascending.{at_low}
use Rattle.tree.proofs.Steps.{climb_shown, climb_stop}
use Rattle.asking.proofs.questions.encloses.Goals as goal

pub returns-then-eq-2 : goal.returns-then-eq-2
returns-then-eq-2 g c =
    let view = c.args.view.now in
    let t = g.V.TreeView.tree view in
    let law = g.V.TreeView.lawful view in
    let here = c.loop.here in
    let other : here ≡ c.args.number → ⊥ = λ e. grind (arith, nat_tests) in
    let none = at_low here 2 t.objects (grind (arith, nat_tests)) law.ascending in
    let stop = climb_stop c.capacity-end.result c.loop.counter c.args.number here t.objects c.loop-test.true other none in
    search rules

pub loop-preserved : goal.loop-preserved
loop-preserved g c =
    let objects = (g.V.TreeView.tree c.args.view.now).objects in
    let here = c.loop.here in
    let other : here ≡ c.args.number → ⊥ = λ e. grind (arith, nat_tests) in
    let below : here ≡ 1 → ⊥ = λ e. grind (arith, nat_tests) in
    let up = climb_shown c.capacity-end.result c.loop.counter c.args.number here objects c.loop-test.true other below (status_of c.in-Some.status) c.in-Some.ensures in
    search rules
