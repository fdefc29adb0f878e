use Rattle.std.proofs.Common.{arith, rules}
use Rattle.std.proofs.lemmas.Bool.Decides.{nat_tests}
use Rattle.tree.proofs.Ascending.{at_low}
use Rattle.asking.proofs.questions.holds.Goals as goal

pub returns-else-ne : goal.returns-else-ne
returns-else-ne g c =
    let view = c.args.view.now in
    let t = g.V.TreeView.tree view in
    let law = g.V.TreeView.lawful view in
    let none = at_low c.args.number 2 t.objects (grind (arith, nat_tests)) law.ascending in
    search rules
