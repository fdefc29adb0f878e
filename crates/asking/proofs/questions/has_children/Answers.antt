use Rattle.std.proofs.Common.{arith, rules}
use Rattle.tree.proofs.Asking.{child_has}
use Rattle.asking.proofs.questions.has_children.Goals as goal

pub returns : goal.returns
returns g c =
    let view = c.args.view.now in
    let t = g.V.TreeView.tree view in
    let law = g.V.TreeView.lawful view in
    let has = child_has c.args.number 2 t.objects (omega arith) law.ascending in
    search rules
