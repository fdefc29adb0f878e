use Rattle.std.proofs.Common.{Some, sym, ap, ◌∙◌}
use Rattle.image.specs.Stores.{tree_of}
use Rattle.image.proofs.Locating.{child_first, child_none}
use Rattle.image.proofs.Image.child_in.Goals as goal

pub returns-in_err-place : goal.returns-in_err-place
returns-in_err-place c =
    c.from_residual.ensures ∙ sym (child_none (tree_of c.args.self.now) c.args.parent c.args.above c.args.kind c.in_err-place.ensures)

pub returns : goal.returns
returns c =
    ap Some c.number_at.ensures
    ∙ sym (child_first (tree_of c.args.self.now) c.args.parent c.args.above c.args.kind c.in_ok-place.place c.in_ok-place.ensures)
