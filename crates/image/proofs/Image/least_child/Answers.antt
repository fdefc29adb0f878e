use Rattle.std.proofs.Common.{Some, None, sym, ap, ◌∙◌}
use Rattle.image.specs.Stores.{tree_of}
use Rattle.image.proofs.Locating.{least_of, lesser_none, ord_least}
use Rattle.image.proofs.Standing.{law}
use Rattle.image.proofs.Image.least_child.Goals as goal

pub returns-in-Some-Some : goal.returns-in-Some-Some
returns-in-Some-Some c =
    let s = c.args.self.now in
    let w = c.in-Some-Some in
    ap Some (c.min.ensures ∙ ord_least w.x w.y)
    ∙ least_of (tree_of s) c.args.parent c.args.above (law s) (Some w.x) (Some w.y) (sym w.is-0 ∙ c.child_in-directory.ensures) (sym w.is-1 ∙ c.child_in-file.ensures)

pub returns-in-Some-None : goal.returns-in-Some-None
returns-in-Some-None c =
    let s = c.args.self.now in
    let w = c.in-Some-None in
    least_of (tree_of s) c.args.parent c.args.above (law s) (Some w.x) None (sym w.is-0 ∙ c.child_in-directory.ensures) (sym w.is-1 ∙ c.child_in-file.ensures)

pub returns-in-None-default : goal.returns-in-None-default
returns-in-None-default c =
    let s = c.args.self.now in
    let y = c.child_in-file.result in
    sym (lesser_none y)
    ∙ least_of (tree_of s) c.args.parent c.args.above (law s) None y (sym c.in-None-default.is-0 ∙ c.child_in-directory.ensures) c.child_in-file.ensures
