use Rattle.std.proofs.Common.{Some, None, sym, subst}
use Rattle.image.specs.Places.{FoundIn}
use Rattle.image.specs.Stores.{tree_of}
use Rattle.image.proofs.Locating.{found_in}
use Rattle.image.proofs.Standing.{law}
use Rattle.image.proofs.Image.find_in.Goals as goal

pub returns-in_err-index : goal.returns-in_err-index
returns-in_err-index c =
    let s = c.args.self.now in
    subst (FoundIn c.args.kind c.args.number (tree_of s)) (sym c.from_residual.ensures)
    (found_in (tree_of s) (law s) c.args.number c.args.kind c.search.result None c.in_err-index.ensures.value c.search.ensures)

pub returns : goal.returns
returns c =
    let s = c.args.self.now in
    found_in (tree_of s) (law s) c.args.number c.args.kind c.search.result (Some c.in_ok-index.index) c.in_ok-index.ensures.value c.search.ensures
