use Rattle.image.specs.Stores.{tree_of}
use Rattle.image.proofs.Locating.{found_file}
use Rattle.image.proofs.Standing.{law}
use Rattle.image.proofs.Image.find_file.Goals as goal

pub returns : goal.returns
returns c = let s = c.args.self.now in found_file (tree_of s) (law s) c.args.number c.find_in.result c.find_in.ensures
