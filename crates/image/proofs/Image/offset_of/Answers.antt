use Rattle.std.proofs.Common.{◌*◌, ap, arith}
use Rattle.image.proofs.Standing.{place_low, size_low}
use Rattle.image.proofs.Image.offset_of.Goals as goal

pub overflow_mul-result : goal.overflow_mul-result
overflow_mul-result c =
    let s = c.args.self.now in
    omega (arith, ap (λ w. w * c.args.place.index) c.size_of.ensures, place_low s c.args.place.kind c.args.place.index c.requires, size_low s)

pub overflow_add-result : goal.overflow_add-result
overflow_add-result c =
    let s = c.args.self.now in
    omega (arith, ap (λ w. w * c.args.place.index) c.size_of.ensures, place_low s c.args.place.kind c.args.place.index c.requires, size_low s)
