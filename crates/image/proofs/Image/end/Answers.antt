use Rattle.std.proofs.Common.{arith}
use Rattle.image.proofs.Standing.{at_most, directories_are, files_are}
use Rattle.image.proofs.Image.end.Goals as goal

pub overflow_mul-result : goal.overflow_mul-result
overflow_mul-result c = omega (arith, at_most c.args.self.now)

pub overflow_add-result : goal.overflow_add-result
overflow_add-result c = omega (arith, at_most c.args.self.now)

pub overflow_mul-result-2 : goal.overflow_mul-result-2
overflow_mul-result-2 c = omega (arith, at_most c.args.self.now)

pub overflow_add-result-2 : goal.overflow_add-result-2
overflow_add-result-2 c = omega (arith, at_most c.args.self.now)

pub returns : goal.returns
returns c = let s = c.args.self.now in omega (arith, directories_are s, files_are s)
