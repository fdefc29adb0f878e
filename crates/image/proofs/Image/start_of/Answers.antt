use Rattle.std.proofs.Common.{◌+◌, ◌*◌, sym, ap, ◌∙◌, arith}
use Rattle.format.specs.Images.{section_at}
use Rattle.image.specs.Stores.{store_sections}
use Rattle.image.proofs.Standing.{at_most, directories_are}
use Rattle.image.proofs.Image.start_of.Goals as goal

pub overflow_mul-result : goal.overflow_mul-result
overflow_mul-result c = omega (arith, at_most c.args.self.now)

pub overflow_add-result : goal.overflow_add-result
overflow_add-result c = omega (arith, at_most c.args.self.now)

pub returns-in-File : goal.returns-in-File
returns-in-File c =
    let s = c.args.self.now in
    ap (λ d. 8 + 39 * d) (sym (directories_are s)) ∙ ap (λ k. section_at k (store_sections s)) (sym c.in-File.is)
