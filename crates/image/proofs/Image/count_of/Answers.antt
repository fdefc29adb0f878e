use Rattle.std.proofs.Common.{length, sym, ap, ◌∙◌}
use Rattle.format.specs.Images.{section}
use Rattle.image.specs.Stores.{store_sections}
use Rattle.image.proofs.Standing.{directories_are, files_are}
use Rattle.image.proofs.Image.count_of.Goals as goal

pub returns-in-Directory : goal.returns-in-Directory
returns-in-Directory c =
    let s = c.args.self.now in
    sym (directories_are s) ∙ ap (λ k. length (section k (store_sections s))) (sym c.in-Directory.is)

pub returns-in-File : goal.returns-in-File
returns-in-File c =
    let s = c.args.self.now in
    sym (files_are s) ∙ ap (λ k. length (section k (store_sections s))) (sym c.in-File.is)
