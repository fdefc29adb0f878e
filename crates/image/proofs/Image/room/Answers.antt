use Rattle.std.proofs.Common.{◌/◌, min, ap, ◌∙◌}
use Rattle.format.specs.Layout.{capacity_in}
use Rattle.format.specs.declared.layout.TheConstants.{FILE_SIZE}
use Rattle.vocab.specs.declared.limits.TheConstants.{MOST_OBJECTS}
use Rattle.format.proofs.Holding.{capacity_plain}
use Rattle.image.specs.Stores.{tree_of}
use Rattle.image.proofs.Image.room.Goals as goal

pub returns : goal.returns
unfolding tree_of
returns c =
    c.min.ensures
    ∙ ap (λ n. min (n / FILE_SIZE) MOST_OBJECTS) c.saturating_sub.ensures
    ∙ capacity_plain c.len.result
    ∙ ap capacity_in (c.len.ensures ∙ c.args.self.now.bytes.ok.0)
