use Rattle.std.proofs.Common.{◌+◌, refl, ap, ◌∙◌, arith}
use Rattle.format.specs.Entries.{stamp_field}
use Rattle.format.specs.Fields.{le16, le32, written}
use Rattle.format.proofs.Writing.{then}
use Rattle.image.proofs.entry.write_stamp.Goals as goal

pub returns : goal.returns
unfolding stamp_field le16 le32
returns c =
    let bs = c.args.bytes.now in
    let at = c.args.at in
    let s = c.args.stamp in
    then bs (le16 s.author) (le32 s.serial) at (at + 2)
    (c.write.ensures ∙ ap (written bs at) c.to_le_bytes.ensures)
    (c.write-2.ensures ∙ ap (written c.write.new.bytes (at + 2)) c.to_le_bytes-2.ensures)
    refl
    (omega arith)
