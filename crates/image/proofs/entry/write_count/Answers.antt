use Rattle.std.proofs.Common.{◌-◌, length, ap, ◌∙◌, arith}
use Rattle.format.specs.Fields.{le16, written}
use Rattle.image.proofs.entry.write_count.Goals as goal

pub write-requires : goal.write-requires
write-requires c = omega (arith, ap length c.to_le_bytes.ensures)

pub returns : goal.returns
unfolding le16
returns c = c.write.ensures ∙ ap (written c.args.bytes.now (c.args.start - 2)) c.to_le_bytes.ensures
