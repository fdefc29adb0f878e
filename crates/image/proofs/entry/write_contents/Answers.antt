use Rattle.std.proofs.Common.{◌+◌, length, refl, ap, ◌∙◌, arith}
use Rattle.vocab.specs.Buffers.{padded}
use Rattle.vocab.specs.Limits.{longest_contents}
use Rattle.format.specs.Entries.{contents_field}
use Rattle.format.specs.Fields.{le16, written}
use Rattle.format.proofs.Lengths.{length_padded}
use Rattle.format.proofs.Writing.{then}
use Rattle.image.proofs.entry.write_contents.Goals as goal

pub write-requires-2 : goal.write-requires-2
write-requires-2 c = omega (arith, ap length c.filled.ensures.value, length_padded 256 c.args.contents.now)

pub returns : goal.returns
unfolding contents_field le16
returns c =
    let bs = c.args.bytes.now in
    let at = c.args.at in
    let cs = c.args.contents.now in
    then bs (le16 (length cs)) (padded longest_contents cs) at (at + 2)
    (c.write.ensures ∙ ap (written bs at) (c.to_le_bytes.ensures ∙ ap (λ m. le16 (length m)) c.as_slice.ensures.value))
    (c.write-2.ensures ∙ ap (written c.write.new.bytes (at + 2)) c.filled.ensures.value)
    refl
    (omega (arith, length_padded 256 cs))
