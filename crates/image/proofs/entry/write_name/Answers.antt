use Rattle.std.proofs.Common.{◌+◌, [], ◌∷◌, length, refl, ap, ◌∙◌, arith}
use Rattle.vocab.specs.Buffers.{padded}
use Rattle.vocab.specs.Limits.{longest_name}
use Rattle.format.specs.Entries.{name_field}
use Rattle.format.specs.Fields.{written}
use Rattle.format.proofs.Lengths.{length_padded}
use Rattle.format.proofs.Writing.{then}
use Rattle.image.proofs.entry.write_name.Goals as goal

pub write-requires-2 : goal.write-requires-2
write-requires-2 c = omega (arith, ap length c.filled.ensures.value, length_padded 24 c.args.name.now)

pub returns : goal.returns
unfolding name_field
returns c =
    let bs = c.args.bytes.now in
    let at = c.args.at in
    let n = c.args.name.now in
    then bs (length n ∷ []) (padded longest_name n) at (at + 1)
    (c.write.ensures ∙ ap (λ m. written bs at (length m ∷ [])) c.as_bytes.ensures.value)
    (c.write-2.ensures ∙ ap (written c.write.new.bytes (at + 1)) c.filled.ensures.value)
    refl
    (omega (arith, length_padded 24 n))
