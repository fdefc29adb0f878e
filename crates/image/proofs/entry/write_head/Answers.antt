use Rattle.std.proofs.Common.{◌≡◌, ◌+◌, ◌++◌, ap, ◌∙◌, append_assoc, arith, length-append}
use Rattle.format.specs.Entries.{head_bytes, name_field, stamp_field}
use Rattle.format.specs.Fields.{le32, written}
use Rattle.format.proofs.Lengths.{length_le32, length_name, length_stamp}
use Rattle.format.proofs.Writing.{then}
use Rattle.image.proofs.entry.write_head.Goals as goal

pub returns : goal.returns
unfolding head_bytes
returns c =
    let bs = c.args.bytes.now in
    let at = c.args.at in
    let s = c.args.status.now in
    let number = le32 s.number in
    let parent = le32 s.parent in
    let stamp = stamp_field s.stamp in
    let name = name_field s.name in
    let long = length-append (number ++ parent) stamp in
    let two = then bs number parent at (at + 4) c.write_number.ensures c.write_number-2.ensures (omega (arith, length_le32 s.number)) (omega (arith, length_le32 s.parent)) in
    let three = then bs (number ++ parent) stamp at (at + 8) two c.write_stamp.ensures (omega (arith, length-append number parent, length_le32 s.number, length_le32 s.parent)) (omega (arith, length_stamp s.stamp)) in
    let four = then bs ((number ++ parent) ++ stamp) name at (at + 14) three c.write_name.ensures (omega (arith, length-append number parent, length_le32 s.number, length_le32 s.parent, long, length_stamp s.stamp)) (omega (arith, length_name s.name)) in
    let all : ((number ++ parent) ++ stamp) ++ name ≡ number ++ (parent ++ (stamp ++ name)) = simp append_assoc in
    four ∙ ap (written bs at) all
