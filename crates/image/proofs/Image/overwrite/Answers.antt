use Rattle.std.proofs.Common.{◌+◌, ◌≤◌, length, ap, arith}
use Rattle.tree.specs.Changes.{with_contents}
use Rattle.format.specs.Layout.{entry_size}
use Rattle.image.specs.Stores.{changed_at, spare_of, tree_of}
use Rattle.image.proofs.Rewriting.{inside, overwritten}
use Rattle.image.proofs.Storing.{Settled}
use Rattle.image.proofs.Image.overwrite.Goals as goal
use Rattle.image.proofs.Image.overwrite.Goals.{After-as_mut_slice-bytes, After-write_contents}

fits : (c : After-as_mut_slice-bytes) → (c.offset_of-at.result + entry_size c.args.place.kind ≤ length c.as_mut_slice-bytes.result.now) × (c.offset_of-at.result + entry_size c.args.place.kind ≤ 1300000)
fits c = inside c.args.self.now c.args.place c.requires.within c.offset_of-at.result c.offset_of-at.ensures c.as_mut_slice-bytes.result.now c.as_mut_slice-bytes.ensures.value

pub overflow_add-at : goal.overflow_add-at
overflow_add-at c = omega (arith, fits (goal.at.overflow_add-at c).After-as_mut_slice-bytes, ap entry_size c.requires.kind)

pub write_stamp-requires : goal.write_stamp-requires
write_stamp-requires c = omega (arith, fits (goal.at.write_stamp-requires c).After-as_mut_slice-bytes, ap entry_size c.requires.kind)

pub overflow_add-at-2 : goal.overflow_add-at-2
overflow_add-at-2 c = omega (arith, fits (goal.at.overflow_add-at-2 c).After-as_mut_slice-bytes, ap entry_size c.requires.kind)

pub write_contents-requires : goal.write_contents-requires
write_contents-requires c = omega (arith, fits (goal.at.write_contents-requires c).After-as_mut_slice-bytes, ap entry_size c.requires.kind)

done : (c : After-write_contents) → let s = c.args.self.now in
    Settled s c.write_contents.new.bytes s.directories s.files (changed_at s c.args.place (with_contents c.args.contents.now c.args.stamp))
done c =
    overwritten c.args.self.now c.args.place c.requires.within c.write_contents.new.bytes (omega (arith, c.as_mut_slice-bytes.ensures.len)) c.offset_of-at.result c.offset_of-at.ensures
    c.requires.kind c.args.contents.now c.args.stamp c.requires.lawful
    c.as_mut_slice-bytes.result.now c.write_stamp.new.bytes c.as_mut_slice-bytes.ensures.value c.write_stamp.ensures c.write_contents.ensures

pub invariant_of-self : goal.invariant_of-self
invariant_of-self c = let d = done (goal.at.invariant_of-self c).After-write_contents in record { lawful = d.lawful; held = d.held }

pub returns : goal.returns
unfolding tree_of spare_of
returns c = let d = done (goal.at.returns c).After-write_contents in record { tree = d.tree; spare = d.spare }
