use Rattle.std.proofs.Common.{◌+◌, ◌≤◌, length, arith}
use Rattle.tree.specs.Changes.{with_place}
use Rattle.format.specs.Layout.{entry_size}
use Rattle.image.specs.Stores.{changed_at, spare_of, tree_of}
use Rattle.image.proofs.Rewriting.{inside, replaced}
use Rattle.image.proofs.Standing.{head_low}
use Rattle.image.proofs.Storing.{Settled}
use Rattle.image.proofs.Image.replace.Goals as goal
use Rattle.image.proofs.Image.replace.Goals.{After-as_mut_slice-bytes, After-write_name}

fits : (c : After-as_mut_slice-bytes) → (c.offset_of-at.result + entry_size c.args.place.kind ≤ length c.as_mut_slice-bytes.result.now) × (c.offset_of-at.result + entry_size c.args.place.kind ≤ 1300000)
fits c = inside c.args.self.now c.args.place c.requires.within c.offset_of-at.result c.offset_of-at.ensures c.as_mut_slice-bytes.result.now c.as_mut_slice-bytes.ensures.value

pub overflow_add-at : goal.overflow_add-at
overflow_add-at c = omega (arith, fits (goal.at.overflow_add-at c).After-as_mut_slice-bytes, head_low c.args.place.kind)

pub write_number-requires : goal.write_number-requires
write_number-requires c = omega (arith, fits (goal.at.write_number-requires c).After-as_mut_slice-bytes, head_low c.args.place.kind)

pub overflow_add-at-2 : goal.overflow_add-at-2
overflow_add-at-2 c = omega (arith, fits (goal.at.overflow_add-at-2 c).After-as_mut_slice-bytes, head_low c.args.place.kind)

pub write_name-requires : goal.write_name-requires
write_name-requires c = omega (arith, fits (goal.at.write_name-requires c).After-as_mut_slice-bytes, head_low c.args.place.kind)

done : (c : After-write_name) → let s = c.args.self.now in
    Settled s c.write_name.new.bytes s.directories s.files (changed_at s c.args.place (with_place c.args.parent c.args.name.now))
done c =
    replaced c.args.self.now c.args.place c.requires.within c.write_name.new.bytes (omega (arith, c.as_mut_slice-bytes.ensures.len)) c.offset_of-at.result c.offset_of-at.ensures
    c.args.parent c.args.name.now c.requires.lawful
    c.as_mut_slice-bytes.result.now c.write_number.new.bytes c.as_mut_slice-bytes.ensures.value c.write_number.ensures c.write_name.ensures

pub invariant_of-self : goal.invariant_of-self
invariant_of-self c = let d = done (goal.at.invariant_of-self c).After-write_name in record { lawful = d.lawful; held = d.held }

pub returns : goal.returns
unfolding tree_of spare_of
returns c = let d = done (goal.at.returns c).After-write_name in record { tree = d.tree; spare = d.spare }
