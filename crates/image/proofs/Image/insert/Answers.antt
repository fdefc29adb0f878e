use Rattle.std.proofs.Common.{◌≡◌, ℕ, ◌+◌, ◌≤◌, length, arith}
use Rattle.tree.specs.Meaning.{status_of}
use Rattle.tree.specs.Trees.{insert}
use Rattle.format.proofs.Changing.{raised}
use Rattle.image.specs.Stores.{spare_of, tree_of}
use Rattle.image.proofs.Inserting.{entered, openable, taken_number}
use Rattle.image.proofs.Standing.{count_low, directory_more, file_more, start_low}
use Rattle.image.proofs.Storing.{Settled}
use Rattle.image.proofs.Image.insert.Goals as goal
use Rattle.image.proofs.Image.insert.Goals.{After-size_of, After-write_count}

pub returns-in_default : goal.returns-in_default
returns-in_default c = absurd (taken_number c.args.self.now c.args.status.now.kind c.args.status.now.number c.in_default.field-0 c.requires.free c.in_default.ensures)

gap : (c : After-size_of) → (c.offset_of-at.result ≤ c.end-end.result) × (c.end-end.result + c.size_of.result ≤ length c.as_mut_slice-bytes.result.now)
gap c =
    openable c.args.self.now c.args.status.now c.requires.room c.in-Err.index c.in-Err.ensures c.offset_of-at.result c.end-end.result c.size_of.result
    c.offset_of-at.ensures c.end-end.ensures c.size_of.ensures c.as_mut_slice-bytes.result.now c.as_mut_slice-bytes.ensures.value

pub open_gap-requires : goal.open_gap-requires
open_gap-requires c = gap (goal.at.open_gap-requires c).After-size_of

pub write_entry-requires : goal.write_entry-requires
write_entry-requires c = omega (arith, gap (goal.at.write_entry-requires c).After-size_of, c.size_of.ensures)

pub write_count-requires : goal.write_count-requires
write_count-requires c =
    let s = c.args.self.now in
    let k = c.args.status.now.kind in
    let low = start_low s k in
    (omega (arith, low, c.start_of-start.ensures), omega (arith, low, gap (goal.at.write_count-requires c).After-size_of, c.start_of-start.ensures, c.end-end.ensures), omega (arith, count_low s k))

done : (c : After-write_count) (d f : ℕ) → let s = c.args.self.now in
    (d, f) ≡ raised c.args.status.now.kind s.directories s.files → Settled s c.write_count.new.bytes d f (insert (status_of c.args.status.now) (tree_of s).objects)
done c d f counts =
    entered c.args.self.now c.args.status.now c.requires.room c.in-Err.index c.in-Err.ensures c.offset_of-at.result c.end-end.result c.size_of.result
    c.offset_of-at.ensures c.end-end.ensures c.size_of.ensures c.requires.lawful
    c.start_of-start.result c.count_of-count.result c.start_of-start.ensures c.count_of-count.ensures
    c.as_mut_slice-bytes.result.now c.open_gap.new.bytes c.write_entry.new.bytes c.write_count.new.bytes
    c.as_mut_slice-bytes.ensures.value c.open_gap.ensures c.write_entry.ensures c.write_count.ensures (omega (arith, c.as_mut_slice-bytes.ensures.len)) d f counts

pub invariant_of-self : goal.invariant_of-self
invariant_of-self c =
    let e = (goal.at.invariant_of-self c).After-write_count in
    let d = done e _ _ (directory_more e.args.self.now e.args.status.now.kind e.count_of-count.result e.count_of-count.ensures c.in-Directory.is) in
    record { lawful = d.lawful; held = d.held }

pub invariant_of-self-in-File : goal.invariant_of-self-in-File
invariant_of-self-in-File c =
    let e = (goal.at.invariant_of-self-in-File c).After-write_count in
    let d = done e _ _ (file_more e.args.self.now e.args.status.now.kind e.count_of-count.result e.count_of-count.ensures c.in-File.is) in
    record { lawful = d.lawful; held = d.held }

pub returns-in-Directory : goal.returns-in-Directory
unfolding tree_of spare_of
returns-in-Directory c =
    let e = (goal.at.returns-in-Directory c).After-write_count in
    let d = done e _ _ (directory_more e.args.self.now e.args.status.now.kind e.count_of-count.result e.count_of-count.ensures c.in-Directory.is) in
    record { tree = d.tree; spare = d.spare }

pub returns-in-File : goal.returns-in-File
unfolding tree_of spare_of
returns-in-File c =
    let e = (goal.at.returns-in-File c).After-write_count in
    let d = done e _ _ (file_more e.args.self.now e.args.status.now.kind e.count_of-count.result e.count_of-count.ensures c.in-File.is) in
    record { tree = d.tree; spare = d.spare }
