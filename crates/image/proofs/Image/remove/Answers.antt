use Rattle.std.proofs.Common.{◌≡◌, ℕ, length, ap, arith}
use Rattle.format.proofs.Changing.{lowered}
use Rattle.image.specs.Stores.{rest_of, spare_of, tree_of}
use Rattle.image.proofs.Rewriting.{closable, gone}
use Rattle.image.proofs.Standing.{count_low, directory_less, file_less, place_held, start_low}
use Rattle.image.proofs.Storing.{Settled}
use Rattle.image.proofs.Image.remove.Goals as goal
use Rattle.image.proofs.Image.remove.Goals.{After-write_count}

pub close_gap-requires : goal.close_gap-requires
close_gap-requires c =
    closable c.args.self.now c.args.place c.requires.within c.offset_of-at.result c.end-end.result c.size_of.result c.offset_of-at.ensures c.end-end.ensures c.size_of.ensures
    c.as_mut_slice-bytes.result.now c.as_mut_slice-bytes.ensures.value

pub write_count-requires : goal.write_count-requires
write_count-requires c =
    let s = c.args.self.now in
    let p = c.args.place in
    let low = start_low s p.kind in
    let long = place_held s p.kind p.index c.requires.within in
    (omega (arith, low, c.start_of-start.ensures), omega (arith, low, long, c.start_of-start.ensures, ap length c.as_mut_slice-bytes.ensures.value), omega (arith, count_low s p.kind))

done : (c : After-write_count) (d f : ℕ) → let s = c.args.self.now in
    (d, f) ≡ lowered c.args.place.kind s.directories s.files → Settled s c.write_count.new.bytes d f (rest_of s c.args.place)
done c d f counts =
    gone c.args.self.now c.args.place c.requires.within c.write_count.new.bytes (omega (arith, c.as_mut_slice-bytes.ensures.len)) c.offset_of-at.result c.offset_of-at.ensures c.requires.lawful
    c.size_of.result c.start_of-start.result c.end-end.result c.count_of-count.result c.size_of.ensures c.start_of-start.ensures c.end-end.ensures c.count_of-count.ensures
    c.as_mut_slice-bytes.result.now c.close_gap.new.bytes c.as_mut_slice-bytes.ensures.value c.close_gap.ensures c.write_count.ensures d f counts

pub invariant_of-self : goal.invariant_of-self
invariant_of-self c =
    let e = (goal.at.invariant_of-self c).After-write_count in
    let d = done e _ _ (directory_less e.args.self.now e.args.place.kind e.count_of-count.result e.count_of-count.ensures c.in-Directory.is) in
    record { lawful = d.lawful; held = d.held }

pub invariant_of-self-in-File : goal.invariant_of-self-in-File
invariant_of-self-in-File c =
    let e = (goal.at.invariant_of-self-in-File c).After-write_count in
    let d = done e _ _ (file_less e.args.self.now e.args.place.kind e.count_of-count.result e.count_of-count.ensures c.in-File.is) in
    record { lawful = d.lawful; held = d.held }

pub returns-in-Directory : goal.returns-in-Directory
unfolding tree_of spare_of
returns-in-Directory c =
    let e = (goal.at.returns-in-Directory c).After-write_count in
    let d = done e _ _ (directory_less e.args.self.now e.args.place.kind e.count_of-count.result e.count_of-count.ensures c.in-Directory.is) in
    record { tree = d.tree; spare = d.spare }

pub returns-in-File : goal.returns-in-File
unfolding tree_of spare_of
returns-in-File c =
    let e = (goal.at.returns-in-File c).After-write_count in
    let d = done e _ _ (file_less e.args.self.now e.args.place.kind e.count_of-count.result e.count_of-count.ensures c.in-File.is) in
    record { tree = d.tree; spare = d.spare }
