use Rattle.std.proofs.Common.{arith}
use Rattle.image.proofs.Searching.{cut, held}
use Rattle.image.proofs.Image.entries.Goals as goal

pub slice_bounds-result-end-2 : goal.slice_bounds-result-end-2
slice_bounds-result-end-2 c =
    let within =
    held c.args.self.now c.args.kind c.as_slice.result.now c.as_slice.ensures.value c.count_of-count.result c.start_of.result c.offset_of-end.result
    c.count_of-count.ensures c.if-count-eq0.false c.start_of.ensures c.offset_of-end.ensures in
    omega arith

pub returns : goal.returns
returns c =
    let own =
    cut c.args.self.now c.args.kind c.as_slice.result.now c.as_slice.ensures.value c.count_of-count.result c.start_of.result c.offset_of-end.result
    c.count_of-count.ensures c.if-count-eq0.false c.start_of.ensures c.offset_of-end.ensures in
    record { len = own.0; numbers = own.1 }
