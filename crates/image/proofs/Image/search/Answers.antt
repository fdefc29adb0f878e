use Rattle.std.proofs.Common.{ap, lit≤}
use Rattle.format.specs.Layout.{entry_size}
use Rattle.format.specs.declared.layout.TheConstants.{FILE_SIZE, HEAD_SIZE}
use Rattle.image.proofs.Searching.{located_in}
use Rattle.image.proofs.Image.search.Goals as goal

pub returns-in-Directory : goal.returns-in-Directory
returns-in-Directory c =
    let e = c.entries-entries.ensures in
    let r = c.locate in
    located_in c.args.self.now c.args.kind HEAD_SIZE (ap entry_size c.in-Directory.is) (lit≤ tt) c.entries-entries.result.now e.len e.numbers c.args.number r.result r.ensures.bound r.ensures.position

pub returns-in-File : goal.returns-in-File
returns-in-File c =
    let e = c.entries-entries.ensures in
    let r = c.locate-in-File in
    located_in c.args.self.now c.args.kind FILE_SIZE (ap entry_size c.in-File.is) (lit≤ tt) c.entries-entries.result.now e.len e.numbers c.args.number r.result r.ensures.bound r.ensures.position
