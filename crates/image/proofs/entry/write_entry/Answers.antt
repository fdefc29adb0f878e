use Rattle.std.proofs.Common.{◌+◌, [], sym, ap, ◌∙◌, arith}
use Rattle.tree.specs.Changes.{fresh}
use Rattle.tree.specs.Meaning.{status_of}
use Rattle.format.specs.Entries.{contents_field, entry_bytes, file_bytes, head_bytes}
use Rattle.format.specs.Fields.{written}
use Rattle.format.specs.Layout.{entry_size}
use Rattle.format.proofs.Lengths.{length_contents, length_head}
use Rattle.format.proofs.Writing.{then}
use Rattle.image.proofs.entry.write_entry.Goals as goal

pub returns-in-File : goal.returns-in-File
unfolding file_bytes head_bytes
returns-in-File c =
    let bs = c.args.bytes.now in
    let at = c.args.at in
    let o = status_of c.args.status.now in
    then bs (head_bytes o) (contents_field []) at (at + 39)
    c.write_head.ensures
    (c.write_contents.ensures ∙ ap (λ m. written c.write_head.new.bytes (at + 39) (contents_field m)) c.empty.ensures)
    (omega (arith, length_head o))
    (omega (arith, length_contents [], ap entry_size c.in-File.is))
    ∙ ap (λ k. written bs at (entry_bytes k (fresh k o.parent o.name o.number o.stamp))) (sym c.in-File.is)
