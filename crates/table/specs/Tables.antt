-- What a table stands for. Assumes nothing.
--     rows_of t     the rows that it owns
--     tree_of t     the tree that they stand for
use Rattle.std.specs.Prelude.{List, Option, vec_items}
use Rattle.tree.specs.Trees.{Tree}
use Rattle.rows.specs.declared.row.Entry.{Entry}
use Rattle.rows.specs.Rows.{tree_in}
use Rattle.table.specs.declared.Table.{Table}

abbrev pub rows_of : Table → List (Option Entry)
rows_of t = vec_items t.rows

abbrev pub tree_of : Table → Tree
tree_of t = tree_in (rows_of t) t.next
