-- What a search sees of an entry. Assumes nothing.
--     Heads o h      h has the number, the parent and the name of the object o
use Rattle.std.specs.Prelude.{◌≡◌}
use Rattle.tree.specs.Trees.{Object}
use Rattle.image.specs.declared.head.EntryHead.{EntryHead}

pub record Heads (o : Object) (h : EntryHead) : Type 0 where
  pub number : h.number ≡ o.number
  pub parent : h.parent ≡ o.parent
  pub name : h.name.now ≡ o.name
