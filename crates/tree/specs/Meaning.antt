-- What the code's types stand for in a tree. Assumes nothing.
--     status_of s    the object that s shows, but for its contents
use Rattle.vocab.specs.declared.status.Status.{Status}
use Rattle.tree.specs.Trees.{Object}
use Rattle.tree.specs.Questions.{new_body}

abbrev pub status_of : Status → Object
status_of s = record { number = s.number; parent = s.parent; name = s.name; stamp = s.stamp; body = new_body s.kind }
