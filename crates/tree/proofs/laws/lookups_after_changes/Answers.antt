use Rattle.tree.proofs.After.{at_added, at_dropped, at_moved, at_put, look_added, look_dropped, look_moved, look_put}
use Rattle.tree.proofs.laws.lookups_after_changes.Goals as goal

pub returns : goal.returns
returns c = record {
  at_add = at_added;
  at_put = at_put;
  at_drop = at_dropped;
  at_move = at_moved;
  look_add = λ t w k p n x s a. look_added t k p n x s a w;
  look_put = look_put;
  look_drop = λ t w x a. look_dropped t x a w;
  look_move = λ t w x q n a. look_moved t x q n a w;
}
