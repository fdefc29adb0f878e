use Rattle.std.proofs.Common.{◌&&◌, leb, [], ◌∷◌}
use Rattle.vocab.specs.Limits.{temporary}
use Rattle.vocab.specs.declared.refusal.Refusal.TheVariants.{NextOutOfRange}
use Rattle.vocab.specs.Checks.{check}
use Rattle.vocab.proofs.Judging.{judge_refuses}
use Rattle.tree.specs.Changes.{add_checks, drop_checks, fresh, move_checks, put_checks, with_contents, with_next, with_place}
use Rattle.tree.specs.Trees.{change, insert, with_objects, without}
use Rattle.tree.proofs.laws.refusals_change_nothing.Goals as goal

pub returns : goal.returns
returns c = record {
  adds = λ t k p n x s. judge_refuses (add_checks t p n x) t (with_objects t (insert (fresh k p n x s) t.objects), tt);
  puts = λ t x b s. judge_refuses (put_checks t x b) t (with_objects t (change x (with_contents b s) t.objects), tt);
  drops = λ t x. judge_refuses (drop_checks t x) t (with_objects t (without x t.objects), tt);
  moves = λ t x q m. judge_refuses (move_checks t x q m) t (with_objects t (change x (with_place q m) t.objects), tt);
  next = λ t n. judge_refuses (check (leb t.next n && leb n temporary) NextOutOfRange ∷ []) t (with_next t n, tt);
}
