use Rattle.std.proofs.Common.{◌≡◌, length, Some, Option, sym, refl, ap, ◌∙◌, arith}
use Rattle.tree.specs.Questions.{contents, held}
use Rattle.tree.specs.Trees.{Object}
use Rattle.vocab.specs.Names.{same_name, valid_name}
use Rattle.law.proofs.a_number_given_again_overwrites.Goals as goal

other_contents : (s p : Option Object) → (held s ≡ held p → ⊥) → (o : Object) → s ≡ Some o → (q : Object) × (p ≡ Some q) × (q.body ≡ o.body) → ⊥
other_contents s p ne o e h = ne (ap held e ∙ sym (same h.0 o h.2) ∙ sym (ap held h.1))
  where
    same : (q o : Object) → q.body ≡ o.body → contents q ≡ contents o
    same q o k = rw k

pub returns : goal.returns
unfolding same_name valid_name
returns c = record {
  starts = record {
    numbers = record { ascending = tt; below = tt };
    low = omega arith;
    high = omega arith;
    new = ((refl, refl, omega arith), ((refl, refl, omega arith), tt));
    differ = (refl, (refl, tt));
    stamps = tt;
  };
  is_away = (_, _, record { there = refl; out = refl });
  join_passes = refl;
  file_touched = refl;
  file_there = refl;
  file_seen = refl;
  unseen = other_contents _ _ (λ e. omega (arith, ap length e));
  overwritten = refl;
  other_number = refl;
}
