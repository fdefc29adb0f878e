-- The law of trees with ways to the root of any length. Assumes nothing.
use Rattle.std.proofs.Common.{ℕ, ◌≤◌, length, Decides}
use Rattle.tree.specs.Law.{Lawful}
use Rattle.tree.specs.Questions.{climbs}
use Rattle.tree.specs.Theorems.{Above, Exactly, LawfulByAnyWay}
use Rattle.tree.specs.Trees.{Tree}
use Rattle.tree.proofs.Climbing.{climbs_short}

pub climbs_any : (t : Tree) → length t.objects ≤ t.capacity → (x p : ℕ) → Decides (climbs t.capacity x p t.objects) (Above x p t.objects)
climbs_any t room x p = (λ h. (t.capacity, h), λ w. climbs_short x w.0 p t.objects t.capacity room w.1)

pub lawful_any : (t : Tree) → Exactly (Lawful t) (LawfulByAnyWay t)
lawful_any t = (there, back)
  where
    there : Lawful t → LawfulByAnyWay t
    there w = record {
      next_low = w.next_low;
      next_high = w.next_high;
      ascending = w.ascending;
      each = λ x o e. let v = w.each x o e in record { number = v.number; name = v.name; stamp = v.stamp; short = v.short; home = v.home; rooted = (climbs_any t w.room 1 o.parent).0 v.rooted };
      names = w.names;
      room = w.room;
    }

    back : LawfulByAnyWay t → Lawful t
    back w = record {
      next_low = w.next_low;
      next_high = w.next_high;
      ascending = w.ascending;
      each = λ x o e. let v = w.each x o e in record { number = v.number; name = v.name; stamp = v.stamp; short = v.short; home = v.home; rooted = (climbs_any t w.room 1 o.parent).1 v.rooted };
      names = w.names;
      room = w.room;
    }
