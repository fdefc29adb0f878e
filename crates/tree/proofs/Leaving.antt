-- What a change leaves as it was. Assumes nothing.
use Rattle.std.proofs.Common.{◌≡◌, ℕ, false, ◌&&◌, eqb, leb, List, [], ◌∷◌, sym, refl}
use Rattle.std.proofs.lemmas.Bool.{eqb-false}
use Rattle.vocab.specs.Limits.{temporary}
use Rattle.vocab.specs.declared.kind.Kind.{Kind}
use Rattle.vocab.specs.declared.refusal.Refusal.TheVariants.{NextOutOfRange}
use Rattle.vocab.specs.declared.stamp.Stamp.{Stamp}
use Rattle.vocab.specs.Checks.{Check, check}
use Rattle.vocab.proofs.Judging.{judge_keeps}
use Rattle.tree.specs.Changes.{add_checks, added, change_if, drop_checks, dropped, fresh, move_checks, moved, next_set, put, put_checks, with_contents, with_next, with_place}
use Rattle.tree.specs.Theorems.{ButFor}
use Rattle.tree.specs.Trees.{Object, Tree, at, change, insert, with_objects, without}
use Rattle.tree.proofs.Ascending.{at_insert_other}
use Rattle.tree.proofs.Changed.{at_other}
use Rattle.tree.proofs.Objects.{at_without}

pub but_for_none : (x : ℕ) (t : Tree) → ButFor x t t
but_for_none x t = record { capacity = refl; next = refl; others = λ y h. refl }

-- a change of the objects
module _ (x : ℕ) (t : Tree) (cs : List Check) (l : List Object) where
  pub but_for : ((y : ℕ) → eqb y x ≡ false → at y l ≡ at y t.objects) → ButFor x t (change_if t cs l).0
  but_for h = judge_keeps (ButFor x t) cs t (with_objects t l, tt) (but_for_none x t) (λ _. record { capacity = refl; next = refl; others = h })

pub added_rest : (t : Tree) (k : Kind) (p : ℕ) (n : List ℕ) (x : ℕ) (s : Stamp) → ButFor x t (added t k p n x s).0
added_rest t k p n x s = but_for x t (add_checks t p n x) (insert (fresh k p n x s) t.objects) (λ y h. at_insert_other (fresh k p n x s) t.objects y (λ e. eqb-false y x h (sym e)))

pub put_rest : (t : Tree) (x : ℕ) (c : List ℕ) (s : Stamp) → ButFor x t (put t x c s).0
put_rest t x c s = but_for x t (put_checks t x c) (change x (with_contents c s) t.objects) (at_other x (with_contents c s) (λ o. refl) t.objects)

pub dropped_rest : (t : Tree) (x : ℕ) → ButFor x t (dropped t x).0
dropped_rest t x = but_for x t (drop_checks t x) (without x t.objects) (λ y. at_without x y t.objects)

pub moved_rest : (t : Tree) (x q : ℕ) (m : List ℕ) → ButFor x t (moved t x q m).0
moved_rest t x q m = but_for x t (move_checks t x q m) (change x (with_place q m) t.objects) (at_other x (with_place q m) (λ o. refl) t.objects)

pub next_rest : (t : Tree) (n : ℕ) → ((next_set t n).0.capacity ≡ t.capacity) × ((next_set t n).0.objects ≡ t.objects)
next_rest t n = judge_keeps (λ u. (u.capacity ≡ t.capacity) × (u.objects ≡ t.objects)) (check (leb t.next n && leb n temporary) NextOutOfRange ∷ []) t (with_next t n, tt) (refl, refl) (λ _. (refl, refl))
