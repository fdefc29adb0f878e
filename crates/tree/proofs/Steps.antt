-- The climb, one step at a time, as a loop makes it. Assumes nothing.
use Rattle.std.proofs.Common.{◌≡◌, ℕ, suc, ◌+◌, ◌-◌, ◌<◌, ◌≤◌, true, false, ◌==◌, List, Some, None, sym, ap, ◌∙◌, arith}
use Rattle.std.proofs.lemmas.Bool.{ne_eqb}
use Rattle.tree.specs.Questions.{climbs, shown}
use Rattle.tree.specs.Trees.{Object, at}
use Rattle.tree.proofs.Asking.{shown_some}
use Rattle.tree.proofs.Climbing.{climbs_here}

module _ (n i x p : ℕ) (l : List Object) where
  pub climb_here : p ≡ x → climbs (n - i) x p l ≡ true
  climb_here e = climbs_here (n - i) x p l e

  pub climb_last : n ≤ i → climbs (n - i) x p l ≡ (p == x)
  climb_last h = ap (λ k. climbs k x p l) {x = n - i} {y = 0} (omega arith)

  module _ (more : i < n) (ne : p ≡ x → ⊥) where
    next : climbs (n - i) x p l ≡ climbs (suc (n - (i + 1))) x p l
    next = ap (λ k. climbs k x p l) {x = n - i} {y = suc (n - (i + 1))} (omega arith)

    pub climb_stop : at p l ≡ None → climbs (n - i) x p l ≡ false
    climb_stop e = next ∙ rw (ne_eqb p x ne, e)

    pub climb_up : (o : Object) → at p l ≡ Some o → climbs (n - i) x p l ≡ climbs (n - (i + 1)) x o.parent l
    climb_up o e = next ∙ rw (ne_eqb p x ne, e)

    -- what is shown of an object has its parent
    pub climb_shown : (p ≡ 1 → ⊥) → (o : Object) → Some o ≡ shown p l → climbs (n - i) x p l ≡ climbs (n - (i + 1)) x o.parent l
    climb_shown below o e =
        let q = shown_some p l below o e in
        climb_up q.0 q.1 ∙ ap (λ z. climbs (n - (i + 1)) x z.parent l) (sym q.2)
