-- A chain of objects, each in the next, is no longer than the tree has objects. Assumes nothing.
use Rattle.std.proofs.Common.{◌≡◌, ℕ, zero, suc, ◌≤◌, true, List, [], ◌∷◌, length, Some, None, Option, sym, refl, ap, ◌∙◌, ⊎_elim, arith}
use Rattle.std.specs.Option.{option_map}
use Rattle.std.proofs.lemmas.Bool.{eqb-true}
use Rattle.tree.specs.Law.{Lawful}
use Rattle.tree.specs.Questions.{climbs}
use Rattle.tree.specs.Trees.{Ascends, Object, Tree, at}
use Rattle.tree.proofs.Ascending.{ascends_at}
use Rattle.tree.proofs.Climbing.{climbs_cases, climbs_short, climbs_step}
use Rattle.listing.specs.Walks.{Chain, inner}

pub child_at : (d p : ℕ) (l : List Object) → option_map (λ o. o.parent) (at d l) ≡ Some p → (o : Object) × (at d l ≡ Some o) × (o.parent ≡ p)
child_at d p l h = go (at d l) refl h
  where
    go : (r : Option Object) → at d l ≡ r → option_map (λ o. o.parent) r ≡ Some p → (o : Object) × (at d l ≡ Some o) × (o.parent ≡ p)
    go None e f = let z : ◌≡◌ {A = ℕ} 0 1 = cc in absurd (omega arith)
    go (Some o) e f = (o, e, cc)

-- no way up to the root is shorter than the chain
chain_climbs : (k d : ℕ) (up : List ℕ) (l : List Object) → Ascends 2 l → Chain l (d ∷ up) → climbs k 1 d l ≡ true → length (d ∷ up) ≤ k
chain_climbs zero d up l asc ch h =
    let w = child_at d (inner up) l ch.0 in
    absurd (omega (arith, ascends_at d 2 w.0 l asc w.1, eqb-true d 1 h))
chain_climbs (suc k) d up l asc ch h =
    let w = child_at d (inner up) l ch.0 in
    ⊎_elim
    (λ e. absurd (omega (arith, ascends_at d 2 w.0 l asc w.1)))
    (λ v.
    let same : v.0 ≡ w.0 = cc in
    let rise : climbs k 1 (inner up) l ≡ true = ap (λ p. climbs k 1 p l) (sym (ap (λ o. o.parent) same ∙ w.2)) ∙ v.2 in
    go up ch.1 rise (λ e us c r. chain_climbs k e us l asc c r))
    (climbs_cases k 1 d l h)
  where
    go : (up : List ℕ) → Chain l up → climbs k 1 (inner up) l ≡ true → ((e : ℕ) (us : List ℕ) → Chain l (e ∷ us) → climbs k 1 e l ≡ true → length (e ∷ us) ≤ k) → suc (length up) ≤ suc k
    go [] c r ih = omega arith
    go (e ∷ us) c r ih = omega (arith, ih e us c r)

pub chain_short : (t : Tree) → Lawful t → (path : List ℕ) → Chain t.objects path → length path ≤ length t.objects
chain_short t w [] ch = omega arith
chain_short t w (d ∷ up) ch =
    let l = t.objects in
    let v = child_at d (inner up) l ch.0 in
    let leads = climbs_short 1 (suc t.capacity) d l (length l) (omega arith) (climbs_step t.capacity 1 d l v.0 v.1 (w.each d v.0 v.1).rooted) in
    chain_climbs (length l) d up l w.ascending ch leads
