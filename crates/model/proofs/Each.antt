-- What holds of each of a list. Assumes nothing.
use Rattle.std.proofs.Common.{◌≡◌, ℕ, Bool, true, List, [], ◌∷◌, Some, arith}
use Rattle.std.specs.List.{AllByRecursion}
use Rattle.std.proofs.ByRecursion.{All-weaker}
use Rattle.std.proofs.lemmas.Bool.{cond_both}
use Rattle.std.proofs.lemmas.Bool.Decides.{nat_tests}
use Rattle.tree.specs.Trees.{Object, at, keep}

pub all_at : (P : Object → Type 0) (x : ℕ) (p : Object) (l : List Object) → AllByRecursion P l → at x l ≡ Some p → P p
all_at P x p [] h e = let z : ◌≡◌ {A = ℕ} 0 1 = cc in absurd (omega arith)
all_at P x p (o ∷ l) h e = let ih = all_at P x p l h.1 in grind (arith, nat_tests, h.0)

pub keep_passes : {X : Type 0} (P : X → Type 0) (q : X → Bool) (l : List X) → AllByRecursion P l → AllByRecursion (λ o. P o × (q o ≡ true)) (keep q l)
keep_passes P q [] h = tt
keep_passes P q (o ∷ l) h =
    let ih = keep_passes P q l h.1 in
    cond_both (q o) (o ∷ keep q l) (keep q l) (AllByRecursion (λ o. P o × (q o ≡ true))) (λ e. ((h.0, e), ih)) (λ _. ih)

pub all_keep : {X : Type 0} (P : X → Type 0) (q : X → Bool) (l : List X) → AllByRecursion P l → AllByRecursion P (keep q l)
all_keep P q l h = All-weaker _ _ (λ _ k. k.0) (keep q l) (keep_passes P q l h)
