-- Laws of `judge`. Assumes nothing.
use Rattle.std.proofs.Common.{◌≡◌, ℕ, Bool, true, false, cond, List, [], ◌∷◌, Ok, Err, Result, refl, ◌∙◌, arith}
use Rattle.std.proofs.lemmas.Bool.{cond-true}
use Rattle.vocab.specs.declared.refusal.Refusal.{Refusal}
use Rattle.vocab.specs.Checks.{Check, Holds, judge}

module _ {S A : Type 0} where
  pub judge_passes : (cs : List Check) (s : S) (e : S × A) → Holds cs → judge cs s e ≡ (e.0, Ok e.1)
  judge_passes [] s e h = refl
  judge_passes (c ∷ cs) s e h = cond-true c.holds _ _ h.0 ∙ judge_passes cs s e h.1

  -- what holds before, and after where the checks hold, holds of what a call leaves
  pub judge_keeps : (P : S → Type 0) (cs : List Check) (s : S) (e : S × A) → P s → (Holds cs → P e.0) → P (judge cs s e).0
  judge_keeps P [] s e p q = q tt
  judge_keeps P (c ∷ cs) s e p q = go (judge_keeps P cs s e p) c.holds refl
    where
      go : ((Holds cs → P e.0) → P (judge cs s e).0) → (b : Bool) → c.holds ≡ b → P (cond c.holds (judge cs s e) (s, Err c.else)).0
      go ih true f = rw f (ih (λ h. q (f, h)))
      go ih false f = rw f p

  -- a refusal changes nothing
  pub judge_refuses : (cs : List Check) (s : S) (e : S × A) (r : Refusal) → (judge cs s e).1 ≡ Err r → (judge cs s e).0 ≡ s
  judge_refuses [] s e r h = let z : ◌≡◌ {A = ℕ} 0 1 = cc in absurd (omega arith)
  judge_refuses (c ∷ cs) s e r h = go (judge_refuses cs s e r) c.holds refl
    where
      go : ((judge cs s e).1 ≡ Err r → (judge cs s e).0 ≡ s) → (b : Bool) → c.holds ≡ b → (cond c.holds (judge cs s e) (s, Err c.else)).0 ≡ s
      go ih true f = rw f (ih (rw f at h))
      go ih false f = rw f refl

  -- an accepted call passed all its checks
  pub judge_accepts : (cs : List Check) (s : S) (e : S × A) (a : A) → (judge cs s e).1 ≡ Ok a → Holds cs
  judge_accepts [] s e a h = tt
  judge_accepts (c ∷ cs) s e a h = go (judge_accepts cs s e a) c.holds refl
    where
      go : ((judge cs s e).1 ≡ Ok a → Holds cs) → (b : Bool) → c.holds ≡ b → (c.holds ≡ true) × Holds cs
      go ih true f = (f, ih (rw f at h))
      go ih false f = let z : ◌≡◌ {A = Result A Refusal} (Err c.else) (Ok a) = rw f at h in let y : ◌≡◌ {A = ℕ} 0 1 = cc in absurd (omega arith)
