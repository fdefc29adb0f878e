-- Climbing to the root. Assumes nothing.
use Rattle.std.proofs.Common.{◌≡◌, ℕ, zero, suc, ◌<◌, ◌≤◌, Bool, true, false, not, eqb, ◌⊎◌, List, [], ◌∷◌, length, Some, None, Option, sym, refl, ap, ◌∙◌, inl, inr, ⊎_elim, arith}
use Rattle.std.proofs.lemmas.Bool.{both_ways, or_parts, or_cases, or_left, or_right, eqb-true, eq-eqb, ne_eqb, cases_eq}
use Rattle.tree.specs.Questions.{climbs}
use Rattle.tree.specs.Trees.{Object, at, is, without}
use Rattle.tree.proofs.Ascending.{at_without_own}
use Rattle.tree.proofs.Lists.{length_keep}
use Rattle.tree.proofs.Objects.{at_without}

abbrev pub Leads : ℕ → List Object → Type 0
Leads p l = (k : ℕ) × (climbs k 1 p l ≡ true)

pub climbs_here : (k x p : ℕ) (l : List Object) → p ≡ x → climbs k x p l ≡ true
climbs_here zero x p l e = eq-eqb p x e
climbs_here (suc k) x p l e = or_left (eqb p x) _ (eq-eqb p x e)

pub climbs_step : (k x p : ℕ) (l : List Object) (o : Object) → at p l ≡ Some o → climbs k x o.parent l ≡ true → climbs (suc k) x p l ≡ true
climbs_step k x p l o e h = or_right (eqb p x) _ (rw e h)

pub climbs_cases : (k x p : ℕ) (l : List Object) → climbs (suc k) x p l ≡ true → (p ≡ x) ⊎ ((o : Object) × (at p l ≡ Some o) × (climbs k x o.parent l ≡ true))
climbs_cases k x p l h = ⊎_elim (λ e. inl (eqb-true p x e)) (λ r. inr (go (at p l) refl r)) (or_cases (eqb p x) _ h)
  where
    go : (r : Option Object) → at p l ≡ r → ◌≡◌ {A = Bool} (elim r [ None ↦ false | Some o ↦ climbs k x o.parent l ]) true → (o : Object) × (at p l ≡ Some o) × (climbs k x o.parent l ≡ true)
    go None e f = absurd (both_ways false refl f)
    go (Some o) e f = (o, e, f)

-- each object of l is in m, with its parent
abbrev pub Follows : List Object → List Object → Type 0
Follows l m = (y : ℕ) (o : Object) → at y l ≡ Some o → (p : Object) × (at y m ≡ Some p) × (p.parent ≡ o.parent)

pub climbs_follows : (k x p : ℕ) (l m : List Object) → Follows l m → climbs k x p l ≡ true → climbs k x p m ≡ true
climbs_follows zero x p l m f h = h
climbs_follows (suc k) x p l m f h = elim (climbs_cases k x p l h) [ inl e ↦ climbs_here (suc k) x p m e | inr w ↦ let v = f p w.0 w.1 in climbs_step k x p m v.0 v.1 (ap (λ y. climbs k x y m) v.2 ∙ climbs_follows k x w.0.parent l m f w.2) ]

climbs_fuel : (k x p : ℕ) (l : List Object) → climbs k x p l ≡ true → climbs (suc k) x p l ≡ true
climbs_fuel zero x p l h = or_left (eqb p x) _ h
climbs_fuel (suc k) x p l h = elim (climbs_cases k x p l h) [ inl e ↦ climbs_here (suc (suc k)) x p l e | inr w ↦ climbs_step (suc k) x p l w.0 w.1 (climbs_fuel k x w.0.parent l w.2) ]

-- a climb that comes by p, or does without it
cut : (x k p q : ℕ) (l : List Object) → climbs k x q l ≡ true → (climbs k x q (without p l) ≡ true) ⊎ (climbs k x p l ≡ true)
cut x zero p q l h = inl h
cut x (suc k) p q l h =
    ⊎_elim
    (λ e. inr (ap (λ y. climbs (suc k) x y l) (sym e) ∙ h))
    (λ ne.
    ⊎_elim
    (λ e. inl (climbs_here (suc k) x q (without p l) e))
    (λ w.
    ⊎_elim
    (λ s. inl (climbs_step k x q (without p l) w.0 (at_without p q l (ne_eqb q p ne) ∙ w.1) s))
    (λ s. inr (climbs_fuel k x p l s))
    (cut x k p w.0.parent l w.2))
    (climbs_cases k x q l h))
    (cases_eq q p)

pub length_without : (x : ℕ) (o : Object) (l : List Object) → at x l ≡ Some o → length (without x l) < length l
length_without x o [] e = let z : ◌≡◌ {A = ℕ} 0 1 = cc in absurd (omega arith)
length_without x o (p ∷ l) e = go (length_without x o l) (is x p) refl
  where
    go : (at x l ≡ Some o → length (without x l) < length l) → (b : Bool) → is x p ≡ b → length (without x (p ∷ l)) < length (p ∷ l)
    go ih true f = rw f (omega (arith, length_keep (λ o. not (is x o)) l))
    go ih false f = let h = ih (rw f at e) in rw f (omega arith)

pub without_follows : (x : ℕ) (l : List Object) → Follows (without x l) l
without_follows x l y o e =
    ⊎_elim
    (λ q. let z : None ≡ Some o = sym (at_without_own x l) ∙ ap (λ y. at y (without x l)) (sym q) ∙ e in let w : ◌≡◌ {A = ℕ} 0 1 = cc in absurd (omega arith))
    (λ ne. (o, sym (at_without x y l (ne_eqb y x ne)) ∙ e, refl))
    (cases_eq y x)

-- no way up needs more steps than there are objects
pub climbs_short : (x k p : ℕ) (l : List Object) (n : ℕ) → length l ≤ n → climbs k x p l ≡ true → climbs n x p l ≡ true
climbs_short x zero p l n h e = climbs_here n x p l (eqb-true p x e)
climbs_short x (suc k) p l n h e =
    ⊎_elim
    (λ z. climbs_here n x p l z)
    (λ w.
    ⊎_elim
    (λ s. go w.0 w.1 n h (λ m q. climbs_short x k w.0.parent (without p l) m q s))
    (λ s. climbs_short x k p l n h s)
    (cut x k p w.0.parent l w.2))
    (climbs_cases k x p l e)
  where
    go : (o : Object) → at p l ≡ Some o → (n : ℕ) → length l ≤ n → ((m : ℕ) → length (without p l) ≤ m → climbs m x o.parent (without p l) ≡ true) → climbs n x p l ≡ true
    go o f zero h ih = absurd (omega (arith, length_without p o l f))
    go o f (suc m) h ih = climbs_step m x p l o f (climbs_follows m x o.parent (without p l) l (without_follows p l) (ih m (omega (arith, length_without p o l f))))

pub leads_step : (p : ℕ) (l : List Object) (o : Object) → at p l ≡ Some o → Leads o.parent l → Leads p l
leads_step p l o e h = (suc h.0, climbs_step h.0 1 p l o e h.1)

-- the object at x gets another parent q, and m is else l
module _ (x q : ℕ) (l m : List Object) (other : (y : ℕ) → eqb y x ≡ false → at y m ≡ at y l) where
  -- a climb that does not meet x
  pub climbs_avoids : (k p : ℕ) → climbs k x p l ≡ false → climbs k 1 p l ≡ true → climbs k 1 p m ≡ true
  climbs_avoids zero p h e = e
  climbs_avoids (suc k) p h e =
      let w = or_parts (eqb p x) _ h in
      elim (climbs_cases k 1 p l e) [ inl z ↦ climbs_here (suc k) 1 p m z | inr v ↦ climbs_step k 1 p m v.0 (other p w.0 ∙ v.1) (climbs_avoids k v.0.parent (rw v.1 at w.1) v.2) ]

  pub climbs_moved : (o : Object) → at x m ≡ Some o → Leads o.parent m → (k p : ℕ) → climbs k 1 p l ≡ true → Leads p m
  climbs_moved o here up zero p e = (zero, e)
  climbs_moved o here up (suc k) p e =
      ⊎_elim
      (λ z. (zero, eq-eqb p 1 z))
      (λ v.
      ⊎_elim
      (λ s. leads_step p m o (ap (λ y. at y m) s ∙ here) up)
      (λ ne. leads_step p m v.0 (other p (ne_eqb p x ne) ∙ v.1) (climbs_moved o here up k v.0.parent v.2))
      (cases_eq p x))
      (climbs_cases k 1 p l e)
