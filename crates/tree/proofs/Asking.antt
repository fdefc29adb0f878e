-- Questions of a tree, over its sections and by what stands at a number. Assumes nothing.
use Rattle.std.proofs.Common.{◌≡◌, ℕ, suc, ◌<◌, ◌≤◌, Bool, true, false, ◌&&◌, eqb, ltb, List, [], ◌∷◌, Some, None, Option, is_some, sym, refl, ap, ◌∙◌, ⊎_elim, arith}
use Rattle.std.specs.Option.{option_map}
use Rattle.std.proofs.lemmas.Bool.{both_ways, or_parts, and_parts, and_from, eqb-true, eq-eqb, ne_eqb, ltb-true, lt-ltb, cases_Bool, cond-true, cond-false}
use Rattle.vocab.specs.Names.{same_name}
use Rattle.vocab.proofs.Naming.{same_over}
use Rattle.tree.specs.Law.{Lawful}
use Rattle.tree.specs.Questions.{bare, child, child_of, has_child, look, placed, shown, taken}
use Rattle.tree.specs.Trees.{Ascends, Object, Tree, at, is}
use Rattle.tree.proofs.Ascending.{ascends_at, at_low, at_tail}
use Rattle.tree.proofs.Changed.{some_at}

-- ---- object
pub shown_some : (x : ℕ) (l : List Object) → (x ≡ 1 → ⊥) → (o : Object) → Some o ≡ shown x l → (q : Object) × (at x l ≡ Some q) × (o ≡ bare q)
shown_some x l other o e = go (at x l) (e ∙ cond-false (eqb x 1) _ _ (ne_eqb x 1 other))
  where
    go : (r : Option Object) → Some o ≡ option_map bare r → (q : Object) × (r ≡ Some q) × (o ≡ bare q)
    go None e = absurd cc
    go (Some q) e = (q, refl, cc)

-- ---- look
pub look_taken : (p : ℕ) (s : List ℕ) (l : List Object) → is_some (look p s l) ≡ taken p s l
look_taken p s [] = refl
look_taken p s (o ∷ l) = let ih = look_taken p s l in grind (arith, cases_Bool (placed p s o))

pub look_none : (p : ℕ) (s : List ℕ) (l : List Object) → taken p s l ≡ false → look p s l ≡ None
look_none p s [] h = refl
look_none p s (o ∷ l) h = let w = or_parts (placed p s o) (taken p s l) h in rw w.0 (look_none p s l w.1)

-- what look gives is there
pub look_some : (p n : ℕ) (s : List ℕ) (l : List Object) → Ascends n l → taken p s l ≡ true → (x : ℕ) × (o : Object) × (look p s l ≡ Some x) × (at x l ≡ Some o) × (placed p s o ≡ true)
look_some p n s [] r h = absurd (both_ways false refl h)
look_some p n s (o ∷ l) r h = go (look_some p (suc o.number) s l r.1) (placed p s o) refl
  where
    go : (taken p s l ≡ true → (x : ℕ) × (q : Object) × (look p s l ≡ Some x) × (at x l ≡ Some q) × (placed p s q ≡ true)) → (b : Bool) → placed p s o ≡ b → (x : ℕ) × (q : Object) × (look p s (o ∷ l) ≡ Some x) × (at x (o ∷ l) ≡ Some q) × (placed p s q ≡ true)
    go ih true e = (o.number, o, cond-true (placed p s o) _ _ e, cond-true (is o.number o) _ _ (eq-eqb o.number o.number refl), e)
    go ih false e =
        let w = ih (rw e at h) in
        let ne : eqb o.number w.0 ≡ false = ne_eqb o.number w.0 (λ z. let q : None ≡ Some w.1 = sym (at_low w.0 (suc o.number) l (omega arith) r.1) ∙ w.3 in let k : ◌≡◌ {A = ℕ} 0 1 = cc in omega arith) in
        (w.0, w.1, cond-false (placed p s o) _ _ e ∙ w.2, cond-false (is w.0 o) _ _ ne ∙ w.3, w.4)

-- of two objects in one place, each is in the other's
pub placed_alike : (p : ℕ) (s : List ℕ) (o q : Object) → placed p s o ≡ true → placed p s q ≡ true → placed o.parent o.name q ≡ true
placed_alike p s o q h k =
    let a = and_parts (eqb o.parent p) (same_name o.name s) h in
    let b = and_parts (eqb q.parent p) (same_name q.name s) k in
    and_from (eqb q.parent o.parent) _ (eq-eqb q.parent o.parent (eqb-true _ p b.0 ∙ sym (eqb-true _ p a.0))) (same_over o.name s q.name a.1 b.1)

pub look_found : (t : Tree) → Lawful t → (p : ℕ) (s : List ℕ) (x : ℕ) (o : Object) → at x t.objects ≡ Some o → placed p s o ≡ true → look p s t.objects ≡ Some x
look_found t w p s x o e h =
    let l = t.objects in
    let there : taken p s l ≡ true = ⊎_elim (λ b. b) (λ b. absurd (both_ways (placed p s o) (some_at (placed p s) x o l b e) h)) (cases_Bool (taken p s l)) in
    let v = look_some p 2 s l w.ascending there in
    v.2 ∙ ap Some (sym (w.names x v.0 o v.1 e v.3 (placed_alike p s o v.1 h v.4)))

-- ---- child
-- 0 is below every number
pub child_has : (p n : ℕ) (l : List Object) → 0 < n → Ascends n l → is_some (child p 0 l) ≡ has_child p l
child_has p n [] low r = refl
child_has p n (o ∷ l) low r =
    let ih = child_has p (suc o.number) l (omega arith) r.1 in
    let above = lt-ltb 0 o.number (omega (arith, r.0)) in
    grind (arith, cases_Bool (child_of p o))

module _ (p a : ℕ) where
  pub child_none : (n : ℕ) (l : List Object) → Ascends n l → ((y : ℕ) (q : Object) → at y l ≡ Some q → q.parent ≡ p → a < y → ⊥) → child p a l ≡ None
  child_none n [] r h = refl
  child_none n (o ∷ l) r h =
      let rest = child_none (suc o.number) l r.1 (λ y q e. h y q (at_tail y n q o l r e)) in
      ⊎_elim
      (λ t. let w = and_parts (child_of p o) (ltb a o.number) t in absurd (h o.number o (cond-true (is o.number o) _ _ (eq-eqb o.number o.number refl)) (eqb-true o.parent p w.0) (ltb-true a o.number w.1)))
      (λ f. cond-false (child_of p o && ltb a o.number) _ _ f ∙ rest)
      (cases_Bool (child_of p o && ltb a o.number))

  pub child_found : (n : ℕ) (l : List Object) → Ascends n l → (x : ℕ) (o : Object) → at x l ≡ Some o → o.parent ≡ p → a < x → ((y : ℕ) (q : Object) → at y l ≡ Some q → q.parent ≡ p → a < y → x ≤ y) → child p a l ≡ Some x
  child_found n [] r x o e h k least = let z : ◌≡◌ {A = ℕ} 0 1 = cc in absurd (omega arith)
  child_found n (q ∷ l) r x o e h k least = go (λ f. child_found (suc q.number) l r.1 x o f h k (λ y u g. least y u (at_tail y n u q l r g))) (is x q) refl
    where
      go : (at x l ≡ Some o → child p a l ≡ Some x) → (b : Bool) → is x q ≡ b → child p a (q ∷ l) ≡ Some x
      go ih true f =
          let same : q ≡ o = cc in
          let num = eqb-true q.number x f in
          cond-true (child_of p q && ltb a q.number) (Some q.number) (child p a l) (and_from _ _ (eq-eqb q.parent p (ap (λ z. z.parent) same ∙ h)) (lt-ltb a q.number (omega arith))) ∙ ap Some num
      go ih false f =
          let f' : at x l ≡ Some o = rw f at e in
          let high = ascends_at x (suc q.number) o l r.1 f' in
          ⊎_elim
          (λ t. let w = and_parts (child_of p q) (ltb a q.number) t in absurd (omega (arith, least q.number q (cond-true (is q.number q) _ _ (eq-eqb q.number q.number refl)) (eqb-true q.parent p w.0) (ltb-true a q.number w.1))))
          (λ g. cond-false (child_of p q && ltb a q.number) _ _ g ∙ ih f')
          (cases_Bool (child_of p q && ltb a q.number))
