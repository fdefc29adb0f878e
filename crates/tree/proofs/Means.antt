-- What an answer to a question of a tree says of its objects. Assumes nothing.
use Rattle.std.proofs.Common.{◌≡◌, ℕ, suc, ◌<◌, ◌≤◌, Bool, true, false, ◌&&◌, eqb, ltb, List, [], ◌∷◌, Some, None, sym, refl, ap, ◌∙◌, ⊎_elim, arith}
use Rattle.std.proofs.lemmas.Bool.{both_ways, and_parts, and_from, eqb-true, eq-eqb, ltb-true, lt-ltb, cases_Bool, cond-true}
use Rattle.vocab.specs.Names.{same_name, valid_name}
use Rattle.vocab.proofs.Naming.{same_valid}
use Rattle.tree.specs.Law.{Lawful}
use Rattle.tree.specs.Questions.{child, child_of, dir_at, look, placed, taken}
use Rattle.tree.specs.Theorems.{Child, Named}
use Rattle.tree.specs.Trees.{Ascends, Object, Tree, at, is}
use Rattle.tree.proofs.Ascending.{ascends_at, at_tail}
use Rattle.tree.proofs.Asking.{look_none, look_some}

-- ---- look
module _ (p : ℕ) (s : List ℕ) (n : ℕ) (l : List Object) (r : Ascends n l) where
  pub look_given : (x : ℕ) → look p s l ≡ Some x → Named p s x l
  look_given x e =
      ⊎_elim
      (λ b. let v = look_some p n s l r b in let q : v.0 ≡ x = some_same (sym v.2 ∙ e) in (v.1, ap (λ y. at y l) (sym q) ∙ v.3, v.4))
      (λ b. let z : None ≡ Some x = sym (look_none p s l b) ∙ e in let k : ◌≡◌ {A = ℕ} 0 1 = cc in absurd (omega arith))
      (cases_Bool (taken p s l))
    where
      some_same : {y z : ℕ} → Some y ≡ Some z → y ≡ z
      some_same e = cc

  pub look_nobody : ((x : ℕ) (o : Object) → at x l ≡ Some o → placed p s o ≡ true → ⊥) → look p s l ≡ None
  look_nobody h =
      ⊎_elim
      (λ b. let v = look_some p n s l r b in absurd (h v.0 v.1 v.3 v.4))
      (λ b. look_none p s l b)
      (cases_Bool (taken p s l))

module _ (t : Tree) (w : Lawful t) (p : ℕ) (s : List ℕ) where
  pub look_no_directory : dir_at p t.objects ≡ false → look p s t.objects ≡ None
  look_no_directory h =
      look_nobody p s 2 t.objects w.ascending
      (λ x o e k.
      let a = and_parts (eqb o.parent p) (same_name o.name s) k in
      both_ways (dir_at p t.objects) h (ap (λ y. dir_at y t.objects) (sym (eqb-true o.parent p a.0)) ∙ (w.each x o e).home))

  pub look_no_name : valid_name s ≡ false → look p s t.objects ≡ None
  look_no_name h =
      look_nobody p s 2 t.objects w.ascending
      (λ x o e k.
      let a = and_parts (eqb o.parent p) (same_name o.name s) k in
      both_ways (valid_name s) h (same_valid o.name s a.1 (w.each x o e).name))

-- ---- child
module _ (p a : ℕ) where
  -- a child above a stands past an object that is none
  child_other : (y : ℕ) (q o : Object) (l : List Object) → child_of p o && ltb a o.number ≡ false → at y (o ∷ l) ≡ Some q → q.parent ≡ p → a < y → at y l ≡ Some q
  child_other y q o l f e h k = go (is y o) refl
    where
      go : (b : Bool) → is y o ≡ b → at y l ≡ Some q
      go true g =
          let same : o ≡ q = cc in
          let num = eqb-true o.number y g in
          absurd (both_ways (child_of p o && ltb a o.number) f (and_from _ _ (eq-eqb o.parent p (ap (λ z. z.parent) same ∙ h)) (lt-ltb a o.number (omega arith))))
      go false g = rw g at e

  pub child_given : (n : ℕ) (l : List Object) → Ascends n l → (x : ℕ) → child p a l ≡ Some x → Child p x l × (a < x) × ((y : ℕ) (q : Object) → at y l ≡ Some q → q.parent ≡ p → a < y → x ≤ y)
  child_given n [] r x e = let z : ◌≡◌ {A = ℕ} 0 1 = cc in absurd (omega arith)
  child_given n (o ∷ l) r x e = go (child_given (suc o.number) l r.1 x) (child_of p o && ltb a o.number) refl
    where
      go : (child p a l ≡ Some x → Child p x l × (a < x) × ((y : ℕ) (q : Object) → at y l ≡ Some q → q.parent ≡ p → a < y → x ≤ y)) → (b : Bool) → child_of p o && ltb a o.number ≡ b → Child p x (o ∷ l) × (a < x) × ((y : ℕ) (q : Object) → at y (o ∷ l) ≡ Some q → q.parent ≡ p → a < y → x ≤ y)
      go ih true f =
          let c = and_parts (child_of p o) (ltb a o.number) f in
          let num : o.number ≡ x = cc in
          ((o, cond-true (is x o) _ _ (eq-eqb o.number x num), eqb-true o.parent p c.0), omega (arith, ltb-true a o.number c.1), λ y q g h k. omega (arith, ascends_at y o.number q (o ∷ l) (omega arith, r.1) g))
      go ih false f =
          let v = ih (rw f at e) in
          ((v.0.0, at_tail x n v.0.0 o l r v.0.1, v.0.2), v.1, λ y q g h k. v.2 y q (child_other y q o l f g h k) h k)

  pub child_nobody : (l : List Object) → child p a l ≡ None → (y : ℕ) (q : Object) → at y l ≡ Some q → q.parent ≡ p → a < y → ⊥
  child_nobody [] e y q g h k = let z : ◌≡◌ {A = ℕ} 0 1 = cc in omega arith
  child_nobody (o ∷ l) e y q g h k = go (child_nobody l) (child_of p o && ltb a o.number) refl
    where
      go : (child p a l ≡ None → (y : ℕ) (q : Object) → at y l ≡ Some q → q.parent ≡ p → a < y → ⊥) → (b : Bool) → child_of p o && ltb a o.number ≡ b → ⊥
      go ih true f = let z : ◌≡◌ {A = ℕ} 0 1 = cc in omega arith
      go ih false f = ih (rw f at e) y q (child_other y q o l f g h k) h k
