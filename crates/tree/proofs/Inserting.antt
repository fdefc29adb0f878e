-- Insertions on any list of objects. Assumes nothing.
use Rattle.std.proofs.Common.{◌≡◌, ℕ, suc, ◌+◌, ◌<◌, ◌≤◌, min, Bool, true, false, cond, not, ◌&&◌, ◌||◌, ltb, List, [], ◌∷◌, ◌++◌, map, length, Some, None, Option, sym, refl, ap, ◌∙◌, inl, inr, append_assoc, append-nil, arith, length-append}
use Rattle.std.proofs.lemmas.Bool.{cases_lt, ltb-true, ltb-false, lt-ltb, le-ltb, cases_Bool, not-true}
use Rattle.std.proofs.lemmas.Bool.Decides.{nat_tests}
use Rattle.tree.specs.Questions.{child, child_of, smaller}
use Rattle.tree.specs.Trees.{Object, change, change_one, higher, insert, keep, lower, some_of}
use Rattle.tree.proofs.Lists.{keep_append, keep_keep, keep_map, map_append}
use Rattle.tree.proofs.Objects.{Split, change_number, keep_all, keep_none}

insert_later : (o p : Object) (l : List Object) → o.number < p.number → insert o (insert p l) ≡ insert p (insert o l)
insert_later o p l lt =
    let lo = lower o.number in
    let ho = higher o.number in
    let lp = lower p.number in
    let hp = higher p.number in
    let a : keep lo (keep lp l) ≡ keep lo l = keep_keep lo lp l ∙ keep_all lp lo l (λ q e. grind (arith, nat_tests)) in
    let b : keep lo (keep hp l) ≡ [] = keep_none lo hp l (λ q e. grind (arith, nat_tests)) in
    let c : keep ho (keep hp l) ≡ keep hp l = keep_all ho hp l (λ q e. grind (arith, nat_tests)) in
    let d : keep lp (keep lo l) ≡ keep lo l = keep_all lp lo l (λ q e. grind (arith, nat_tests)) in
    let f : keep hp (keep lo l) ≡ [] = keep_none hp lo l (λ q e. grind (arith, nat_tests)) in
    let g : keep hp (keep ho l) ≡ keep hp l = keep_keep hp ho l ∙ c in
    let left : insert o (insert p l) ≡ keep lo l ++ (o ∷ (keep ho (keep lp l) ++ (p ∷ keep hp l))) =
    rw (keep_append lo (keep lp l) (p ∷ keep hp l), keep_append ho (keep lp l) (p ∷ keep hp l), le-ltb p.number o.number (omega arith), a, b, c, append-nil (keep lo l)) in
    let right : insert p (insert o l) ≡ keep lo l ++ (o ∷ (keep lp (keep ho l) ++ (p ∷ keep hp l))) =
    rw (keep_append lp (keep lo l) (o ∷ keep ho l), keep_append hp (keep lo l) (o ∷ keep ho l), lt-ltb o.number p.number lt, d, f, g) (append_assoc (keep lo l) (o ∷ keep lp (keep ho l)) (p ∷ keep hp l)) in
    left ∙ ap (λ z. keep lo l ++ (o ∷ (z ++ (p ∷ keep hp l)))) (keep_keep ho lp l) ∙ sym right

pub insert_insert : (o p : Object) (l : List Object) → (o.number ≡ p.number → ⊥) → insert o (insert p l) ≡ insert p (insert o l)
insert_insert o p l ne = elim (cases_lt o.number p.number) [ inl lt ↦ insert_later o p l lt | inr le ↦ sym (insert_later p o l (omega arith)) ]

pub change_insert : (x : ℕ) (g : Object → Object) (same : (o : Object) → (g o).number ≡ o.number) (o : Object) (l : List Object) → change x g (insert o l) ≡ insert (change_one x g o) (change x g l)
change_insert x g same o l =
    let c = change_one x g in
    let n = change_number x g same in
    map_append c (keep (lower o.number) l) (o ∷ keep (higher o.number) l)
    ∙ (λ i. sym (keep_map (lower o.number) c (λ p. ap (λ k. ltb k o.number) (n p)) l) i ++ (c o ∷ sym (keep_map (higher o.number) c (λ p. ap (λ k. not (ltb k o.number)) (n p)) l) i))
    ∙ ap (λ k. keep (lower k) (map c l) ++ (c o ∷ keep (higher k) (map c l))) (sym (n o))

pub length_insert : (o : Object) (l : List Object) → length (insert o l) ≡ suc (length l)
length_insert o l = simp length-append (omega (arith, parts l))
  where
    parts : (l : List Object) → length (keep (lower o.number) l) + length (keep (higher o.number) l) ≡ length l
    parts [] = refl
    parts (x ∷ l) = let ih = parts l in grind (arith, cases_Bool (lower o.number x))

-- ---- a test that some object passes
module _ (p : Object → Bool) where
  some_both : (l m : List Object) → some_of p (l ++ m) ≡ (some_of p l || some_of p m)
  some_both [] m = refl
  some_both (o ∷ l) m = let ih = some_both l m in grind (arith, cases_Bool (p o))

  some_cut : (q : Object → Bool) (l : List Object) → some_of p l ≡ (some_of p (keep q l) || some_of p (keep (λ o. not (q o)) l))
  some_cut q [] = refl
  some_cut q (o ∷ l) = let ih = some_cut q l in grind (arith, cases_Bool (p o), cases_Bool (q o), cases_Bool (some_of p (keep q l)))

  pub some_insert : (o : Object) (l : List Object) → some_of p (insert o l) ≡ (p o || some_of p l)
  some_insert o l =
      let a = some_both (keep (lower o.number) l) (o ∷ keep (higher o.number) l) in
      let b = some_cut (lower o.number) l in
      grind (arith, cases_Bool (p o), cases_Bool (some_of p (keep (lower o.number) l)))

-- ---- the smallest number above a among the objects of p
module _ (p a : ℕ) where
  child_append : (l m : List Object) → child p a (l ++ m) ≡ elim (child p a l) [ None ↦ child p a m | Some x ↦ Some x ]
  child_append [] m = refl
  child_append (o ∷ l) m = let ih = child_append l m in grind (arith, cases_Bool (child_of p o && ltb a o.number))

  child_keeps : (q : Object → Bool) (l : List Object) (x : ℕ) → child p a (keep q l) ≡ Some x → (o : Object) × (q o ≡ true) × (o.number ≡ x)
  child_keeps q [] x e = let z : ◌≡◌ {A = ℕ} 0 1 = cc in absurd (omega arith)
  child_keeps q (o ∷ l) x e = go (child_keeps q l x) (q o) refl (child_of p o && ltb a o.number) refl
    where
      go : (child p a (keep q l) ≡ Some x → (u : Object) × (q u ≡ true) × (u.number ≡ x)) → (b : Bool) → q o ≡ b → (d : Bool) → (child_of p o && ltb a o.number) ≡ d → (u : Object) × (q u ≡ true) × (u.number ≡ x)
      go ih true f true h = (o, f, let z : Some o.number ≡ Some x = rw (f, h) at e in cc)
      go ih true f false h = ih (rw (f, h) at e)
      go ih false f d h = ih (rw f at e)

  pub child_insert : (o : Object) (l : List Object) → Split l → child p a (insert o l) ≡ cond (child_of p o && ltb a o.number) (smaller (child p a l) o.number) (child p a l)
  child_insert o l s =
      let low = keep (lower o.number) l in
      let high = keep (higher o.number) l in
      child_append low (o ∷ high) ∙ go (child_of p o && ltb a o.number) (child p a low) refl (child p a high) refl ∙ ap (λ z. cond (child_of p o && ltb a o.number) (smaller z o.number) z) (sym (child_append low high) ∙ ap (child p a) (s o.number))
    where
      go : (b : Bool) (u : Option ℕ) → child p a (keep (lower o.number) l) ≡ u → (v : Option ℕ) → child p a (keep (higher o.number) l) ≡ v → elim u [ None ↦ cond b (Some o.number) v | Some x ↦ Some x ] ≡ cond b (smaller (elim u [ None ↦ v | Some x ↦ Some x ]) o.number) (elim u [ None ↦ v | Some x ↦ Some x ])
      go false None e v f = refl
      go false (Some x) e v f = refl
      go true None e None f = refl
      go true None e (Some y) f =
          let w = child_keeps (higher o.number) l y f in
          let h : o.number ≤ y = omega (arith, ltb-false w.0.number o.number (not-true _ w.1), w.2) in
          let k : o.number ≡ min y o.number = omega arith in
          ap Some k
      go true (Some x) e v f =
          let w = child_keeps (lower o.number) l x e in
          let h : x < o.number = omega (arith, ltb-true w.0.number o.number w.1, w.2) in
          let k : x ≡ min x o.number = omega arith in
          ap Some k
