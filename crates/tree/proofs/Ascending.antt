-- Ascending lists, and where an object stands in them. Assumes nothing.
use Rattle.std.proofs.Common.{◌≡◌, ℕ, suc, ◌<◌, ◌≤◌, Bool, true, false, cond, not, List, [], ◌∷◌, ◌++◌, map, length, Some, None, Option, sym, refl, ap, ◌∙◌, subst, inl, inr, arith}
use Rattle.std.proofs.lemmas.Bool.{eqb-true, eq-eqb, ne_eqb, cases_lt, cases_eq, lt-ltb, le-ltb, cases_Bool, cond-false, cond_both, not_from_true}
use Rattle.std.proofs.lemmas.Bool.Decides.{nat_tests}
use Rattle.tree.specs.Trees.{Ascends, Object, at, change, higher, insert, is, keep, lower, without}
use Rattle.tree.proofs.Objects.{Split}

pub ascends_weaker : (m n : ℕ) (l : List Object) → m ≤ n → Ascends n l → Ascends m l
ascends_weaker m n [] h r = tt
ascends_weaker m n (o ∷ l) h r = (omega (arith, r.0), r.1)

pub keep_lower : (m n : ℕ) (l : List Object) → m ≤ n → Ascends n l → keep (lower m) l ≡ []
keep_lower m n [] h r = refl
keep_lower m n (o ∷ l) h r = rw (le-ltb o.number m (omega (arith, r.0))) (keep_lower m (suc o.number) l (omega (arith, r.0)) r.1)

pub keep_higher : (m n : ℕ) (l : List Object) → m ≤ n → Ascends n l → keep (higher m) l ≡ l
keep_higher m n [] h r = refl
keep_higher m n (o ∷ l) h r = rw (le-ltb o.number m (omega (arith, r.0))) (ap (λ z. o ∷ z) (keep_higher m (suc o.number) l (omega (arith, r.0)) r.1))

-- a list that begins climbs o takes it in front
pub insert_low : (n : ℕ) (o : Object) (l : List Object) → o.number ≤ n → Ascends n l → insert o l ≡ o ∷ l
insert_low n o l h r = rw (keep_lower o.number n l h r, keep_higher o.number n l h r)

pub insert_behind : (o x : Object) (l : List Object) → x.number < o.number → insert o (x ∷ l) ≡ x ∷ insert o l
insert_behind o x l h = rw (lt-ltb x.number o.number h)

pub split_ascends : (n : ℕ) (l : List Object) → Ascends n l → Split l
split_ascends n [] r m = refl
split_ascends n (o ∷ l) r m = elim (cases_lt o.number m) [ inl lt ↦ rw (lt-ltb o.number m lt) (ap (λ z. o ∷ z) (split_ascends (suc o.number) l r.1 m)) | inr le ↦ rw (le-ltb o.number m le, keep_lower m (suc o.number) l (omega arith) r.1, keep_higher m (suc o.number) l (omega arith) r.1) ]

pub ascends_keep : (p : Object → Bool) (n : ℕ) (l : List Object) → Ascends n l → Ascends n (keep p l)
ascends_keep p n [] r = tt
ascends_keep p n (o ∷ l) r =
    let ih = ascends_keep p (suc o.number) l r.1 in
    cond_both (p o) (o ∷ keep p l) (keep p l) (Ascends n) (λ _. (r.0, ih)) (λ _. ascends_weaker n (suc o.number) (keep p l) (omega (arith, r.0)) ih)

pub ascends_map : (g : Object → Object) (same : (o : Object) → (g o).number ≡ o.number) (n : ℕ) (l : List Object) → Ascends n l → Ascends n (map g l)
ascends_map g same n [] r = tt
ascends_map g same n (o ∷ l) r = (omega (arith, r.0, same o), ascends_weaker (suc (g o).number) (suc o.number) (map g l) (omega (arith, same o)) (ascends_map g same (suc o.number) l r.1))

-- nothing stands at a number below
pub at_low : (x n : ℕ) (l : List Object) → x < n → Ascends n l → at x l ≡ None
at_low x n [] h r = refl
at_low x n (o ∷ l) h r = rw (ne_eqb o.number x (λ e. omega (arith, r.0))) (at_low x (suc o.number) l (omega (arith, r.0)) r.1)

pub ascends_at : (x n : ℕ) (o : Object) (l : List Object) → Ascends n l → at x l ≡ Some o → n ≤ x
ascends_at x n o l r e = elim (cases_lt x n) [ inl lt ↦ absurd (let z : None ≡ Some o = sym (at_low x n l lt r) ∙ e in let k : ◌≡◌ {A = ℕ} 0 1 = cc in omega arith) | inr le ↦ le ]

-- what stands further on is found past the first
pub at_tail : (y n : ℕ) (q o : Object) (l : List Object) → Ascends n (o ∷ l) → at y l ≡ Some q → at y (o ∷ l) ≡ Some q
at_tail y n q o l r e = cond-false (is y o) (Some o) (at y l) (ne_eqb o.number y (λ z. omega (arith, ascends_at y (suc o.number) q l r.1 e))) ∙ e

pub ascends_insert : (n : ℕ) (o : Object) (l : List Object) → n ≤ o.number → at o.number l ≡ None → Ascends n l → Ascends n (insert o l)
ascends_insert n o [] h f r = (h, tt)
ascends_insert n o (x ∷ l) h f r = elim (cases_lt x.number o.number) [ inl lt ↦ rw (insert_behind o x l lt) (r.0, ascends_insert (suc x.number) o l lt (rw (ne_eqb x.number o.number (λ e. omega arith)) at f) r.1) | inr le ↦ rw (insert_low x.number o (x ∷ l) le (omega arith, r.1)) (h, (differs le, r.1)) ]
  where
    differs : o.number ≤ x.number → suc o.number ≤ x.number
    differs le = elim (cases_eq x.number o.number) [ inl e ↦ absurd (grind (arith, nat_tests)) | inr ne ↦ omega arith ]

-- what stands at a number, in a part of the list
pub at_keep_in : (y : ℕ) (q : Object → Bool) (l : List Object) → ((o : Object) → is y o ≡ true → q o ≡ true) → at y (keep q l) ≡ at y l
at_keep_in y q [] h = refl
at_keep_in y q (o ∷ l) h = let ih = at_keep_in y q l h in let k = h o in grind (arith, cases_Bool (is y o), cases_Bool (q o))

pub at_keep_out : (y : ℕ) (q : Object → Bool) (l : List Object) → ((o : Object) → is y o ≡ true → q o ≡ false) → at y (keep q l) ≡ None
at_keep_out y q [] h = refl
at_keep_out y q (o ∷ l) h = let ih = at_keep_out y q l h in let k = h o in grind (arith, cases_Bool (is y o), cases_Bool (q o))

abbrev pub or_else : Option Object → Option Object → Option Object
or_else None r = r
or_else (Some o) r = Some o

pub at_append : (y : ℕ) (l m : List Object) → at y (l ++ m) ≡ or_else (at y l) (at y m)
at_append y [] m = refl
at_append y (o ∷ l) m = let ih = at_append y l m in grind (arith, cases_Bool (is y o))

module _ (o : Object) (l : List Object) where
  pub at_insert_own : at o.number (insert o l) ≡ Some o
  at_insert_own =
      at_append o.number (keep (lower o.number) l) (o ∷ keep (higher o.number) l)
      ∙ rw (at_keep_out o.number (lower o.number) l (λ p e. grind (arith, nat_tests)), eq-eqb o.number o.number refl)

  pub at_insert_other : (y : ℕ) → (o.number ≡ y → ⊥) → at y (insert o l) ≡ at y l
  at_insert_other y ne =
      at_append y (keep (lower o.number) l) (o ∷ keep (higher o.number) l)
      ∙ rw (ne_eqb o.number y ne) (elim (cases_lt y o.number) [ inl lt ↦ low lt | inr le ↦ high le ])
    where
      low : y < o.number → or_else (at y (keep (lower o.number) l)) (at y (keep (higher o.number) l)) ≡ at y l
      low lt = rw (at_keep_in y (lower o.number) l (λ p e. grind (arith, nat_tests)), at_keep_out y (higher o.number) l (λ p e. grind (arith, nat_tests))) (go (at y l))
        where
          go : (r : Option Object) → or_else r None ≡ r
          go None = refl
          go (Some p) = refl

      high : o.number ≤ y → or_else (at y (keep (lower o.number) l)) (at y (keep (higher o.number) l)) ≡ at y l
      high le = rw (at_keep_out y (lower o.number) l (λ p e. grind (arith, nat_tests)), at_keep_in y (higher o.number) l (λ p e. grind (arith, nat_tests)))

pub at_without_own : (x : ℕ) (l : List Object) → at x (without x l) ≡ None
at_without_own x l = at_keep_out x (λ o. not (is x o)) l (λ o e. not_from_true (is x o) e)

-- where nothing has the number
pub without_none : (x : ℕ) (l : List Object) → at x l ≡ None → without x l ≡ l
without_none x [] h = refl
without_none x (o ∷ l) h = let ih = without_none x l in grind (arith, cases_Bool (is x o))

pub change_none : (x : ℕ) (g : Object → Object) (l : List Object) → at x l ≡ None → change x g l ≡ l
change_none x g [] h = refl
change_none x g (o ∷ l) h = let ih = change_none x g l in grind (arith, cases_Bool (is x o))

-- a part of an ascending list
abbrev pub only : (Object → Bool) → Option Object → Option Object
only q None = None
only q (Some o) = cond (q o) (Some o) None

pub at_keep : (q : Object → Bool) (x n : ℕ) (l : List Object) → Ascends n l → at x (keep q l) ≡ only q (at x l)
at_keep q x n [] r = refl
at_keep q x n (o ∷ l) r =
    let ih = at_keep q x (suc o.number) l r.1 in
    let low : o.number ≡ x → at x (keep q l) ≡ None = λ e. at_low x (suc o.number) (keep q l) (omega arith) (ascends_keep q (suc o.number) l r.1) in
    grind (arith, nat_tests, cases_Bool (q o))

-- an ascending list with o inserted: the list ascends, and o's number was free
pub ascends_cut : (n : ℕ) (o : Object) (a b : List Object) → Ascends n (a ++ (o ∷ b)) → Ascends n (a ++ b) × Ascends (suc o.number) b
ascends_cut n o [] b r = (ascends_weaker n (suc o.number) b (omega (arith, r.0)) r.1, r.1)
ascends_cut n o (x ∷ a) b r = let w = ascends_cut (suc x.number) o a b r.1 in ((r.0, w.0), w.1)

pub ascends_uninsert : (n : ℕ) (o : Object) (l : List Object) → Split l → Ascends n (insert o l) → Ascends n l × (at o.number l ≡ None)
ascends_uninsert n o l s r =
    let w = ascends_cut n o (keep (lower o.number) l) (keep (higher o.number) l) r in
    let free : at o.number l ≡ None = sym (at_keep_in o.number (higher o.number) l (λ p e. grind (arith, nat_tests))) ∙ at_low o.number (suc o.number) (keep (higher o.number) l) (omega arith) w.1 in
    (subst (Ascends n) (s o.number) w.0, free)

-- one object less
pub length_less : (x n : ℕ) (o : Object) (l : List Object) → Ascends n l → at x l ≡ Some o → suc (length (without x l)) ≡ length l
length_less x n o [] r e = let z : ◌≡◌ {A = ℕ} 0 1 = cc in absurd (omega arith)
length_less x n o (p ∷ l) r e = go (length_less x (suc p.number) o l r.1) (is x p) refl
  where
    go : (at x l ≡ Some o → suc (length (without x l)) ≡ length l) → (b : Bool) → is x p ≡ b → suc (length (without x (p ∷ l))) ≡ length (p ∷ l)
    go ih true f = rw f (ap (λ z. suc (length z)) (without_none x l (at_low x (suc p.number) l (omega (arith, eqb-true p.number x f)) r.1)))
    go ih false f = let h = ih (rw f at e) in rw f (ap suc h)
