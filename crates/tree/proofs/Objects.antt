-- Questions of a list of objects after it is changed. Assumes nothing.
use Rattle.std.proofs.Common.{◌≡◌, ℕ, zero, suc, ◌<◌, ◌≤◌, Bool, true, false, cond, not, ◌||◌, eqb, ltb, List, [], ◌∷◌, ◌++◌, map, Some, None, Option, sym, refl, ap, ◌∙◌, inl, inr, append_assoc, append-nil, arith}
use Rattle.std.proofs.lemmas.Bool.{or_parts, cases_lt, lt-ltb, le-ltb}
use Rattle.std.proofs.lemmas.Bool.Decides.{nat_tests}
use Rattle.tree.specs.Questions.{child_of, climbs, has_child}
use Rattle.tree.specs.Trees.{Object, at, change, change_one, higher, insert, is, keep, lower, without}
use Rattle.tree.proofs.Lists.{keep_append, keep_keep, keep_map, map_append}

-- without an object
pub at_without : (x y : ℕ) (l : List Object) → eqb y x ≡ false → at y (without x l) ≡ at y l
at_without x y [] h = refl
at_without x y (o ∷ l) h = grind (arith, nat_tests, at_without x y l h)

pub without_insert : (x : ℕ) (o : Object) (l : List Object) → eqb o.number x ≡ false → without x (insert o l) ≡ insert o (without x l)
without_insert x o l h = rw (keep_append, h, keep_keep (λ p. not (is x p)) (lower o.number) l, keep_keep (λ p. not (is x p)) (higher o.number) l)

-- each list of ascending numbers has this
abbrev pub Split : List Object → Type 0
Split l = (n : ℕ) → keep (lower n) l ++ keep (higher n) l ≡ l

pub split_keep : (q : Object → Bool) (l : List Object) → Split l → Split (keep q l)
split_keep q l s n = rw (keep_keep (lower n) q l, keep_keep (higher n) q l) (sym (keep_append q (keep (lower n) l) (keep (higher n) l)) ∙ ap (keep q) (s n))

pub split_map : (g : Object → Object) (same : (o : Object) → (g o).number ≡ o.number) (l : List Object) → Split l → Split (map g l)
split_map g same l s n =
    rw (keep_map (lower n) g (λ o. ap (λ k. ltb k n) (same o)) l, keep_map (higher n) g (λ o. ap (λ k. not (ltb k n)) (same o)) l) (sym (map_append g (keep (lower n) l) (keep (higher n) l)) ∙ ap (map g) (s n))

pub keep_none : {X : Type 0} (p q : X → Bool) (l : List X) → ((x : X) → q x ≡ true → p x ≡ false) → keep p (keep q l) ≡ []
keep_none p q [] h = refl
keep_none p q (x ∷ l) h = go (keep_none p q l h) (q x) refl
  where
    go : keep p (keep q l) ≡ [] → (b : Bool) → q x ≡ b → keep p (cond (q x) (x ∷ keep q l) (keep q l)) ≡ []
    go ih true e = rw (e, h x e) ih
    go ih false e = rw e ih

pub keep_all : {X : Type 0} (p q : X → Bool) (l : List X) → ((x : X) → q x ≡ true → p x ≡ true) → keep p (keep q l) ≡ keep q l
keep_all p q [] h = refl
keep_all p q (x ∷ l) h = go (keep_all p q l h) (q x) refl
  where
    go : keep p (keep q l) ≡ keep q l → (b : Bool) → q x ≡ b → keep p (cond (q x) (x ∷ keep q l) (keep q l)) ≡ cond (q x) (x ∷ keep q l) (keep q l)
    go ih true e = rw (e, h x e) (ap (λ z. x ∷ z) ih)
    go ih false e = rw e ih

pub split_insert : (o : Object) (l : List Object) → Split l → Split (insert o l)
split_insert o l s n = elim (cases_lt o.number n) [ inl lt ↦ after lt | inr le ↦ before le ]
  where
    B : List Object
    B = keep (lower o.number) l

    A : List Object
    A = keep (higher o.number) l

    before : n ≤ o.number → keep (lower n) (insert o l) ++ keep (higher n) (insert o l) ≡ insert o l
    before le =
        rw (keep_append (lower n) B (o ∷ A), keep_append (higher n) B (o ∷ A), le-ltb o.number n le, keep_none (lower n) (higher o.number) l (λ x e. grind (arith, nat_tests)), keep_all (higher n) (higher o.number) l (λ x e. grind (arith, nat_tests)), append-nil (keep (lower n) B))
        (sym (append_assoc (keep (lower n) B) (keep (higher n) B) (o ∷ A)) ∙ ap (λ z. z ++ (o ∷ A)) (split_keep (lower o.number) l s n))

    after : o.number < n → keep (lower n) (insert o l) ++ keep (higher n) (insert o l) ≡ insert o l
    after lt =
        rw (keep_append (lower n) B (o ∷ A), keep_append (higher n) B (o ∷ A), lt-ltb o.number n lt, keep_all (lower n) (lower o.number) l (λ x e. grind (arith, nat_tests)), keep_none (higher n) (lower o.number) l (λ x e. grind (arith, nat_tests)))
        (append_assoc B (o ∷ keep (lower n) A) (keep (higher n) A) ∙ ap (λ z. B ++ (o ∷ z)) (split_keep (higher o.number) l s n))

-- the object itself leaves no trace
pub without_own_insert : (x : ℕ) (o : Object) (l : List Object) → eqb o.number x ≡ true → Split (without x l) → without x (insert o l) ≡ without x l
without_own_insert x o l h s = rw (keep_append, h, keep_keep (λ p. not (is x p)) (lower o.number) l, keep_keep (λ p. not (is x p)) (higher o.number) l) (s o.number)

pub without_own_change : (x : ℕ) (g : Object → Object) (same : (o : Object) → (g o).number ≡ o.number) (l : List Object) → without x (change x g l) ≡ without x l
without_own_change x g same [] = refl
without_own_change x g same (o ∷ l) = go (without_own_change x g same l) (is x o) refl
  where
    go : without x (change x g l) ≡ without x l → (b : Bool) → is x o ≡ b → without x (change_one x g o ∷ change x g l) ≡ without x (o ∷ l)
    go ih true e = rw (e, same o, e) ih
    go ih false e = rw (e, e) (ap (λ z. o ∷ z) ih)

pub without_own : (x : ℕ) (l : List Object) → without x (without x l) ≡ without x l
without_own x l = keep_all (λ o. not (is x o)) (λ o. not (is x o)) l (λ o e. e)

pub change_number : (x : ℕ) (g : Object → Object) (same : (o : Object) → (g o).number ≡ o.number) (o : Object) → (change_one x g o).number ≡ o.number
change_number x g same o = go (is x o) refl
  where
    go : (b : Bool) → is x o ≡ b → (cond (is x o) (g o) o).number ≡ o.number
    go true e = rw e (same o)
    go false e = rw e

pub without_change : (x y : ℕ) (g : Object → Object) (same : (o : Object) → (g o).number ≡ o.number) (l : List Object) → without x (change y g l) ≡ change y g (without x l)
without_change x y g same l = keep_map (λ o. not (is x o)) (change_one y g) (λ o. ap (λ k. not (eqb k x)) (change_number y g same o)) l

pub at_child : (x p : ℕ) (o : Object) (l : List Object) → has_child x l ≡ false → at p l ≡ Some o → eqb o.parent x ≡ false
at_child x p o [] h e = absurd (never e)
  where
    never : None ≡ Some o → ⊥
    never e = let z : ◌≡◌ {A = ℕ} 0 1 = cc in omega arith
at_child x p o (q ∷ l) h e = go (at_child x p o l (or_parts (child_of x q) (has_child x l) h).1) (is p q) refl
  where
    go : (at p l ≡ Some o → eqb o.parent x ≡ false) → (b : Bool) → is p q ≡ b → eqb o.parent x ≡ false
    go ih true f = let k : q ≡ o = cc in rw k at (or_parts (child_of x q) (has_child x l) h).0
    go ih false f = ih (rw f at e)

-- what stands climbs p, without a leaf x
pub climbs_without : (k x y p : ℕ) (l : List Object) → has_child x (without x l) ≡ false → eqb p x ≡ false → climbs k y p (without x l) ≡ climbs k y p l
climbs_without zero x y p l h e = refl
climbs_without (suc k) x y p l h e = ap (λ b. eqb p y || b) (rw (at_without x p l e) (go (λ o f. climbs_without k x y o.parent l h (at_child x p o (without x l) h (at_without x p l e ∙ f))) (at p l) refl))
  where
    go : ((o : Object) → at p l ≡ Some o → climbs k y o.parent (without x l) ≡ climbs k y o.parent l) → (r : Option Object) → at p l ≡ r → ◌≡◌ {A = Bool} (elim r [ None ↦ false | Some o ↦ climbs k y o.parent (without x l) ]) (elim r [ None ↦ false | Some o ↦ climbs k y o.parent l ])
    go ih None f = refl
    go ih (Some o) f = ih o f
