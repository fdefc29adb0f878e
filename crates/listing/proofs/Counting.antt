-- How often a number stands in a listing. Assumes nothing.
use Rattle.std.proofs.Common.{◌≡◌, ℕ, zero, suc, ◌+◌, Bool, true, false, cond, eqb, List, [], ◌∷◌, Some, None, sum_by, Option, sym, refl, ap, ◌∙◌, ⊎_elim, zero-add, arith}
use Rattle.std.specs.List.{flat_map}
use Rattle.std.proofs.lemmas.List.Sums.{sum_by-append, sum_by-cons}
use Rattle.std.proofs.lemmas.Bool.{eqb-true, eq-eqb, ne_eqb, cases_Bool}
use Rattle.std.proofs.lemmas.Bool.Decides.{nat_tests}
use Rattle.tree.specs.Questions.{child_of, climbs, is_some}
use Rattle.tree.specs.Trees.{Ascends, Object, at, is, keep}
use Rattle.tree.proofs.Ascending.{ascends_at, ascends_keep, at_keep, at_low, only}
use Rattle.tree.proofs.Climbing.{climbs_cases, climbs_short, climbs_step}
use Rattle.listing.specs.Listings.{ListsEachOnce, beneath, listing, times}

abbrev one_if : Bool → ℕ
one_if b = cond b 1 0

times_joined : (x : ℕ) (f : Object → List ℕ) (l : List Object) → times x (flat_map f l) ≡ sum_by (λ o. times x (f o)) l
times_joined x f [] = refl
times_joined x f (o ∷ l) =
    sum_by-append (λ y. one_if (eqb y x)) (f o) (flat_map f l) ∙ ap (λ n. times x (f o) + n) (times_joined x f l) ∙ sym (sum_by-cons (λ o. times x (f o)) o l)

sum_same : (f g : Object → ℕ) → ((o : Object) → f o ≡ g o) → (l : List Object) → sum_by f l ≡ sum_by g l
sum_same f g h [] = refl
sum_same f g h (o ∷ l) = let ih = sum_same f g h l in omega (arith, h o, sum_by-cons f o l, sum_by-cons g o l)

sum_add : (f g : Object → ℕ) (l : List Object) → sum_by (λ o. f o + g o) l ≡ sum_by f l + sum_by g l
sum_add f g [] = refl
sum_add f g (o ∷ l) = let ih = sum_add f g l in omega (arith, sum_by-cons f o l, sum_by-cons g o l, sum_by-cons (λ o. f o + g o) o l)

sum_none : (l : List Object) → sum_by (λ o. 0) l ≡ 0
sum_none [] = refl
sum_none (o ∷ l) = let ih = sum_none l in omega (arith, sum_by-cons (λ o. 0) o l)

-- a number stands once in an ascending list, or not at all
sum_is : (x n : ℕ) (l : List Object) → Ascends n l → sum_by (λ o. one_if (is x o)) l ≡ one_if (is_some (at x l))
sum_is x n [] r = refl
sum_is x n (o ∷ l) r =
    let ih = sum_is x (suc o.number) l r.1 in
    let step = sum_by-cons (λ o. one_if (is x o)) o l in
    ⊎_elim
    (λ e.
    let none = at_low x (suc o.number) l (omega (arith, eqb-true o.number x e)) r.1 in
    step ∙ ap (λ n. one_if (is x o) + n) (ih ∙ ap (λ r. one_if (is_some r)) none) ∙ rw e refl)
    (λ e. step ∙ ap (λ n. one_if (is x o) + n) ih ∙ rw e (zero-add (one_if (is_some (at x l)))))
    (cases_Bool (is x o))

eqb_turned : (a b : ℕ) → eqb a b ≡ eqb b a
eqb_turned a b = grind (arith, nat_tests)

abbrev once : Option Object → (Object → ℕ) → ℕ
once None f = 0
once (Some o) f = f o

module _ (l : List Object) (asc : Ascends 2 l) where
  abbrev stands : ℕ → ℕ → ℕ → ℕ
  stands k d y = times y (beneath k d l)

  abbrev within : ℕ → List Object
  within d = keep (child_of d) l

  -- from the directory down: among its objects, and beneath each of them
  level : (k d y : ℕ) → stands (suc k) d y ≡ sum_by (λ o. one_if (is y o) + stands k o.number y) (within d)
  level k d y =
      times_joined y (λ o. o.number ∷ beneath k o.number l) (within d)
      ∙ sum_same _ (λ o. one_if (is y o) + stands k o.number y) (λ o. sum_by-cons (λ z. one_if (eqb z y)) o.number (beneath k o.number l)) (within d)

  down : (k d y : ℕ) → stands (suc k) d y ≡ once (at y l) (λ o. one_if (child_of d o)) + sum_by (λ o. stands k o.number y) (within d)
  down k d y =
      level k d y
      ∙ sum_add (λ o. one_if (is y o)) (λ o. stands k o.number y) (within d)
      ∙ ap (λ n. n + sum_by (λ o. stands k o.number y) (within d)) (sum_is y 2 (within d) (ascends_keep (child_of d) 2 l asc) ∙ ap (λ r. one_if (is_some r)) (at_keep (child_of d) y 2 l asc) ∙ shut (at y l))
    where
      shut : (r : Option Object) → one_if (is_some (only (child_of d) r)) ≡ once r (λ o. one_if (child_of d o))
      shut None = refl
      shut (Some o) = go (child_of d o)
        where
          go : (b : Bool) → one_if (is_some (cond b (Some o) None)) ≡ one_if b
          go true = refl
          go false = refl

  -- from the object up: in its parent, and where its parent stands
  up : (k d y : ℕ) → stands (suc k) d y ≡ once (at y l) (λ o. one_if (child_of d o) + stands k d o.parent)
  up zero d y = down zero d y ∙ ap (λ n. once (at y l) (λ o. one_if (child_of d o)) + n) (sum_none (within d)) ∙ go (at y l)
    where
      go : (r : Option Object) → once r (λ o. one_if (child_of d o)) + 0 ≡ once r (λ o. one_if (child_of d o) + 0)
      go None = refl
      go (Some o) = refl
  up (suc k) d y = down (suc k) d y ∙ go (at y l) (λ o. up k o.number y)
    where
      go : (r : Option Object) → ((o : Object) → stands (suc k) o.number y ≡ once r (λ q. one_if (child_of o.number q) + stands k o.number q.parent)) → once r (λ o. one_if (child_of d o)) + sum_by (λ o. stands (suc k) o.number y) (within d) ≡ once r (λ o. one_if (child_of d o) + stands (suc k) d o.parent)
      go None h = zero-add _ ∙ sum_same _ (λ o. 0) h (within d) ∙ sum_none (within d)
      go (Some q) h =
          ap (λ n. one_if (child_of d q) + n) (sum_same _ (λ o. one_if (is q.parent o) + stands k o.number q.parent) (λ o. h o ∙ ap (λ b. one_if b + stands k o.number q.parent) (eqb_turned q.parent o.number)) (within d) ∙ sym (level k d q.parent))

  stands_none : (k d y : ℕ) → at y l ≡ None → stands k d y ≡ 0
  stands_none zero d y e = refl
  stands_none (suc k) d y e = up k d y ∙ ap (λ r. once r (λ o. one_if (child_of d o) + stands k d o.parent)) e

  -- a way up to the root passes it once
  root_once : (k p : ℕ) → climbs k 1 p l ≡ true → one_if (eqb p 1) + stands k 1 p ≡ 1
  root_once zero p h = rw h refl
  root_once (suc k) p h =
      ⊎_elim
      (λ e. ap (λ b. one_if b + stands (suc k) 1 p) (eq-eqb p 1 e) ∙ ap (λ n. 1 + n) (stands_none (suc k) 1 p (at_low p 2 l (omega arith) asc)))
      (λ w.
      ap (λ b. one_if b + stands (suc k) 1 p) (ne_eqb p 1 (λ e. omega (arith, ascends_at p 2 w.0 l asc w.1)))
      ∙ zero-add (stands (suc k) 1 p)
      ∙ up k 1 p
      ∙ ap (λ r. once r (λ o. one_if (child_of 1 o) + stands k 1 o.parent)) w.1
      ∙ root_once k w.0.parent w.2)
      (climbs_cases k 1 p l h)

pub lists_each_once : ListsEachOnce
lists_each_once t w x = go (at x l) refl
  where
    l : List Object
    l = t.objects

    go : (r : Option Object) → at x l ≡ r → times x (listing t) ≡ one_if (is_some r)
    go None e = stands_none l w.ascending t.capacity 1 x e
    go (Some o) e =
        let leads = climbs_short 1 (suc t.capacity) x l t.capacity w.room (climbs_step t.capacity 1 x l o e (w.each x o e).rooted) in
        let here = ne_eqb x 1 (λ z. omega (arith, ascends_at x 2 o l w.ascending e)) in
        sym (zero-add (times x (listing t))) ∙ ap (λ b. one_if b + times x (listing t)) (sym here) ∙ root_once l w.ascending t.capacity x leads
