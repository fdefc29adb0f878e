-- What the sort of the files puts first. Assumes nothing.
use Rattle.std.proofs.Common.{◌≡◌, ℕ, zero, suc, ◌<◌, min, Bool, true, false, cond, ◌&&◌, ◌||◌, eqb, ltb, ◌⊎◌, List, [], ◌∷◌, length, take, Some, None, Option, sym, refl, ap, ◌∙◌, subst, ap₂, inl, inr, ⊎_elim, arith}
use Rattle.std.specs.List.{AllByRecursion}
use Rattle.std.proofs.ByRecursion.{All-take, All-weaker}
use Rattle.std.proofs.lemmas.List.{length-take}
use Rattle.std.proofs.lemmas.Bool.{and_parts, cases_order, cond_both, cond-false, cond-true, eqb-true, ltb-true, ne_eqb, or_cases}
use Rattle.std.proofs.lemmas.Bool.Decides.{nat_tests}
use Rattle.tree.specs.Questions.{regular}
use Rattle.tree.specs.Trees.{Ascends, Object, at, is, keep}
use Rattle.tree.proofs.Ascending.{ascends_keep, at_keep, at_low, at_tail, only}
use Rattle.tree.proofs.Changed.{at_number}
use Rattle.model.proofs.Each.{all_at, keep_passes}
use Rattle.model.specs.Choice.{Apart, FirstSixteen, FirstSixteenAreOneList, GoesBefore, InOrder, KeepsTheFirstSixteen}
use Rattle.model.specs.Hoard.{Hoard, Policy, age, before, chosen, placed_in, priority, rank_of, sorted}

-- ---- objects by number

free_here : (x : ℕ) (o : Object) (l : List Object) → at x (o ∷ l) ≡ None → (o.number ≡ x → ⊥) × (at x l ≡ None)
free_here x o l e = grind (arith, nat_tests)

all_own : (n : ℕ) (l : List Object) → Ascends n l → AllByRecursion (λ o. at o.number l ≡ Some o) l
all_own n [] r = tt
all_own n (o ∷ l) r = (grind (arith, nat_tests), All-weaker _ _ (λ p e. at_tail p.number n p o l r e) l (all_own (suc o.number) l r.1))

-- ---- the order

-- a and b are priorities, m and n the numbers that have them
abbrev First : ℕ → ℕ → ℕ → ℕ → Type 0
First a b m n = (b < a) ⊎ ((a ≡ b) × (m < n))

first_true : (a b m n : ℕ) → (ltb b a || (eqb a b && ltb m n)) ≡ true → First a b m n
first_true a b m n e = ⊎_elim (λ h. inl (ltb-true b a h)) (λ h. let k = and_parts (eqb a b) (ltb m n) h in inr (eqb-true a b k.0, ltb-true m n k.1)) (or_cases (ltb b a) _ e)

first_false : (a b m n : ℕ) → (ltb b a || (eqb a b && ltb m n)) ≡ false → (n ≡ m → ⊥) → First b a n m
first_false a b m n e ne =
    elim (cases_order a b) [
      | inl eq ↦ inr (sym eq, grind (arith, nat_tests))
      | inr (inl lt) ↦ inl lt
      | inr (inr gt) ↦ absurd (grind (arith, nat_tests))
    ]

first_through : (a b c k m n : ℕ) → First a b k m → First b c m n → First a c k n
first_through a b c k m n (inl u) (inl v) = inl (omega arith)
first_through a b c k m n (inl u) (inr v) = inl (omega arith)
first_through a b c k m n (inr u) (inl v) = inl (omega arith)
first_through a b c k m n (inr u) (inr v) = inr (omega arith, omega arith)

first_differs : (g : ℕ → ℕ) (m n : ℕ) → First (g m) (g n) m n → n ≡ m → ⊥
first_differs g m n (inl u) e = let k = ap g e in omega arith
first_differs g m n (inr u) e = omega arith

-- ---- the sort

module _ (f : Policy) (h : Hoard) where
  all_placed : (P : Object → Type 0) (o : Object) (l : List Object) → P o → AllByRecursion P l → AllByRecursion P (placed_in f h o l)
  all_placed P o [] q r = (q, tt)
  all_placed P o (p ∷ l) q r = cond_both (before f h o p) (o ∷ p ∷ l) (p ∷ placed_in f h o l) (AllByRecursion P) (λ _. (q, r)) (λ _. (r.0, all_placed P o l q r.1))

  all_sorted : (P : Object → Type 0) (l : List Object) → AllByRecursion P l → AllByRecursion P (sorted f h l)
  all_sorted P [] r = tt
  all_sorted P (o ∷ l) r = all_placed P o (sorted f h l) r.0 (all_sorted P l r.1)

  length_placed : (o : Object) (l : List Object) → length (placed_in f h o l) ≡ suc (length l)
  length_placed o [] = refl
  length_placed o (p ∷ l) = cond_both (before f h o p) (o ∷ p ∷ l) (p ∷ placed_in f h o l) (λ c. length c ≡ suc (suc (length l))) (λ _. refl) (λ _. ap suc (length_placed o l))

  length_sorted : (l : List Object) → length (sorted f h l) ≡ length l
  length_sorted [] = refl
  length_sorted (o ∷ l) = length_placed o (sorted f h l) ∙ ap suc (length_sorted l)

  at_placed : (x : ℕ) (o : Object) (l : List Object) → at o.number l ≡ None → at x (placed_in f h o l) ≡ at x (o ∷ l)
  at_placed x o [] e = refl
  at_placed x o (p ∷ l) e =
      let k = free_here o.number p l e in
      let ih = at_placed x o l k.1 in
      cond_both (before f h o p) (o ∷ p ∷ l) (p ∷ placed_in f h o l) (λ c. at x c ≡ at x (o ∷ p ∷ l)) (λ _. refl) (λ _. go ih k.0)
    where
      go : at x (placed_in f h o l) ≡ at x (o ∷ l) → (p.number ≡ o.number → ⊥) → at x (p ∷ placed_in f h o l) ≡ at x (o ∷ p ∷ l)
      go ih ne = grind (arith, nat_tests)

  at_sorted : (x n : ℕ) (l : List Object) → Ascends n l → at x (sorted f h l) ≡ at x l
  at_sorted x n [] r = refl
  at_sorted x n (o ∷ l) r =
      at_placed x o (sorted f h l) (at_sorted o.number (suc o.number) l r.1 ∙ at_low o.number (suc o.number) l (omega arith) r.1)
      ∙ ap (cond (is x o) (Some o)) (at_sorted x (suc o.number) l r.1)

  placed_ordered : (o : Object) (l : List Object) → at o.number l ≡ None → InOrder f h l → InOrder f h (placed_in f h o l)
  placed_ordered o [] e r = (tt, tt)
  placed_ordered o (p ∷ l) e r =
      let k = free_here o.number p l e in
      cond_both (before f h o p) (o ∷ p ∷ l) (p ∷ placed_in f h o l) (InOrder f h)
      (λ t.
      let g = first_true (priority f h o) (priority f h p) o.number p.number t in
      ((g, All-weaker _ _ (λ q u. first_through (priority f h o) (priority f h p) (priority f h q) o.number p.number q.number g u) l r.0), r))
      (λ t. (all_placed (GoesBefore f h p) o l (first_false (priority f h o) (priority f h p) o.number p.number t k.0) r.0, placed_ordered o l k.1 r.1))

  sorted_ordered : (n : ℕ) (l : List Object) → Ascends n l → InOrder f h (sorted f h l)
  sorted_ordered n [] r = tt
  sorted_ordered n (o ∷ l) r =
      placed_ordered o (sorted f h l) (at_sorted o.number (suc o.number) l r.1 ∙ at_low o.number (suc o.number) l (omega arith) r.1) (sorted_ordered (suc o.number) l r.1)

  -- ---- those in front

  take_ordered : (k : ℕ) (s : List Object) → InOrder f h s → InOrder f h (take k s)
  take_ordered zero s r = tt
  take_ordered (suc k) [] r = tt
  take_ordered (suc k) (o ∷ s) r = (All-take (GoesBefore f h o) k s r.0, take_ordered k s r.1)

  none_like : (x : ℕ) (s : List Object) → AllByRecursion (λ p. p.number ≡ x → ⊥) s → at x s ≡ None
  none_like x [] r = refl
  none_like x (o ∷ s) r = cond-false (is x o) (Some o) (at x s) (ne_eqb o.number x r.0) ∙ none_like x s r.1

  goes_differs : (o p : Object) → GoesBefore f h o p → p.number ≡ o.number → ⊥
  goes_differs o p g = first_differs (λ x. f (rank_of h x) (age h x)) o.number p.number g

  ordered_apart : (s : List Object) → InOrder f h s → Apart s
  ordered_apart [] r = tt
  ordered_apart (o ∷ s) r = (none_like o.number s (All-weaker _ _ (λ p g. goes_differs o p g) s r.0), ordered_apart s r.1)

  left_out : (x : ℕ) (p : Object) (k : ℕ) (s : List Object) → InOrder f h s → at x s ≡ Some p → at x (take k s) ≡ None → AllByRecursion (λ o. GoesBefore f h o p) (take k s)
  left_out x p zero s r e g = tt
  left_out x p (suc k) [] r e g = tt
  left_out x p (suc k) (o ∷ s) r e g =
      let out = free_here x o (take k s) g in
      let there : at x s ≡ Some p = sym (cond-false (is x o) (Some o) (at x s) (ne_eqb o.number x out.0)) ∙ e in
      (all_at (GoesBefore f h o) x p s r.0 there, left_out x p k s r.1 there out.1)

pub first_sixteen : KeepsTheFirstSixteen
first_sixteen f h n l r =
    let files = keep regular l in
    let up = ascends_keep regular n l r in
    let ordered = sorted_ordered f h n files up in
    record {
      count = length-take 16 (sorted f h files) ∙ ap (min 16) (length_sorted f h files);
      files = All-take _ 16 (sorted f h files) (all_sorted f h _ files (keep_passes _ regular l (all_own n l r)));
      apart = ordered_apart f h (chosen f h l) (take_ordered f h 16 (sorted f h files) ordered);
      ordered = take_ordered f h 16 (sorted f h files) ordered;
      best = λ x p e g out. left_out f h x p 16 (sorted f h files) ordered (at_sorted f h x n files up ∙ at_keep regular x n l r ∙ ap (only regular) e ∙ cond-true (regular p) (Some p) None g) out;
    }

-- ---- one list

module _ (f : Policy) (h : Hoard) (l : List Object) where
  abbrev File : Object → Type 0
  File o = (at o.number l ≡ Some o) × (regular o ≡ true)

  -- each of c is in d, or behind all of it
  abbrev Within : List Object → List Object → Type 0
  Within c d = AllByRecursion (λ o. (at o.number d ≡ Some o) ⊎ AllByRecursion (λ p. GoesBefore f h p o) d) c

  within : (c d : List Object) → FirstSixteen f h l d → AllByRecursion File c → Within c d
  within c d w r = All-weaker File _ one c r
    where
      one : (o : Object) → File o → (at o.number d ≡ Some o) ⊎ AllByRecursion (λ p. GoesBefore f h p o) d
      one o g = go (at o.number d) refl
        where
          go : (r : Option Object) → at o.number d ≡ r → (r ≡ Some o) ⊎ AllByRecursion (λ p. GoesBefore f h p o) d
          go None e = inr (w.best o.number o g.0 g.1 e)
          go (Some q) e = inl (sym (all_at File o.number q d w.files e).0 ∙ ap (λ x. at x l) (eqb-true q.number o.number (at_number o.number q d e)) ∙ g.0)

  -- the head is what goes first
  not_behind : (o p : Object) (d : List Object) → AllByRecursion (GoesBefore f h p) d → (at o.number (p ∷ d) ≡ Some o) ⊎ AllByRecursion (λ q. GoesBefore f h q o) (p ∷ d) → (p ≡ o) ⊎ GoesBefore f h p o
  not_behind o p d b (inr k) = inr k.0
  not_behind o p d b (inl k) = go (is o.number p) refl
    where
      go : (t : Bool) → is o.number p ≡ t → (p ≡ o) ⊎ GoesBefore f h p o
      go true e = inl (let z : Some p ≡ Some o = sym (cond-true (is o.number p) (Some p) (at o.number d) e) ∙ k in cc)
      go false e = inr (all_at (GoesBefore f h p) o.number o d b (sym (cond-false (is o.number p) (Some p) (at o.number d) e) ∙ k))

  same_head : (o p : Object) (c d : List Object) → InOrder f h (o ∷ c) → InOrder f h (p ∷ d) → Within (o ∷ c) (p ∷ d) → Within (p ∷ d) (o ∷ c) → o ≡ p
  same_head o p c d a b u v =
      elim (not_behind o p d b.0 u.0) [
        | inl e ↦ sym e
        | inr k ↦ elim (not_behind p o c a.0 v.0) [
          | inl e ↦ e
          | inr m ↦ absurd (goes_differs f h o o (first_through (priority f h o) (priority f h p) (priority f h o) o.number p.number o.number m k) refl)
        ]
      ]

  tails : (o : Object) (d c : List Object) → AllByRecursion (GoesBefore f h o) c → Within c (o ∷ d) → Within c d
  tails o d [] a u = tt
  tails o d (q ∷ c) a u = (⊎_elim (λ k. inl (sym (cond-false (is q.number o) (Some o) (at q.number d) (ne_eqb o.number q.number (λ e. goes_differs f h o q a.0 (sym e)))) ∙ k)) (λ k. inr k.1) u.0, tails o d c a.1 u.1)

  one_list : (c d : List Object) → length c ≡ length d → InOrder f h c → InOrder f h d → Within c d → Within d c → c ≡ d
  one_list [] [] e a b u v = refl
  one_list [] (p ∷ d) e a b u v = absurd (omega arith)
  one_list (o ∷ c) [] e a b u v = absurd (omega arith)
  one_list (o ∷ c) (p ∷ d) e a b u v =
      let k = same_head o p c d a b u v in
      ap₂ (λ x y. x ∷ y) k
      (one_list c d (omega arith) a.1 b.1
      (tails p d c (subst (λ q. AllByRecursion (GoesBefore f h q) c) k a.0) u.1)
      (tails o c d (subst (λ q. AllByRecursion (GoesBefore f h q) d) (sym k) b.0) v.1))

pub are_one_list : FirstSixteenAreOneList
are_one_list f h l c d u v = one_list f h l c d (u.count ∙ sym v.count) u.ordered v.ordered (within f h l c d v u.files) (within f h l d c u v.files)
