-- Objects by their places in a list. Assumes nothing.
use Rattle.std.proofs.Common.{◌≡◌, ℕ, zero, suc, ◌<◌, ◌≤◌, Bool, true, false, List, [], ◌∷◌, ◌++◌, length, get_or, take, drop, set, Some, None, refl, ap, ◌∙◌, arith}
use Rattle.std.proofs.lemmas.Bool.{cond-false, cond-true, eq-eqb, ne_eqb, or_from, or_left, or_right}
use Rattle.tree.specs.Trees.{Ascends, Object, at, change, insert, is, some_of, without}
use Rattle.tree.proofs.Ascending.{at_low, at_tail, change_none, insert_behind, insert_low, without_none}

module _ (none : Object) where
  pub ascends_from : (n : ℕ) (l : List Object) → Ascends n l → (i : ℕ) → i < length l → n ≤ (get_or l i none).number
  ascends_from n [] r i h = absurd (omega arith)
  ascends_from n (o ∷ l) r zero h = r.0
  ascends_from n (o ∷ l) r (suc i) h = omega (arith, r.0, ascends_from (suc o.number) l r.1 i (omega arith))

  pub ascends_before : (n : ℕ) (l : List Object) → Ascends n l → (i j : ℕ) → i < j → j < length l → (get_or l i none).number < (get_or l j none).number
  ascends_before n [] r i j below h = absurd (omega arith)
  ascends_before n (o ∷ l) r i zero below h = absurd (omega arith)
  ascends_before n (o ∷ l) r zero (suc j) below h = omega (arith, ascends_from (suc o.number) l r.1 j (omega arith))
  ascends_before n (o ∷ l) r (suc i) (suc j) below h = ascends_before (suc o.number) l r.1 i j (omega arith) (omega arith)

  pub ascends_get_or : (n : ℕ) (l : List Object) → Ascends n l → (i j : ℕ) → i ≤ j → j < length l → (get_or l i none).number ≤ (get_or l j none).number
  ascends_get_or n [] r i j below h = absurd (omega arith)
  ascends_get_or n (o ∷ l) r zero j below h = ascends_from o.number (o ∷ l) (omega arith, r.1) j h
  ascends_get_or n (o ∷ l) r (suc i) zero below h = absurd (omega arith)
  ascends_get_or n (o ∷ l) r (suc i) (suc j) below h = ascends_get_or (suc o.number) l r.1 i j (omega arith) (omega arith)

  -- ---- changes

  pub insert_at : (n : ℕ) (l : List Object) → Ascends n l → (o : Object) (i : ℕ) → i ≤ length l → ((j : ℕ) → j < i → (get_or l j none).number < o.number) → (i < length l → o.number ≤ (get_or l i none).number) → insert o l ≡ take i l ++ (o ∷ drop i l)
  insert_at n [] r o zero h b s = refl
  insert_at n [] r o (suc i) h b s = absurd (omega arith)
  insert_at n (x ∷ l) r o zero h b s = insert_low x.number o (x ∷ l) (s (omega arith)) (omega arith, r.1)
  insert_at n (x ∷ l) r o (suc i) h b s =
      insert_behind o x l (b 0 (omega arith))
      ∙ ap (λ z. x ∷ z) (insert_at (suc x.number) l r.1 o i (omega arith) (λ j q. b (suc j) (omega arith)) (λ q. s (omega arith)))

  module _ (g : Object → Object) where
    pub change_at : (n : ℕ) (l : List Object) → Ascends n l → (i : ℕ) → i < length l → change (get_or l i none).number g l ≡ set l i (g (get_or l i none))
    change_at n [] r i h = absurd (omega arith)
    change_at n (o ∷ l) r zero h =
        rw (eq-eqb o.number o.number refl) (ap (λ z. g o ∷ z) (change_none o.number g l (at_low o.number (suc o.number) l (omega arith) r.1)))
    change_at n (o ∷ l) r (suc i) h =
        rw (ne_eqb o.number (get_or l i none).number (λ e. omega (arith, ascends_from (suc o.number) l r.1 i (omega arith))))
        (ap (λ z. o ∷ z) (change_at (suc o.number) l r.1 i (omega arith)))

  pub without_at : (n : ℕ) (l : List Object) → Ascends n l → (i : ℕ) → i < length l → without (get_or l i none).number l ≡ take i l ++ drop (suc i) l
  without_at n [] r i h = absurd (omega arith)
  without_at n (o ∷ l) r zero h = rw (eq-eqb o.number o.number refl) (without_none o.number l (at_low o.number (suc o.number) l (omega arith) r.1))
  without_at n (o ∷ l) r (suc i) h =
      rw (ne_eqb o.number (get_or l i none).number (λ e. omega (arith, ascends_from (suc o.number) l r.1 i (omega arith))))
      (ap (λ z. o ∷ z) (without_at (suc o.number) l r.1 i (omega arith)))

  -- ---- questions

  pub at_place : (n : ℕ) (l : List Object) → Ascends n l → (i : ℕ) → i < length l → at (get_or l i none).number l ≡ Some (get_or l i none)
  at_place n [] r i h = absurd (omega arith)
  at_place n (o ∷ l) r zero h = cond-true (is o.number o) _ _ (eq-eqb o.number o.number refl)
  at_place n (o ∷ l) r (suc i) h = at_tail (get_or l i none).number n (get_or l i none) o l r (at_place (suc o.number) l r.1 i (omega arith))

  pub at_between : (n : ℕ) (l : List Object) → Ascends n l → (x i : ℕ) → i ≤ length l → ((j : ℕ) → j < i → (get_or l j none).number < x) → (i < length l → x < (get_or l i none).number) → at x l ≡ None
  at_between n [] r x i h b s = refl
  at_between n (o ∷ l) r x zero h b s = at_low x o.number (o ∷ l) (s (omega arith)) (omega arith, r.1)
  at_between n (o ∷ l) r x (suc i) h b s =
      cond-false (is x o) _ _ (ne_eqb o.number x (λ e. omega (arith, b 0 (omega arith))))
      ∙ at_between (suc o.number) l r.1 x i (omega arith) (λ j q. b (suc j) (omega arith)) (λ q. s (omega arith))

  module _ (q : Object → Bool) where
    pub some_at_place : (l : List Object) (i : ℕ) → i < length l → q (get_or l i none) ≡ true → some_of q l ≡ true
    some_at_place [] i h e = absurd (omega arith)
    some_at_place (o ∷ l) zero h e = or_left (q o) (some_of q l) e
    some_at_place (o ∷ l) (suc i) h e = or_right (q o) (some_of q l) (some_at_place l i (omega arith) e)

    pub some_nowhere : (l : List Object) → ((j : ℕ) → j < length l → q (get_or l j none) ≡ false) → some_of q l ≡ false
    some_nowhere [] h = refl
    some_nowhere (o ∷ l) h = or_from (q o) (some_of q l) (h 0 (omega arith)) (some_nowhere l (λ j k. h (suc j) (omega arith)))
