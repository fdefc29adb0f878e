-- The test of a name, and the laws of `same_name`: it is an equivalence. Assumes nothing.
use Rattle.std.proofs.Common.{◌≡◌, ℕ, zero, suc, ◌<◌, ◌≤◌, Bool, true, false, eqb, ◌==◌, leb, List, [], ◌∷◌, length, sym, refl, ap, ◌∙◌, arith}
use Rattle.std.specs.Str.{bytes_eq}
use Rattle.std.proofs.lemmas.Slice.Eq.{bytes_eq-Decides}
use Rattle.std.specs.Bool.{MatchBool}
use Rattle.std.specs.List.{All, AllWithin, HoldsAt}
use Rattle.std.proofs.lemmas.List.Elements.{All-from_all_within}
use Rattle.std.proofs.lemmas.Bool.{both_ways, or_right, and_parts, and_from, and_left, and_right, eqb-true, eq-eqb, lt-leb, le-leb}
use Rattle.std.proofs.lemmas.Bool.Decides.{nat_tests}
use Rattle.vocab.specs.Names.{every, name_byte, name_or_none, same_name, valid_name}

-- ---- valid names
module _ (n : List ℕ) where
  pub valid_within : length n == 0 ≡ false → length n ≤ 24 → valid_name n ≡ every name_byte n
  unfolding valid_name
  valid_within h k = rw (le-leb 1 (length n) (grind (arith, nat_tests)), le-leb (length n) 24 k)

  pub valid_none : length n ≡ 0 → valid_name n ≡ false
  unfolding valid_name
  valid_none h = and_left (leb 1 (length n)) _ (lt-leb 1 (length n) (omega arith))

  pub valid_long : 24 < length n → valid_name n ≡ false
  unfolding valid_name
  valid_long h = and_right (leb 1 (length n)) _ (and_left (leb (length n) 24) _ (lt-leb (length n) 24 h))

  pub valid_short : valid_name n ≡ true → length n ≤ 24
  unfolding valid_name
  valid_short h = let w = (and_parts (leb (length n) 24) _ (and_parts (leb 1 (length n)) _ h).1).0 in grind (arith, nat_tests)

  pub named : valid_name n ≡ true → name_or_none n ≡ true
  unfolding name_or_none
  named h = or_right (eqb (length n) 0) _ h

-- the answer of a search for a byte that fails a test
module _ (p : ℕ → Bool) where
  every_passes : (n : List ℕ) → All (λ b. p b ≡ true) n → every p n ≡ true
  every_passes [] h = refl
  every_passes (b ∷ n) h = and_from (p b) (every p n) (h 0 0 (omega arith)) (every_passes n (λ k d q. h (suc k) d (omega arith)))

  one_fails : (n : List ℕ) (k : ℕ) → k < length n → HoldsAt (λ b. p b ≡ false) n k → every p n ≡ false
  one_fails [] k h e = absurd (omega arith)
  one_fails (b ∷ n) zero h e = and_left (p b) (every p n) (e 0)
  one_fails (b ∷ n) (suc k) h e = and_right (p b) (every p n) (one_fails n k (omega arith) e)

  pub every_from_cases : (n : List ℕ) (r : Bool) → MatchBool r (AllWithin (λ b. p b ≡ true) n 0 (length n)) ((k : ℕ) × (k < length n) × HoldsAt (λ b. p b ≡ false) n k) → r ≡ every p n
  every_from_cases n true h = sym (every_passes n (All-from_all_within (λ b. p b ≡ true) n h))
  every_from_cases n false h = sym (one_fails n h.0 h.1 h.2)

pub unnamed : name_or_none [] ≡ true
unfolding name_or_none
unnamed = refl

-- ---- the same name
pub same_refl : (a : List ℕ) → same_name a a ≡ true
unfolding same_name
same_refl [] = refl
same_refl (x ∷ a) = and_from (eqb x x) (bytes_eq a a) (eq-eqb x x refl) (same_refl a)

pub same_flip : (a b : List ℕ) → same_name a b ≡ same_name b a
unfolding same_name
same_flip [] [] = refl
same_flip [] (y ∷ b) = refl
same_flip (x ∷ a) [] = refl
same_flip (x ∷ a) (y ∷ b) = let ih = same_flip a b in grind (arith, nat_tests)

pub same_over : (a b c : List ℕ) → same_name a b ≡ true → same_name c b ≡ true → same_name c a ≡ true
unfolding same_name
same_over [] [] [] h k = refl
same_over [] [] (z ∷ c) h k = k
same_over [] (y ∷ b) c h k = absurd (both_ways false refl h)
same_over (x ∷ a) [] c h k = absurd (both_ways false refl h)
same_over (x ∷ a) (y ∷ b) [] h k = absurd (both_ways false refl k)
same_over (x ∷ a) (y ∷ b) (z ∷ c) h k =
    let h' = and_parts (eqb x y) (bytes_eq a b) h in
    let k' = and_parts (eqb z y) (bytes_eq c b) k in
    and_from (eqb z x) (bytes_eq c a) (eq-eqb z x (eqb-true z y k'.0 ∙ sym (eqb-true x y h'.0))) (same_over a b c h'.1 k'.1)

-- a name that is the same as a valid one is valid
pub same_valid : (a b : List ℕ) → same_name a b ≡ true → valid_name a ≡ true → valid_name b ≡ true
unfolding same_name
same_valid a b h k = ap valid_name (sym ((bytes_eq-Decides a b).0 h)) ∙ k
