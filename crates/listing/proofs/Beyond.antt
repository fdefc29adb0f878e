-- What lies beneath a directory behind one of its objects. Assumes nothing.
use Rattle.std.proofs.Common.{◌≡◌, ℕ, zero, suc, ◌<◌, Bool, true, false, ltb, List, [], ◌∷◌, ◌++◌, Some, None, sym, refl, ap, ◌∙◌, arith}
use Rattle.std.specs.List.{flat_map}
use Rattle.std.proofs.lemmas.Bool.{both_ways, and_parts, and_right, eqb-true, eq-eqb, ltb-true, lt-ltb, le-ltb, cond-true, cond-false}
use Rattle.std.proofs.lemmas.Bool.Decides.{nat_tests}
use Rattle.tree.specs.Law.{Lawful}
use Rattle.tree.specs.Questions.{child, child_of, dir_at}
use Rattle.tree.specs.Trees.{Ascends, Object, Tree, at, is, keep}
use Rattle.tree.proofs.Ascending.{ascends_at, at_tail}
use Rattle.tree.proofs.Asking.{child_none}
use Rattle.listing.specs.Listings.{beneath}
use Rattle.listing.specs.Walks.{behind, beyond}

-- all objects of a directory are behind a lower number
behind_low : (d a n : ℕ) (l : List Object) → a < n → Ascends n l → keep (behind d a) l ≡ keep (child_of d) l
behind_low d a n [] h r = refl
behind_low d a n (o ∷ l) h r =
    let ih = behind_low d a (suc o.number) l (omega (arith, r.0)) r.1 in
    let past = lt-ltb a o.number (omega (arith, r.0)) in
    grind (arith, nat_tests)

-- the first of them is the child, and the others are behind it
behind_none : (d a : ℕ) (l : List Object) → child d a l ≡ None → keep (behind d a) l ≡ []
behind_none d a [] h = refl
behind_none d a (o ∷ l) h = go (behind_none d a l) (behind d a o) refl
  where
    go : (child d a l ≡ None → keep (behind d a) l ≡ []) → (b : Bool) → behind d a o ≡ b → keep (behind d a) (o ∷ l) ≡ []
    go ih true e = let z : ◌≡◌ {A = ℕ} 0 1 = (let k : Some o.number ≡ None = rw e at h in cc) in absurd (omega arith)
    go ih false e = cond-false (behind d a o) _ _ e ∙ ih (rw e at h)

pub record First (d a c : ℕ) (l : List Object) : Type 0 where
  pub object : Object
  pub number : object.number ≡ c
  pub found : at c l ≡ Some object
  pub parent : object.parent ≡ d
  pub rest : keep (behind d a) l ≡ object ∷ keep (behind d c) l

pub behind_first : (d a c n : ℕ) (l : List Object) → Ascends n l → child d a l ≡ Some c → First d a c l
behind_first d a c n [] r h = let z : ◌≡◌ {A = ℕ} 0 1 = cc in absurd (omega arith)
behind_first d a c n (o ∷ l) r h = go (behind_first d a c (suc o.number) l r.1) (behind d a o) refl
  where
    go : (child d a l ≡ Some c → First d a c l) → (b : Bool) → behind d a o ≡ b → First d a c (o ∷ l)
    go ih true e =
        let same : o.number ≡ c = (let k : Some o.number ≡ Some c = rw e at h in cc) in
        let w = and_parts (child_of d o) (ltb a o.number) e in
        let low = ltb-true a o.number w.1 in
        record {
          object = o;
          number = same;
          found = cond-true (is c o) _ _ (eq-eqb o.number c same);
          parent = eqb-true o.parent d w.0;
          rest =
              cond-true (behind d a o) _ _ e
              ∙ ap (λ z. o ∷ z) (behind_low d a (suc o.number) l (omega arith) r.1 ∙ sym (cond-false (behind d c o) _ _ (and_right _ _ (le-ltb c o.number (omega arith))) ∙ behind_low d c (suc o.number) l (omega arith) r.1));
        }
    go ih false e =
        let w = ih (rw e at h) in
        let high = ascends_at c (suc o.number) w.object l r.1 w.found in
        record {
          object = w.object;
          number = w.number;
          found = at_tail c n w.object o l r w.found;
          parent = w.parent;
          rest = cond-false (behind d a o) _ _ e ∙ w.rest ∙ ap (λ z. w.object ∷ z) (sym (cond-false (behind d c o) _ _ (and_right _ _ (le-ltb c o.number (omega arith)))));
        }

module _ (l : List Object) where
  pub beyond_all : (k d n : ℕ) → 0 < n → Ascends n l → beyond k d 0 l ≡ beneath k d l
  beyond_all zero d n h r = refl
  beyond_all (suc k) d n h r = ap (flat_map (λ o. o.number ∷ beneath k o.number l)) (behind_low d 0 n l h r)

  pub beyond_none : (k d a : ℕ) → child d a l ≡ None → beyond k d a l ≡ []
  beyond_none zero d a h = refl
  beyond_none (suc k) d a h = ap (flat_map (λ o. o.number ∷ beneath k o.number l)) (behind_none d a l h)

  pub beyond_first : (k d a c : ℕ) → First d a c l → beyond (suc k) d a l ≡ c ∷ (beneath k c l ++ beyond (suc k) d c l)
  beyond_first k d a c w = ap (flat_map (λ o. o.number ∷ beneath k o.number l)) w.rest ∙ ap (λ x. x ∷ (beneath k x l ++ beyond (suc k) d c l)) w.number

-- nothing lies beneath what is no directory
pub beneath_file : (t : Tree) → Lawful t → (k c : ℕ) → dir_at c t.objects ≡ false → beneath k c t.objects ≡ []
beneath_file t w k c h =
    let l = t.objects in
    let alone : child c 0 l ≡ None = child_none c 0 2 l w.ascending (λ y q e p _. both_ways (dir_at c l) h (ap (λ d. dir_at d l) (sym p) ∙ (w.each y q e).home)) in
    sym (beyond_all l k c 2 (omega arith) w.ascending) ∙ beyond_none l k c 0 alone
