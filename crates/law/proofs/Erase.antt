-- The records of one object left out. Assumes nothing.
use Rattle.std.proofs.Common.{◌≡◌, ℕ, Bool, true, false, cond, not, eqb, List, [], ◌∷◌, length, sym, refl, ap, ◌∙◌, subst, arith, rules}
use Rattle.std.proofs.lemmas.Bool.{or_parts, or_from, eqb-true, ltb-true, lt-ltb, not-true, not_from_false}
use Rattle.std.proofs.lemmas.Bool.Decides.{nat_tests}
use Rattle.model.specs.Applying.{effect}
use Rattle.model.specs.Cancelling.{erase_object}
use Rattle.model.specs.Records.{Edit, Record, create, mkdir, object, remove, rename, rmdir, stamp_of, store}
use Rattle.tree.specs.Changes.{fresh, with_contents, with_place}
use Rattle.tree.specs.Questions.{child_of, has_child, placed}
use Rattle.tree.specs.Trees.{Object, change_one, higher, insert, is, keep, lower, some_of, without}
use Rattle.tree.proofs.Lists.{keep_keep, length_keep, some_append, some_keep, some_map_false}
use Rattle.tree.proofs.Objects.{Split, at_without, change_number, climbs_without, split_insert, split_keep, split_map, without_change, without_insert, without_own, without_own_change, without_own_insert}
use Rattle.vocab.specs.declared.kind.Kind.TheVariants.{Directory, File}
use Rattle.vocab.specs.declared.stamp.Stamp.{Stamp}
use Rattle.vocab.specs.Checks.{Holds}
use Rattle.law.proofs.Entering.{lands, lands_other}
use Rattle.law.proofs.Runs.{Passes, final, tests}

module _ (cap x : ℕ) (l : List Object) where
  free_without : (p : Object → Bool) → not (some_of p l) ≡ true → not (some_of p (without x l)) ≡ true
  free_without p h = not_from_false _ (some_keep p (λ o. not (is x o)) l (not-true _ h))

  new_without : (y p : ℕ) (n : List ℕ) → eqb y x ≡ false → eqb p x ≡ false → Holds (tests cap (mkdir y p n) l) → Holds (tests cap (mkdir y p n) (without x l))
  new_without y p n e f h = (
    rw (at_without x p l f) h.0,
    (
      free_without (placed p n) h.1.0,
      (
        lt-ltb (length (without x l)) cap (omega (arith, length_keep (λ o. not (is x o)) l, ltb-true (length l) cap h.1.1.0)),
        (h.1.1.1.0, (rw (at_without x y l e) h.1.1.1.1.0, tt)),
      ),
    ),
  )

  pub holds_without : (e : Edit) → eqb (object e) x ≡ false → lands x e ≡ false → has_child x (without x l) ≡ false → Holds (tests cap e l) → Holds (tests cap e (without x l))
  holds_without e a b c h = search (rules, new_without, at_without, free_without, climbs_without)

module _ (x : ℕ) (s : Stamp) where
  pub effect_without : (e : Edit) (l : List Object) → eqb (object e) x ≡ false → effect s e (without x l) ≡ without x (effect s e l)
  effect_without (mkdir y p n) l a = sym (without_insert x (fresh Directory p n y s) l a)
  effect_without (create y p n) l a = sym (without_insert x (fresh File p n y s) l a)
  effect_without (store y d t) l a = sym (without_change x y (with_contents d s) (λ o. refl) l)
  effect_without (remove y p n t) l a = keep_keep (λ o. not (is y o)) (λ o. not (is x o)) l
  effect_without (rmdir y p n) l a = keep_keep (λ o. not (is y o)) (λ o. not (is x o)) l
  effect_without (rename y p n q m) l a = sym (without_change x y (with_place q m) (λ o. refl) l)

  pub effect_own : (e : Edit) (l : List Object) → eqb (object e) x ≡ true → Split (without x l) → without x (effect s e l) ≡ without x l
  effect_own (mkdir y p n) l a k = without_own_insert x (fresh Directory p n y s) l a k
  effect_own (create y p n) l a k = without_own_insert x (fresh File p n y s) l a k
  effect_own (store y d t) l a k = rw (eqb-true y x a) (without_own_change x (with_contents d s) (λ o. refl) l)
  effect_own (remove y p n t) l a k = rw (eqb-true y x a) (without_own x l)
  effect_own (rmdir y p n) l a k = rw (eqb-true y x a) (without_own x l)
  effect_own (rename y p n q m) l a k = rw (eqb-true y x a) (without_own_change x (with_place q m) (λ o. refl) l)

  pub effect_split : (e : Edit) (l : List Object) → Split l → Split (effect s e l)
  effect_split (mkdir y p n) l k = split_insert (fresh Directory p n y s) l k
  effect_split (create y p n) l k = split_insert (fresh File p n y s) l k
  effect_split (store y d t) l k = split_map (change_one y (with_contents d s)) (change_number y (with_contents d s) (λ o. refl)) l k
  effect_split (remove y p n t) l k = split_keep (λ o. not (is y o)) l k
  effect_split (rmdir y p n) l k = split_keep (λ o. not (is y o)) l k
  effect_split (rename y p n q m) l k = split_map (change_one y (with_place q m)) (change_number y (with_place q m) (λ o. refl)) l k

  leaf_insert : (o : Object) (l : List Object) → eqb o.parent x ≡ false → has_child x l ≡ false → has_child x (insert o l) ≡ false
  leaf_insert o l a h =
      some_append (child_of x) (keep (lower o.number) l) (o ∷ keep (higher o.number) l) (some_keep (child_of x) (lower o.number) l h)
      (or_from (child_of x o) (some_of (child_of x) (keep (higher o.number) l)) a (some_keep (child_of x) (higher o.number) l h))

  leaf_change : (y : ℕ) (g : Object → Object) → ((o : Object) → eqb o.parent x ≡ false → eqb (g o).parent x ≡ false) → (o : Object) → child_of x o ≡ false → child_of x (change_one y g o) ≡ false
  leaf_change y g k o h = grind (arith, nat_tests, k o h, h)

  pub effect_leaf : (e : Edit) (l : List Object) → lands x e ≡ false → has_child x l ≡ false → has_child x (effect s e l) ≡ false
  effect_leaf (mkdir y p n) l a h = leaf_insert (fresh Directory p n y s) l a h
  effect_leaf (create y p n) l a h = leaf_insert (fresh File p n y s) l a h
  effect_leaf (store y d t) l a h = some_map_false (child_of x) (change_one y (with_contents d s)) (leaf_change y (with_contents d s) (λ o k. k)) l h
  effect_leaf (remove y p n t) l a h = some_keep (child_of x) (λ o. not (is y o)) l h
  effect_leaf (rmdir y p n) l a h = some_keep (child_of x) (λ o. not (is y o)) l h
  effect_leaf (rename y p n q m) l a h = some_map_false (child_of x) (change_one y (with_place q m)) (leaf_change y (with_place q m) (λ o k. a)) l h

pub erase : (cap x : ℕ) (rs : List Record) (l : List Object) → Split (without x l) → has_child x (without x l) ≡ false → some_of (lands_other x) rs ≡ false → Passes cap rs l
    → Passes cap (erase_object x rs) (without x l) × (final (erase_object x rs) (without x l) ≡ without x (final rs l))
erase cap x [] l k c n h = (tt, refl)
erase cap x (r ∷ rs) l k c n h = go (λ k c. erase cap x rs (effect (stamp_of r) r.edit l) k c (or_parts (lands_other x r) (some_of (lands_other x) rs) n).1 h.1) (eqb (object r.edit) x) refl
  where
    m : List Object
    m = effect (stamp_of r) r.edit l

    Goal : List Record → Type 0
    Goal us = Passes cap us (without x l) × (final us (without x l) ≡ without x (final rs (effect (stamp_of r) r.edit l)))

    go : (Split (without x m) → has_child x (without x m) ≡ false → Passes cap (erase_object x rs) (without x m) × (final (erase_object x rs) (without x m) ≡ without x (final rs m)))
        → (b : Bool) → eqb (object r.edit) x ≡ b → Goal (cond (not (eqb (object r.edit) x)) (r ∷ erase_object x rs) (erase_object x rs))
    go ih true e =
        let same : without x m ≡ without x l = effect_own x (stamp_of r) r.edit l e k in
        rw e (subst (λ z. Passes cap (erase_object x rs) z × (final (erase_object x rs) z ≡ without x (final rs m))) same (ih (subst Split (sym same) k) (subst (λ z. has_child x z ≡ false) (sym same) c)))
    go ih false e =
        let same : effect (stamp_of r) r.edit (without x l) ≡ without x m = effect_without x (stamp_of r) r.edit l e in
        let off : lands x r.edit ≡ false = rw e at (or_parts (lands_other x r) (some_of (lands_other x) rs) n).0 in
        let rest = ih (subst Split same (effect_split x (stamp_of r) r.edit (without x l) k)) (subst (λ z. has_child x z ≡ false) same (effect_leaf x (stamp_of r) r.edit (without x l) off c)) in
        rw e ((holds_without cap x l r.edit e off c h.0, subst (λ z. Passes cap (erase_object x rs) z) (sym same) rest.0), ap (final (erase_object x rs)) same ∙ rest.1)
