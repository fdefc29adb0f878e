-- The office's calls on a lawful tree. Assumes nothing.
use Rattle.std.proofs.Common.{◌≡◌, ℕ, suc, ◌<◌, Bool, true, false, eqb, List, [], ◌∷◌, Some, None, sym, refl, ap, ◌∙◌, ⊎_elim, arith, rules}
use Rattle.std.proofs.lemmas.Bool.{both_ways, or_cases, eqb-true, eq-eqb, cases_Bool, cond-true}
use Rattle.std.proofs.lemmas.Bool.Decides.{nat_tests}
use Rattle.tree.specs.Law.{Lawful}
use Rattle.tree.specs.Questions.{child_of, dir_at, has_child, is_dir, is_file, is_some}
use Rattle.tree.specs.Trees.{Ascends, Object, Tree, at, is, some_of}
use Rattle.tree.proofs.Ascending.{at_low, at_tail}
use Rattle.tree.proofs.Changed.{dir_file, file_some, dir_some}
use Rattle.tree.proofs.Means.{look_given}
use Rattle.vocab.specs.Checks.{judge}
use Rattle.model.specs.Applying.{stamped, stands}
use Rattle.model.specs.Office.{Call, bound, called, called_checks, called_tree, make_directory, make_file, remove_directory, remove_file, rename_object, stamp_at, store_into}

-- ---- what holds of a bound name, and of a file

some_stands : (q : Object → Bool) (n : ℕ) (l : List Object) → Ascends n l → some_of q l ≡ true → (y : ℕ) × (o : Object) × (at y l ≡ Some o) × (q o ≡ true)
some_stands q n [] r h = absurd (both_ways false refl h)
some_stands q n (p ∷ l) r h = go (some_stands q (suc p.number) l r.1) (q p) refl
  where
    go : (some_of q l ≡ true → (y : ℕ) × (o : Object) × (at y l ≡ Some o) × (q o ≡ true)) → (b : Bool) → q p ≡ b → (y : ℕ) × (o : Object) × (at y (p ∷ l) ≡ Some o) × (q o ≡ true)
    go ih true e = (p.number, p, cond-true (is p.number p) _ _ (eq-eqb p.number p.number refl), e)
    go ih false e = let v = ih (rw e at h) in (v.0, v.1, at_tail v.0 n v.1 p l r v.2, v.3)

stamped_own : (x : ℕ) (t : Tree) → is_some (at x t.objects) ≡ true → stamped (stamp_at x t) (at x t.objects) ≡ true
stamped_own x t h = grind (arith, nat_tests)

module _ (t : Tree) (w : Lawful t) where
  absent : (x : ℕ) → x < 2 → at x t.objects ≡ None
  absent x h = at_low x 2 t.objects h w.ascending

  bound_stands : (p : ℕ) (n : List ℕ) → is_some (at (bound p n t) t.objects) ≡ true → stands p n (at (bound p n t) t.objects) ≡ true
  bound_stands p n h = grind (arith, nat_tests, absent, look_given)

  file_childless : (x : ℕ) → is_file (at x t.objects) ≡ true → has_child x t.objects ≡ false
  file_childless x h = ⊎_elim (λ b. absurd (no_child (some_stands (child_of x) 2 t.objects w.ascending b))) (λ b. b) (cases_Bool (has_child x t.objects))
    where
      no_child : (y : ℕ) × (o : Object) × (at y t.objects ≡ Some o) × (child_of x o ≡ true) → ⊥
      no_child v =
          let home : dir_at x t.objects ≡ true = ap (λ p. dir_at p t.objects) (sym (eqb-true v.1.parent x v.3)) ∙ (w.each v.0 v.1 v.2).home in
          ⊎_elim
          (λ e. both_ways (is_file (at x t.objects)) (ap (λ y. is_file (at y t.objects)) (eqb-true x 1 e) ∙ ap is_file (absent 1 (omega arith))) h)
          (λ e. both_ways (is_dir (at x t.objects)) (dir_file (at x t.objects) h) e)
          (or_cases (eqb x 1) _ home)

-- ---- the order of the checks

module _ (t : Tree) (w : Lawful t) where
  pub office_order : (c : Call) → called c t ≡ judge (called_checks c t) t (called_tree c t, tt)
  office_order (make_directory p n) = search rules
  office_order (make_file p n) = search rules
  office_order (store_into x c) =
      ⊎_elim
      (λ h. let s = stamped_own x t (file_some (at x t.objects) h) in search rules)
      (λ h. search rules)
      (cases_Bool (is_file (at x t.objects)))
  office_order (remove_file p n) =
      let x = bound p n t in
      ⊎_elim
      (λ h.
      let there = file_some (at x t.objects) h in
      let place = bound_stands t w p n there in
      let own = stamped_own x t there in
      let leaf = file_childless t w x h in
      search rules)
      (λ h. search rules)
      (cases_Bool (is_file (at x t.objects)))
  office_order (remove_directory p n) =
      let x = bound p n t in
      ⊎_elim
      (λ h. let place = bound_stands t w p n (ap is_some (dir_some (at x t.objects) h).1) in search rules)
      (λ h. search rules)
      (cases_Bool (is_dir (at x t.objects)))
  office_order (rename_object p n q m) =
      let x = bound p n t in
      ⊎_elim
      (λ h. let place = bound_stands t w p n h in search rules)
      (λ h. search rules)
      (cases_Bool (is_some (at x t.objects)))
