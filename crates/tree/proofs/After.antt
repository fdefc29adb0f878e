-- Questions of a tree after a change that was accepted. Assumes nothing.
use Rattle.std.proofs.Common.{◌≡◌, ℕ, Bool, true, false, cond, ◌&&◌, eqb, List, [], ◌∷◌, ◌++◌, Some, None, Option, sym, refl, ap, ◌∙◌, ⊎_elim, arith}
use Rattle.std.specs.Option.{option_map}
use Rattle.std.proofs.lemmas.Bool.{both_ways, or_parts, ne_eqb, cases_eq, cases_Bool, cond-true, cond-false, not-true}
use Rattle.vocab.specs.declared.kind.Kind.{Kind}
use Rattle.vocab.specs.declared.stamp.Stamp.{Stamp}
use Rattle.vocab.specs.Checks.{Check, Holds}
use Rattle.vocab.specs.Names.{same_name}
use Rattle.vocab.proofs.Judging.{judge_accepts, judge_passes}
use Rattle.tree.specs.Changes.{Changed, add_checks, added, change_if, drop_checks, dropped, fresh, move_checks, moved, put, put_checks, with_contents, with_place}
use Rattle.tree.specs.Law.{Lawful}
use Rattle.tree.specs.Questions.{look, placed, taken}
use Rattle.tree.specs.Theorems.{Accepted, unless}
use Rattle.tree.specs.Trees.{Object, Tree, at, change, higher, insert, is, keep, lower, with_objects, without}
use Rattle.tree.proofs.Ascending.{at_insert_own, at_without_own, split_ascends}
use Rattle.tree.proofs.Asking.{look_found, placed_alike}
use Rattle.tree.proofs.Changed.{at_own, some_some}
use Rattle.tree.proofs.Keeping.{dropped_lawful, moved_lawful}
use Rattle.tree.proofs.Leaving.{dropped_rest, moved_rest}
use Rattle.tree.proofs.Lists.{some_keep, some_weaker}
use Rattle.tree.proofs.Means.{look_given, look_nobody}
use Rattle.tree.proofs.Objects.{Split, change_number}

-- the checks of a change that was accepted, and the objects after it
pub accepted : (t : Tree) (cs : List Check) (l : List Object) → Accepted (change_if t cs l) → Holds cs × ((change_if t cs l).0 ≡ with_objects t l)
accepted t cs l h = let w = judge_accepts cs t (with_objects t l, tt) tt h in (w, ap (λ (z : Changed). z.0) (judge_passes cs t (with_objects t l, tt) w))

-- what is asked of the objects
pub asked : {A : Type 0} (f : List Object → A) (t : Tree) (cs : List Check) (l : List Object) → Accepted (change_if t cs l) → f (change_if t cs l).0.objects ≡ f l
asked f t cs l h = ap (λ (u : Tree). f u.objects) (accepted t cs l h).1

-- ---- look, where an object is put in
module _ (r : ℕ) (m : List ℕ) where
  look_append : (a b : List Object) → taken r m a ≡ false → look r m (a ++ b) ≡ look r m b
  look_append [] b h = refl
  look_append (o ∷ a) b h = let w = or_parts (placed r m o) (taken r m a) h in rw w.0 (look_append a b w.1)

  look_past : (o : Object) (a b : List Object) → placed r m o ≡ false → look r m (a ++ (o ∷ b)) ≡ look r m (a ++ b)
  look_past o [] b h = cond-false (placed r m o) _ _ h
  look_past o (q ∷ a) b h = ap (cond (placed r m q) (Some q.number)) (look_past o a b h)

  pub look_insert : (o : Object) (l : List Object) → Split l → taken o.parent o.name l ≡ false → look r m (insert o l) ≡ cond (placed r m o) (Some o.number) (look r m l)
  look_insert o l s free = go (placed r m o) refl
    where
      B : List Object
      B = keep (lower o.number) l

      A : List Object
      A = keep (higher o.number) l

      go : (b : Bool) → placed r m o ≡ b → look r m (insert o l) ≡ cond (placed r m o) (Some o.number) (look r m l)
      go true e =
          let none : taken r m l ≡ false = some_weaker (placed o.parent o.name) (placed r m) (λ q f. ⊎_elim (λ g. absurd (both_ways (placed o.parent o.name q) f (placed_alike r m o q e g))) (λ g. g) (cases_Bool (placed r m q))) l free in
          look_append B (o ∷ A) (some_keep (placed r m) (lower o.number) l none) ∙ cond-true (placed r m o) _ _ e ∙ sym (cond-true (placed r m o) _ _ e)
      go false e = look_past o B A e ∙ ap (look r m) (s o.number) ∙ sym (cond-false (placed r m o) _ _ e)

  -- where an object stays in its place
  pub look_change : (x : ℕ) (g : Object → Object) → ((o : Object) → (g o).number ≡ o.number) → ((o : Object) → placed r m (g o) ≡ placed r m o) → (l : List Object) → look r m (change x g l) ≡ look r m l
  look_change x g same place [] = refl
  look_change x g same place (o ∷ l) = rw (change_number x g same o, pick (is x o), look_change x g same place l)
    where
      pick : (b : Bool) → placed r m (cond b (g o) o) ≡ placed r m o
      pick true = place o
      pick false = refl

-- ---- look in two lawful trees that differ at x alone
abbrev pub placed_at : ℕ → List ℕ → Option Object → Bool
placed_at r m None = false
placed_at r m (Some o) = placed r m o

module _ (t u : Tree) (v : Lawful t) (w : Lawful u) (x : ℕ) (other : (y : ℕ) → eqb y x ≡ false → at y u.objects ≡ at y t.objects) (r : ℕ) (m : List ℕ) where
  pub look_but_for : look r m u.objects ≡ cond (placed_at r m (at x u.objects)) (Some x) (unless x (look r m t.objects))
  look_but_for = go (placed_at r m (at x u.objects)) refl
    where
      here : (q : Option Object) → at x u.objects ≡ q → placed_at r m q ≡ true → look r m u.objects ≡ Some x
      here None e f = absurd (both_ways false refl f)
      here (Some o) e f = look_found u w r m x o e f

      old : placed_at r m (at x u.objects) ≡ false → (y : ℕ) (o : Object) → at y u.objects ≡ Some o → placed r m o ≡ true → (eqb y x ≡ false) × (look r m t.objects ≡ Some y)
      old f y o e g =
          ⊎_elim
          (λ q. absurd (both_ways (placed_at r m (at x u.objects)) f (ap (λ z. placed_at r m (at z u.objects)) (sym q) ∙ ap (placed_at r m) e ∙ g)))
          (λ ne. let d = ne_eqb y x ne in (d, look_found t v r m y o (sym (other y d) ∙ e) g))
          (cases_eq y x)

      gone : placed_at r m (at x u.objects) ≡ false → ((y : ℕ) → eqb y x ≡ false → look r m t.objects ≡ Some y → ⊥) → look r m u.objects ≡ None
      gone f h = look_nobody r m 2 u.objects w.ascending (λ y o e g. let k = old f y o e g in h y k.0 k.1)

      rest : placed_at r m (at x u.objects) ≡ false → (q : Option ℕ) → look r m t.objects ≡ q → look r m u.objects ≡ unless x q
      rest f None e = gone f (λ y d g. let z : None ≡ Some y = sym e ∙ g in let k : ◌≡◌ {A = ℕ} 0 1 = cc in omega arith)
      rest f (Some z) e = same (eqb z x) refl
        where
          same : (b : Bool) → eqb z x ≡ b → look r m u.objects ≡ cond (eqb z x) None (Some z)
          same true d = gone f (λ y c g. let k : z ≡ y = cc in both_ways (eqb y x) c (ap (λ i. eqb i x) (sym k) ∙ d)) ∙ sym (cond-true (eqb z x) _ _ d)
          same false d = let k = look_given r m 2 t.objects v.ascending z e in look_found u w r m z k.0 (other z d ∙ k.1) k.2 ∙ sym (cond-false (eqb z x) _ _ d)

      go : (b : Bool) → placed_at r m (at x u.objects) ≡ b → look r m u.objects ≡ cond (placed_at r m (at x u.objects)) (Some x) (unless x (look r m t.objects))
      go true f = here (at x u.objects) refl f ∙ sym (cond-true (placed_at r m (at x u.objects)) _ _ f)
      go false f = rest f (look r m t.objects) refl ∙ sym (cond-false (placed_at r m (at x u.objects)) _ _ f)

-- ---- the changes
module _ (t : Tree) (k : Kind) (p : ℕ) (n : List ℕ) (x : ℕ) (s : Stamp) (a : Accepted (added t k p n x s)) where
  pub at_added : at x (added t k p n x s).0.objects ≡ Some (fresh k p n x s)
  at_added = asked (at x) t (add_checks t p n x) (insert (fresh k p n x s) t.objects) a ∙ at_insert_own (fresh k p n x s) t.objects

  pub look_added : Lawful t → (r : ℕ) (m : List ℕ) → look r m (added t k p n x s).0.objects ≡ cond (placed r m (fresh k p n x s)) (Some x) (look r m t.objects)
  look_added w r m =
      let h = (accepted t (add_checks t p n x) (insert (fresh k p n x s) t.objects) a).0 in
      asked (look r m) t (add_checks t p n x) (insert (fresh k p n x s) t.objects) a
      ∙ look_insert r m (fresh k p n x s) t.objects (split_ascends 2 t.objects w.ascending) (not-true _ h.1.1.1.0)

module _ (t : Tree) (x : ℕ) (c : List ℕ) (s : Stamp) (a : Accepted (put t x c s)) where
  pub at_put : at x (put t x c s).0.objects ≡ option_map (with_contents c s) (at x t.objects)
  at_put = asked (at x) t (put_checks t x c) (change x (with_contents c s) t.objects) a ∙ at_own x (with_contents c s) (λ o. refl) t.objects

  pub look_put : (r : ℕ) (m : List ℕ) → look r m (put t x c s).0.objects ≡ look r m t.objects
  look_put r m = asked (look r m) t (put_checks t x c) (change x (with_contents c s) t.objects) a ∙ look_change r m x (with_contents c s) (λ o. refl) (λ o. refl) t.objects

module _ (t : Tree) (x : ℕ) (a : Accepted (dropped t x)) where
  pub at_dropped : at x (dropped t x).0.objects ≡ None
  at_dropped = asked (at x) t (drop_checks t x) (without x t.objects) a ∙ at_without_own x t.objects

  pub look_dropped : Lawful t → (r : ℕ) (m : List ℕ) → look r m (dropped t x).0.objects ≡ unless x (look r m t.objects)
  look_dropped w r m =
      look_but_for t (dropped t x).0 w (dropped_lawful t w x) x (dropped_rest t x).others r m
      ∙ ap (λ q. cond (placed_at r m q) (Some x) (unless x (look r m t.objects))) at_dropped

module _ (t : Tree) (x q : ℕ) (n : List ℕ) (a : Accepted (moved t x q n)) where
  pub at_moved : at x (moved t x q n).0.objects ≡ option_map (with_place q n) (at x t.objects)
  at_moved = asked (at x) t (move_checks t x q n) (change x (with_place q n) t.objects) a ∙ at_own x (with_place q n) (λ o. refl) t.objects

  pub look_moved : Lawful t → (r : ℕ) (m : List ℕ) → look r m (moved t x q n).0.objects ≡ cond (eqb q r && same_name n m) (Some x) (unless x (look r m t.objects))
  look_moved w r m =
      let h = (accepted t (move_checks t x q n) (change x (with_place q n) t.objects) a).0 in
      let v = some_some (at x t.objects) h.1.0 in
      look_but_for t (moved t x q n).0 w (moved_lawful t w x q n) x (moved_rest t x q n).others r m
      ∙ ap (λ z. cond (placed_at r m z) (Some x) (unless x (look r m t.objects))) (at_moved ∙ ap (option_map (with_place q n)) v.1)
