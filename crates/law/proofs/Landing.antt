-- What records land on, and what holds of each record of a log. Assumes nothing.
use Rattle.std.proofs.Common.{◌≡◌, ℕ, ◌+◌, ◌≤◌, Bool, true, false, cond, not, ◌&&◌, eqb, ◌⊎◌, List, [], ◌∷◌, ◌++◌, sym, refl, ap, ◌∙◌, subst, inl, inr, arith, rules}
use Rattle.std.specs.List.{AllByRecursion}
use Rattle.std.proofs.ByRecursion.{All-push}
use Rattle.std.proofs.lemmas.Bool.{both_ways, or_from, or_cases, and_right, eqb-true, ne_eqb}
use Rattle.vocab.specs.Limits.{temporary}
use Rattle.tree.proofs.Ascending.{at_without_own}
use Rattle.std.proofs.lemmas.Bool.Decides.{nat_tests}
use Rattle.model.proofs.Each.{all_keep}
use Rattle.model.specs.Applying.{effect}
use Rattle.model.specs.Cancelling.{born, erase_object, erase_store, named_by_other}
use Rattle.model.specs.Records.{Edit, Record, create, mkdir, object, remove, rename, rmdir, store}
use Rattle.tree.specs.Changes.{fresh, with_contents, with_place}
use Rattle.tree.specs.Questions.{dir_at, is_dir, is_file}
use Rattle.tree.specs.Trees.{Object, at, insert, some_of, without}
use Rattle.tree.proofs.Changed.{at_other, at_question, dir_file}
use Rattle.tree.proofs.Lists.{some_append, some_keep}
use Rattle.tree.proofs.Objects.{at_without}
use Rattle.vocab.specs.declared.kind.Kind.TheVariants.{Directory, File}
use Rattle.vocab.specs.declared.stamp.Stamp.{Stamp}
use Rattle.vocab.specs.Checks.{Holds}
use Rattle.law.specs.Spells.{Numbered}
use Rattle.law.proofs.Delay.{at_insert}
use Rattle.law.proofs.Entering.{births, cancel, expected, lands, lands_other}
use Rattle.law.proofs.Lonely.{all_erase, some_erase}
use Rattle.law.proofs.Runs.{rec, tests}
use Rattle.law.proofs.Settle.{Known, Knows}

-- a file was there before, or is born
module _ (cap x : ℕ) (s : Stamp) (l : List Object) where
  insert_file : (o : Object) → is_file (at x (insert o l)) ≡ true → (is_file (at x l) ≡ true) ⊎ (eqb o.number x ≡ true)
  insert_file o h = grind (arith, nat_tests, at_insert)

  without_file : (y : ℕ) → is_file (at x (without y l)) ≡ true → is_file (at x l) ≡ true
  without_file y h = grind (arith, nat_tests, at_without_own, at_without)

  pub file_before : (e : Edit) → Holds (tests cap e l) → is_file (at x (effect s e l)) ≡ true → (is_file (at x l) ≡ true) ⊎ (births x e ≡ true)
  file_before (mkdir y p n) h f = insert_file (fresh Directory p n y s) f
  file_before (create y p n) h f = insert_file (fresh File p n y s) f
  file_before (store y c e) h f = go (eqb x y) refl
    where
      go : (b : Bool) → eqb x y ≡ b → (is_file (at x l) ≡ true) ⊎ (false ≡ true)
      go true g = inl (subst (λ k. is_file (at k l) ≡ true) (sym (eqb-true x y g)) h.0)
      go false g = inl (sym (ap is_file (at_other y (with_contents c s) (λ o. refl) l x g)) ∙ f)
  file_before (remove y p n e) h f = inl (without_file y f)
  file_before (rmdir y p n) h f = inl (without_file y f)
  file_before (rename y p n q m) h f = inl (sym (at_question y (with_place q m) (λ o. refl) l is_file (λ o. refl) x) ∙ f)

  -- nothing is put under a file
  under : (p : ℕ) → 2 ≤ x → dir_at p l ≡ true → is_file (at x l) ≡ true → eqb p x ≡ false
  under p two d f = ne_eqb p x (λ e. elim (or_cases (eqb p 1) (is_dir (at p l)) d) [ inl k ↦ omega (arith, eqb-true p 1 k) | inr k ↦ both_ways (is_dir (at x l)) (dir_file (at x l) f) (subst (λ z. is_dir (at z l) ≡ true) e k) ])

  pub lands_file : (e : Edit) → 2 ≤ x → Holds (tests cap e l) → is_file (at x l) ≡ true → lands x e ≡ false
  lands_file e two h f = search rules

module _ (x : ℕ) (t : ℕ → Bool) (rs : List Record) (none : some_of (lands_other x) rs ≡ false) where
  landing_push : (us : List Record) (r : Record) → some_of (lands_other x) us ≡ false → lands_other x r ≡ false → some_of (lands_other x) (us ++ (r ∷ [])) ≡ false
  landing_push us r h k = some_append (lands_other x) us (r ∷ []) h (or_from (lands_other x r) false k refl)

  pub landing_cancel : (s : Stamp) (e : Edit) → lands_other x (rec s e) ≡ false → some_of (lands_other x) (cancel t rs (rec s e)) ≡ false
  landing_cancel s e k = search (rules, landing_push, some_erase, some_keep)

-- what holds of each record holds after the record e is entered
module _ (P : Edit → Type 0) (t : ℕ → Bool) (rs : List Record) (each : AllByRecursion (λ r. P r.edit) rs) where
  abbrev pub Free : Edit → Type 0
  Free (mkdir y p n) = P (mkdir y p n)
  Free (create y p n) = P (create y p n)
  Free (store y c e) = (f : Stamp) → P (store y c f)
  Free (remove y p n e) = (f : Stamp) → P (remove y p n f)
  Free (rmdir y p n) = P (rmdir y p n)
  Free (rename y p n q m) = P (rename y p n q m)

  pub all_cancel : (s : Stamp) (e : Edit) → Free e → AllByRecursion (λ r. P r.edit) (cancel t rs (rec s e))
  all_cancel s (mkdir y p n) k = All-push (λ r. P r.edit) rs (rec s (mkdir y p n)) each k
  all_cancel s (create y p n) k = All-push (λ r. P r.edit) rs (rec s (create y p n)) each k
  all_cancel s (store y c e) k = All-push (λ r. P r.edit) (erase_store y rs) (rec s (store y c (expected y e rs))) (all_erase (λ r. P r.edit) y rs each) (k (expected y e rs))
  all_cancel s (remove y p n e) k = go (t y)
    where
      go : (b : Bool) → AllByRecursion (λ r. P r.edit) (cond b (erase_object y rs) (erase_store y rs ++ (rec s (remove y p n (expected y e rs)) ∷ [])))
      go true = all_keep (λ r. P r.edit) (λ r. not (eqb (object r.edit) y)) rs each
      go false = All-push (λ r. P r.edit) (erase_store y rs) (rec s (remove y p n (expected y e rs))) (all_erase (λ r. P r.edit) y rs each) (k (expected y e rs))
  all_cancel s (rmdir y p n) k = go (t y && not (named_by_other y rs))
    where
      go : (b : Bool) → AllByRecursion (λ r. P r.edit) (cond b (erase_object y rs) (rs ++ (rec s (rmdir y p n) ∷ [])))
      go true = all_keep (λ r. P r.edit) (λ r. not (eqb (object r.edit) y)) rs each
      go false = All-push (λ r. P r.edit) rs (rec s (rmdir y p n)) each k
  all_cancel s (rename y p n q m) k = All-push (λ r. P r.edit) rs (rec s (rename y p n q m)) each k

pub free_knows : (m n : ℕ) (e : Edit) → Knows m n e → Free (Knows m n) (born 0) [] tt e
free_knows m n e k = search rules

-- nothing is under a number that no record knows yet
fresh_lands : (m n x : ℕ) → ((p : ℕ) → Known m n p → eqb p x ≡ false) → (e : Edit) → Knows m n e → lands x e ≡ false
fresh_lands m n x k e h = search rules

pub fresh_landings : (m n x : ℕ) → ((p : ℕ) → Known m n p → eqb p x ≡ false) → (rs : List Record) → AllByRecursion (λ r. Knows m n r.edit) rs → some_of (lands_other x) rs ≡ false
fresh_landings m n x k [] h = refl
fresh_landings m n x k (r ∷ rs) h = or_from (lands_other x r) (some_of (lands_other x) rs) (and_right (not (eqb (object r.edit) x)) (lands x r.edit) (fresh_lands m n x k r.edit h.0)) (fresh_landings m n x k rs h.1)

pub born_is : (n x : ℕ) (e : Edit) → Numbered n e → births x e ≡ true → (x ≡ temporary + n) × (eqb (object e) x ≡ true)
born_is n x e k h = search rules
