-- What records and the office's calls keep: the law of trees, and numbers below the next one. Assumes nothing.
use Rattle.std.proofs.Common.{◌≡◌, ℕ, ◌+◌, ◌^◌, ◌<◌, ◌≤◌, true, List, [], ◌∷◌, Ok, Err, Result, sym, refl, ap, ◌∙◌, subst, ⊎_elim, arith, rules}
use Rattle.std.proofs.lemmas.Bool.{cases_eq, cond_both}
use Rattle.tree.specs.Changes.{Changed, added, dropped, fresh, moved, put, with_contents, with_next, with_place}
use Rattle.tree.specs.Law.{Lawful, StampFits}
use Rattle.tree.specs.Questions.{is_some}
use Rattle.tree.specs.Trees.{Object, Tree, at, change, insert, with_objects, without}
use Rattle.tree.proofs.Ascending.{at_insert_other}
use Rattle.tree.proofs.Changed.{at_question, some_some}
use Rattle.tree.proofs.Climbing.{without_follows}
use Rattle.tree.proofs.Keeping.{added_lawful, dropped_lawful, moved_lawful, put_lawful}
use Rattle.vocab.specs.declared.kind.Kind.TheVariants.{Directory, File}
use Rattle.vocab.specs.declared.refusal.Refusal.{Refusal}
use Rattle.vocab.specs.declared.stamp.Stamp.{Stamp}
use Rattle.vocab.specs.Buffers.{fits}
use Rattle.vocab.specs.Checks.{Check, Holds, judge}
use Rattle.vocab.specs.Limits.{temporary}
use Rattle.vocab.proofs.Judging.{judge_keeps}
use Rattle.model.specs.Applying.{all_checks, applied, asked, effect, first_check, own_checks}
use Rattle.model.specs.Office.{Call, call_checks, called, edit_of, office_record, raised, spends}
use Rattle.model.specs.Records.{Edit, Record, create, makes, mkdir, object, remove, rename, rmdir, stamp_of, store}
use Rattle.model.specs.Theorems.{NumbersBelowNext}
use Rattle.model.proofs.Ordering.{applied_in_order}

pub first_keeps : (P : Tree → Type 0) (cs : List Check) (t : Tree) (c : Changed) → P t → (Holds cs → P c.0) → P (first_check cs t c).0
first_keeps P [] t c p q = q tt
first_keeps P (k ∷ cs) t c p q = cond_both k.holds (first_check cs t c) (t, Err k.else) (λ z. P z.0) (λ e. first_keeps P cs t c p (λ h. q (e, h))) (λ _. p)

-- ---- records

module _ (t : Tree) where
  pub next_kept : (r : Record) → (applied r t).0.next ≡ t.next
  next_kept r = ap (λ c. c.0.next) (applied_in_order t r) ∙ judge_keeps (λ u. u.next ≡ t.next) (all_checks r.edit t) t (with_objects t (effect (stamp_of r) r.edit t.objects), tt) refl (λ h. refl)

  pub applied_lawful : Lawful t → (s : Stamp) (e : Edit) → (makes e ≡ true → object e < 2 ^ 32) → StampFits s → Lawful (first_check (own_checks e t) t (asked s e t)).0
  applied_lawful w s (mkdir x p n) high fits = first_keeps Lawful (own_checks (mkdir x p n) t) t (added t Directory p n x s) w (λ h. added_lawful t w Directory p n x s (high refl) fits)
  applied_lawful w s (create x p n) high fits = first_keeps Lawful (own_checks (create x p n) t) t (added t File p n x s) w (λ h. added_lawful t w File p n x s (high refl) fits)
  applied_lawful w s (store x c e) high fits = first_keeps Lawful (own_checks (store x c e) t) t (put t x c s) w (λ h. put_lawful t w x c s fits)
  applied_lawful w s (remove x p n e) high fits = first_keeps Lawful (own_checks (remove x p n e) t) t (dropped t x) w (λ h. dropped_lawful t w x)
  applied_lawful w s (rmdir x p n) high fits = first_keeps Lawful (own_checks (rmdir x p n) t) t (dropped t x) w (λ h. dropped_lawful t w x)
  applied_lawful w s (rename x p n q m) high fits = first_keeps Lawful (own_checks (rename x p n q m) t) t (moved t x q m) w (λ h. moved_lawful t w x q m)

abbrev Under : ℕ → List Object → Type 0
Under b l = (x : ℕ) → is_some (at x l) ≡ true → x < b

module _ (b : ℕ) (l : List Object) (low : Under b l) where
  insert_under : (o : Object) → o.number < b → Under b (insert o l)
  insert_under o h x k = ⊎_elim (λ e. omega arith) (λ ne. low x (ap is_some (sym (at_insert_other o l x ne)) ∙ k)) (cases_eq o.number x)

  change_under : (y : ℕ) (g : Object → Object) → ((o : Object) → (g o).number ≡ o.number) → Under b (change y g l)
  change_under y g same x k = low x (sym (at_question y g same l is_some (λ o. refl) x) ∙ k)

  without_under : (y : ℕ) → Under b (without y l)
  without_under y x k = let v = some_some (at x (without y l)) k in low x (ap is_some (without_follows y l x v.0 v.1).1)

  pub effect_under : (s : Stamp) (e : Edit) → (makes e ≡ true → object e < b) → Under b (effect s e l)
  effect_under s (mkdir x p n) h = insert_under (fresh Directory p n x s) (h refl)
  effect_under s (create x p n) h = insert_under (fresh File p n x s) (h refl)
  effect_under s (store x c e) h = change_under x (with_contents c s) (λ o. refl)
  effect_under s (remove x p n e) h = without_under x
  effect_under s (rmdir x p n) h = without_under x
  effect_under s (rename x p n q m) h = change_under x (with_place q m) (λ o. refl)

-- ---- the office's calls

raised_lawful : (k : ℕ) (u : Tree) (a : Result (Unit {0}) Refusal) → Lawful u → u.next + k ≤ temporary → Lawful (raised k (u, a)).0
raised_lawful k u (Ok z) w h = record { next_low = omega (arith, w.next_low); next_high = h; ascending = w.ascending; each = w.each; names = w.names; room = w.room }
raised_lawful k u (Err e) w h = w

pub raised_keeps : (P : Tree → Type 0) (k : ℕ) (cs : List Check) (t u : Tree) → P t → (Holds cs → P (with_next u (u.next + k))) → P (raised k (judge cs t (u, tt))).0
raised_keeps P k [] t u p q = q tt
raised_keeps P k (c ∷ cs) t u p q = cond_both c.holds (judge cs t (u, tt)) (t, Err c.else) (λ z. P (raised k z).0) (λ e. raised_keeps P k cs t u p (λ h. q (e, h))) (λ _. p)

module _ (t : Tree) where
  pub room_above : (c : Call) → t.next ≤ temporary → Holds (call_checks c t) → t.next + spends c ≤ temporary
  room_above c top h = search rules

  made_next : (c : Call) → makes (edit_of t.next c t) ≡ true → object (edit_of t.next c t) < t.next + spends c
  made_next c e = search rules

  pub office_lawful : Lawful t → (c : Call) → Lawful (called c t).0
  office_lawful w c =
      let r = office_record c t in
      first_keeps Lawful (call_checks c t) t (raised (spends c) (applied r t)) w
      (λ h.
      let top = room_above c w.next_high h in
      raised_lawful (spends c) (applied r t).0 (applied r t).1
      (applied_lawful t w (stamp_of r) r.edit (λ e. omega (arith, made_next c e, top)) (omega arith, omega (arith, w.next_high)))
      (omega (arith, next_kept t r, top)))

  pub office_numbers : NumbersBelowNext t → (c : Call) → NumbersBelowNext (called c t).0
  office_numbers low c =
      let r = office_record c t in
      let k = spends c in
      first_keeps NumbersBelowNext (call_checks c t) t (raised k (applied r t)) low
      (λ h.
      subst (λ z. NumbersBelowNext (raised k z).0) (sym (applied_in_order t r))
      (raised_keeps NumbersBelowNext k (all_checks r.edit t) t (with_objects t (effect (stamp_of r) r.edit t.objects)) low
      (λ g. effect_under (t.next + k) t.objects (λ x e. omega (arith, low x e)) (stamp_of r) r.edit (made_next c))))
