-- Stamps that are used once: what a passing log says of the files that it touches. Assumes nothing.
--     Has x t l         the objects l have x, with stamp t
--     Late e            what e makes has a temporary number
--     Used Old l        each stamp of l is old
--     Agree seen l      where both have an object with one stamp, both have its body
--     Spans a m n r     r is by a, with a serial above m and at most n
use Rattle.std.proofs.Common.{◌≡◌, ℕ, ◌+◌, ◌<◌, ◌≤◌, true, false, not, eqb, ltb, leb, ◌⊎◌, List, [], ◌∷◌, map, Some, None, Ok, Option, sym, refl, ap, ◌∙◌, subst, inl, inr, arith, rules}
use Rattle.std.specs.List.{AllByRecursion}
use Rattle.std.proofs.lemmas.Bool.{and_parts, and_left, eqb-true, eqb-false, ne_eqb, lt-leb, cond-false}
use Rattle.std.proofs.lemmas.Option.{none-some}
use Rattle.std.proofs.lemmas.Bool.Decides.{nat_tests}
use Rattle.model.proofs.Each.{all_keep}
use Rattle.model.specs.Applying.{effect, same_stamp, stamped}
use Rattle.model.specs.Cancelling.{born}
use Rattle.model.specs.Records.{Edit, Record, create, mkdir, remove, rename, rmdir, stamp_of, store, stores}
use Rattle.model.specs.Replaying.{replay, settle, settled, settled_edit}
use Rattle.tree.specs.Changes.{fresh, with_contents, with_place}
use Rattle.tree.specs.Questions.{is_some}
use Rattle.tree.specs.Trees.{Object, Tree, at, change, insert, is, without}
use Rattle.tree.proofs.Ascending.{at_insert_own, at_without_own}
use Rattle.tree.proofs.Changed.{at_changed, at_other}
use Rattle.tree.proofs.Objects.{at_without}
use Rattle.vocab.specs.declared.kind.Kind.TheVariants.{Directory, File}
use Rattle.vocab.specs.declared.stamp.Stamp.{Stamp}
use Rattle.vocab.specs.Checks.{Holds}
use Rattle.vocab.specs.Limits.{temporary}
use Rattle.law.proofs.Awaiting.{awaited, awaits, sooner}
use Rattle.law.proofs.Delay.{at_insert}
use Rattle.law.proofs.Entering.{births}
use Rattle.law.proofs.Knowing.{all_change, all_insert, at_all}
use Rattle.law.proofs.Runs.{Passes, final, run_passes, tests}
use Rattle.law.proofs.Settle.{Known, Knows, settle_eq}

abbrev pub Has : ℕ → Stamp → List Object → Type 0
Has x s l = (o : Object) × (at x l ≡ Some o) × (o.stamp ≡ s)

-- what a record leaves: its own stamp, or the stamp and the body that were there
abbrev Was : ℕ → Stamp → List Object → Object → Type 0
Was x s l p = (p.stamp ≡ s) ⊎ ((q : Object) × (at x l ≡ Some q) × (q.stamp ≡ p.stamp) × (q.body ≡ p.body))

module _ (x : ℕ) (s : Stamp) (l : List Object) (p : Object) where
  here : at x l ≡ Some p → Was x s l p
  here e = inr (p, e, refl, refl)

  was_change : (y : ℕ) (g : Object → Object) (same : (o : Object) → (g o).number ≡ o.number) → ((o : Object) → ((g o).stamp ≡ s) ⊎ ((o.stamp ≡ (g o).stamp) × (o.body ≡ (g o).body))) → at x (change y g l) ≡ Some p → Was x s l p
  was_change y g same k e = grind (arith, nat_tests, at_changed)

  was_without : (y : ℕ) → at x (without y l) ≡ Some p → Was x s l p
  was_without y e = grind (arith, nat_tests, at_without_own, at_without)

  was_insert : (o : Object) → o.stamp ≡ s → at x (insert o l) ≡ Some p → Was x s l p
  was_insert o st e = grind (arith, nat_tests, at_insert_own, at_insert)

  was : (e : Edit) → at x (effect s e l) ≡ Some p → Was x s l p
  was (mkdir y q n) e = was_insert (fresh Directory q n y s) refl e
  was (create y q n) e = was_insert (fresh File q n y s) refl e
  was (store y c t) e = was_change y (with_contents c s) (λ o. refl) (λ o. inl refl) e
  was (remove y q n t) e = was_without y e
  was (rmdir y q n) e = was_without y e
  was (rename y q n r m) e = was_change y (with_place r m) (λ o. refl) (λ o. inr (refl, refl)) e

-- an object's stamp before a record that neither stores it nor makes it
module _ (x : ℕ) (s : Stamp) (l : List Object) where
  back_without : (y : ℕ) (t : Stamp) → Has x t (without y l) → Has x t l
  back_without y t h = grind (arith, nat_tests, at_without_own, at_without)

  back_place : (y q : ℕ) (m : List ℕ) (t : Stamp) → Has x t (change y (with_place q m) l) → Has x t l
  back_place y q m t h = grind (arith, nat_tests, at_changed)

  pub back : (e : Edit) (t : Stamp) → stores x e ≡ false → births x e ≡ false → Has x t (effect s e l) → Has x t l
  back (mkdir y p n) t a b h = (h.0, sym (at_insert x (fresh Directory p n y s) l b) ∙ h.1, h.2)
  back (create y p n) t a b h = (h.0, sym (at_insert x (fresh File p n y s) l b) ∙ h.1, h.2)
  back (store y c e) t a b h = (h.0, sym (at_other y (with_contents c s) (λ o. refl) l x (ne_eqb x y (λ e. eqb-false y x a (sym e)))) ∙ h.1, h.2)
  back (remove y p n e) t a b h = back_without y t h
  back (rmdir y p n) t a b h = back_without y t h
  back (rename y p n q m) t a b h = back_place y q m t h

stamp_same : (u v : Stamp) → same_stamp u v ≡ true → u ≡ v
stamp_same u v h =
    let k = and_parts (eqb u.author v.author) (eqb u.serial v.serial) h in
    let p = eqb-true u.author v.author k.0 in
    let q = eqb-true u.serial v.serial k.1 in
    ap (λ z. record { author = z; serial = u.serial }) p ∙ ap (λ z. record { author = v.author; serial = z }) q

has_stamped : (x : ℕ) (t : Stamp) (l : List Object) → stamped t (at x l) ≡ true → Has x t l
has_stamped x t l h = grind (arith, nat_tests)

abbrev pub Late : Edit → Type 0
Late (mkdir y p n) = temporary ≤ y
Late (create y p n) = temporary ≤ y
Late (store y c e) = Unit {0}
Late (remove y p n e) = Unit {0}
Late (rmdir y p n) = Unit {0}
Late (rename y p n q m) = Unit {0}

-- a record that passes finds the stamp that it expects
pub finds : (x cap : ℕ) (e : Edit) (l : List Object) (t : Stamp) → Holds (tests cap e l) → awaits x e ≡ Some t → Has x t l
finds x cap e l t h f = search (rules, none-some, eqb-true, has_stamped)

pub unawaited : (x : ℕ) (e : Edit) → awaits x e ≡ None → stores x e ≡ false
unawaited x e h = search rules

-- a list that passes finds the stamp that it awaits
module _ (m n b N : ℕ) (mb : m ≤ b) (bt : b ≤ temporary) (more : n ≤ N) (x : ℕ) (xm : x < m) where
  old : Known m n x
  old = inl xm

  stays_old : settle b N x ≡ x
  stays_old = cond-false (born N x) _ _ (and_left (leb temporary x) (ltb x (temporary + N)) (lt-leb temporary x (omega arith)))

  settle_old : (y : ℕ) → Known m n y → eqb (settle b N y) x ≡ eqb y x
  settle_old y k = ap (eqb (settle b N y)) (sym stays_old) ∙ settle_eq m n b N mb bt more y x k old

  pub unborn_old : (e : Edit) → Knows m n e → Late e → births x (settled_edit b N e) ≡ false
  unborn_old e k h = search rules

  pub awaits_old : (e : Edit) → Knows m n e → awaits x (settled_edit b N e) ≡ awaits x e
  awaits_old e k = search rules

  pub finds_awaited : (cap : ℕ) (rs : List Record) (l : List Object) (t : Stamp) → AllByRecursion (λ r. Knows m n r.edit) rs → AllByRecursion (λ r. Late r.edit) rs → Passes cap (map (settled b N) rs) l → awaited x rs ≡ Some t → Has x t l
  finds_awaited cap [] l t k a h f = absurd (none-some t f)
  finds_awaited cap (r ∷ rs) l t k a h f = go (finds_awaited cap rs (effect (stamp_of r) e l) t k.1 a.1 h.1) (awaits x r.edit) refl f
    where
      e : Edit
      e = settled_edit b N r.edit

      go : (awaited x rs ≡ Some t → Has x t (effect (stamp_of r) (settled_edit b N r.edit) l)) → (o : Option Stamp) → awaits x r.edit ≡ o → sooner o (awaited x rs) ≡ Some t → Has x t l
      go ih None g f = back x (stamp_of r) l (settled_edit b N r.edit) t (unawaited x (settled_edit b N r.edit) (awaits_old r.edit k.0 ∙ g)) (unborn_old r.edit k.0 a.0) (ih f)
      go ih (Some u) g f = finds x cap (settled_edit b N r.edit) l t h.0 (awaits_old r.edit k.0 ∙ g ∙ f)

-- ---- old stamps

abbrev pub Used : (Stamp → Type 0) → List Object → Type 0
Used Old l = AllByRecursion (λ o. Old o.stamp) l

abbrev pub Agree : List Object → List Object → Type 0
Agree seen l = (x : ℕ) (o p : Object) → at x seen ≡ Some o → at x l ≡ Some p → o.stamp ≡ p.stamp → o.body ≡ p.body

pub agree_same : (l : List Object) → Agree l l
agree_same l x o p e f g = let k : o ≡ p = cc in ap (λ q. q.body) k

abbrev pub Spans : ℕ → ℕ → ℕ → Record → Type 0
Spans a base serial r = (r.author ≡ a) × (base < r.serial) × (r.serial ≤ serial)

module _ (Old : Stamp → Type 0) where
  pub agree_effect : (seen l : List Object) (s : Stamp) (e : Edit) → Used Old seen → (Old s → ⊥) → Agree seen l → Agree seen (effect s e l)
  agree_effect seen l s e used new agree x o p f g c = elim (was x s l p e g) [ inl k ↦ absurd (new (subst Old (c ∙ k) stale)) | inr k ↦ agree x o k.0 f k.1 (c ∙ sym k.2) ∙ k.3 ]
    where
      found : (q : Object) × (at x seen ≡ Some q) × Old q.stamp
      found = at_all (λ o. Old o.stamp) x seen used (ap is_some f)

      stale : Old o.stamp
      stale = let q = found in let k : q.0 ≡ o = cc in subst (λ z. Old z.stamp) k q.2

  pub used_effect : (s : Stamp) (e : Edit) (l : List Object) → Old s → Used Old l → Used Old (effect s e l)
  used_effect s (mkdir y q n) l k h = all_insert (λ o. Old o.stamp) (fresh Directory q n y s) l k h
  used_effect s (create y q n) l k h = all_insert (λ o. Old o.stamp) (fresh File q n y s) l k h
  used_effect s (store y c t) l k h = all_change (λ o. Old o.stamp) y (with_contents c s) (λ o g. k) l h
  used_effect s (remove y q n t) l k h = all_keep (λ o. Old o.stamp) (λ o. not (is y o)) l h
  used_effect s (rmdir y q n) l k h = all_keep (λ o. Old o.stamp) (λ o. not (is y o)) l h
  used_effect s (rename y q n r m) l k h = all_change (λ o. Old o.stamp) y (with_place r m) (λ o g. g) l h

  pub agree_replay : (seen : List Object) (b N : ℕ) (rs : List Record) (l : List Object) → Used Old seen → AllByRecursion (λ r. Old (stamp_of r) → ⊥) rs → Agree seen l → Agree seen (final (map (settled b N) rs) l)
  agree_replay seen b N [] l used k g = g
  agree_replay seen b N (r ∷ rs) l used k g = agree_replay seen b N rs (effect (stamp_of r) (settled_edit b N r.edit) l) used k.1 (agree_effect seen l (stamp_of r) (settled_edit b N r.edit) used k.0 g)

  pub used_replay : (b N : ℕ) (rs : List Record) (l : List Object) → AllByRecursion (λ r. Old (stamp_of r)) rs → Used Old l → Used Old (final (map (settled b N) rs) l)
  used_replay b N [] l k g = g
  used_replay b N (r ∷ rs) l k g = used_replay b N rs (effect (stamp_of r) (settled_edit b N r.edit) l) k.1 (used_effect (stamp_of r) (settled_edit b N r.edit) l k.0 g)

pub replay_passes : (n : ℕ) (rs : List Record) (t u : Tree) → replay n rs t ≡ Ok u → Passes t.capacity (map (settled t.next n) rs) t.objects × (u.objects ≡ final (map (settled t.next n) rs) t.objects)
replay_passes n rs t u h = grind (arith, nat_tests, run_passes)
