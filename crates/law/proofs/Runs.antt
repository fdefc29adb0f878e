-- Records that pass, and the objects after. Assumes nothing.
--     rec s e            the record of the edit e with stamp s
--     tests cap e l      the checks of e on the objects l of a tree of capacity cap
--     Passes cap rs l    each record of rs passes in turn
--     final rs l         the objects after
use Rattle.std.proofs.Common.{◌≡◌, ℕ, List, [], ◌∷◌, map, Ok, Err, Result, sym, refl, ap, ◌∙◌, arith, rules}
use Rattle.model.specs.Applying.{all_checks, applied, effect}
use Rattle.model.specs.Records.{Edit, Record, stamp_of}
use Rattle.model.specs.Replaying.{Outcome, replayed, settled, settled_edit}
use Rattle.model.proofs.Ordering.{applied_in_order}
use Rattle.tree.specs.Changes.{Changed}
use Rattle.tree.specs.Trees.{Object, Tree, with_objects}
use Rattle.vocab.specs.declared.refusal.Refusal.{Refusal}
use Rattle.vocab.specs.declared.stamp.Stamp.{Stamp}
use Rattle.vocab.specs.Checks.{Check, Holds, judge}
use Rattle.vocab.proofs.Judging.{judge_accepts, judge_passes}

abbrev pub rec : Stamp → Edit → Record
rec s e = record { author = s.author; serial = s.serial; edit = e }

abbrev pub tests : ℕ → Edit → List Object → List Check
tests cap e l = all_checks e (record { capacity = cap; next = 0; objects = l })

abbrev pub Passes : ℕ → List Record → List Object → Type 0
Passes cap [] l = Unit {0}
Passes cap (r ∷ rs) l = Holds (tests cap r.edit l) × Passes cap rs (effect (stamp_of r) r.edit l)

abbrev pub final : List Record → List Object → List Object
final [] l = l
final (r ∷ rs) l = final rs (effect (stamp_of r) r.edit l)

never : {A B : Type 0} (a : A) (b : B) → Err b ≡ Ok a → ⊥
never a b e = let z : ◌≡◌ {A = ℕ} 0 1 = cc in omega arith

-- the checks do not read the next number
pub tests_of : (e : Edit) (t : Tree) → all_checks e t ≡ tests t.capacity e t.objects
tests_of e t = search rules

pub in_order : (t : Tree) (r : Record) → applied r t ≡ judge (tests t.capacity r.edit t.objects) t (with_objects t (effect (stamp_of r) r.edit t.objects), tt)
in_order t r = applied_in_order t r ∙ ap (λ cs. judge cs t (with_objects t (effect (stamp_of r) r.edit t.objects), tt)) (tests_of r.edit t)

-- ---- one record

pub passed : (t : Tree) (r : Record) → Holds (tests t.capacity r.edit t.objects) → applied r t ≡ (with_objects t (effect (stamp_of r) r.edit t.objects), Ok tt)
passed t r h = in_order t r ∙ judge_passes (tests t.capacity r.edit t.objects) t (with_objects t (effect (stamp_of r) r.edit t.objects), tt) h

pub accepted : (t : Tree) (r : Record) → (applied r t).1 ≡ Ok tt → Holds (tests t.capacity r.edit t.objects)
accepted t r h = judge_accepts (tests t.capacity r.edit t.objects) t (with_objects t (effect (stamp_of r) r.edit t.objects), tt) tt (sym (ap (λ z. z.1) (in_order t r)) ∙ h)

-- ---- records in turn

module _ (b n : ℕ) where
  abbrev then : Record → List Record → Changed → Outcome
  then r rs c = elim c.1 [ Ok z ↦ replayed b n rs c.0 | Err e ↦ Err (record { logged = r; failed = e }) ]

  pub passes_run : (rs : List Record) (t : Tree) → Passes t.capacity (map (settled b n) rs) t.objects → replayed b n rs t ≡ Ok (with_objects t (final (map (settled b n) rs) t.objects))
  passes_run [] t h = refl
  passes_run (r ∷ rs) t h = ap (then r rs) (passed t (settled b n r) h.0) ∙ passes_run rs (with_objects t (effect (stamp_of r) (settled_edit b n r.edit) t.objects)) h.1

  pub run_passes : (rs : List Record) (t u : Tree) → replayed b n rs t ≡ Ok u → Passes t.capacity (map (settled b n) rs) t.objects × (u ≡ with_objects t (final (map (settled b n) rs) t.objects))
  run_passes [] t u h = let k : u ≡ t = cc in (tt, k)
  run_passes (r ∷ rs) t u h = go (λ k. run_passes rs k u) (applied (settled b n r) t).1 refl h
    where
      m : Tree
      m = with_objects t (effect (stamp_of r) (settled_edit b n r.edit) t.objects)

      go : ((k : Tree) → replayed b n rs k ≡ Ok u → Passes k.capacity (map (settled b n) rs) k.objects × (u ≡ with_objects k (final (map (settled b n) rs) k.objects))) → (a : Result (Unit {0}) Refusal) → (applied (settled b n r) t).1 ≡ a → then r rs ((applied (settled b n r) t).0, a) ≡ Ok u → Passes t.capacity (map (settled b n) (r ∷ rs)) t.objects × (u ≡ with_objects t (final (map (settled b n) (r ∷ rs)) t.objects))
      go ih (Ok z) e g =
          let ok = accepted t (settled b n r) e in
          let rest = ih m (ap (λ z. replayed b n rs z.0) (sym (passed t (settled b n r) ok)) ∙ g) in
          ((ok, rest.0), rest.1)
      go ih (Err z) e g = absurd (never u (record { logged = r; failed = z }) g)
