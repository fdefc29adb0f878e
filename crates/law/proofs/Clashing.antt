-- A conflict names the first record of the log that fails. Assumes nothing.
use Rattle.std.proofs.Common.{◌≡◌, ℕ, ◌+◌, List, [], ◌∷◌, ◌++◌, Ok, Err, Result, sym, refl, ap, ◌∙◌, inl, inr, arith}
use Rattle.model.specs.declared.answer.Fault.{Fault}
use Rattle.model.specs.declared.answer.TurnError.TheVariants.{Conflicting, Refused}
use Rattle.model.specs.Applying.{applied}
use Rattle.model.specs.Loaders.{Loader, Spell, joins, log, settled_join}
use Rattle.model.specs.Records.{Record, object}
use Rattle.model.specs.Replaying.{Clash, Outcome, replayed, settled}
use Rattle.model.specs.Worlds.{Answer, conflict_of, join_answer}
use Rattle.tree.specs.Changes.{with_next}
use Rattle.tree.specs.Trees.{Tree}
use Rattle.vocab.specs.declared.refusal.Refusal.{Refusal}
use Rattle.law.specs.Guarantees.{ConflictNamesFirstFailure}
use Rattle.law.proofs.Guarding.{join_step, join_ways}

module _ (b n : ℕ) where
  abbrev First : List Record → Tree → Clash → Type 0
  First rs t c =
      (ps : List Record) × (r : Record) × (qs : List Record) × (u : Tree)
      × (rs ≡ ps ++ (r ∷ qs))
      × (replayed b n ps t ≡ Ok u)
      × ((applied (settled b n r) u).1 ≡ Err c.failed)
      × (r ≡ c.logged)

  abbrev after : Record → List Record → Tree → Result (Unit {0}) Refusal → Outcome
  after r rs t x = elim x [ Ok u ↦ replayed b n rs (applied (settled b n r) t).0 | Err e ↦ Err (record { logged = r; failed = e }) ]

  pub first_clash : (rs : List Record) (t : Tree) (c : Clash) → replayed b n rs t ≡ Err c → First rs t c
  first_clash [] t c h = let z : ◌≡◌ {A = ℕ} 0 1 = cc in absurd (omega arith)
  first_clash (r ∷ rs) t c h = go (first_clash rs (applied (settled b n r) t).0 c) (applied (settled b n r) t).1 refl h
    where
      go : (replayed b n rs (applied (settled b n r) t).0 ≡ Err c → First rs (applied (settled b n r) t).0 c) → (x : Result (Unit {0}) Refusal) → (applied (settled b n r) t).1 ≡ x → after r rs t x ≡ Err c → First (r ∷ rs) t c
      go ih (Ok z) e g =
          let f = ih g in
          (r ∷ f.0, f.1, f.2, f.3, ap (λ l. r ∷ l) f.4, ap (after r f.0 t) e ∙ f.5, f.6, f.7)
      go ih (Err z) e g =
          let x : c ≡ record { logged = r; failed = z } = cc in
          ([], r, rs, t, refl, refl, e ∙ ap (λ y. Err y.failed) (sym x), sym (ap (λ y. y.logged) x))

abbrev told : Spell → Tree → Loader → Outcome → Answer
told s t d o = join_answer (settled_join s t d (elim o [ Ok v ↦ Ok (with_next v (t.next + s.given)) | Err x ↦ Err x ])).1

pub names_first : ConflictNamesFirstFailure
names_first w a d s out k u c h = elim (join_ways s k u t d) [
  | inl g ↦ go (replayed t.next s.given (log s d) t) refl (sym (ap (λ j. join_answer j.1) g.2) ∙ said)
  | inr g ↦ absurd (refused g.0 (sym (ap (λ j. join_answer j.1) g.1) ∙ said))
]
  where
    t : Tree
    t = w.server

    said : join_answer (joins s k u t d).1 ≡ Err (Conflicting c)
    said = sym (ap (λ z. z.1) (join_step a w d s out k u)) ∙ h

    refused : (f : Fault) → ◌≡◌ {A = Answer} (Err (Refused f)) (Err (Conflicting c)) → ⊥
    refused f e = let z : ◌≡◌ {A = ℕ} 0 1 = cc in omega arith

    go : (o : Outcome) → replayed t.next s.given (log s d) t ≡ o → told s t d o ≡ Err (Conflicting c) → (rs : List Record) × (r : Record) × (qs : List Record) × (v : Tree) × (log s d ≡ rs ++ (r ∷ qs)) × (replayed t.next s.given rs t ≡ Ok v) × ((applied (settled t.next s.given r) v).1 ≡ Err c.refusal) × (c.serial ≡ r.serial) × (c.object ≡ object r.edit)
    go (Ok v) e g = let z : ◌≡◌ {A = ℕ} 0 1 = cc in absurd (omega arith)
    go (Err x) e g =
        let f = first_clash t.next s.given (log s d) t x e in
        let y : c ≡ conflict_of x = cc in
        (f.0, f.1, f.2, f.3, f.4, f.5, f.6 ∙ ap (λ z. Err z.refusal) (sym y), ap (λ z. z.serial) y ∙ ap (λ q. q.serial) (sym f.7), ap (λ z. z.object) y ∙ ap (λ q. object q.edit) (sym f.7))
