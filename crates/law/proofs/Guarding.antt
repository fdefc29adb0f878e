-- Checks that guard a call, and calls by a loader's number and state. Assumes nothing.
use Rattle.std.proofs.Common.{◌≡◌, ℕ, ◌+◌, Bool, true, false, leb, ◌⊎◌, List, [], ◌∷◌, Some, None, Err, Option, Result, refl, ap, ◌∙◌, inl, inr}
use Rattle.std.proofs.lemmas.Bool.{cond-true, cond-false}
use Rattle.model.specs.declared.answer.Fault.{Fault}
use Rattle.model.specs.declared.answer.TurnError.TheVariants.{NotAllowed}
use Rattle.model.specs.Loaders.{Loader, Spell, State, away, guard, home, joins, log, log_checks, settled_join}
use Rattle.model.specs.Replaying.{Clash, replay}
use Rattle.model.specs.Worlds.{Answer, World, by_loader, join, join_answer, loader_of, put_loader, put_server, step, when_away}
use Rattle.tree.specs.Trees.{Tree}
use Rattle.vocab.specs.declared.layer.Layer.{Layer}
use Rattle.vocab.specs.declared.layer.Layer.TheVariants.{Loader as LoaderLayer, Log}
use Rattle.vocab.specs.declared.refusal.Refusal.TheVariants.{ListShort, NumbersSpent}
use Rattle.vocab.specs.Checks.{Check, Holds, check}
use Rattle.vocab.specs.Limits.{temporary}
use Rattle.law.specs.Guarantees.{Away}

pub guard_ways : {S A : Type 0} (l : Layer) (cs : List Check) (s : S) (c : S × Result A Fault) → (Holds cs × (guard l cs s c ≡ c)) ⊎ ((f : Fault) × (guard l cs s c ≡ (s, Err f)))
guard_ways l [] s c = inl (tt, refl)
guard_ways {S = S} {A = A} l (k ∷ cs) s c = go (guard_ways l cs s c) k.holds refl
  where
    go : (Holds cs × (guard l cs s c ≡ c)) ⊎ ((f : Fault) × (guard l cs s c ≡ (s, Err f))) → (b : Bool) → k.holds ≡ b → (Holds (k ∷ cs) × (guard l (k ∷ cs) s c ≡ c)) ⊎ ((f : Fault) × (guard l (k ∷ cs) s c ≡ (s, Err f)))
    go (inl h) true e = inl ((e, h.0), cond-true k.holds _ _ e ∙ h.1)
    go (inr h) true e = inr (h.0, cond-true k.holds _ _ e ∙ h.1)
    go h false e = inr (record { refusal = k.else; layer = l }, cond-false k.holds _ _ e)

pub guard_passes : {S A : Type 0} (l : Layer) (cs : List Check) (s : S) (c : S × Result A Fault) → Holds cs → guard l cs s c ≡ c
guard_passes l [] s c h = refl
guard_passes l (k ∷ cs) s c h = cond-true k.holds _ _ h.0 ∙ guard_passes l cs s c h.1

abbrev pub room_checks : Spell → ℕ → Tree → List Check
room_checks s u t = check (leb s.count u) ListShort ∷ check (leb (t.next + s.given) temporary) NumbersSpent ∷ []

pub join_ways : (s : Spell) (k u : ℕ) (t : Tree) (d : Loader) → (Holds (log_checks s k d) × Holds (room_checks s u t) × (joins s k u t d ≡ settled_join s t d (replay s.given (log s d) t))) ⊎ ((f : Fault) × (joins s k u t d ≡ ((t, d), Err f)))
join_ways s k u t d = elim (guard_ways Log (log_checks s k d) (t, d) inner) [
  | inl h ↦ elim (guard_ways LoaderLayer (room_checks s u t) (t, d) (settled_join s t d (replay s.given (log s d) t))) [
    | inl g ↦ inl (h.0, g.0, h.1 ∙ g.1)
    | inr g ↦ inr (g.0, h.1 ∙ g.1)
  ]
  | inr h ↦ inr h
]
  where
    inner : (Tree × Loader) × Result (Result ℕ Clash) Fault
    inner = guard LoaderLayer (room_checks s u t) (t, d) (settled_join s t d (replay s.given (log s d) t))

abbrev pub joined_world : World → (Tree × Loader) × Result (Result ℕ Clash) Fault → World × Answer
joined_world w j = (put_loader j.0.1 (put_server j.0.0 w), join_answer j.1)

abbrev pub Does : Type 0
Does = Loader → World × Answer

pub by_found : (a : ℕ) (w : World) (d : Loader) (f : Does) → loader_of a w.loaders ≡ Some d → by_loader a w f ≡ f d
by_found a w d f e = ap (λ (r : Option Loader). let z : World × Answer = elim r [ None ↦ (w, Err NotAllowed) | Some d ↦ f d ] in z) e

pub away_found : (w : World) (d : Loader) (s : Spell) (f : Spell → World × Answer) → d.state ≡ away s → when_away w d f ≡ f s
away_found w d s f e = ap (λ (r : State). let z : World × Answer = elim r [ home b ↦ (w, Err NotAllowed) | away s ↦ f s ] in z) e

pub join_step : (a : ℕ) (w : World) (d : Loader) (s : Spell) → Away a w d s → (k u : ℕ) → step (join a k u) w ≡ joined_world w (joins s k u w.server d)
join_step a w d s h k u = by_found a w d (λ d. when_away w d (λ s. joined_world w (joins s k u w.server d))) h.there ∙ away_found w d s (λ s. joined_world w (joins s k u w.server d)) h.out
