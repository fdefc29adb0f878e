-- A log passes where all that its spell recorded does, and leaves the same. Assumes nothing.
use Rattle.std.proofs.Common.{◌≡◌, ℕ, suc, ◌+◌, ◌<◌, ◌≤◌, leb, List, [], ◌∷◌, ◌++◌, Ok, sym, refl, subst, inl, append_assoc, append-nil, arith}
use Rattle.std.specs.List.{AllByRecursion}
use Rattle.std.proofs.lemmas.Bool.{or_from, lt-leb}
use Rattle.vocab.specs.Limits.{temporary}
use Rattle.std.proofs.lemmas.Bool.Decides.{nat_tests}
use Rattle.model.specs.Applying.{applied, effect}
use Rattle.model.specs.Cancelling.{entered}
use Rattle.model.specs.Records.{Record, stamp_of}
use Rattle.model.specs.Replaying.{replay}
use Rattle.tree.specs.Trees.{Ascends, Object, Tree, some_of}
use Rattle.tree.proofs.Ascending.{split_ascends}
use Rattle.model.specs.Past.{given, given_by}
use Rattle.law.specs.Spells.{Spell, Under, logged}
use Rattle.law.specs.Theorems.{CancellingLosesNothing}
use Rattle.law.proofs.Entering.{entered_cancel}
use Rattle.law.proofs.Knowing.{Placed}
use Rattle.law.proofs.OneStep.{Below, from}
use Rattle.law.proofs.Runs.{accepted, passed, passes_run, run_passes}
use Rattle.law.proofs.Sound.{Sound, sound_begin, sound_more}

pub placed_under : (m n : ℕ) (l : List Object) → 2 ≤ n → Ascends n l → AllByRecursion (λ o. (o.number < m) × (o.parent < m)) l → AllByRecursion (Placed m 0) l
placed_under m n [] two a h = tt
placed_under m n (o ∷ l) two a h = ((inl h.0.0, inl h.0.1, omega (arith, a.0)), placed_under m (suc o.number) l (omega (arith, a.0)) a.1 h.1)

below_under : (b : ℕ) (l : List Object) → AllByRecursion (λ o. (o.number < b) × (o.parent < b)) l → Below b l
below_under b [] h = refl
below_under b (o ∷ l) h = or_from (from b o) (some_of (from b) l) (or_from (leb b o.number) (leb b o.parent) (lt-leb b o.number h.0.0) (lt-leb b o.parent h.0.1)) (below_under b l h.1)

-- each record of the spell keeps what holds of the log
module _ (m : ℕ) (two : 1 < m) (mt : m ≤ temporary) where
  sound_spell : (us vs rs : List Record) (copy : Tree) (n : ℕ) → Sound m us rs copy.objects n → Spell n vs copy → (l : List Object) × Sound m (us ++ vs) (logged n rs vs) l (n + given_by vs)
  sound_spell us [] rs copy n w h =
      let e : n ≡ n + 0 = omega arith in
      (copy.objects, subst (λ z. Sound m (us ++ []) rs copy.objects z) e (subst (λ z. Sound m z rs copy.objects n) (sym (append-nil us)) w))
  sound_spell us (r ∷ vs) rs copy n w h =
      let ok = accepted copy r h.1 in
      let k = n + given r.edit in
      let step = sound_more m two mt us rs copy.objects n w copy.capacity r h.0 ok in
      let entry = subst (λ z. Sound m (us ++ (r ∷ [])) z (effect (stamp_of r) r.edit copy.objects) k) (sym (entered_cancel k rs r)) step in
      let next = subst (λ z. Sound m (us ++ (r ∷ [])) (entered k rs r) z.0.objects k) (sym (passed copy r ok)) entry in
      let rest = sound_spell (us ++ (r ∷ [])) vs (entered k rs r) (applied r copy).0 k next h.2 in
      let e : k + given_by vs ≡ n + (given r.edit + given_by vs) = omega arith in
      (rest.0, subst (λ z. Sound m (us ++ (r ∷ vs)) (logged n rs (r ∷ vs)) rest.0 z) e (subst (λ z. Sound m z (logged n rs (r ∷ vs)) rest.0 (k + given_by vs)) (append_assoc us (r ∷ []) vs) rest.1))

pub sound_replay : (m : ℕ) (us rs : List Record) (l : List Object) (n : ℕ) → Sound m us rs l n → (t : Tree) → Under t.next t.objects → m ≤ t.next → t.next ≤ temporary → (u : Tree) → replay n us t ≡ Ok u → replay n rs t ≡ Ok u
sound_replay m us rs l n sound t here mb bt u h = grind (arith, nat_tests, run_passes, split_ascends, below_under, passes_run)

pub nothing_lost : CancellingLosesNothing
nothing_lost m two copy under us spell t here mb bt u h =
    let begun = sound_begin m copy.objects (placed_under m 2 copy.objects (omega arith) under.ascending under.below) in
    let last = sound_spell m two (omega arith) [] us [] copy 0 begun spell in
    let e : 0 + given_by us ≡ given_by us = omega arith in
    sound_replay m us (logged 0 [] us) last.0 (given_by us) (subst (Sound m us (logged 0 [] us) last.0) e last.1) t here mb bt u h
