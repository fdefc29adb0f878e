-- What holds in every run of turns. Assumes nothing.
--     Ready next copy p        a walked loader's copy differs in contents alone from what it saw
--     Out next copy mem p s    a loader's copy and log are those of its past, but for contents and what cancelled
--     Fit next d p             the loader d and its past p agree
--     Sane w ps                the server's numbers lie below its next, the loaders' numbers differ, and each fits its past
use Rattle.std.proofs.Common.{◌≡◌, ℕ, ◌<◌, ◌≤◌, true, false, eqb, List, take, Some, Result, sym, refl, ap, ◌∙◌, subst, inl, inr, arith}
use Rattle.std.specs.List.{AllByRecursion}
use Rattle.std.proofs.lemmas.Bool.{both_ways, eq-eqb, ne_eqb, cond-true, cond-false}
use Rattle.model.specs.declared.answer.Fault.{Fault}
use Rattle.model.specs.Loaders.{Loader, Spell as Stay, State, away, guard, home}
use Rattle.model.specs.Past.{Past, Pasts, given_by, put_past, shadow}
use Rattle.model.specs.Records.{Record}
use Rattle.model.specs.Worlds.{World, loader_of, put_loader, put_server}
use Rattle.tree.specs.Trees.{Tree}
use Rattle.vocab.specs.declared.layer.Layer.{Layer}
use Rattle.vocab.specs.Checks.{Check}
use Rattle.vocab.specs.Limits.{temporary}
use Rattle.law.specs.Guarantees.{NumbersDiffer}
use Rattle.law.specs.Spells.{Under}
use Rattle.law.proofs.Alike.{Like}
use Rattle.law.proofs.Finding.{differ_put, found, put_all, put_same}
use Rattle.law.proofs.Guarding.{guard_ways}
use Rattle.law.proofs.Sound.{Sound}
use Rattle.law.proofs.Standing.{Stands}

pub record Ready (next : ℕ) (copy : Tree) (p : Past) : Type 0 where
  pub from : ℕ
  pub above : 1 < from
  pub early : from ≤ next
  pub top : from ≤ temporary
  pub seen : Under from p.seen
  pub like : Like copy.objects p.seen

pub record Out (next : ℕ) (copy : Tree) (memory : List Record) (p : Past) (s : Stay) : Type 0 where
  pub from : ℕ
  pub above : 1 < from
  pub early : from ≤ next
  pub top : from ≤ temporary
  pub given : s.given ≡ given_by p.list
  pub records : List Record
  pub lies : take s.count memory ≡ records
  pub tree : Tree
  pub is : shadow copy.capacity p ≡ tree
  pub room : tree.capacity ≡ copy.capacity
  pub sound : Sound from p.list records tree.objects s.given
  pub like : Like copy.objects tree.objects

abbrev pub In : ℕ → Tree → List Record → Past → State → Type 0
In next copy memory p (home b) = b ≡ true → Ready next copy p
In next copy memory p (away s) = Out next copy memory p s

abbrev pub Fit : ℕ → Loader → Past → Type 0
Fit next d p = (d.serial ≡ p.edits) × In next d.copy d.memory p d.state

pub record Sane (w : World) (ps : Pasts) : Type 0 where
  pub server : Stands w.server
  pub differ : NumbersDiffer w.loaders
  pub each : AllByRecursion (λ d. Fit w.server.next d (ps d.number)) w.loaders

pub later : (k n : ℕ) → k ≤ n → (copy : Tree) (memory : List Record) (p : Past) (r : State) → In k copy memory p r → In n copy memory p r
later k n le copy memory p (home b) h = λ e. let g = h e in record { from = g.from; above = g.above; early = omega (arith, g.early); top = g.top; seen = g.seen; like = g.like }
later k n le copy memory p (away s) h = record { from = h.from; above = h.above; early = omega (arith, h.early); top = h.top; given = h.given; records = h.records; lies = h.lies; tree = h.tree; is = h.is; room = h.room; sound = h.sound; like = h.like }

pub not_ready : (next : ℕ) (copy : Tree) (p : Past) → false ≡ true → Ready next copy p
not_ready next copy p e = absurd (both_ways false refl e)

-- ---- one loader in another's place

module _ (w : World) (ps : Pasts) (sane : Sane w ps) where
  pub own : (a : ℕ) (d : Loader) → loader_of a w.loaders ≡ Some d → Fit w.server.next d (ps a) × (d.number ≡ a)
  own a d e =
      let g = found (λ d. Fit w.server.next d (ps d.number)) a w.loaders d sane.each e in
      (subst (λ z. Fit w.server.next d (ps z)) g.1 g.0, g.1)

  pub put_both : (u : Tree) → Stands u → w.server.next ≤ u.next → (a : ℕ) (e : Loader) → e.number ≡ a → (qs : Pasts) → Fit u.next e (qs a) → ((b : ℕ) → (b ≡ a → ⊥) → qs b ≡ ps b) → Sane (put_loader e (put_server u w)) qs
  put_both u ok le a e n qs fit same = record {
    server = ok;
    differ = differ_put e w.loaders sane.differ;
    each = put_all (λ d. Fit w.server.next d (ps d.number)) (λ d. Fit u.next d (qs d.number)) e (subst (λ z. Fit u.next e (qs z)) (sym n) fit)
        (λ d ne g. subst (Fit u.next d) (sym (same d.number (λ z. ne (z ∙ sym n)))) (g.0, later w.server.next u.next le d.copy d.memory (ps d.number) d.state g.1))
        w.loaders sane.each;
  }

  pub put_one : (a : ℕ) (e : Loader) → e.number ≡ a → Fit w.server.next e (ps a) → Sane (put_loader e w) ps
  put_one a e n fit = put_both w.server sane.server (omega arith) a e n ps fit (λ b ne. refl)

  pub put_new : (a : ℕ) (e : Loader) → e.number ≡ a → (p : Past) → Fit w.server.next e p → Sane (put_loader e w) (put_past a p ps)
  put_new a e n p fit = put_both w.server sane.server (omega arith) a e n (put_past a p ps) (subst (Fit w.server.next e) (sym (cond-true (eqb a a) p (ps a) (eq-eqb a a refl))) fit) (λ b ne. cond-false (eqb b a) p (ps b) (ne_eqb b a ne))

  pub put_back : (a : ℕ) (d : Loader) → loader_of a w.loaders ≡ Some d → put_loader d (put_server w.server w) ≡ w
  put_back a d e = ap (λ l. record { server = w.server; loaders = l; policy = w.policy }) (put_same a w.loaders d sane.differ e)

pub guard_keeps : {S A : Type 0} (P : S → Type 0) (l : Layer) (cs : List Check) (s : S) (c : S × Result A Fault) → P s → P c.0 → P (guard l cs s c).0
guard_keeps P l cs s c p q = elim (guard_ways l cs s c) [ inl h ↦ subst (λ z. P z.0) (sym h.1) q | inr h ↦ subst (λ z. P z.0) (sym h.1) p ]
