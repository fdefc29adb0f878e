-- The guarantees of a join. Assumes nothing.
use Rattle.std.proofs.Common.{◌≡◌, ℕ, ◌+◌, ◌≤◌, true, false, leb, List, Some, Ok, Err, sym, refl, ap, ◌∙◌, subst, inl, inr, arith}
use Rattle.std.proofs.lemmas.Bool.{both_ways, le-leb}
use Rattle.model.specs.declared.answer.Reply.TheVariants.{Records}
use Rattle.model.specs.Loaders.{Loader, Spell as Stay, comes_home, guard, joins, lent, log, log_checks, none_strange, settled_join}
use Rattle.model.specs.Past.{Past, given_by, pasts}
use Rattle.model.specs.Replaying.{Outcome, replay}
use Rattle.model.specs.Worlds.{Answer, Turn, World, accepted, join, loader_of, put_loader, put_server, run, step}
use Rattle.tree.specs.Trees.{Tree}
use Rattle.vocab.specs.declared.layer.Layer.TheVariants.{Loader as LoaderLayer, Log}
use Rattle.vocab.specs.Limits.{temporary}
use Rattle.law.specs.Guarantees.{Away, JoinFollowsTheEdits, LogKnowsItsNumbers, RefusedJoinChangesNothing, ServerNumbersStayBelow, Start, StateAgreesWithThePast, new_pasts}
use Rattle.law.proofs.Finding.{by_keeps, state_keeps}
use Rattle.law.proofs.Guarding.{guard_passes, join_step, join_ways, joined_world, room_checks}
use Rattle.law.proofs.Lost.{sound_replay}
use Rattle.law.proofs.Sane.{Fit, In, Out, Sane, own, put_back}
use Rattle.law.proofs.Standing.{log_known}
use Rattle.law.proofs.Turning.{sane_run}

pub numbers_below : ServerNumbersStayBelow
numbers_below w start ts = let g = sane_run w start ts in (g.server.under, g.server.high)

module _ (w : World) (start : Start w) (ts : List Turn) (a : ℕ) (d : Loader) (s : Stay) (there : Away a (run ts w) d s) where
  abbrev v : World
  v = run ts w

  abbrev p : Past
  p = pasts ts w new_pasts a

  sane : Sane v (pasts ts w new_pasts)
  sane = sane_run w start ts

  fit : Fit v.server.next d p
  fit = (own v (pasts ts w new_pasts) sane a d there.there).0

  out : Out v.server.next d.copy d.memory p s
  out = subst (In v.server.next d.copy d.memory p) there.out fit.1

  agrees : (d.serial ≡ p.edits) × (s.given ≡ given_by p.list)
  agrees = (fit.0, out.given)

  known : none_strange s.given (log s d) ≡ true
  known = ap (none_strange s.given) out.lies ∙ log_known out.from s.given out.top out.records out.sound.records

  follows : (k u : ℕ) → s.count ≤ lent k d → s.count ≤ u → v.server.next + given_by p.list ≤ temporary → (t : Tree) → replay (given_by p.list) p.list v.server ≡ Ok t → step (join a k u) v ≡ (put_loader (comes_home d) (put_server t v), Ok (Records s.count))
  follows k u lends suffices room t h =
      let same = out.given in
      let runs : replay s.given (log s d) v.server ≡ Ok t =
      ap (λ l. replay s.given l v.server) out.lies
      ∙ sound_replay out.from p.list out.records out.tree.objects s.given out.sound v.server sane.server.under out.early sane.server.high t (ap (λ n. replay n p.list v.server) same ∙ h)
      in
      let enough : leb (v.server.next + s.given) temporary ≡ true = le-leb (v.server.next + s.given) temporary (omega arith) in
      let inner = settled_join s v.server d (replay s.given (log s d) v.server) in
      let passes : joins s k u v.server d ≡ inner =
      guard_passes Log (log_checks s k d) (v.server, d) (guard LoaderLayer (room_checks s u v.server) (v.server, d) inner) (le-leb s.count (lent k d) lends, (known, tt))
      ∙ guard_passes LoaderLayer (room_checks s u v.server) (v.server, d) inner (le-leb s.count u suffices, (enough, tt))
      in
      join_step a v d s there k u ∙ ap (joined_world v) (passes ∙ ap (settled_join s v.server d) runs)

pub follows_edits : JoinFollowsTheEdits
follows_edits w start ts a d s there k u = follows w start ts a d s there k u

pub state_agrees : StateAgreesWithThePast
state_agrees w start ts a d s there = agrees w start ts a d s there

pub log_knows : LogKnowsItsNumbers
log_knows w start ts a d s there = known w start ts a d s there

pub refused_leaves : RefusedJoinChangesNothing
refused_leaves w start ts a k u = by_keeps P a v _ (λ _. refl) (λ d there. state_keeps P d _ _ (λ b e _. refl) (λ s e. left d there s))
  where
    v : World
    v = run ts w

    P : World × Answer → Type 0
    P z = accepted z.1 ≡ false → z.0 ≡ run ts w

    left : (d : Loader) → loader_of a (run ts w).loaders ≡ Some d → (s : Stay) → P (joined_world (run ts w) (joins s k u (run ts w).server d))
    left d there s = elim (join_ways s k u v.server d) [
      | inl g ↦ subst (λ z. P (joined_world v z)) (sym g.2) (go (replay s.given (log s d) v.server))
      | inr g ↦ subst (λ z. P (joined_world v z)) (sym g.1) (λ _. back)
    ]
      where
        back : put_loader d (put_server (run ts w).server (run ts w)) ≡ run ts w
        back = put_back (run ts w) (pasts ts w new_pasts) (sane_run w start ts) a d there

        go : (o : Outcome) → P (joined_world (run ts w) (settled_join s (run ts w).server d o))
        go (Ok t) e = absurd (both_ways true e refl)
        go (Err x) e = back
