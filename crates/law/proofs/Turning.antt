-- Every turn keeps what holds in every run. Assumes nothing.
use Rattle.std.proofs.Common.{◌≡◌, ℕ, ◌+◌, ◌<◌, ◌≤◌, Bool, true, false, ◌||◌, leb, List, [], ◌∷◌, ◌++◌, length, Some, None, Ok, Err, Option, Result, sym, refl, ap, ◌∙◌, subst, inl, inr, arith}
use Rattle.std.proofs.ByRecursion.{All-weaker}
use Rattle.std.proofs.lemmas.Bool.{leb-true}
use Rattle.model.specs.declared.answer.Fault.{Fault}
use Rattle.model.specs.declared.answer.Reply.TheVariants.{Done}
use Rattle.model.specs.Hoard.{kept_in, ranked, walked}
use Rattle.model.specs.Loaders.{Loader, Spell as Stay, away, comes_home, edited, guard, home, joins, leaves, log, settled_join, walk_done, walks, with_edit_done, with_state}
use Rattle.model.specs.Office.{Call, called}
use Rattle.model.specs.Past.{Past, Pasts, capacity_of, listed, new_past, past_after, pasts, put_past, walk_tree}
use Rattle.model.specs.Replaying.{Clash, Outcome, replay}
use Rattle.model.specs.Worlds.{Answer, Turn, World, call_answer, edit, join, leave, loader_of, made_by, office, office_read, own_stamp, put_loader, quit, rank, read, read_done, reads_away, reads_home, run, step, walk, with_hoard}
use Rattle.tree.specs.Questions.{held, is_file}
use Rattle.tree.specs.Trees.{Tree, at}
use Rattle.vocab.specs.declared.layer.Layer.TheVariants.{Copy, Loader as LoaderLayer, Server}
use Rattle.vocab.specs.declared.refusal.Refusal.TheVariants.{BufferShort, CopyTooSmall, ListShort, NoSuchObject, NotKept, NotWalked}
use Rattle.vocab.specs.Checks.{Check, check}
use Rattle.vocab.specs.Limits.{temporary}
use Rattle.law.specs.Guarantees.{Start, new_pasts}
use Rattle.law.proofs.Alike.{like_partly}
use Rattle.law.proofs.Editing.{edit_fits, edit_ways}
use Rattle.law.proofs.Finding.{by_keeps, state_keeps}
use Rattle.law.proofs.Guarding.{guard_ways, join_ways, joined_world}
use Rattle.law.proofs.Lost.{placed_under}
use Rattle.law.proofs.Sane.{Fit, In, Out, Ready, Sane, guard_keeps, later, not_ready, own, put_both, put_new, put_one}
use Rattle.law.proofs.Sound.{sound_begin}
use Rattle.law.proofs.Standing.{office_stands, replay_stands}

module _ (w : World) (ps : Pasts) (sane : Sane w ps) (a : ℕ) (d : Loader) (there : loader_of a w.loaders ≡ Some d) where
  fit : Fit w.server.next d (ps a)
  fit = (own w ps sane a d there).0

  mine : d.number ≡ a
  mine = (own w ps sane a d there).1

  abbrev Kept : Loader → Type 0
  Kept e = (e.number ≡ a) × Fit w.server.next e (ps a)

  home_read : (x k : ℕ) → Sane (put_loader (reads_home x k w.server d).0 w) ps
  home_read x k =
      let c = held (at x w.server.objects) in
      let inner = guard_keeps Kept LoaderLayer (check (leb (length c) k) BufferShort ∷ []) d (read_done x w.server d) (mine, fit) (mine, fit) in
      let g = guard_keeps Kept Server (check (is_file (at x w.server.objects)) NoSuchObject ∷ []) d (guard LoaderLayer (check (leb (length c) k) BufferShort ∷ []) d (read_done x w.server d)) (mine, fit) inner in
      put_one w ps sane a (reads_home x k w.server d).0 g.0 g.1

  away_read : (s : Stay) (x k : ℕ) → Sane (put_loader (reads_away s x k d).0 w) ps
  away_read s x k =
      let c = held (at x d.copy.objects) in
      let cs = check (kept_in d.hoard x || own_stamp s d (at x d.copy.objects)) NotKept ∷ check (leb (length c) k) BufferShort ∷ [] in
      let inner = guard_keeps Kept LoaderLayer cs d (read_done x d.copy d) (mine, fit) (mine, fit) in
      let g = guard_keeps Kept Copy (check (is_file (at x d.copy.objects)) NoSuchObject ∷ []) d (guard LoaderLayer cs d (read_done x d.copy d)) (mine, fit) inner in
      put_one w ps sane a (reads_away s x k d).0 g.0 g.1

  same_sane : Sane (put_loader d w) ps
  same_sane = put_one w ps sane a d mine fit

  walk_sane : (k : ℕ) → let z = walks w.policy k w.server d in Sane (put_loader z.0 w) (past_after (walk a k) w (call_answer (λ _. Done) z.1) ps)
  walk_sane k = elim (guard_ways LoaderLayer cs d done) [
    | inl g ↦ subst P (sym g.1) (put_new w ps sane a done.0 mine p (fit.0, λ e. record { from = t.next; above = omega (arith, sane.server.low); early = omega arith; top = sane.server.high; seen = sane.server.under; like = like_partly (walked w.policy d.hoard t.objects) t.objects }))
    | inr g ↦ subst P (sym g.1) same_sane
  ]
    where
      t : Tree
      t = w.server

      p : Past
      p = record { seen = w.server.objects; list = (ps a).list; edits = (ps a).edits }

      cs : List Check
      cs = check (leb (length w.server.objects) d.copy.capacity) CopyTooSmall ∷ check (leb (length w.server.objects) k) ListShort ∷ []

      done : Loader × Result (Unit {0}) Fault
      done = (walk_done w.policy w.server d, Ok tt)

      P : Loader × Result (Unit {0}) Fault → Type 0
      P z = Sane (put_loader z.0 w) (past_after (walk a k) w (call_answer (λ _. Done) z.1) ps)

  leave_sane : (b : Bool) → d.state ≡ home b → Sane (put_loader (leaves b d).0 w) (past_after (leave a) w (call_answer (λ _. Done) (leaves b d).1) ps)
  leave_sane b here = elim (guard_ways LoaderLayer (check b NotWalked ∷ []) d done) [
    | inl g ↦ subst P (sym g.1) (put_new w ps sane a gone mine p (fit.0, out (ready g.0.0)))
    | inr g ↦ subst P (sym g.1) same_sane
  ]
    where
      ready : b ≡ true → Ready w.server.next d.copy (ps a)
      ready = subst (In w.server.next d.copy d.memory (ps a)) here fit.1

      p : Past
      p = record { seen = (ps a).seen; list = []; edits = (ps a).edits }

      gone : Loader
      gone = with_state (away (record { maker = d.number; base = d.serial; count = 0; given = 0 })) d

      done : Loader × Result (Unit {0}) Fault
      done = (gone, Ok tt)

      P : Loader × Result (Unit {0}) Fault → Type 0
      P z = Sane (put_loader z.0 w) (past_after (leave a) w (call_answer (λ _. Done) z.1) ps)

      out : Ready w.server.next d.copy (ps a) → Out w.server.next d.copy d.memory (record { seen = (ps a).seen; list = []; edits = (ps a).edits }) (record { maker = d.number; base = d.serial; count = 0; given = 0 })
      out r = record {
        from = r.from;
        above = r.above;
        early = r.early;
        top = r.top;
        given = refl;
        records = [];
        lies = refl;
        tree = walk_tree d.copy.capacity (ps a);
        is = refl;
        room = refl;
        sound = sound_begin r.from (ps a).seen (placed_under r.from 2 (ps a).seen (omega arith) r.seen.ascending r.seen.below);
        like = r.like;
      }

  home_sane : Sane (put_loader (comes_home d) w) ps
  home_sane = put_one w ps sane a (comes_home d) mine (fit.0, not_ready w.server.next d.copy (ps a))

  -- ---- turns away

  edit_sane : (s : Stay) → d.state ≡ away s → (c : Call) (k : ℕ) → Sane (put_loader (edited s c k d).0 w) (past_after (edit a c k) w (call_answer (made_by c) (edited s c k d).1) ps)
  edit_sane s gone c k = elim (edit_ways s c k d) [
    | inl g ↦ subst P (sym g.1) (subst Q (sym roomy) (put_new w ps sane a (with_edit_done s c d) mine _ (edit_fits w.server.next a d s c (ps a) mine fit.0 out g.0)))
    | inr g ↦ subst P (sym g.1) same_sane
  ]
    where
      out : Out w.server.next d.copy d.memory (ps a) s
      out = subst (In w.server.next d.copy d.memory (ps a)) gone fit.1

      roomy : capacity_of a w ≡ d.copy.capacity
      roomy = ap (λ (r : Option Loader). let z : ℕ = elim r [ None ↦ 0 | Some d ↦ d.copy.capacity ] in z) there

      P : Loader × Result ℕ Fault → Type 0
      P z = Sane (put_loader z.0 w) (past_after (edit a c k) w (call_answer (made_by c) z.1) ps)

      Q : ℕ → Type 0
      Q room = Sane (put_loader (with_edit_done s c d) w) (put_past a (record { seen = (ps a).seen; list = (ps a).list ++ (listed a room c (ps a) ∷ []); edits = (ps a).edits + 1 }) ps)

  join_sane : (s : Stay) → d.state ≡ away s → (k u : ℕ) → Sane (joined_world w (joins s k u w.server d)).0 ps
  join_sane s gone k u = elim (join_ways s k u w.server d) [
    | inl g ↦ subst P (sym g.2) (go (leb-true _ _ g.1.1.0) (replay s.given (log s d) w.server) refl)
    | inr g ↦ subst P (sym g.1) same_sane
  ]
    where
      out : Out w.server.next d.copy d.memory (ps a) s
      out = subst (In w.server.next d.copy d.memory (ps a)) gone fit.1

      P : (Tree × Loader) × Result (Result ℕ Clash) Fault → Type 0
      P z = Sane (joined_world w z).0 ps

      go : w.server.next + s.given ≤ temporary → (o : Outcome) → replay s.given (log s d) w.server ≡ o → Sane (joined_world w (settled_join s w.server d o)).0 ps
      go top (Ok t) e =
          let g = replay_stands out.from s.given w.server sane.server out.early top out.records out.sound.records t (ap (λ l. replay s.given l w.server) (sym out.lies) ∙ e) in
          put_both w ps sane t g.0 g.1 a (comes_home d) mine ps (fit.0, not_ready t.next d.copy (ps a)) (λ b ne. refl)
      go top (Err x) e = same_sane

-- ---- runs

abbrev Left : Turn → World → Pasts → World × Answer → Type 0
Left t w ps z = Sane z.0 (past_after t w z.1 ps)

pub step_sane : (t : Turn) (w : World) (ps : Pasts) → Sane w ps → Left t w ps (step t w)
step_sane (office c) w ps h =
    let g = office_stands w.server h.server c in
    record { server = g.0; differ = h.differ; each = All-weaker (λ d. Fit w.server.next d (ps d.number)) (λ d. Fit (called c w.server).0.next d (ps d.number)) (λ d k. (k.0, later w.server.next (called c w.server).0.next g.1 d.copy d.memory (ps d.number) d.state k.1)) w.loaders h.each }
step_sane (office_read x k) w ps h = h
step_sane (rank a x r) w ps h =
    let P = Left (rank a x r) w ps in
    by_keeps P a w _ h (λ d there. state_keeps P d _ _ (λ b e. put_one w ps h a (with_hoard (ranked d.hoard x r).0 d) (own w ps h a d there).1 (own w ps h a d there).0) (λ s e. h))
step_sane (read a x k) w ps h =
    let P = Left (read a x k) w ps in
    by_keeps P a w _ h (λ d there. state_keeps P d _ _ (λ b e. home_read w ps h a d there x k) (λ s e. away_read w ps h a d there s x k))
step_sane (walk a k) w ps h =
    let P = Left (walk a k) w ps in
    by_keeps P a w _ h (λ d there. state_keeps P d _ _ (λ b e. walk_sane w ps h a d there k) (λ s e. h))
step_sane (leave a) w ps h =
    let P = Left (leave a) w ps in
    by_keeps P a w _ h (λ d there. state_keeps P d _ _ (λ b e. leave_sane w ps h a d there b e) (λ s e. h))
step_sane (edit a c k) w ps h =
    let P = Left (edit a c k) w ps in
    by_keeps P a w _ h (λ d there. state_keeps P d _ _ (λ b e. h) (λ s e. edit_sane w ps h a d there s e c k))
step_sane (join a k u) w ps h =
    let P = Left (join a k u) w ps in
    by_keeps P a w _ h (λ d there. state_keeps P d _ _ (λ b e. h) (λ s e. join_sane w ps h a d there s e k u))
step_sane (quit a) w ps h =
    let P = Left (quit a) w ps in
    by_keeps P a w _ h (λ d there. state_keeps P d _ _ (λ b e. h) (λ s e. home_sane w ps h a d there))

run_sane : (ts : List Turn) (w : World) (ps : Pasts) → Sane w ps → Sane (run ts w) (pasts ts w ps)
run_sane [] w ps h = h
run_sane (t ∷ ts) w ps h = run_sane ts (step t w).0 (past_after t w (step t w).1 ps) (step_sane t w ps h)

pub sane_run : (w : World) → Start w → (ts : List Turn) → Sane (run ts w) (pasts ts w new_pasts)
sane_run w start ts = run_sane ts w new_pasts (record {
  server = record { under = start.numbers; low = start.low; high = start.high };
  differ = start.differ;
  each = All-weaker (λ d. (d.serial ≡ 0) × (d.state ≡ home false) × (0 < d.number)) (λ d. Fit w.server.next d new_past) (λ d h. (h.0, subst (In w.server.next d.copy d.memory new_past) (sym h.1) (not_ready w.server.next d.copy new_past))) w.loaders start.new;
})
