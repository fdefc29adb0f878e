-- Every turn keeps what the loaders know of the server's stamps. Assumes nothing.
use Rattle.std.proofs.Common.{◌≡◌, ℕ, ◌+◌, ◌<◌, ◌≤◌, Bool, true, false, not, ◌&&◌, ◌||◌, eqb, leb, ◌⊎◌, List, [], ◌∷◌, ◌++◌, length, take, drop, Some, None, Ok, Err, Option, Result, sym, refl, ap, ◌∙◌, subst, ap₂, inl, inr, arith, rules}
use Rattle.std.specs.List.{AllByRecursion}
use Rattle.std.proofs.ByRecursion.{All-push, All-weaker}
use Rattle.std.proofs.lemmas.List.{take_at}
use Rattle.std.proofs.lemmas.Bool.{both_ways, leb-true, cond_both}
use Rattle.std.proofs.lemmas.Option.{none-some}
use Rattle.model.proofs.Each.{all_keep}
use Rattle.model.specs.declared.answer.Fault.{Fault}
use Rattle.model.specs.declared.answer.Reply.TheVariants.{Done}
use Rattle.model.specs.Applying.{applied, effect}
use Rattle.model.specs.Cancelling.{born, erase_store, named_by_other}
use Rattle.model.specs.Hoard.{Hoard, kept_in, ranked}
use Rattle.model.specs.Loaders.{Loader, Spell as Stay, State, away, comes_home, edited, guard, home, joins, leaves, log, new_log, new_record, now_given, settled_join, walk_done, walks, with_edit_done, with_state}
use Rattle.model.specs.Office.{Call, bound, call_checks, called, called_tree, make_directory, make_file, office_record, raised, remove_directory, remove_file, rename_object, spends, store_into}
use Rattle.model.specs.Past.{Past, Pasts, capacity_of, listed, new_past, past_after, pasts, put_past, shadow}
use Rattle.model.specs.Records.{Edit, Record, create, mkdir, object, remove, rename, rmdir, stamp_of, store}
use Rattle.model.specs.Replaying.{Clash, Outcome, replay}
use Rattle.model.specs.Worlds.{Answer, Turn, World, call_answer, edit, join, leave, loader_of, made_by, office, office_read, own_stamp, put_loader, put_server, quit, rank, read, read_done, reads_away, reads_home, run, step, walk, with_hoard, with_loader}
use Rattle.model.proofs.Serving.{first_keeps, raised_keeps}
use Rattle.tree.specs.Changes.{with_place}
use Rattle.tree.specs.Questions.{held, is_file}
use Rattle.tree.specs.Trees.{Tree, at, is, with_objects}
use Rattle.vocab.specs.declared.layer.Layer.TheVariants.{Copy, Loader as LoaderLayer, Server}
use Rattle.vocab.specs.declared.refusal.Refusal.TheVariants.{BufferShort, CopyTooSmall, ListShort, NoSuchObject, NotKept, NotWalked}
use Rattle.vocab.specs.declared.stamp.Stamp.{Stamp}
use Rattle.vocab.specs.Checks.{Check, Holds, check}
use Rattle.vocab.specs.Limits.{temporary}
use Rattle.law.specs.Guarantees.{Start, new_pasts}
use Rattle.law.specs.Spells.{Numbered}
use Rattle.law.proofs.Awaiting.{awaited, awaited_cancel, awaited_push, awaits, sooner}
use Rattle.law.proofs.Editing.{edit_ways, listed_passes, num, same_edit, shadow_now}
use Rattle.law.proofs.Entering.{Lone, births, cancel, entered_cancel, expected}
use Rattle.law.proofs.Finding.{by_keeps, found, state_keeps}
use Rattle.law.proofs.Guarding.{guard_ways, join_ways, joined_world}
use Rattle.law.proofs.Knowing.{all_change}
use Rattle.law.proofs.Landing.{Free, all_cancel}
use Rattle.law.proofs.Lonely.{all_erase}
use Rattle.law.proofs.Runs.{in_order, passed, rec, tests}
use Rattle.law.proofs.Sane.{Fit, In, Out, Sane, guard_keeps, own}
use Rattle.law.proofs.Stamping.{Agree, Has, Late, Spans, Used, agree_effect, agree_replay, agree_same, back, finds, replay_passes, unawaited, used_effect, used_replay}
use Rattle.law.proofs.Standing.{replay_stands}
use Rattle.law.proofs.Telling.{Gone, Old, Saw, Tells, Told, ToldIn, grow, grows, level, put_here, put_own, put_past_here, put_told, told_later}
use Rattle.law.proofs.Turning.{sane_run, step_sane}

-- ---- one record more

each_cancel : (Q : Record → Type 0) (t : ℕ → Bool) (rs : List Record) (s : Stamp) (e : Edit) → ((e : Edit) → Q (rec s e)) → AllByRecursion Q rs → AllByRecursion Q (cancel t rs (rec s e))
each_cancel Q t rs s (mkdir y p n) k h = All-push Q rs (rec s (mkdir y p n)) h (k (mkdir y p n))
each_cancel Q t rs s (create y p n) k h = All-push Q rs (rec s (create y p n)) h (k (create y p n))
each_cancel Q t rs s (store y c e) k h = All-push Q (erase_store y rs) (rec s (store y c (expected y e rs))) (all_erase Q y rs h) (k (store y c (expected y e rs)))
each_cancel Q t rs s (remove y p n e) k h = cond_both (t y) _ _ (AllByRecursion Q) (λ _. all_keep Q (λ r. not (eqb (object r.edit) y)) rs h) (λ _. All-push Q (erase_store y rs) (rec s (remove y p n (expected y e rs))) (all_erase Q y rs h) (k (remove y p n (expected y e rs))))
each_cancel Q t rs s (rmdir y p n) k h = cond_both (t y && not (named_by_other y rs)) _ _ (AllByRecursion Q) (λ _. all_keep Q (λ r. not (eqb (object r.edit) y)) rs h) (λ _. All-push Q rs (rec s (rmdir y p n)) h (k (rmdir y p n)))
each_cancel Q t rs s (rename y p n q m) k h = All-push Q rs (rec s (rename y p n q m)) h (k (rename y p n q m))

number_late : (k : ℕ) (e : Edit) → Numbered k e → Late e
number_late k e h = search rules

free_late : (e : Edit) → Late e → Free Late (born 0) [] tt e
free_late e h = search rules

late_unborn : (x : ℕ) (e : Edit) → x < temporary → Late e → births x e ≡ false
late_unborn x e lt h = search rules

none_of : (o p : Option Stamp) → sooner o p ≡ None → (o ≡ None) × (p ≡ None)
none_of None p h = (refl, h)
none_of (Some t) p h = absurd (none-some t (sym h))

some_which : (o p : Option Stamp) (t : Stamp) → sooner o p ≡ Some t → (o ≡ Some t) ⊎ ((o ≡ None) × (p ≡ Some t))
some_which None p t h = inr (refl, h)
some_which (Some u) p t h = inl h

module _ (next a : ℕ) (d : Loader) (s : Stay) (c : Call) (p : Past) (mine : d.number ≡ a) (counted : d.serial ≡ p.edits) (o : Out next d.copy d.memory p s) (ok : Holds (tests d.copy.capacity (new_record s c d).edit d.copy.objects)) (g : Gone a d.serial d.copy.capacity (log s d) p s) where
  abbrev cap : ℕ
  cap = d.copy.capacity

  abbrev r : Record
  r = new_record s c d

  abbrev u : Record
  u = listed a d.copy.capacity c p

  abbrev after : Past
  after = record { seen = p.seen; list = p.list ++ (listed a d.copy.capacity c p ∷ []); edits = p.edits + 1 }

  abbrev spell : Stay
  spell = record { maker = s.maker; base = s.base; count = length (new_log s c d); given = now_given s c d }

  abbrev memory : List Record
  memory = new_log s c d ++ drop (length (new_log s c d)) d.memory

  same_edits : r.edit ≡ u.edit
  same_edits = same_edit next a d s c p mine counted o ok

  u_late : Late u.edit
  u_late = number_late s.given u.edit (num next a d s c p mine counted o ok)

  u_passes : Holds (tests o.tree.capacity u.edit o.tree.objects)
  u_passes = listed_passes next a d s c p mine counted o ok

  shown : (x : ℕ) (t : Stamp) → Has x t o.tree.objects → Has x t (shadow cap p).objects
  shown x t k = subst (λ z. Has x t z.objects) (sym o.is) k

  lone : Lone (log s d)
  lone = subst Lone (sym o.lies) o.sound.lone

  is_log : take (length (new_log s c d)) memory ≡ cancel (born (now_given s c d)) (log s d) r
  is_log = take_at (new_log s c d) (drop (length (new_log s c d)) d.memory) (length (new_log s c d)) refl ∙ entered_cancel (now_given s c d) (log s d) r

  cancelled : Gone a (d.serial + 1) cap (cancel (born (now_given s c d)) (log s d) r) after spell
  cancelled = record {
    order = omega (arith, g.order);
    spans = each_cancel (Spans a s.base (d.serial + 1)) (born (now_given s c d)) (log s d) (stamp_of r) r.edit (λ e. (mine, omega (arith, g.order), omega arith)) (All-weaker (Spans a s.base d.serial) (Spans a s.base (d.serial + 1)) (λ q k. (k.0, k.1, omega (arith, k.2))) (log s d) g.spans);
    late = all_cancel Late (born (now_given s c d)) (log s d) g.late (stamp_of r) r.edit (free_late r.edit (subst Late (sym same_edits) u_late));
    alike = λ x k. awaited_cancel x k (log s d) lone (now_given s c d) (stamp_of r) r.edit ∙ ap₂ (λ z y. sooner z (awaits x y)) (g.alike x k) same_edits ∙ sym (awaited_push x p.list u);
    starts = λ x t k f. elim (some_which (awaited x p.list) (awaits x u.edit) t (sym (awaited_push x p.list u) ∙ f)) [
      | inl j ↦ g.starts x t k j
      | inr j ↦ g.rest x t k j.0 (shown x t (finds x o.tree.capacity u.edit o.tree.objects t u_passes j.1))
    ];
    rest = λ x t k f j.
        let n = none_of (awaited x p.list) (awaits x u.edit) (sym (awaited_push x p.list u) ∙ f) in
        g.rest x t k n.0 (shown x t (back x (stamp_of u) o.tree.objects u.edit t (unawaited x u.edit n.1) (late_unborn x u.edit k u_late) (subst (λ z. Has x t z.objects) (shadow_now next a d s c p mine counted o ok) j)));
  }

  pub gone_now : Gone a (d.serial + 1) (applied r d.copy).0.capacity (take (length (new_log s c d)) memory) after spell
  gone_now = subst (λ z. Gone a (d.serial + 1) z.0.capacity (take (length (new_log s c d)) memory) after spell) (sym (passed d.copy r ok)) (subst (λ z. Gone a (d.serial + 1) cap z after spell) (sym is_log) cancelled)

-- ---- turns at home

level_is : (d : Loader) (r : State) → d.state ≡ r → level d.state d.serial ≡ level r d.serial
level_is d r e = ap (λ z. level z d.serial) e

module _ (w : World) (ps : Pasts) (sane : Sane w ps) (told : Told w ps) (a : ℕ) (d : Loader) (there : loader_of a w.loaders ≡ Some d) where
  mine : d.number ≡ a
  mine = (own w ps sane a d there).1

  fit : Fit w.server.next d (ps a)
  fit = (own w ps sane a d there).0

  tells : Tells (Old w) w.server.objects a d (ps a)
  tells = told.each a d there

  kept : (k : Hoard) → Told (put_loader (with_hoard k d) w) ps
  kept k =
      let e = with_hoard k d in
      let up : level d.state d.serial ≤ level d.state d.serial = omega arith in
      put_here w ps told a d there e mine up ps (tells.0, told_later (Old w) (Old (put_loader e w)) (grows w ps told a d there e mine up) w.server.objects w.server.objects (λ seen k g. g) a d.serial d.copy.capacity d.memory (ps a) d.state tells.1) (λ b ne. refl)

  same_told : Told (put_loader d w) ps
  same_told = kept d.hoard

  home_read : (x k : ℕ) → Told (put_loader (reads_home x k w.server d).0 w) ps
  home_read x k =
      let c = held (at x w.server.objects) in
      let P : Loader → Type 0 = λ e. Told (put_loader e w) ps in
      let inner = guard_keeps P LoaderLayer (check (leb (length c) k) BufferShort ∷ []) d (read_done x w.server d) same_told (kept (read_done x w.server d).0.hoard) in
      guard_keeps P Server (check (is_file (at x w.server.objects)) NoSuchObject ∷ []) d (guard LoaderLayer (check (leb (length c) k) BufferShort ∷ []) d (read_done x w.server d)) same_told inner

  away_read : (s : Stay) (x k : ℕ) → Told (put_loader (reads_away s x k d).0 w) ps
  away_read s x k =
      let c = held (at x d.copy.objects) in
      let P : Loader → Type 0 = λ e. Told (put_loader e w) ps in
      let cs = check (kept_in d.hoard x || own_stamp s d (at x d.copy.objects)) NotKept ∷ check (leb (length c) k) BufferShort ∷ [] in
      let inner = guard_keeps P LoaderLayer cs d (read_done x d.copy d) same_told (kept (read_done x d.copy d).0.hoard) in
      guard_keeps P Copy (check (is_file (at x d.copy.objects)) NoSuchObject ∷ []) d (guard LoaderLayer cs d (read_done x d.copy d)) same_told inner

  walk_told : (b : Bool) → d.state ≡ home b → (k : ℕ) → let z = walks w.policy k w.server d in Told (put_loader z.0 w) (past_after (walk a k) w (call_answer (λ _. Done) z.1) ps)
  walk_told b here k = elim (guard_ways LoaderLayer cs d done) [
    | inl g ↦ subst P (sym g.1) (put_past_here w ps told a d there e mine up p (tells.0, λ _. record { stale = All-weaker (λ o. Old w o.stamp) (λ o. Old (put_loader e w) o.stamp) (λ o h. grows w ps told a d there e mine up o.stamp h) w.server.objects told.old; agree = agree_same w.server.objects }))
    | inr g ↦ subst P (sym g.1) same_told
  ]
    where
      e : Loader
      e = walk_done w.policy w.server d

      up : level d.state d.serial ≤ d.serial
      up = omega (arith, level_is d (home b) here)

      p : Past
      p = record { seen = w.server.objects; list = (ps a).list; edits = (ps a).edits }

      cs : List Check
      cs = check (leb (length w.server.objects) d.copy.capacity) CopyTooSmall ∷ check (leb (length w.server.objects) k) ListShort ∷ []

      done : Loader × Result (Unit {0}) Fault
      done = (walk_done w.policy w.server d, Ok tt)

      P : Loader × Result (Unit {0}) Fault → Type 0
      P z = Told (put_loader z.0 w) (past_after (walk a k) w (call_answer (λ _. Done) z.1) ps)

  leave_told : (b : Bool) → d.state ≡ home b → Told (put_loader (leaves b d).0 w) (past_after (leave a) w (call_answer (λ _. Done) (leaves b d).1) ps)
  leave_told b here = elim (guard_ways LoaderLayer (check b NotWalked ∷ []) d done) [
    | inl g ↦ subst P (sym g.1) (put_past_here w ps told a d there e mine up p (tells.0, (seen (saw g.0.0), empty)))
    | inr g ↦ subst P (sym g.1) same_told
  ]
    where
      s : Stay
      s = record { maker = d.number; base = d.serial; count = 0; given = 0 }

      e : Loader
      e = with_state (away (record { maker = d.number; base = d.serial; count = 0; given = 0 })) d

      up : level d.state d.serial ≤ d.serial
      up = omega (arith, level_is d (home b) here)

      p : Past
      p = record { seen = (ps a).seen; list = []; edits = (ps a).edits }

      saw : b ≡ true → Saw (Old w) w.server.objects (ps a)
      saw = subst (ToldIn (Old w) w.server.objects a d.serial d.copy.capacity d.memory (ps a)) here tells.1

      seen : Saw (Old w) w.server.objects (ps a) → Saw (Old (put_loader (with_state (away (record { maker = d.number; base = d.serial; count = 0; given = 0 })) d) w)) w.server.objects (record { seen = (ps a).seen; list = []; edits = (ps a).edits })
      seen h = record { stale = All-weaker (λ o. Old w o.stamp) (λ o. Old (put_loader e w) o.stamp) (λ o h. grows w ps told a d there e mine up o.stamp h) (ps a).seen h.stale; agree = h.agree }

      empty : Gone a d.serial d.copy.capacity [] (record { seen = (ps a).seen; list = []; edits = (ps a).edits }) (record { maker = d.number; base = d.serial; count = 0; given = 0 })
      empty = record { order = omega arith; spans = tt; late = tt; alike = λ x k. refl; starts = λ x t k f. absurd (none-some t f); rest = λ x t k f j. j }

      done : Loader × Result (Unit {0}) Fault
      done = (with_state (away (record { maker = d.number; base = d.serial; count = 0; given = 0 })) d, Ok tt)

      P : Loader × Result (Unit {0}) Fault → Type 0
      P z = Told (put_loader z.0 w) (past_after (leave a) w (call_answer (λ _. Done) z.1) ps)

  -- ---- turns away

  module _ (s : Stay) (gone : d.state ≡ away s) where
    out : Out w.server.next d.copy d.memory (ps a) s
    out = subst (In w.server.next d.copy d.memory (ps a)) gone fit.1

    off : Saw (Old w) w.server.objects (ps a) × Gone a d.serial d.copy.capacity (log s d) (ps a) s
    off = subst (ToldIn (Old w) w.server.objects a d.serial d.copy.capacity d.memory (ps a)) gone tells.1

    home_up : level d.state d.serial ≤ d.serial
    home_up = omega (arith, level_is d (away s) gone, off.1.order)

    quit_told : Told (put_loader (comes_home d) w) ps
    quit_told = put_here w ps told a d there (comes_home d) mine home_up ps (tells.0, λ e. absurd (both_ways false refl e)) (λ b ne. refl)

    edit_told : (c : Call) (k : ℕ) → Told (put_loader (edited s c k d).0 w) (past_after (edit a c k) w (call_answer (made_by c) (edited s c k d).1) ps)
    edit_told c k = elim (edit_ways s c k d) [
      | inl g ↦ subst P (sym g.1) (subst Q (sym roomy) (put_past_here w ps told a d there (with_edit_done s c d) mine up (record { seen = (ps a).seen; list = (ps a).list ++ (listed a d.copy.capacity c (ps a) ∷ []); edits = (ps a).edits + 1 }) (tells.0, (saw, gone_now w.server.next a d s c (ps a) mine fit.0 out g.0 off.1))))
      | inr g ↦ subst P (sym g.1) same_told
    ]
      where
        up : level d.state d.serial ≤ s.base
        up = omega (arith, level_is d (away s) gone)

        saw : Saw (Old (put_loader (with_edit_done s c d) w)) w.server.objects (record { seen = (ps a).seen; list = (ps a).list ++ (listed a d.copy.capacity c (ps a) ∷ []); edits = (ps a).edits + 1 })
        saw = record { stale = All-weaker (λ o. Old w o.stamp) (λ o. Old (put_loader (with_edit_done s c d) w) o.stamp) (λ o h. grows w ps told a d there (with_edit_done s c d) mine up o.stamp h) (ps a).seen off.0.stale; agree = off.0.agree }

        roomy : capacity_of a w ≡ d.copy.capacity
        roomy = ap (λ (r : Option Loader). let z : ℕ = elim r [ None ↦ 0 | Some d ↦ d.copy.capacity ] in z) there

        P : Loader × Result ℕ Fault → Type 0
        P z = Told (put_loader z.0 w) (past_after (edit a c k) w (call_answer (made_by c) z.1) ps)

        Q : ℕ → Type 0
        Q room = Told (put_loader (with_edit_done s c d) w) (put_past a (record { seen = (ps a).seen; list = (ps a).list ++ (listed a room c (ps a) ∷ []); edits = (ps a).edits + 1 }) ps)

    join_told : (k u : ℕ) → Told (joined_world w (joins s k u w.server d)).0 ps
    join_told k u = elim (join_ways s k u w.server d) [
      | inl g ↦ subst P (sym g.2) (go (leb-true _ _ g.1.1.0) (replay s.given (log s d) w.server) refl)
      | inr g ↦ subst P (sym g.1) same_told
    ]
      where
        P : (Tree × Loader) × Result (Result ℕ Clash) Fault → Type 0
        P z = Told (joined_world w z).0 ps

        go : w.server.next + s.given ≤ temporary → (o : Outcome) → replay s.given (log s d) w.server ≡ o → Told (joined_world w (settled_join s w.server d o)).0 ps
        go top (Ok t) e =
            let g = replay_stands out.from s.given w.server sane.server out.early top out.records out.sound.records t (ap (λ l. replay s.given l w.server) (sym out.lies) ∙ e) in
            let f = replay_passes s.given (log s d) w.server t e in
            let v = put_loader (comes_home d) (put_server t w) in
            let fresh : AllByRecursion (λ r. Old w (stamp_of r) → ⊥) (log s d) =
            All-weaker (Spans a s.base d.serial) (λ r. Old w (stamp_of r) → ⊥) (λ r k old. omega (arith, old.1 d (ap (λ z. loader_of z w.loaders) k.0 ∙ there), k.1, level_is d (away s) gone)) (log s d) off.1.spans
            in
            let now : AllByRecursion (λ r. Old v (stamp_of r)) (log s d) =
            All-weaker (Spans a s.base d.serial) (λ r. Old v (stamp_of r)) (λ r k. (λ z. absurd (omega (arith, k.0, tells.0)), λ f h. let same : f ≡ comes_home d = put_own (comes_home d) w.loaders f (subst (λ z. loader_of z (with_loader (comes_home d) w.loaders) ≡ Some f) (k.0 ∙ sym mine) h) in subst (λ z. r.serial ≤ level z.state z.serial) (sym same) k.2)) (log s d) off.1.spans
            in
            put_told w ps told a d there (comes_home d) mine t g.1 home_up ps
            (λ seen k h. subst (Agree seen) (sym f.1) (agree_replay (Old w) seen w.server.next s.given (log s d) w.server.objects k fresh h))
            (subst (Used (Old v)) (sym f.1) (used_replay (Old v) w.server.next s.given (log s d) w.server.objects now (All-weaker (λ o. Old w o.stamp) (λ o. Old v o.stamp) (λ o h. grow w ps told a d there (comes_home d) mine t g.1 home_up o.stamp h) w.server.objects told.old)))
            (tells.0, λ e. absurd (both_ways false refl e))
            (λ b ne. refl)
        go top (Err x) e = same_told

-- ---- the office

module _ (w : World) (ps : Pasts) (told : Told w ps) where
  abbrev after_call : Call → World
  after_call c = put_server (called_tree c w.server) w

  office_old : (c : Call) (s : Stamp) → Old w s → Old (after_call c) s
  office_old c s k = (λ z. omega (arith, k.0 z), k.1)

  office_new : (c : Call) → 0 < spends c → Old (after_call c) (stamp_of (office_record c w.server))
  office_new c lt = (λ z. omega arith, λ e h. absurd (omega (arith, (told.each 0 e h).0)))

  old_before : (c : Call) → Used (Old (after_call c)) w.server.objects
  old_before c = All-weaker (λ o. Old w o.stamp) (λ o. Old (after_call c) o.stamp) (λ o k. office_old c o.stamp k) w.server.objects told.old

  spending : (c : Call) → 0 < spends c → Used (Old (after_call c)) (called_tree c w.server).objects
  spending c lt = used_effect (Old (after_call c)) (stamp_of (office_record c w.server)) (office_record c w.server).edit w.server.objects (office_new c lt) (old_before c)

  office_used : (c : Call) → Used (Old (after_call c)) (called_tree c w.server).objects
  office_used (make_directory p n) = spending (make_directory p n) (omega arith)
  office_used (make_file p n) = spending (make_file p n) (omega arith)
  office_used (store_into x c) = spending (store_into x c) (omega arith)
  office_used (remove_file p n) = all_keep (λ o. Old (after_call (remove_file p n)) o.stamp) (λ o. not (is (bound p n w.server) o)) w.server.objects (old_before (remove_file p n))
  office_used (remove_directory p n) = all_keep (λ o. Old (after_call (remove_directory p n)) o.stamp) (λ o. not (is (bound p n w.server) o)) w.server.objects (old_before (remove_directory p n))
  office_used (rename_object p n q m) = all_change (λ o. Old (after_call (rename_object p n q m)) o.stamp) (bound p n w.server) (with_place q m) (λ o g. g) w.server.objects (old_before (rename_object p n q m))

  call_told : (c : Call) → Told (after_call c) ps
  call_told c = record {
    old = office_used c;
    each = λ a d h. let k = told.each a d h in (k.0, told_later (Old w) (Old (after_call c)) (office_old c) w.server.objects (called_tree c w.server).objects (λ seen u g. agree_effect (Old w) seen w.server.objects (stamp_of (office_record c w.server)) (office_record c w.server).edit u (λ old. omega (arith, old.0 refl)) g) a d.serial d.copy.capacity d.memory (ps a) d.state k.1);
  }

  office_told : (c : Call) → Told (put_server (called c w.server).0 w) ps
  office_told c =
      let t = w.server in
      let r = office_record c t in
      let P : Tree → Type 0 = λ u. Told (put_server u w) ps in
      first_keeps P (call_checks c t) t (raised (spends c) (applied r t)) told
      (λ h. subst (λ z. P (raised (spends c) z).0) (sym (in_order t r)) (raised_keeps P (spends c) (tests t.capacity r.edit t.objects) t (with_objects t (effect (stamp_of r) r.edit t.objects)) told (λ g. call_told c)))

-- ---- runs

abbrev Left : Turn → World → Pasts → World × Answer → Type 0
Left t w ps z = Told z.0 (past_after t w z.1 ps)

step_told : (t : Turn) (w : World) (ps : Pasts) → Sane w ps → Told w ps → Left t w ps (step t w)
step_told (office c) w ps s h = office_told w ps h c
step_told (office_read x k) w ps s h = h
step_told (rank a x r) w ps s h =
    let P = Left (rank a x r) w ps in
    by_keeps P a w _ h (λ d there. state_keeps P d _ _ (λ b e. kept w ps s h a d there (ranked d.hoard x r).0) (λ s e. h))
step_told (read a x k) w ps s h =
    let P = Left (read a x k) w ps in
    by_keeps P a w _ h (λ d there. state_keeps P d _ _ (λ b e. home_read w ps s h a d there x k) (λ z e. away_read w ps s h a d there z x k))
step_told (walk a k) w ps s h =
    let P = Left (walk a k) w ps in
    by_keeps P a w _ h (λ d there. state_keeps P d _ _ (λ b e. walk_told w ps s h a d there b e k) (λ z e. h))
step_told (leave a) w ps s h =
    let P = Left (leave a) w ps in
    by_keeps P a w _ h (λ d there. state_keeps P d _ _ (λ b e. leave_told w ps s h a d there b e) (λ z e. h))
step_told (edit a c k) w ps s h =
    let P = Left (edit a c k) w ps in
    by_keeps P a w _ h (λ d there. state_keeps P d _ _ (λ b e. h) (λ z e. edit_told w ps s h a d there z e c k))
step_told (join a k u) w ps s h =
    let P = Left (join a k u) w ps in
    by_keeps P a w _ h (λ d there. state_keeps P d _ _ (λ b e. h) (λ z e. join_told w ps s h a d there z e k u))
step_told (quit a) w ps s h =
    let P = Left (quit a) w ps in
    by_keeps P a w _ h (λ d there. state_keeps P d _ _ (λ b e. h) (λ z e. quit_told w ps s h a d there z e))

run_told : (ts : List Turn) (w : World) (ps : Pasts) → Sane w ps → Told w ps → Told (run ts w) (pasts ts w ps)
run_told [] w ps s h = h
run_told (t ∷ ts) w ps s h = run_told ts (step t w).0 (past_after t w (step t w).1 ps) (step_sane t w ps s) (step_told t w ps s h)

pub told_run : (w : World) → Start w → (ts : List Turn) → Told (run ts w) (pasts ts w new_pasts)
told_run w start ts = run_told ts w new_pasts (sane_run w start []) (record {
  old = All-weaker (λ o. (loader_of o.stamp.author w.loaders ≡ None) × (o.stamp.author ≡ 0 → o.stamp.serial < w.server.next)) (λ o. Old w o.stamp) (λ o h. (h.1, λ e f. absurd (none-some e (sym h.0 ∙ f)))) w.server.objects start.stamps;
  each = λ a d h. let k = found (λ d. (d.serial ≡ 0) × (d.state ≡ home false) × (0 < d.number)) a w.loaders d start.new h in (subst (λ z. 0 < z) k.1 k.0.2, subst (ToldIn (Old w) w.server.objects a d.serial d.copy.capacity d.memory new_past) (sym k.0.1) (λ e. absurd (both_ways false refl e)));
})
