-- A join overwrites only what the loader saw, and touches only what is listed. Assumes nothing.
use Rattle.std.proofs.Common.{◌≡◌, ℕ, ◌<◌, ◌≤◌, Bool, true, false, cond, eqb, ◌⊎◌, List, [], ◌∷◌, map, Some, None, Ok, Option, Result, sym, refl, ap, ◌∙◌, subst, inl, inr, arith, rules}
use Rattle.std.specs.Option.{option_map}
use Rattle.std.specs.List.{AllByRecursion}
use Rattle.std.proofs.ByRecursion.{All-weaker}
use Rattle.std.proofs.lemmas.Bool.{both_ways, or_cases, eqb-true}
use Rattle.std.proofs.lemmas.Option.{none-some}
use Rattle.law.proofs.Lonely.{flip}
use Rattle.std.proofs.lemmas.Bool.Decides.{nat_tests}
use Rattle.model.specs.declared.answer.Fault.{Fault}
use Rattle.model.specs.declared.answer.Reply.TheVariants.{Records}
use Rattle.model.specs.Applying.{effect}
use Rattle.model.specs.Hoard.{plain}
use Rattle.model.specs.Loaders.{Loader, Spell as Stay, log}
use Rattle.model.specs.Past.{Past, Pasts, pasts}
use Rattle.model.specs.Records.{Edit, Record, create, mkdir, remove, rename, rmdir, stamp_of, store}
use Rattle.model.specs.Replaying.{Clash, replay, settled, settled_edit}
use Rattle.model.specs.Worlds.{Turn, World, join, run, step}
use Rattle.tree.specs.Changes.{fresh, with_contents, with_place}
use Rattle.tree.specs.Questions.{is_dir, is_some, regular}
use Rattle.tree.specs.Trees.{Body, Object, Tree, at, change_one, dir, file, is, some_of, without}
use Rattle.tree.proofs.Changed.{at_change, at_number, at_other}
use Rattle.tree.proofs.Objects.{at_without}
use Rattle.vocab.specs.declared.kind.Kind.TheVariants.{Directory, File}
use Rattle.vocab.specs.declared.stamp.Stamp.{Stamp}
use Rattle.vocab.specs.Checks.{Holds}
use Rattle.vocab.specs.Limits.{temporary}
use Rattle.law.specs.Guarantees.{Away, JoinOverwritesOnlyWhatWasSeen, JoinTouchesOnlyWhatIsListed, Start, new_pasts, touched}
use Rattle.law.proofs.Awaiting.{awaited, awaits, sooner, untouched}
use Rattle.law.proofs.Delay.{at_insert}
use Rattle.law.proofs.Entering.{births, touches}
use Rattle.law.proofs.Knowing.{at_all}
use Rattle.law.proofs.Retelling.{told_run}
use Rattle.law.proofs.Runs.{Passes, final, rec, tests}
use Rattle.law.proofs.Sane.{In, Out, Sane, own}
use Rattle.law.proofs.Settle.{Known, Knows}
use Rattle.law.proofs.Stamping.{Late, awaits_old, finds_awaited, replay_passes, unborn_old}
use Rattle.law.proofs.Telling.{Gone, Old, Saw, ToldIn}
use Rattle.law.proofs.Turning.{sane_run}

awaits_touched : (x : ℕ) (s : Stamp) (e : Edit) → touches x (rec s e) ≡ true → (t : Stamp) × (awaits x e ≡ Some t)
awaits_touched x s (mkdir y p n) h = absurd (both_ways false refl h)
awaits_touched x s (create y p n) h = absurd (both_ways false refl h)
awaits_touched x s (store y c t) h = (t, elim (or_cases (eqb y x) false h) [ inl e ↦ rw e | inr e ↦ absurd (both_ways false refl e) ])
awaits_touched x s (remove y p n t) h = (t, rw h)
awaits_touched x s (rmdir y p n) h = absurd (both_ways false refl h)
awaits_touched x s (rename y p n q m) h = absurd (both_ways false refl h)

awaited_touched : (x : ℕ) (rs : List Record) → some_of (touches x) rs ≡ true → (t : Stamp) × (awaited x rs ≡ Some t)
awaited_touched x [] h = absurd (both_ways false refl h)
awaited_touched x (r ∷ rs) h = go (awaits x r.edit) refl (or_cases (touches x r) (some_of (touches x) rs) h) (awaited_touched x rs)
  where
    go : (o : Option Stamp) → awaits x r.edit ≡ o → (touches x r ≡ true) ⊎ (some_of (touches x) rs ≡ true) → (some_of (touches x) rs ≡ true → (t : Stamp) × (awaited x rs ≡ Some t)) → (t : Stamp) × (sooner o (awaited x rs) ≡ Some t)
    go (Some t) e k ih = (t, refl)
    go None e (inl k) ih = let j = awaits_touched x (stamp_of r) r.edit k in absurd (none-some j.0 (sym e ∙ j.1))
    go None e (inr k) ih = ih k

-- what a list awaits, it knows
awaits_known : (m n x : ℕ) (t : Stamp) (e : Edit) → Knows m n e → awaits x e ≡ Some t → Known m n x
awaits_known m n x t e k h = search rules

awaited_known : (m n x : ℕ) (t : Stamp) (rs : List Record) → AllByRecursion (λ r. Knows m n r.edit) rs → awaited x rs ≡ Some t → Known m n x
awaited_known m n x t [] k h = absurd (none-some t h)
awaited_known m n x t (r ∷ rs) k h = go (awaited_known m n x t rs k.1) (awaits x r.edit) refl h
  where
    go : (awaited x rs ≡ Some t → Known m n x) → (o : Option Stamp) → awaits x r.edit ≡ o → sooner o (awaited x rs) ≡ Some t → Known m n x
    go ih None e f = ih f
    go ih (Some u) e f = awaits_known m n x t r.edit k.0 (e ∙ f)

-- ---- a record that neither stores nor removes a file leaves it

abbrev Left : ℕ → Object → List Object → Type 0
Left x o l = (q : Object) × (at x l ≡ Some q) × (q.body ≡ o.body) × (q.stamp ≡ o.stamp)

file_not_dir : (o : Object) → regular o ≡ true → is_dir (Some o) ≡ true → ⊥
file_not_dir o f g = grind (arith, nat_tests)

unequal : (t : Stamp) (b : Bool) → cond b (Some t) None ≡ None → b ≡ false
unequal t b h = grind (arith, nat_tests)

module _ (cap x : ℕ) (s : Stamp) (l : List Object) (o : Object) (here : at x l ≡ Some o) (plain : regular o ≡ true) where
  leaves_one : (e : Edit) → Holds (tests cap e l) → awaits x e ≡ None → births x e ≡ false → Left x o (effect s e l)
  leaves_one (mkdir y p n) h k b = (o, at_insert x (fresh Directory p n y s) l b ∙ here, refl, refl)
  leaves_one (create y p n) h k b = (o, at_insert x (fresh File p n y s) l b ∙ here, refl, refl)
  leaves_one (store y c t) h k b = (o, at_other y (with_contents c s) (λ o. refl) l x (flip x y (unequal t (eqb y x) k)) ∙ here, refl, refl)
  leaves_one (remove y p n t) h k b = (o, at_without y x l (flip x y (unequal t (eqb y x) k)) ∙ here, refl, refl)
  leaves_one (rmdir y p n) h k b = go (eqb x y) refl
    where
      go : (c : Bool) → eqb x y ≡ c → Left x o (without y l)
      go true e = absurd (file_not_dir o plain (subst (λ z. is_dir z ≡ true) here (subst (λ z. is_dir (at z l) ≡ true) (sym (eqb-true x y e)) h.0)))
      go false e = (o, at_without y x l e ∙ here, refl, refl)
  leaves_one (rename y p n q m) h k b = (change_one y (with_place q m) o, at_change y x (with_place q m) (λ o. refl) l ∙ ap (option_map (change_one y (with_place q m))) here, body (is y o), stamp (is y o))
    where
      body : (c : Bool) → (cond c (with_place q m o) o).body ≡ o.body
      body true = refl
      body false = refl

      stamp : (c : Bool) → (cond c (with_place q m o) o).stamp ≡ o.stamp
      stamp true = refl
      stamp false = refl

none_parts : (o p : Option Stamp) → sooner o p ≡ None → (o ≡ None) × (p ≡ None)
none_parts None p h = (refl, h)
none_parts (Some t) p h = absurd (none-some t (sym h))

module _ (b N : ℕ) (bt : b ≤ temporary) (x : ℕ) (lt : x < b) where
  leaves_all : (cap : ℕ) (rs : List Record) (l : List Object) (o : Object) → at x l ≡ Some o → regular o ≡ true → AllByRecursion (λ r. Knows b N r.edit) rs → AllByRecursion (λ r. Late r.edit) rs → Passes cap (map (settled b N) rs) l → awaited x rs ≡ None → Left x o (final (map (settled b N) rs) l)
  leaves_all cap [] l o here plain k a h f = (o, here, refl, refl)
  leaves_all cap (r ∷ rs) l o here plain k a h f =
      let n = none_parts (awaits x r.edit) (awaited x rs) f in
      let e = settled_edit b N r.edit in
      let g = leaves_one cap x (stamp_of r) l o here plain e h.0 (awaits_old b N b N (omega arith) bt (omega arith) x lt r.edit k.0 ∙ n.0) (unborn_old b N b N (omega arith) bt (omega arith) x lt r.edit k.0 a.0) in
      let still : regular g.0 ≡ true = ap (λ (z : Body). let c : Bool = elim z [ dir ↦ false | file c ↦ true ] in c) g.2 ∙ plain in
      let i = leaves_all cap rs (effect (stamp_of r) e l) g.0 g.1 still k.1 a.1 h.1 n.1 in
      (i.0, i.1, i.2 ∙ g.2, i.3 ∙ g.3)

knows_low : (m b n : ℕ) → m ≤ b → (e : Edit) → Knows m n e → Knows b n e
knows_low m b n le e k = grind (arith, nat_tests)

-- ---- a join that passes

module _ (w : World) (start : Start w) (ts : List Turn) (a : ℕ) (d : Loader) (s : Stay) (there : Away a (run ts w) d s) where
  abbrev v : World
  v = run ts w

  abbrev ps : Pasts
  ps = pasts ts w new_pasts

  abbrev p : Past
  p = pasts ts w new_pasts a

  sane : Sane v ps
  sane = sane_run w start ts

  out : Out v.server.next d.copy d.memory p s
  out = subst (In v.server.next d.copy d.memory p) there.out (own v ps sane a d there.there).0.1

  off : Saw (Old v) v.server.objects p × Gone a d.serial d.copy.capacity (log s d) p s
  off = subst (ToldIn (Old v) v.server.objects a d.serial d.copy.capacity d.memory p) there.out ((told_run w start ts).each a d there.there).1

  low : (x : ℕ) (o : Object) → at x v.server.objects ≡ Some o → x < v.server.next
  low x o e =
      let k = at_all (λ o. (o.number < v.server.next) × (o.parent < v.server.next)) x v.server.objects sane.server.under.below (ap is_some e) in
      subst (λ z. z < v.server.next) (eqb-true k.0.number x (at_number x k.0 v.server.objects k.1)) k.2.0

  known : AllByRecursion (λ r. Knows out.from s.given r.edit) (log s d)
  known = subst (AllByRecursion (λ r. Knows out.from s.given r.edit)) (sym out.lies) out.sound.records

  abbrev Ran : (Tree × Loader) × Result (Result ℕ Clash) Fault → Type 0
  Ran z = (t : Tree) × (z.0.0 ≡ t) × (replay s.given (log s d) v.server ≡ Ok t)

  ran : (k u n : ℕ) → (step (join a k u) v).1 ≡ Ok (Records n) → (t : Tree) × ((step (join a k u) v).0.server ≡ t) × (replay s.given (log s d) v.server ≡ Ok t)
  ran k u n h = grind (arith, nat_tests)

  seen : (k u n : ℕ) → (step (join a k u) v).1 ≡ Ok (Records n) → (x : ℕ) (o : Object) → at x v.server.objects ≡ Some o → touched x p.list ≡ true → (q : Object) × (at x p.seen ≡ Some q) × (q.body ≡ o.body)
  seen k u n h x o here hit =
      let x-low : x < v.server.next = low x o here in
      let old : x < temporary = omega (arith, sane.server.high) in
      let e = awaited_touched x p.list hit in
      let f : awaited x (log s d) ≡ Some e.0 = off.1.alike x old ∙ e.1 in
      let j = off.1.starts x e.0 old e.1 in
      let early : x < out.from = elim (awaited_known out.from s.given x e.0 (log s d) known f) [ inl g ↦ g | inr g ↦ absurd (omega (arith, g.0)) ] in
      let r = ran k u n h in
      let passes = (replay_passes s.given (log s d) v.server r.0 r.2).0 in
      let q = finds_awaited out.from s.given v.server.next s.given out.early sane.server.high (omega arith) x early v.server.capacity (log s d) v.server.objects e.0 known off.1.late passes f in
      let i : q.0 ≡ o = cc (q.1, here) in
      (j.0, j.1, off.0.agree x j.0 o j.1 here (j.2 ∙ sym q.2 ∙ ap (λ z. z.stamp) i))

  others : (k u n : ℕ) → (step (join a k u) v).1 ≡ Ok (Records n) → (x : ℕ) (o : Object) → at x v.server.objects ≡ Some o → regular o ≡ true → touched x p.list ≡ false → (q : Object) × (at x (step (join a k u) v).0.server.objects ≡ Some q) × (q.body ≡ o.body) × (q.stamp ≡ o.stamp)
  others k u n h x o here plain miss =
      let lt : x < v.server.next = low x o here in
      let old : x < temporary = omega (arith, sane.server.high) in
      let r = ran k u n h in
      let passes = replay_passes s.given (log s d) v.server r.0 r.2 in
      let wide = All-weaker (λ r. Knows out.from s.given r.edit) (λ r. Knows v.server.next s.given r.edit) (λ r g. knows_low out.from v.server.next s.given out.early r.edit g) (log s d) known in
      let g = leaves_all v.server.next s.given sane.server.high x lt v.server.capacity (log s d) v.server.objects o here plain wide off.1.late passes.0 (off.1.alike x old ∙ untouched x p.list miss) in
      (g.0, ap (λ z. at x z.objects) r.1 ∙ ap (at x) passes.1 ∙ g.1, g.2, g.3)

pub overwrites_seen : JoinOverwritesOnlyWhatWasSeen
overwrites_seen w start ts a d s there k u n h x o here hit = seen w start ts a d s there k u n h x o here hit

pub leaves_others : JoinTouchesOnlyWhatIsListed
leaves_others w start ts a d s there k u n h x o here plain miss = others w start ts a d s there k u n h x o here plain miss
