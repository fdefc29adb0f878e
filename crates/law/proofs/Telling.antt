-- What each loader knows of the server's stamps, in every run. Assumes nothing.
--     Old w s          the stamp s may have been used in w: those by the office, or by a loader of w, lie below what they use next
--     Saw Old l p      the stamps of what was seen are old, and what was seen agrees with the server's objects l
--     Gone             the log awaits of older files what the list does, and that is what was seen
--     Told w ps        so for each loader of w
use Rattle.std.proofs.Common.{◌≡◌, ℕ, ◌<◌, ◌≤◌, Bool, true, false, eqb, List, [], ◌∷◌, take, Some, None, sym, refl, ◌∙◌, subst, arith}
use Rattle.std.specs.List.{AllByRecursion}
use Rattle.std.proofs.ByRecursion.{All-weaker}
use Rattle.std.proofs.lemmas.Bool.{eqb-true, eqb-false, eq-eqb, ne_eqb, cond-true, cond-false}
use Rattle.std.proofs.lemmas.Bool.Decides.{nat_tests}
use Rattle.std.proofs.lemmas.Option.{none-some}
use Rattle.model.specs.Loaders.{Loader, Spell as Stay, State, away, home}
use Rattle.model.specs.Past.{Past, Pasts, put_past, shadow}
use Rattle.model.specs.Records.{Record}
use Rattle.model.specs.Worlds.{World, loader_of, put_loader, put_server, with_loader}
use Rattle.tree.specs.Trees.{Object, Tree}
use Rattle.vocab.specs.declared.stamp.Stamp.{Stamp}
use Rattle.vocab.specs.Limits.{temporary}
use Rattle.law.proofs.Awaiting.{awaited}
use Rattle.law.proofs.Stamping.{Agree, Has, Late, Spans, Used}

abbrev pub level : State → ℕ → ℕ
level (home b) n = n
level (away s) n = s.base

abbrev pub Old : World → Stamp → Type 0
Old w s = (s.author ≡ 0 → s.serial < w.server.next) × ((e : Loader) → loader_of s.author w.loaders ≡ Some e → s.serial ≤ level e.state e.serial)

pub record Saw (Was : Stamp → Type 0) (l : List Object) (p : Past) : Type 0 where
  pub stale : Used Was p.seen
  pub agree : Agree p.seen l

pub record Gone (a serial cap : ℕ) (rs : List Record) (p : Past) (s : Stay) : Type 0 where
  pub order : s.base ≤ serial
  pub spans : AllByRecursion (Spans a s.base serial) rs
  pub late : AllByRecursion (λ r. Late r.edit) rs
  pub alike : (x : ℕ) → x < temporary → awaited x rs ≡ awaited x p.list
  pub starts : (x : ℕ) (t : Stamp) → x < temporary → awaited x p.list ≡ Some t → Has x t p.seen
  pub rest : (x : ℕ) (t : Stamp) → x < temporary → awaited x p.list ≡ None → Has x t (shadow cap p).objects → Has x t p.seen

abbrev pub ToldIn : (Stamp → Type 0) → List Object → ℕ → ℕ → ℕ → List Record → Past → State → Type 0
ToldIn Was l a serial cap memory p (home b) = b ≡ true → Saw Was l p
ToldIn Was l a serial cap memory p (away s) = Saw Was l p × Gone a serial cap (take s.count memory) p s

abbrev pub Tells : (Stamp → Type 0) → List Object → ℕ → Loader → Past → Type 0
Tells Was l a d p = (0 < a) × ToldIn Was l a d.serial d.copy.capacity d.memory p d.state

pub record Told (w : World) (ps : Pasts) : Type 0 where
  pub old : Used (Old w) w.server.objects
  pub each : (a : ℕ) (d : Loader) → loader_of a w.loaders ≡ Some d → Tells (Old w) w.server.objects a d (ps a)

abbrev Moves : (Stamp → Type 0) → List Object → List Object → Type 0
Moves Was l k = (seen : List Object) → Used Was seen → Agree seen l → Agree seen k

module _ (Was Now : Stamp → Type 0) (grow : (s : Stamp) → Was s → Now s) (l k : List Object) (move : Moves Was l k) where
  saw_later : (p : Past) → Saw Was l p → Saw Now k p
  saw_later p g = record { stale = All-weaker (λ o. Was o.stamp) (λ o. Now o.stamp) (λ o h. grow o.stamp h) p.seen g.stale; agree = move p.seen g.stale g.agree }

  pub told_later : (a serial cap : ℕ) (memory : List Record) (p : Past) (r : State) → ToldIn Was l a serial cap memory p r → ToldIn Now k a serial cap memory p r
  told_later a serial cap memory p (home b) h = λ e. saw_later p (h e)
  told_later a serial cap memory p (away s) h = (saw_later p h.0, h.1)

-- ---- one loader in another's place

pub put_own : (e : Loader) (ds : List Loader) (f : Loader) → loader_of e.number (with_loader e ds) ≡ Some f → f ≡ e
put_own e [] f h = absurd (none-some f h)
put_own e (d ∷ ds) f h = let ih = put_own e ds f in grind (arith, nat_tests)

put_other : (e : Loader) (b : ℕ) → (b ≡ e.number → ⊥) → (ds : List Loader) → loader_of b (with_loader e ds) ≡ loader_of b ds
put_other e b ne [] = refl
put_other e b ne (d ∷ ds) = let ih = put_other e b ne ds in grind (arith, nat_tests, ne)

module _ (w : World) (ps : Pasts) (h : Told w ps) (a : ℕ) (d : Loader) (there : loader_of a w.loaders ≡ Some d) (e : Loader) (mine : e.number ≡ a) (u : Tree) (le : w.server.next ≤ u.next) (up : level d.state d.serial ≤ level e.state e.serial) where
  abbrev v : World
  v = put_loader e (put_server u w)

  pub grow : (s : Stamp) → Old w s → Old v s
  grow s k = grind (arith, nat_tests, put_own, put_other)

  pub put_told : (qs : Pasts) → Moves (Old w) w.server.objects u.objects → Used (Old v) u.objects → Tells (Old v) u.objects a e (qs a) → ((b : ℕ) → (b ≡ a → ⊥) → qs b ≡ ps b) → Told v qs
  put_told qs move used own same = record { old = used; each = λ b f t. go b f t (eqb b e.number) refl }
    where
      go : (b : ℕ) (f : Loader) → loader_of b (with_loader e w.loaders) ≡ Some f → (c : Bool) → eqb b e.number ≡ c → Tells (Old v) u.objects b f (qs b)
      go b f t true g =
          let is = eqb-true b e.number g in
          let same : f ≡ e = put_own e w.loaders f (subst (λ z. loader_of z (with_loader e w.loaders) ≡ Some f) is t) in
          subst (λ z. Tells (Old v) u.objects b z (qs b)) (sym same) (subst (λ z. Tells (Old v) u.objects z e (qs z)) (sym (is ∙ mine)) own)
      go b f t false g =
          let ne = eqb-false b e.number g in
          let k = h.each b f (sym (put_other e b ne w.loaders) ∙ t) in
          subst (Tells (Old v) u.objects b f) (sym (same b (λ z. ne (z ∙ sym mine)))) (k.0, told_later (Old w) (Old v) grow w.server.objects u.objects move b f.serial f.copy.capacity f.memory (ps b) f.state k.1)

module _ (w : World) (ps : Pasts) (h : Told w ps) (a : ℕ) (d : Loader) (there : loader_of a w.loaders ≡ Some d) (e : Loader) (mine : e.number ≡ a) (up : level d.state d.serial ≤ level e.state e.serial) where
  pub grows : (s : Stamp) → Old w s → Old (put_loader e w) s
  grows = grow w ps h a d there e mine w.server (omega arith) up

  pub put_here : (qs : Pasts) → Tells (Old (put_loader e w)) w.server.objects a e (qs a) → ((b : ℕ) → (b ≡ a → ⊥) → qs b ≡ ps b) → Told (put_loader e w) qs
  put_here qs own same = put_told w ps h a d there e mine w.server (omega arith) up qs (λ seen k g. g) (All-weaker (λ o. Old w o.stamp) (λ o. Old (put_loader e w) o.stamp) (λ o k. grows o.stamp k) w.server.objects h.old) own same

  pub put_past_here : (p : Past) → Tells (Old (put_loader e w)) w.server.objects a e p → Told (put_loader e w) (put_past a p ps)
  put_past_here p own = put_here (put_past a p ps) (subst (Tells (Old (put_loader e w)) w.server.objects a e) (sym (cond-true (eqb a a) p (ps a) (eq-eqb a a refl))) own) (λ b ne. cond-false (eqb b a) p (ps b) (ne_eqb b a ne))
