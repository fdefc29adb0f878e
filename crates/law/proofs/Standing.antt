-- The server's numbers: what keeps them below its next number. Assumes nothing.
--     Stands t     the numbers and parents of t lie below its next number, itself at least 2 and not temporary
--     Lows b e     the numbers that the edit e puts into a tree lie below b
use Rattle.std.proofs.Common.{◌≡◌, ℕ, ◌+◌, ◌-◌, ◌<◌, ◌≤◌, true, false, not, ◌&&◌, eqb, ltb, leb, List, [], ◌∷◌, map, Some, Ok, Err, sym, refl, ap, ◌∙◌, subst, inl, inr, arith, rules}
use Rattle.std.specs.List.{AllByRecursion}
use Rattle.std.proofs.ByRecursion.{All-weaker}
use Rattle.std.proofs.lemmas.Bool.{both_ways, or_cases, and_parts, and_from, eqb-true, ltb-true, lt-ltb, leb-true, lt-leb, le-leb, cond_both, not-true}
use Rattle.model.proofs.Each.{all_keep}
use Rattle.model.specs.Applying.{applied, effect}
use Rattle.model.specs.Cancelling.{born}
use Rattle.model.specs.Loaders.{names_strange, none_strange, strange}
use Rattle.model.specs.Office.{Call, call_checks, called, edit_of, office_record, raised, spends}
use Rattle.model.specs.Records.{Edit, Record, create, mkdir, remove, rename, rmdir, stamp_of, store}
use Rattle.model.specs.Replaying.{Outcome, replay, replayed, settle, settled, settled_edit}
use Rattle.model.proofs.Serving.{first_keeps, raised_keeps, room_above}
use Rattle.tree.specs.Changes.{fresh, with_contents, with_next, with_place}
use Rattle.tree.specs.Questions.{dir_at, is_dir, is_some}
use Rattle.tree.specs.Trees.{Object, Tree, at, change, change_one, insert, is, with_objects, without}
use Rattle.tree.proofs.Ascending.{ascends_insert, ascends_keep, ascends_map}
use Rattle.tree.proofs.Changed.{at_number, some_none, dir_some}
use Rattle.tree.proofs.Objects.{change_number}
use Rattle.vocab.specs.declared.kind.Kind.TheVariants.{Directory, File}
use Rattle.vocab.specs.declared.stamp.Stamp.{Stamp}
use Rattle.vocab.specs.Checks.{Holds}
use Rattle.vocab.specs.Limits.{temporary}
use Rattle.law.specs.Spells.{Under}
use Rattle.law.proofs.Knowing.{all_change, all_insert, at_all}
use Rattle.law.proofs.Runs.{Passes, final, in_order, run_passes, tests}
use Rattle.law.proofs.Settle.{Known, Knows}

pub record Stands (t : Tree) : Type 0 where
  pub under : Under t.next t.objects
  pub low : 2 ≤ t.next
  pub high : t.next ≤ temporary

pub under_more : (m b : ℕ) → m ≤ b → (l : List Object) → Under m l → Under b l
under_more m b le l h = record { ascending = h.ascending; below = All-weaker (λ o. (o.number < m) × (o.parent < m)) (λ o. (o.number < b) × (o.parent < b)) (λ o g. (omega arith, omega arith)) l h.below }

abbrev Lows : ℕ → Edit → Type 0
Lows b (mkdir x p n) = (x < b) × (p < b)
Lows b (create x p n) = (x < b) × (p < b)
Lows b (store x c e) = Unit {0}
Lows b (remove x p n e) = Unit {0}
Lows b (rmdir x p n) = Unit {0}
Lows b (rename x p n q m) = q < b

module _ (b : ℕ) (l : List Object) (h : Under b l) where
  abbrev Low : Object → Type 0
  Low o = (o.number < b) × (o.parent < b)

  insert_under : (o : Object) → Low o → (leb 2 o.number && not (is_some (at o.number l))) ≡ true → Under b (insert o l)
  insert_under o a k =
      let ks = and_parts (leb 2 o.number) (not (is_some (at o.number l))) k in
      record {
        ascending = ascends_insert 2 o l (leb-true 2 o.number ks.0) (some_none (at o.number l) (not-true (is_some (at o.number l)) ks.1)) h.ascending;
        below = all_insert Low o l a h.below;
      }

  change_under : (x : ℕ) (g : Object → Object) → ((o : Object) → (g o).number ≡ o.number) → ((o : Object) → Low o → Low (g o)) → Under b (change x g l)
  change_under x g same k = record { ascending = ascends_map (change_one x g) (change_number x g same) 2 l h.ascending; below = all_change Low x g k l h.below }

  without_under : (x : ℕ) → Under b (without x l)
  without_under x = record { ascending = ascends_keep (λ o. not (is x o)) 2 l h.ascending; below = all_keep Low (λ o. not (is x o)) l h.below }

  effect_under : (cap : ℕ) (s : Stamp) (e : Edit) → Holds (tests cap e l) → Lows b e → Under b (effect s e l)
  effect_under cap s (mkdir x p n) k a = insert_under (fresh Directory p n x s) a k.1.1.1.1.0
  effect_under cap s (create x p n) k a = insert_under (fresh File p n x s) a k.1.1.1.1.0
  effect_under cap s (store x c e) k a = change_under x (with_contents c s) (λ o. refl) (λ o g. g)
  effect_under cap s (remove x p n e) k a = without_under x
  effect_under cap s (rmdir x p n) k a = without_under x
  effect_under cap s (rename x p n q m) k a = change_under x (with_place q m) (λ o. refl) (λ o g. (g.0, a))

  dir_under : (p : ℕ) → 1 < b → dir_at p l ≡ true → p < b
  dir_under p root d = elim (or_cases (eqb p 1) (is_dir (at p l)) d) [ inl e ↦ omega (arith, eqb-true p 1 e) | inr e ↦ found (at_all Low p l h.below (ap is_some (dir_some (at p l) e).1)) ]
    where
      found : (o : Object) × (at p l ≡ Some o) × Low o → p < b
      found k = subst (λ z. z < b) (eqb-true k.0.number p (at_number p k.0 l k.1)) k.2.0

-- ---- the office's calls

module _ (t : Tree) (ok : Stands t) where
  under_dir : (p : ℕ) → dir_at p t.objects ≡ true → p < t.next
  under_dir p d = let two = ok.low in dir_under t.next t.objects ok.under p (omega arith) d

  office_lows : (c : Call) → Holds (tests t.capacity (edit_of t.next c t) t.objects) → Lows (t.next + spends c) (edit_of t.next c t)
  office_lows c h = search (rules, under_dir)

  abbrev After : Tree → Type 0
  After u = Stands u × (t.next ≤ u.next)

  pub office_stands : (c : Call) → After (called c t).0
  office_stands c =
      let r = office_record c t in
      let k = spends c in
      let now : After t = (ok, omega arith) in
      first_keeps After (call_checks c t) t (raised k (applied r t)) now
      (λ h.
      subst (λ z. After (raised k z).0) (sym (in_order t r))
      (raised_keeps After k (tests t.capacity r.edit t.objects) t (with_objects t (effect (stamp_of r) r.edit t.objects)) now
      (λ g. (
        record {
          under = effect_under (t.next + k) t.objects (under_more t.next (t.next + k) (omega arith) t.objects ok.under) t.capacity (stamp_of r) r.edit g (office_lows c g);
          low = omega (arith, ok.low);
          high = room_above t c ok.high h;
        },
        omega arith,
      ))))

-- ---- replays

module _ (m n b : ℕ) (mb : m ≤ b) (bt : b ≤ temporary) where
  settle_low : (x : ℕ) → Known m n x → settle b n x < b + n
  settle_low x k = cond_both (born n x) (b + (x - temporary)) x (λ z. z < b + n)
      (λ e. let g = and_parts (leb temporary x) (ltb x (temporary + n)) e in omega (arith, leb-true temporary x g.0, ltb-true x (temporary + n) g.1))
      (λ e. elim k [ inl h ↦ omega arith | inr h ↦ absurd (both_ways (born n x) e (and_from (leb temporary x) (ltb x (temporary + n)) (le-leb temporary x h.0) (lt-ltb x (temporary + n) h.1))) ])

  settled_lows : (e : Edit) → Knows m n e → Lows (b + n) (settled_edit b n e)
  settled_lows e k = search rules

  final_under : (cap : ℕ) (rs : List Record) (l : List Object) → AllByRecursion (λ r. Knows m n r.edit) rs → Passes cap (map (settled b n) rs) l → Under (b + n) l → Under (b + n) (final (map (settled b n) rs) l)
  final_under cap [] l k h g = g
  final_under cap (r ∷ rs) l k h g = final_under cap rs (effect (stamp_of r) (settled_edit b n r.edit) l) k.1 h.1 (effect_under (b + n) l g cap (stamp_of r) (settled_edit b n r.edit) h.0 (settled_lows r.edit k.0))

module _ (m n : ℕ) (t : Tree) (ok : Stands t) (mb : m ≤ t.next) (room : t.next + n ≤ temporary) where
  pub replay_stands : (rs : List Record) → AllByRecursion (λ r. Knows m n r.edit) rs → (u : Tree) → replay n rs t ≡ Ok u → Stands u × (t.next ≤ u.next)
  replay_stands rs known u h = go (replayed t.next n rs t) refl h
    where
      go : (o : Outcome) → replayed t.next n rs t ≡ o → ◌≡◌ {A = Outcome} (elim o [ Ok w ↦ Ok (with_next w (t.next + n)) | Err c ↦ Err c ]) (Ok u) → Stands u × (t.next ≤ u.next)
      go (Ok w) e g =
          let ran = run_passes t.next n rs t w e in
          let same : with_next w (t.next + n) ≡ u = cc in
          subst (λ z. Stands z × (t.next ≤ z.next)) (ap (λ z. with_next z (t.next + n)) (sym ran.1) ∙ same) (
            record {
              under = final_under m n t.next mb ok.high t.capacity rs t.objects known ran.0 (under_more t.next (t.next + n) (omega arith) t.objects ok.under);
              low = omega (arith, ok.low);
              high = room;
            },
            omega arith,
          )
      go (Err c) e g = let z : ◌≡◌ {A = ℕ} 0 1 = cc in absurd (omega arith)

-- ---- no number of a log is strange

module _ (m n : ℕ) (mt : m ≤ temporary) where
  not_strange : (x : ℕ) → Known m n x → strange n x ≡ false
  not_strange x (inl h) = lt-leb (temporary + n) x (omega arith)
  not_strange x (inr h) = lt-leb (temporary + n) x (omega arith)

  names_none : (e : Edit) → Knows m n e → names_strange n e ≡ false
  names_none e k = search rules

  pub log_known : (rs : List Record) → AllByRecursion (λ r. Knows m n r.edit) rs → none_strange n rs ≡ true
  log_known [] k = refl
  log_known (r ∷ rs) k = and_from (not (names_strange n r.edit)) (none_strange n rs) (ap not (names_none r.edit k.0)) (log_known rs k.1)
