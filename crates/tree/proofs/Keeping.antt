-- Each operation keeps a tree lawful. Assumes nothing.
use Rattle.std.proofs.Common.{◌≡◌, ℕ, zero, ◌+◌, ◌^◌, ◌<◌, ◌≤◌, Bool, true, false, cond, not, ◌&&◌, ◌||◌, eqb, leb, ◌⊎◌, List, [], ◌∷◌, length, Some, None, Option, sym, refl, ap, ◌∙◌, subst, inl, inr, ⊎_elim, arith, length-append}
use Rattle.std.specs.Option.{option_map}
use Rattle.std.proofs.lemmas.Bool.{both_ways, or_cases, or_left, or_right, and_parts, eqb-false, ne_eqb, cases_eq, ltb-true, leb-true, cases_Bool, not-true}
use Rattle.std.proofs.lemmas.Bool.Decides.{nat_tests}
use Rattle.vocab.specs.Limits.{temporary}
use Rattle.vocab.specs.declared.kind.Kind.{Kind}
use Rattle.vocab.specs.declared.kind.Kind.TheVariants.{Directory, File}
use Rattle.vocab.specs.declared.refusal.Refusal.TheVariants.{NextOutOfRange}
use Rattle.vocab.specs.declared.stamp.Stamp.{Stamp}
use Rattle.vocab.specs.Checks.{check}
use Rattle.vocab.specs.Names.{valid_name}
use Rattle.vocab.proofs.Judging.{judge_keeps}
use Rattle.vocab.proofs.Naming.{same_flip}
use Rattle.tree.specs.Changes.{add_checks, added, cleared, drop_checks, dropped, fresh, move_checks, moved, next_set, put, put_checks, with_contents, with_next, with_place}
use Rattle.tree.specs.Law.{Lawful, LawfulObject, StampFits}
use Rattle.tree.specs.Questions.{child_of, climbs, contents, dir_at, directory, has_child, is_dir, is_some, placed, taken}
use Rattle.tree.specs.Trees.{Object, Tree, at, change, change_one, higher, insert, is, keep, lower, with_objects, without}
use Rattle.tree.proofs.Ascending.{ascends_insert, ascends_keep, ascends_map, at_insert_other, at_insert_own, at_without_own}
use Rattle.tree.proofs.Changed.{at_change, at_other, at_own, dir_file, dir_some, some_at, some_none, some_some}
use Rattle.tree.proofs.Climbing.{Follows, Leads, climbs_avoids, climbs_follows, climbs_moved, climbs_short, leads_step, without_follows}
use Rattle.tree.proofs.Lists.{length_keep, length_map, some_keep}
use Rattle.tree.proofs.Objects.{at_without, change_number, climbs_without}

pub placed_flip : (o p : Object) → placed o.parent o.name p ≡ placed p.parent p.name o
placed_flip o p = let e = same_flip p.name o.name in grind (arith, nat_tests)

-- an object among others that stand for the old ones
fine_follows : (cap : ℕ) (l m : List Object) (o : Object) → Follows l m → (dir_at o.parent l ≡ true → dir_at o.parent m ≡ true) → LawfulObject cap l o → LawfulObject cap m o
fine_follows cap l m o f d w = record { number = w.number; name = w.name; stamp = w.stamp; short = w.short; home = d w.home; rooted = climbs_follows cap 1 o.parent l m f w.rooted }

pub dir_leads : (t : Tree) → Lawful t → (p : ℕ) → dir_at p t.objects ≡ true → Leads p t.objects
dir_leads t w p h =
    ⊎_elim
    (λ e. (zero, e))
    (λ e. let v = dir_some (at p t.objects) e in leads_step p t.objects v.0 v.1 (t.capacity, (w.each p v.0 v.1).rooted))
    (or_cases (eqb p 1) _ h)

-- ---- add
module _ (t : Tree) (w : Lawful t) (o : Object) (free : at o.number t.objects ≡ None) where
  insert_old : (y : ℕ) (p : Object) → at y t.objects ≡ Some p → at y (insert o t.objects) ≡ Some p
  insert_old y p e = at_insert_other o t.objects y (λ q. let z : None ≡ Some p = sym free ∙ ap (λ y. at y t.objects) q ∙ e in let k : ◌≡◌ {A = ℕ} 0 1 = cc in omega arith) ∙ e

  dir_old : (p : ℕ) → dir_at p t.objects ≡ true → dir_at p (insert o t.objects) ≡ true
  dir_old p h = ⊎_elim (λ e. or_left (eqb p 1) _ e) (λ e. let v = dir_some (at p t.objects) e in or_right (eqb p 1) _ (ap is_dir (insert_old p v.0 v.1 ∙ sym v.1) ∙ e)) (or_cases (eqb p 1) _ h)

  follows_old : Follows t.objects (insert o t.objects)
  follows_old y p e = (p, insert_old y p e, refl)

  -- what stands there now
  new_or_old : (y : ℕ) (p : Object) → at y (insert o t.objects) ≡ Some p → ((o.number ≡ y) × (o ≡ p)) ⊎ (at y t.objects ≡ Some p)
  new_or_old y p e =
      ⊎_elim
      (λ q. let z : Some o ≡ Some p = sym (at_insert_own o t.objects) ∙ ap (λ y. at y (insert o t.objects)) q ∙ e in inl (q, cc))
      (λ ne. inr (sym (at_insert_other o t.objects y ne) ∙ e))
      (cases_eq o.number y)

  pub insert_lawful : 2 ≤ o.number → o.number < 2 ^ 32 → valid_name o.name ≡ true → StampFits o.stamp → length (contents o) ≤ 256 → dir_at o.parent t.objects ≡ true → taken o.parent o.name t.objects ≡ false → length t.objects < t.capacity → Lawful (with_objects t (insert o t.objects))
  insert_lawful low high name stamp few home place room =
      let l = t.objects in
      let count : length (insert o l) ≤ t.capacity = simp length-append (omega (arith, length_cut o l)) in
      let up = dir_leads t w o.parent home in
      let mine : LawfulObject t.capacity (insert o l) o = record {
        number = high;
        name = name;
        stamp = stamp;
        short = few;
        home = dir_old o.parent home;
        rooted = climbs_short 1 up.0 o.parent (insert o l) t.capacity count (climbs_follows up.0 1 o.parent l (insert o l) follows_old up.1);
      } in
      record {
        next_low = w.next_low;
        next_high = w.next_high;
        ascending = ascends_insert 2 o l low free w.ascending;
        each = λ y p e.
            ⊎_elim
            (λ q. subst (LawfulObject t.capacity (insert o l)) q.1 mine)
            (λ q. fine_follows t.capacity l (insert o l) p follows_old (dir_old p.parent) (w.each y p q))
            (new_or_old y p e);
        names = λ x y p q e f h.
            ⊎_elim
            (λ a.
            ⊎_elim
            (λ b. sym a.0 ∙ b.0)
            (λ b. absurd (both_ways (placed o.parent o.name q) (some_at (placed o.parent o.name) y q l place b) (ap (λ z. placed z.parent z.name q) a.1 ∙ h)))
            (new_or_old y q f))
            (λ a.
            ⊎_elim
            (λ b. absurd (both_ways (placed o.parent o.name p) (some_at (placed o.parent o.name) x p l place a) (placed_flip o p ∙ ap (placed p.parent p.name) b.1 ∙ h)))
            (λ b. w.names x y p q a b h)
            (new_or_old y q f))
            (new_or_old x p e);
        room = count;
      }
    where
      length_cut : (o : Object) (l : List Object) → length (keep (lower o.number) l) + length (keep (higher o.number) l) ≡ length l
      length_cut o [] = refl
      length_cut o (x ∷ l) = let ih = length_cut o l in grind (arith, cases_Bool (lower o.number x))

-- ---- drop
pub without_lawful : (t : Tree) → Lawful t → (x : ℕ) → has_child x t.objects ≡ false → Lawful (with_objects t (without x t.objects))
without_lawful t w x h =
    let l = t.objects in
    let old : (y : ℕ) (p : Object) → at y (without x l) ≡ Some p → at y l ≡ Some p = λ y p e. let v = without_follows x l y p e in go y p e in
    record {
      next_low = w.next_low;
      next_high = w.next_high;
      ascending = ascends_keep (λ o. not (is x o)) 2 l w.ascending;
      each = λ y p e.
          let v = w.each y p (old y p e) in
          let ne = some_at (child_of x) y p l h (old y p e) in
          record {
            number = v.number;
            name = v.name;
            stamp = v.stamp;
            short = v.short;
            home = ap (λ r. eqb p.parent 1 || is_dir r) (at_without x p.parent l ne) ∙ v.home;
            rooted = climbs_without t.capacity x 1 p.parent l (some_keep (child_of x) (λ o. not (is x o)) l h) ne ∙ v.rooted;
          };
      names = λ y z p q e f k. w.names y z p q (old y p e) (old z q f) k;
      room = omega (arith, w.room, length_keep (λ o. not (is x o)) l);
    }
  where
    go : (y : ℕ) (p : Object) → at y (without x t.objects) ≡ Some p → at y t.objects ≡ Some p
    go y p e =
        ⊎_elim
        (λ q. let z : None ≡ Some p = sym (at_without_own x t.objects) ∙ ap (λ y. at y (without x t.objects)) (sym q) ∙ e in let k : ◌≡◌ {A = ℕ} 0 1 = cc in absurd (omega arith))
        (λ ne. sym (at_without x y t.objects (ne_eqb y x ne)) ∙ e)
        (cases_eq y x)

-- ---- put and move: one object changes
module _ (t : Tree) (w : Lawful t) (x : ℕ) (g : Object → Object) (same : (o : Object) → (g o).number ≡ o.number) where
  changed_or_old : (y : ℕ) (p : Object) → at y (change x g t.objects) ≡ Some p → ((o : Object) × (y ≡ x) × (at x t.objects ≡ Some o) × (g o ≡ p)) ⊎ ((eqb y x ≡ false) × (at y t.objects ≡ Some p))
  changed_or_old y p e =
      ⊎_elim
      (λ q. inl (go q (at x t.objects) refl (sym (at_own x g same t.objects) ∙ ap (λ y. at y (change x g t.objects)) (sym q) ∙ e)))
      (λ ne. inr (ne_eqb y x ne, sym (at_other x g same t.objects y (ne_eqb y x ne)) ∙ e))
      (cases_eq y x)
    where
      go : y ≡ x → (r : Option Object) → at x t.objects ≡ r → option_map g r ≡ Some p → (o : Object) × (y ≡ x) × (at x t.objects ≡ Some o) × (g o ≡ p)
      go q None f h = let z : ◌≡◌ {A = ℕ} 0 1 = cc in absurd (omega arith)
      go q (Some o) f h = (o, q, f, cc)

  changed_dir : ((o : Object) → at x t.objects ≡ Some o → directory (g o) ≡ directory o) → (p : ℕ) → dir_at p t.objects ≡ true → dir_at p (change x g t.objects) ≡ true
  changed_dir keeps p h =
      ⊎_elim
      (λ e. or_left (eqb p 1) _ e)
      (λ e.
      let v = dir_some (at p t.objects) e in
      or_right (eqb p 1) _
      (⊎_elim
      (λ q.
      let here : at x t.objects ≡ Some v.0 = ap (λ y. at y t.objects) (sym q) ∙ v.1 in
      ap (λ y. is_dir (at y (change x g t.objects))) q ∙ ap is_dir (at_own x g same t.objects ∙ ap (option_map g) here) ∙ keeps v.0 here ∙ ap is_dir (sym v.1) ∙ e)
      (λ ne. ap is_dir (at_other x g same t.objects p (ne_eqb p x ne)) ∙ e)
      (cases_eq p x)))
      (or_cases (eqb p 1) _ h)

  pub change_lawful : ((o : Object) → at x t.objects ≡ Some o → (valid_name (g o).name ≡ true) × StampFits (g o).stamp × (length (contents (g o)) ≤ 256) × (dir_at (g o).parent t.objects ≡ true) × (directory (g o) ≡ directory o)) → ((k p : ℕ) → climbs k 1 p t.objects ≡ true → Leads p (change x g t.objects)) → ((y : ℕ) (o p : Object) → at x t.objects ≡ Some o → at y t.objects ≡ Some p → eqb y x ≡ false → placed (g o).parent (g o).name p ≡ false) → Lawful (with_objects t (change x g t.objects))
  change_lawful fits leads apart =
      let l = t.objects in
      let m = change x g l in
      let count : length m ≤ t.capacity = omega (arith, w.room, length_map (change_one x g) l) in
      let up : (k p : ℕ) → climbs k 1 p l ≡ true → climbs t.capacity 1 p m ≡ true = λ k p h. let v = leads k p h in climbs_short 1 v.0 p m t.capacity count v.1 in
      let home = changed_dir (λ o e. (fits o e).4) in
      record {
        next_low = w.next_low;
        next_high = w.next_high;
        ascending = ascends_map (change_one x g) (change_number x g same) 2 l w.ascending;
        each = λ y p e.
            ⊎_elim
            (λ v.
            let o = v.0 in
            let old = w.each x o v.2 in
            let new = fits o v.2 in
            let lead = dir_leads t w (g o).parent new.3 in
            let fine : LawfulObject t.capacity m (g o) = record { number = omega (arith, same o, old.number); name = new.0; stamp = new.1; short = new.2; home = home (g o).parent new.3; rooted = up lead.0 (g o).parent lead.1 } in
            subst (LawfulObject t.capacity m) v.3 fine)
            (λ v.
            let old = w.each y p v.1 in
            record { number = old.number; name = old.name; stamp = old.stamp; short = old.short; home = home p.parent old.home; rooted = up t.capacity p.parent old.rooted })
            (changed_or_old y p e);
        names = λ y z p q e f h.
            ⊎_elim
            (λ a.
            ⊎_elim
            (λ b. a.1 ∙ sym b.1)
            (λ b. absurd (both_ways (placed (g a.0).parent (g a.0).name q) (apart z a.0 q a.2 b.1 b.0) (ap (λ u. placed u.parent u.name q) a.3 ∙ h)))
            (changed_or_old z q f))
            (λ a.
            ⊎_elim
            (λ b. absurd (both_ways (placed (g b.0).parent (g b.0).name p) (apart y b.0 p b.2 a.1 a.0) (placed_flip (g b.0) p ∙ ap (placed p.parent p.name) b.3 ∙ h)))
            (λ b. w.names y z p q a.1 b.1 h)
            (changed_or_old z q f))
            (changed_or_old y p e);
        room = count;
      }

-- ---- the operations
module _ (t : Tree) (w : Lawful t) where
  pub added_lawful : (k : Kind) (p : ℕ) (n : List ℕ) (x : ℕ) (s : Stamp) → x < 2 ^ 32 → StampFits s → Lawful (added t k p n x s).0
  added_lawful k p n x s high fits =
      judge_keeps Lawful (add_checks t p n x) t (with_objects t (insert (fresh k p n x s) t.objects), tt) w
      (λ h.
      let a = and_parts (leb 2 x) (not (is_some (at x t.objects))) h.1.0 in
      insert_lawful t w (fresh k p n x s) (some_none (at x t.objects) (not-true _ a.1)) (leb-true 2 x a.0) high h.0 fits (few k) h.1.1.0 (not-true _ h.1.1.1.0) (ltb-true (length t.objects) t.capacity h.1.1.1.1.0))
    where
      few : (k : Kind) → length (contents (fresh k p n x s)) ≤ 256
      few Directory = omega arith
      few File = omega arith

  pub dropped_lawful : (x : ℕ) → Lawful (dropped t x).0
  dropped_lawful x = judge_keeps Lawful (drop_checks t x) t (with_objects t (without x t.objects), tt) w (λ h. without_lawful t w x (not-true _ h.1.0))

  pub put_lawful : (x : ℕ) (c : List ℕ) (s : Stamp) → StampFits s → Lawful (put t x c s).0
  put_lawful x c s fits =
      let l = t.objects in
      judge_keeps Lawful (put_checks t x c) t (with_objects t (change x (with_contents c s) l), tt) w
      (λ h.
      change_lawful t w x (with_contents c s) (λ o. refl)
      (λ o e. let v = w.each x o e in (v.name, fits, leb-true (length c) 256 h.1.0, v.home, sym (ap is_dir (sym e) ∙ dir_file (at x l) h.0)))
      (λ k p e. (k, climbs_follows k 1 p l (change x (with_contents c s) l) (λ y o f. (change_one x (with_contents c s) o, at_change x y (with_contents c s) (λ o. refl) l ∙ ap (option_map (change_one x (with_contents c s))) f, kept o (is x o))) e))
      (λ y o p e f ne. ⊎_elim (λ b. absurd (eqb-false y x ne (sym (w.names x y o p e f b)))) (λ b. b) (cases_Bool (placed o.parent o.name p))))
    where
      kept : (o : Object) (b : Bool) → (cond b (with_contents c s o) o).parent ≡ o.parent
      kept o true = refl
      kept o false = refl

  pub moved_lawful : (x q : ℕ) (m : List ℕ) → Lawful (moved t x q m).0
  moved_lawful x q m =
      let l = t.objects in
      judge_keeps Lawful (move_checks t x q m) t (with_objects t (change x (with_place q m) l), tt) w
      (λ h.
      let v = some_some (at x l) h.1.0 in
      let other = at_other x (with_place q m) (λ o. refl) l in
      let lead = dir_leads t w q h.1.1.0 in
      let up = climbs_avoids x q l (change x (with_place q m) l) other t.capacity q (not-true _ h.1.1.1.1.0) (climbs_short 1 lead.0 q l t.capacity w.room lead.1) in
      change_lawful t w x (with_place q m) (λ o. refl)
      (λ o e. let u = w.each x o e in (h.0, u.stamp, u.short, h.1.1.0, refl))
      (climbs_moved x q l (change x (with_place q m) l) other (with_place q m v.0) (at_own x (with_place q m) (λ o. refl) l ∙ ap (option_map (with_place q m)) v.1) (t.capacity, up))
      (λ y o p e f ne. some_at (placed q m) y p l (not-true _ h.1.1.1.0) f))

  pub next_lawful : (n : ℕ) → Lawful (next_set t n).0
  next_lawful n =
      judge_keeps Lawful (check (leb t.next n && leb n temporary) NextOutOfRange ∷ []) t (with_next t n, tt) w
      (λ h.
      let a = and_parts (leb t.next n) (leb n temporary) h.0 in
      record { next_low = omega (arith, w.next_low, leb-true t.next n a.0); next_high = leb-true n temporary a.1; ascending = w.ascending; each = w.each; names = w.names; room = w.room })

-- a tree of no objects
pub bare_lawful : (cap n : ℕ) → 2 ≤ n → n ≤ temporary → Lawful (record { capacity = cap; next = n; objects = [] })
bare_lawful cap n low high = record {
  next_low = low;
  next_high = high;
  ascending = tt;
  each = λ x o e. absurd (let z : ◌≡◌ {A = ℕ} 0 1 = cc in omega arith);
  names = λ x y o p e f h. absurd (let z : ◌≡◌ {A = ℕ} 0 1 = cc in omega arith);
  room = omega arith;
}

pub cleared_lawful : (t : Tree) → Lawful t → Lawful (cleared t)
cleared_lawful t w = bare_lawful t.capacity t.next w.next_low w.next_high
