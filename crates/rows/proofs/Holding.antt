-- How the objects of a table follow its rows. Assumes nothing.
use Rattle.std.proofs.Common.{◌≡◌, nat_lt, ℕ, zero, suc, min, Bool, true, false, cond, not, ◌&&◌, List, [], ◌∷◌, ◌++◌, length, get_or, set, is_some as option_is_some, Some, None, Option, sym, refl, ap, ◌∙◌, ⊎_elim, arith}
use Rattle.std.specs.Option.{option_map}
use Rattle.std.specs.List.{reduce, filter_map, cons_option, fold}
use Rattle.std.proofs.Math.Nat.{min_comm}
use Rattle.std.proofs.lemmas.Bool.{both_ways, or_from, or_left, or_right, eqb-true, eqb-false, ne_eqb, cases_eq, cond-true, cond-false}
use Rattle.tree.specs.Questions.{child, child_of, smaller}
use Rattle.tree.specs.Trees.{Ascends, Object, at, change, change_one, insert, is, some_of, without}
use Rattle.tree.proofs.Ascending.{ascends_uninsert, at_insert_other, at_insert_own, change_none, without_none}
use Rattle.tree.proofs.Inserting.{change_insert, child_insert, insert_insert, length_insert, some_insert}
use Rattle.tree.proofs.Objects.{Split, split_insert, split_keep, without_insert, without_own_insert}
use Rattle.rows.specs.declared.row.Entry.{Entry}
use Rattle.rows.specs.declared.search.Place.{Place}
use Rattle.rows.specs.Rows.{FirstAt, Found, Nowhere, Searched, free, number_if, object_of, objects_in, on}

pub split_rows : (rows : List (Option Entry)) → Split (objects_in rows)
split_rows [] = λ n. refl
split_rows (None ∷ rows) = split_rows rows
split_rows (Some e ∷ rows) = split_insert (object_of e) (objects_in rows) (split_rows rows)

-- ---- a test that some object passes
module _ (p : Object → Bool) where
  pub some_nowhere : (rows : List (Option Entry)) → Nowhere (on p) rows → some_of p (objects_in rows) ≡ false
  some_nowhere [] h = refl
  some_nowhere (None ∷ rows) h = some_nowhere rows h.1
  some_nowhere (Some e ∷ rows) h = some_insert p (object_of e) (objects_in rows) ∙ or_from (p (object_of e)) _ h.0 (some_nowhere rows h.1)

  pub some_first : (rows : List (Option Entry)) (i : ℕ) → FirstAt (on p) rows i → some_of p (objects_in rows) ≡ true
  some_first [] i h = absurd h
  some_first (None ∷ rows) zero h = absurd (both_ways false refl h)
  some_first (Some e ∷ rows) zero h = some_insert p (object_of e) (objects_in rows) ∙ or_left (p (object_of e)) _ h
  some_first (None ∷ rows) (suc i) h = some_first rows i h.1
  some_first (Some e ∷ rows) (suc i) h = some_insert p (object_of e) (objects_in rows) ∙ or_right (p (object_of e)) _ (some_first rows i h.1)

  pub some_searched : (rows : List (Option Entry)) (r : Option Place) → Searched p rows r → option_is_some r ≡ some_of p (objects_in rows)
  some_searched rows None w = sym (some_nowhere rows w)
  some_searched rows (Some f) w = sym (some_first rows f.index w.first)

-- ---- what stands at a number
module _ (x : ℕ) where
  pub at_nowhere : (rows : List (Option Entry)) → Nowhere (on (is x)) rows → at x (objects_in rows) ≡ None
  at_nowhere [] h = refl
  at_nowhere (None ∷ rows) h = at_nowhere rows h.1
  at_nowhere (Some e ∷ rows) h = at_insert_other (object_of e) (objects_in rows) x (eqb-false e.number x h.0) ∙ at_nowhere rows h.1

  pub nowhere_at : (rows : List (Option Entry)) → at x (objects_in rows) ≡ None → Nowhere (on (is x)) rows
  nowhere_at [] h = tt
  nowhere_at (None ∷ rows) h = (refl, nowhere_at rows h)
  nowhere_at (Some e ∷ rows) h =
      ⊎_elim
      (λ q. let z : Some (object_of e) ≡ None = sym (at_insert_own (object_of e) (objects_in rows)) ∙ ap (λ y. at y (insert (object_of e) (objects_in rows))) q ∙ h in let k : ◌≡◌ {A = ℕ} 0 1 = cc in absurd (omega arith))
      (λ ne. (ne_eqb e.number x ne, nowhere_at rows (sym (at_insert_other (object_of e) (objects_in rows) x ne) ∙ h)))
      (cases_eq e.number x)

  at_first : (rows : List (Option Entry)) (i : ℕ) (e : Entry) → FirstAt (on (is x)) rows i → get_or rows i None ≡ Some e → at x (objects_in rows) ≡ Some (object_of e)
  at_first [] i e h k = absurd h
  at_first (None ∷ rows) zero e h k = absurd (both_ways false refl h)
  at_first (Some d ∷ rows) zero e h k =
      let same : d ≡ e = cc in
      ap (λ y. at y (insert (object_of d) (objects_in rows))) (sym (eqb-true d.number x h)) ∙ at_insert_own (object_of d) (objects_in rows) ∙ ap (λ z. Some (object_of z)) same
  at_first (None ∷ rows) (suc i) e h k = at_first rows i e h.1 k
  at_first (Some d ∷ rows) (suc i) e h k = at_insert_other (object_of d) (objects_in rows) x (eqb-false d.number x h.0) ∙ at_first rows i e h.1 k

  pub at_found : (rows : List (Option Entry)) (f : Place) → Found (is x) rows f → at x (objects_in rows) ≡ Some (object_of f.entry)
  at_found rows f w = at_first rows f.index f.entry w.first w.row

  pub at_searched : (rows : List (Option Entry)) (r : Option Place) → Searched (is x) rows r → option_map (λ f. object_of f.entry) r ≡ at x (objects_in rows)
  at_searched rows None w = sym (at_nowhere rows w)
  at_searched rows (Some f) w = sym (at_found rows f w)

-- ---- a row is written over
pub rows_add : (rows : List (Option Entry)) (i : ℕ) (e : Entry) → FirstAt free rows i → Nowhere (on (is e.number)) rows → objects_in (set rows i (Some e)) ≡ insert (object_of e) (objects_in rows)
rows_add [] i e h away = absurd h
rows_add (None ∷ rows) zero e h away = refl
rows_add (Some d ∷ rows) zero e h away = absurd (both_ways false refl h)
rows_add (None ∷ rows) (suc i) e h away = rows_add rows i e h.1 away.1
rows_add (Some d ∷ rows) (suc i) e h away =
    ap (insert (object_of d)) (rows_add rows i e h.1 away.1) ∙ insert_insert (object_of d) (object_of e) (objects_in rows) (eqb-false d.number e.number away.0)

module _ (x n : ℕ) where
  -- where the numbers ascend, an object's number stands in no other row
  lone : (d : Entry) (rows : List (Option Entry)) → Ascends n (objects_in (Some d ∷ rows)) → is x (object_of d) ≡ true → at x (objects_in rows) ≡ None
  lone d rows s h = ap (λ k. at k (objects_in rows)) (sym (eqb-true d.number x h)) ∙ (ascends_uninsert n (object_of d) (objects_in rows) (split_rows rows) s).1

  rest : (d : Entry) (rows : List (Option Entry)) → Ascends n (objects_in (Some d ∷ rows)) → Ascends n (objects_in rows)
  rest d rows s = (ascends_uninsert n (object_of d) (objects_in rows) (split_rows rows) s).0

  pub rows_change : (g : Object → Object) (same : (o : Object) → (g o).number ≡ o.number) (rows : List (Option Entry)) (i : ℕ) (e f : Entry) → Ascends n (objects_in rows) → FirstAt (on (is x)) rows i → get_or rows i None ≡ Some e → object_of f ≡ g (object_of e) → objects_in (set rows i (Some f)) ≡ change x g (objects_in rows)
  rows_change g same [] i e f s h k q = absurd h
  rows_change g same (None ∷ rows) zero e f s h k q = absurd (both_ways false refl h)
  rows_change g same (Some d ∷ rows) zero e f s h k q =
      let own : d ≡ e = cc in
      let one : change_one x g (object_of d) ≡ object_of f = cond-true (is x (object_of d)) _ _ h ∙ ap (λ z. g (object_of z)) own ∙ sym q in
      let none = change_none x g (objects_in rows) (lone d rows s h) in
      sym (change_insert x g same (object_of d) (objects_in rows) ∙ (λ j. insert (one j) (none j)))
  rows_change g same (None ∷ rows) (suc i) e f s h k q = rows_change g same rows i e f s h.1 k q
  rows_change g same (Some d ∷ rows) (suc i) e f s h k q =
      ap (insert (object_of d)) (rows_change g same rows i e f (rest d rows s) h.1 k q)
      ∙ sym (change_insert x g same (object_of d) (objects_in rows) ∙ ap (λ z. insert z (change x g (objects_in rows))) (cond-false (is x (object_of d)) _ _ h.0))

  pub rows_drop : (rows : List (Option Entry)) (i : ℕ) → Ascends n (objects_in rows) → FirstAt (on (is x)) rows i → objects_in (set rows i None) ≡ without x (objects_in rows)
  rows_drop [] i s h = absurd h
  rows_drop (None ∷ rows) zero s h = absurd (both_ways false refl h)
  rows_drop (Some d ∷ rows) zero s h =
      let none = without_none x (objects_in rows) (lone d rows s h) in
      sym (without_own_insert x (object_of d) (objects_in rows) h (split_keep (λ o. not (is x o)) (objects_in rows) (split_rows rows)) ∙ none)
  rows_drop (None ∷ rows) (suc i) s h = rows_drop rows i s h.1
  rows_drop (Some d ∷ rows) (suc i) s h =
      ap (insert (object_of d)) (rows_drop rows i (rest d rows s) h.1) ∙ sym (without_insert x (object_of d) (objects_in rows) h.0)

-- ---- how many
pub rows_full : (rows : List (Option Entry)) → Nowhere free rows → length (objects_in rows) ≡ length rows
rows_full [] h = refl
rows_full (None ∷ rows) h = absurd (both_ways true h.0 refl)
rows_full (Some e ∷ rows) h = let ih = rows_full rows h.1 in omega (arith, length_insert (object_of e) (objects_in rows))

-- ---- rows that hold nothing
-- a free row behind the others
pub rows_freed : (rows : List (Option Entry)) → objects_in (rows ++ None ∷ []) ≡ objects_in rows
rows_freed [] = refl
rows_freed (None ∷ rows) = rows_freed rows
rows_freed (Some e ∷ rows) = ap (insert (object_of e)) (rows_freed rows)

-- ---- the smallest number of a parent's objects
fold_least : (m n : ℕ) (ns : List ℕ) → fold min (min m n) ns ≡ min (fold min n ns) m
fold_least m n [] = min_comm m n
fold_least m n (k ∷ ns) = let e : min (min m n) k ≡ min m (min n k) = omega arith in ap (λ z. fold min z ns) e ∙ fold_least m (min n k) ns

least_more : (n : ℕ) (ns : List ℕ) → reduce min (n ∷ ns) ≡ smaller (reduce min ns) n
least_more n [] = refl
least_more n (m ∷ ns) = ap Some (fold_least n m ns)

module _ (p a : ℕ) where
  abbrev follows : Object → Bool
  follows o = child_of p o && nat_lt a o.number

  child_least : (rows : List (Option Entry)) → reduce min (filter_map (number_if follows) rows) ≡ child p a (objects_in rows)
  child_least [] = refl
  child_least (None ∷ rows) = child_least rows
  child_least (Some e ∷ rows) = go (follows (object_of e)) (child_least rows) ∙ sym (child_insert p a (object_of e) (objects_in rows) (split_rows rows))
    where
      ns : List ℕ
      ns = filter_map (number_if follows) rows

      go : (b : Bool) → reduce min ns ≡ child p a (objects_in rows) → reduce min (cons_option (cond b (Some e.number) None) ns) ≡ cond b (smaller (child p a (objects_in rows)) e.number) (child p a (objects_in rows))
      go true h = least_more e.number ns ∙ ap (λ z. smaller z e.number) h
      go false h = h

  pub child_by : (rows : List (Option Entry)) (r : Option ℕ) → r ≡ reduce min (filter_map (number_if follows) rows) → r ≡ child p a (objects_in rows)
  child_by rows r h = h ∙ child_least rows
