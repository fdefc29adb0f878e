-- A table's tree after a row is written. Assumes nothing.
use Rattle.std.proofs.Common.{◌≡◌, ℕ, zero, suc, ◌+◌, ◌-◌, ◌^◌, ◌<◌, min, not, nat_le, List, [], ◌∷◌, length, get_or, set, Some, None, Ok, Option, sym, refl, ap, ◌∙◌, subst, arith, length-set}
use Rattle.std.specs.Option.{option_map}
use Rattle.std.proofs.lemmas.Bool.{and_parts, not-true}
use Rattle.rows.specs.declared.row.Body.{Body as BodyRow}
use Rattle.rows.specs.declared.row.Body.TheVariants.{File}
use Rattle.rows.specs.declared.row.Entry.{Entry}
use Rattle.rows.specs.declared.search.Place.{Place}
use Rattle.rows.specs.Rows.{FirstAt, Found, Searched, body_of, free, object_of, objects_in, tree_in}
use Rattle.rows.proofs.Holding.{at_found, nowhere_at, rows_add, rows_change, rows_drop, some_nowhere, split_rows}
use Rattle.rows.proofs.Searching.{found_passes}
use Rattle.tree.specs.Changes.{Changed, added, add_checks, change_if, drop_checks, dropped, fresh, move_checks, moved, put, put_checks, with_contents, with_place}
use Rattle.tree.specs.Law.{Lawful, StampFits}
use Rattle.tree.specs.Questions.{is_some, look, new_body, placed}
use Rattle.tree.specs.Trees.{Ascends, Object, Tree, at, change, change_one, file, insert, is, with_objects}
use Rattle.tree.proofs.Ascending.{ascends_uninsert, at_insert_other, at_insert_own, length_less}
use Rattle.tree.proofs.Asking.{look_found, look_none}
use Rattle.tree.proofs.Changed.{some_none}
use Rattle.tree.proofs.Inserting.{length_insert}
use Rattle.tree.proofs.Keeping.{added_lawful, dropped_lawful, moved_lawful, put_lawful}
use Rattle.tree.proofs.Lists.{length_map}
use Rattle.vocab.specs.Checks.{Check, Holds}
use Rattle.vocab.specs.declared.kind.Kind.{Kind}
use Rattle.vocab.specs.declared.stamp.Stamp.{Stamp}
use Rattle.vocab.proofs.Judging.{judge_passes}
use Rattle.table.specs.declared.Table.{Table}
use Rattle.table.specs.Tables.{rows_of, tree_of}

-- ---- whatever a row holds stands at its number
pub at_row : (rows : List (Option Entry)) (i : ℕ) (e : Entry) → Ascends 2 (objects_in rows) → get_or rows i None ≡ Some e → at e.number (objects_in rows) ≡ Some (object_of e)
at_row [] i e s h = let z : ◌≡◌ {A = ℕ} 0 1 = cc in absurd (omega arith)
at_row (None ∷ rows) zero e s h = let z : ◌≡◌ {A = ℕ} 0 1 = cc in absurd (omega arith)
at_row (Some d ∷ rows) zero e s h = let k : d ≡ e = cc in ap (λ z. at z.number (insert (object_of d) (objects_in rows))) (sym k) ∙ at_insert_own (object_of d) (objects_in rows) ∙ ap (λ z. Some (object_of z)) k
at_row (None ∷ rows) (suc i) e s h = at_row rows i e s h
at_row (Some d ∷ rows) (suc i) e s h =
    let v = ascends_uninsert 2 (object_of d) (objects_in rows) (split_rows rows) s in
    let ih = at_row rows i e v.0 h in
    at_insert_other (object_of d) (objects_in rows) e.number (λ q. let z : None ≡ Some (object_of e) = sym v.1 ∙ ap (λ y. at y (objects_in rows)) q ∙ ih in let k : ◌≡◌ {A = ℕ} 0 1 = cc in omega arith) ∙ ih

pub look_searched : (rows : List (Option Entry)) (next p : ℕ) (n : List ℕ) (r : Option Place) → Searched (placed p n) rows r → Lawful (tree_in rows next) → option_map (λ f. f.entry.number) r ≡ look p n (objects_in rows)
look_searched rows next p n None w law = sym (look_none p n (objects_in rows) (some_nowhere (placed p n) rows w))
look_searched rows next p n (Some f) w law = sym (look_found (tree_in rows next) law p n f.entry.number (object_of f.entry) (at_row rows f.index f.entry law.ascending w.row) (found_passes (placed p n) rows f w))

-- rows, a next number and a count, as a change that was accepted leaves them
pub record Written (rows : List (Option Entry)) (next count : ℕ) (c : Changed) : Type 0 where
  pub answer : (tree_in rows next, Ok tt) ≡ c
  pub kept : record { counted : count ≡ length (objects_in rows); lawful : Lawful (tree_in rows next) }

module _ (self : Table) where
  abbrev rows : List (Option Entry)
  rows = rows_of self

  abbrev tree : Tree
  tree = tree_of self

  -- ---- what each change of a table writes
  written : (i : ℕ) (r : Option Entry) (count : ℕ) (cs : List Check) (l : List Object) → Holds cs → objects_in (set rows i r) ≡ l → count ≡ length l → Lawful (change_if tree cs l).0 → Written (set rows i r) self.next count (change_if tree cs l)
  written i r count cs l h e n w =
      let size = length-set rows i r in
      let after : tree_in (set rows i r) self.next ≡ with_objects tree l = λ j. record { capacity = min (size j) 4096; next = self.next; objects = e j } in
      let answer : (tree_in (set rows i r) self.next, Ok tt) ≡ change_if tree cs l = ap (λ u. (u, Ok tt)) after ∙ sym (judge_passes cs tree (with_objects tree l, tt) h) in
      record { answer = answer; kept = record { counted = n ∙ sym (ap length e); lawful = subst Lawful (ap (λ z. z.0) (sym answer)) w } }

  pub add_written : (k : Kind) (p : ℕ) (n : List ℕ) (x : ℕ) (s : Stamp) (i : ℕ) (name : List ℕ) (body : BodyRow) → Holds (add_checks tree p n x) → name ≡ n → body_of body ≡ new_body k → FirstAt free rows i → x < 2 ^ 32 → StampFits s → Written (set rows i (Some (record { number = x; parent = p; name = name; stamp = s; body = body }))) self.next (self.count + 1) (added tree k p n x s)
  add_written k p n x s i name body h named kind there high fits =
      let e : Entry = record { number = x; parent = p; name = name; stamp = s; body = body } in
      let own : object_of e ≡ fresh k p n x s = λ j. record { number = x; parent = p; name = named j; stamp = s; body = kind j } in
      let new = nowhere_at x rows (some_none (at x (objects_in rows)) (not-true _ (and_parts (nat_le 2 x) (not (is_some (at x (objects_in rows)))) h.1.0).1)) in
      let objects = rows_add rows i e there new ∙ ap (λ u. insert u (objects_in rows)) own in
      written i (Some e) (self.count + 1) (add_checks tree p n x) _ h objects (omega (arith, self.counted, length_insert (fresh k p n x s) (objects_in rows))) (added_lawful tree self.lawful k p n x s high fits)

  module _ (x : ℕ) (f : Place) where
    -- the object x changes to g of it
    change_written : (g : Object → Object) (same : (o : Object) → (g o).number ≡ o.number) (e : Entry) (cs : List Check) → Holds cs → Found (is x) rows f → object_of e ≡ g (object_of f.entry) → Lawful (change_if tree cs (change x g (objects_in rows))).0 → Written (set rows f.index (Some e)) self.next self.count (change_if tree cs (change x g (objects_in rows)))
    change_written g same e cs h found own w =
        let objects = rows_change x 2 g same rows f.index f.entry e self.lawful.ascending found.first found.row own in
        written f.index (Some e) self.count cs _ h objects (self.counted ∙ sym (length_map (change_one x g) (objects_in rows))) w

    pub put_written : (bytes : List ℕ) (s : Stamp) (held : List ℕ) → Holds (put_checks tree x bytes) → Found (is x) rows f → held ≡ bytes → StampFits s → Written (set rows f.index (Some (record { number = f.entry.number; parent = f.entry.parent; name = f.entry.name; stamp = s; body = File held }))) self.next self.count (put tree x bytes s)
    put_written bytes s held h found same fits =
        let o = object_of f.entry in
        change_written (with_contents bytes s) (λ u. refl) _ (put_checks tree x bytes) h found (λ j. record { number = o.number; parent = o.parent; name = o.name; stamp = s; body = file (same j) }) (put_lawful tree self.lawful x bytes s fits)

    pub move_written : (q : ℕ) (m name : List ℕ) → Holds (move_checks tree x q m) → Found (is x) rows f → name ≡ m → Written (set rows f.index (Some (record { number = f.entry.number; parent = q; name = name; stamp = f.entry.stamp; body = f.entry.body }))) self.next self.count (moved tree x q m)
    move_written q m name h found named =
        let o = object_of f.entry in
        change_written (with_place q m) (λ u. refl) _ (move_checks tree x q m) h found (λ j. record { number = o.number; parent = q; name = named j; stamp = o.stamp; body = o.body }) (moved_lawful tree self.lawful x q m)

    pub drop_written : Holds (drop_checks tree x) → Found (is x) rows f → Written (set rows f.index None) self.next (self.count - 1) (dropped tree x)
    drop_written h found =
        let one = length_less x 2 (object_of f.entry) (objects_in rows) self.lawful.ascending (at_found x rows f found) in
        written f.index None (self.count - 1) (drop_checks tree x) _ h (rows_drop x 2 rows f.index self.lawful.ascending found.first) (omega (arith, self.counted, one)) (dropped_lawful tree self.lawful x)
