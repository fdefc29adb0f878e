-- A search through rows, place by place. Assumes nothing.
use Rattle.std.proofs.Common.{◌≡◌, ℕ, zero, suc, ◌<◌, Bool, true, false, List, [], ◌∷◌, length, get_or, Some, None, Option, MatchOption, ap, ◌∙◌, sym, arith}
use Rattle.tree.specs.Trees.{Object}
use Rattle.rows.specs.declared.row.Entry.{Entry}
use Rattle.rows.specs.declared.search.Place.{Place}
use Rattle.rows.specs.Rows.{FirstAt, Found, Nowhere, object_of, on}

module _ (p : Option Entry → Bool) where
  -- the test fails at each place below n
  abbrev pub FailsBelow : List (Option Entry) → ℕ → Type 0
  FailsBelow rows n = (k : ℕ) → k < n → p (get_or rows k None) ≡ false

  pub nowhere_by : (rows : List (Option Entry)) → FailsBelow rows (length rows) → Nowhere p rows
  nowhere_by [] h = tt
  nowhere_by (r ∷ rows) h = (h 0 (omega arith), nowhere_by rows (λ k l. h (suc k) (omega arith)))

  first_by : (rows : List (Option Entry)) (i : ℕ) → i < length rows → p (get_or rows i None) ≡ true → FailsBelow rows i → FirstAt p rows i
  first_by [] i l e h = absurd (omega arith)
  first_by (r ∷ rows) zero l e h = e
  first_by (r ∷ rows) (suc i) l e h = (h 0 (omega arith), first_by rows i (omega arith) e (λ k l. h (suc k) (omega arith)))

  pub place_by : (rows : List (Option Entry)) (r : Option ℕ) → MatchOption r (FailsBelow rows (length rows)) (λ i. (i < length rows) × (p (get_or rows i None) ≡ true) × FailsBelow rows i) → MatchOption r (Nowhere p rows) (λ i. FirstAt p rows i × (i < length rows))
  place_by rows None h = nowhere_by rows h
  place_by rows (Some i) h = (first_by rows i h.0 h.1 h.2, h.0)

  pub first_passes : (rows : List (Option Entry)) (i : ℕ) (d : Option Entry) → FirstAt p rows i → p (get_or rows i d) ≡ true
  first_passes [] i d h = absurd h
  first_passes (r ∷ rows) zero d h = h
  first_passes (r ∷ rows) (suc i) d h = first_passes rows i d h.1

module _ (p : Object → Bool) (rows : List (Option Entry)) where
  pub found_by : (f : Place) → f.index < length rows → get_or rows f.index None ≡ Some f.entry → p (object_of f.entry) ≡ true → FailsBelow (on p) rows f.index → Found p rows f
  found_by f within row passes before = record { first = first_by (on p) rows f.index within (ap (on p) row ∙ passes) before; row = row; within = within }

  pub found_passes : (f : Place) → Found p rows f → p (object_of f.entry) ≡ true
  found_passes f w = ap (on p) (sym w.row) ∙ first_passes (on p) rows f.index None w.first
