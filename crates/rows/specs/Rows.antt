-- What rows of memory stand for. Assumes nothing. A row holds an entry, or is None, which is free.
--     object_of e        the object that an entry holds
--     Bounded e          its name is a valid one or empty, and its contents are few enough
--     objects_in rows    the objects of the rows, by number
--     capacity_of rows   how many of the rows can be used: all, but at most 4,096
--     tree_in rows n     the tree that the rows stand for, with next number n
--     on p r             whether the row r holds an object that passes the test p
--     number_if p r      the number of that object, where it passes
--     free r             whether it holds none
--     FirstAt p rows i   the test p passes at i, and at no place before it
--     Nowhere p rows     it passes at no place
--     Searched p rows r  r is the first place whose object passes p, with its entry, or none
use Rattle.std.specs.Prelude.{◌≡◌, ℕ, zero, suc, ◌<◌, ◌≤◌, min, Bool, true, false, cond, List, [], ◌∷◌, length, Some, None, Option, slice_index_or}
use Rattle.vocab.specs.Limits.{longest_contents, most_objects}
use Rattle.vocab.specs.Names.{name_or_none}
use Rattle.tree.specs.Questions.{contents}
use Rattle.tree.specs.Trees.{Body, dir, file, Object, Tree, insert}
use Rattle.rows.specs.declared.row.Body.{Body as BodyRow}
use Rattle.rows.specs.declared.row.Body.TheVariants.{Directory, File}
use Rattle.rows.specs.declared.row.Entry.{Entry}
use Rattle.rows.specs.declared.search.Place.{Place}

abbrev pub body_of : BodyRow → Body
body_of Directory = dir
body_of (File c) = file c

abbrev pub object_of : Entry → Object
object_of e = record { number = e.number; parent = e.parent; name = e.name; stamp = e.stamp; body = body_of e.body }

abbrev pub Bounded : Entry → Type 0
Bounded e = (name_or_none e.name ≡ true) × (length (contents (object_of e)) ≤ longest_contents)

abbrev pub objects_in : List (Option Entry) → List Object
objects_in [] = []
objects_in (None ∷ rows) = objects_in rows
objects_in (Some e ∷ rows) = insert (object_of e) (objects_in rows)

abbrev pub capacity_of : List (Option Entry) → ℕ
capacity_of rows = min (length rows) most_objects

abbrev pub tree_in : List (Option Entry) → ℕ → Tree
tree_in rows n = record { capacity = capacity_of rows; next = n; objects = objects_in rows }

abbrev pub on : (Object → Bool) → Option Entry → Bool
on p None = false
on p (Some e) = p (object_of e)

abbrev pub number_if : (Object → Bool) → Option Entry → Option ℕ
number_if p None = None
number_if p (Some e) = cond (p (object_of e)) (Some e.number) None

abbrev pub free : Option Entry → Bool
free None = true
free (Some e) = false

abbrev pub FirstAt : (Option Entry → Bool) → List (Option Entry) → ℕ → Type 0
FirstAt p [] i = ⊥
FirstAt p (r ∷ rows) zero = p r ≡ true
FirstAt p (r ∷ rows) (suc i) = (p r ≡ false) × FirstAt p rows i

abbrev pub Nowhere : (Option Entry → Bool) → List (Option Entry) → Type 0
Nowhere p [] = Unit {0}
Nowhere p (r ∷ rows) = (p r ≡ false) × Nowhere p rows

pub record Found (p : Object → Bool) (rows : List (Option Entry)) (f : Place) : Type 0 where
  pub first : FirstAt (on p) rows f.index
  pub row : slice_index_or rows f.index None ≡ Some f.entry
  pub within : f.index < length rows

abbrev pub Searched : (Object → Bool) → List (Option Entry) → Option Place → Type 0
Searched p rows None = Nowhere (on p) rows
Searched p rows (Some f) = Found p rows f
