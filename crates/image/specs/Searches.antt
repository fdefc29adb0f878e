-- Searches through a section. Assumes nothing.
--     nothing           an object for places where there is none
--     Numbers w l bs    where bs are entries of w bytes, their numbers are those of the objects l
--     First k q s r     r is the place of the first object of kind k in s that passes the test q, or none
--     Located x l r     r is the index of x in the ascending list l, or the index at which it would stand
use Rattle.std.specs.Prelude.{◌≡◌, ℕ, ◌<◌, ◌≤◌, Bool, true, false, List, [], length, get_or, Some, None, Ok, Err, Option, Result, drop, ◌*◌, slice_index_or}
use Rattle.vocab.specs.declared.kind.Kind.{Kind}
use Rattle.tree.specs.Trees.{Object, dir}
use Rattle.format.specs.Fields.{word}
use Rattle.format.specs.Images.{Sections, section}
use Rattle.image.specs.declared.place.Place.{Place}

abbrev pub nothing : Object
nothing = record { number = 0; parent = 0; name = []; stamp = record { author = 0; serial = 0 }; body = dir }

abbrev pub Numbers : ℕ → List Object → List ℕ → Type 0
Numbers w l bs = (i : ℕ) → i < length l → word (drop (w * i) bs) 0 ≡ (slice_index_or l i nothing).number

abbrev pub Before : (Object → Bool) → List Object → ℕ → Type 0
Before q l i = (j : ℕ) → j < i → q (slice_index_or l j nothing) ≡ false

abbrev pub First : Kind → (Object → Bool) → Sections → Option Place → Type 0
First k q s None = Before q (section k s) (length (section k s))
First k q s (Some p) = (p.kind ≡ k) × (p.index < length (section p.kind s)) × (q (slice_index_or (section p.kind s) p.index nothing) ≡ true) × Before q (section p.kind s) p.index

abbrev pub Located : ℕ → List Object → Result ℕ ℕ → Type 0
Located x l (Ok i) = (i < length l) × ((get_or l i nothing).number ≡ x)
Located x l (Err i) = (i ≤ length l) × ((j : ℕ) → j < i → (get_or l j nothing).number < x) × ((j : ℕ) → i ≤ j → j < length l → x < (get_or l j nothing).number)
