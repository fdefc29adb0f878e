-- Where objects stand in an image. Assumes nothing.
--     found t p         the object at the place p of the tree t
--     Stands x t p      the object of number x stands at p
--     Found x t r       it stands at r, or there is none
--     FoundIn k x t r   it stands at r, which is of kind k, or there is none of kind k
--     FoundFile x t r   it stands at r, which is a file's place, or no file has the number x
--     Picked q t r      an object that passes the test q stands at r, or there is none
use Rattle.std.specs.Prelude.{◌≡◌, ℕ, ◌<◌, Bool, true, false, length, Some, None, Option, slice_index_or}
use Rattle.vocab.specs.declared.kind.Kind.{Kind}
use Rattle.vocab.specs.declared.kind.Kind.TheVariants.{File}
use Rattle.tree.specs.Questions.{is_file, kind_of}
use Rattle.tree.specs.Trees.{Object, Tree, at, some_of}
use Rattle.format.specs.Images.{section, sections_of}
use Rattle.image.specs.Searches.{nothing}
use Rattle.image.specs.declared.place.Place.{Place}

abbrev pub found : Tree → Place → Object
found t p = slice_index_or (section p.kind (sections_of t)) p.index nothing

pub record Stands (x : ℕ) (t : Tree) (p : Place) : Type 0 where
  pub within : p.index < length (section p.kind (sections_of t))
  pub here : at x t.objects ≡ Some (found t p)
  pub number : (found t p).number ≡ x
  pub kind : kind_of (found t p) ≡ p.kind

abbrev pub Found : ℕ → Tree → Option Place → Type 0
Found x t None = at x t.objects ≡ None
Found x t (Some p) = Stands x t p

abbrev pub FoundIn : Kind → ℕ → Tree → Option Place → Type 0
FoundIn k x t None = at x (section k (sections_of t)) ≡ None
FoundIn k x t (Some p) = (p.kind ≡ k) × Stands x t p

abbrev pub FoundFile : ℕ → Tree → Option Place → Type 0
FoundFile x t None = is_file (at x t.objects) ≡ false
FoundFile x t (Some p) = (p.kind ≡ File) × Stands x t p

abbrev pub Picked : (Object → Bool) → Tree → Option Place → Type 0
Picked q t None = some_of q t.objects ≡ false
Picked q t (Some p) = (some_of q t.objects ≡ true) × (p.index < length (section p.kind (sections_of t))) × (q (found t p) ≡ true)
