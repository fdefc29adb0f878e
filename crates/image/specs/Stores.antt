-- What an image store stands for. Assumes nothing.
--     bytes_of s        the bytes that it owns
--     tree_of s         the tree that they stand for
--     store_sections s  the sections of that tree
--     spare_of s        its bytes, where they are too few for an image
--     Within s p        an object stands at the place p
--     changed_at s p g  its objects, with g of the one at p in its place
--     rest_of s p       its objects but the one at p
--     CanHold s l       the tree of s, with l as its objects, is lawful
--     NowHolds s t l    t stands for the tree of s, with l as its objects, and has its spare bytes
use Rattle.std.specs.Prelude.{◌≡◌, ℕ, ◌<◌, cond, List, [], length, vec_items, nat_lt}
use Rattle.tree.specs.Law.{Lawful}
use Rattle.tree.specs.Trees.{Object, Tree, change, with_objects, without}
use Rattle.format.specs.Images.{Sections, section, sections_of, tree_in}
use Rattle.format.specs.declared.layout.TheConstants.{LEAST_SIZE}
use Rattle.image.specs.Places.{found}
use Rattle.image.specs.declared.Image.{Image}
use Rattle.image.specs.declared.place.Place.{Place}

abbrev pub bytes_of : Image → List ℕ
bytes_of s = vec_items s.bytes

unfoldable pub tree_of : Image → Tree
tree_of s = tree_in (bytes_of s) s.next s.directories s.files

abbrev pub store_sections : Image → Sections
store_sections s = sections_of (tree_of s)

unfoldable pub spare_of : Image → List ℕ
spare_of s = cond (nat_lt (length (bytes_of s)) LEAST_SIZE) (bytes_of s) []

abbrev pub Within : Image → Place → Type 0
Within s p = p.index < length (section p.kind (store_sections s))

abbrev pub changed_at : Image → Place → (Object → Object) → List Object
changed_at s p g = change (found (tree_of s) p).number g (tree_of s).objects

abbrev pub rest_of : Image → Place → List Object
rest_of s p = without (found (tree_of s) p).number (tree_of s).objects

abbrev pub CanHold : Image → List Object → Type 0
CanHold s l = Lawful (with_objects (tree_of s) l)

pub record NowHolds (s t : Image) (l : List Object) : Type 0 where
  pub tree : tree_of t ≡ with_objects (tree_of s) l
  pub spare : spare_of t ≡ spare_of s
