-- What is proved of images. Assumes nothing.
--     Encodable t               t has an image: its counts of directories and of files fit two bytes
--     Alike t u                 t and u are equal, capacity aside
--     ImageDecodesBack          the image of a lawful tree gives it back, capacity aside
--     AlikeHaveOneImage         trees that are equal, capacity aside, have one image
--     ImageTellsTheTree         lawful trees with one image are equal, capacity aside
use Rattle.std.specs.Prelude.{◌≡◌, ℕ, ◌^◌, ◌<◌, List, ◌++◌, length}
use Rattle.tree.specs.Law.{Lawful}
use Rattle.tree.specs.Trees.{Tree}
use Rattle.format.specs.Images.{decoded, image, sections_of}

pub record Encodable (t : Tree) : Type 0 where
  pub directories : length (sections_of t).directories < 2 ^ 16
  pub files : length (sections_of t).files < 2 ^ 16

pub record Alike (t u : Tree) : Type 0 where
  pub next : t.next ≡ u.next
  pub objects : t.objects ≡ u.objects

abbrev pub ImageDecodesBack : Type 0
ImageDecodesBack = (t : Tree) → Lawful t → Encodable t → (cap : ℕ) (rest : List ℕ) → Alike (decoded cap (image t ++ rest)) t

abbrev pub AlikeHaveOneImage : Type 0
AlikeHaveOneImage = (t u : Tree) → Alike t u → image t ≡ image u

abbrev pub ImageTellsTheTree : Type 0
ImageTellsTheTree = (t u : Tree) → Lawful t → Encodable t → Lawful u → Encodable u → image t ≡ image u → Alike t u
