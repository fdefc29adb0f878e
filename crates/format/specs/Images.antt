-- The image of a tree: its bytes, and the way back. Assumes nothing.
--     Sections              the next number, the directories and the files of a tree
--     sections_of t         those of the tree t
--     together ds fs        the objects of two lists, each ascending by number, in one
--     tree_of cap s         the tree of capacity cap that has the sections s
--     section k s           the section of kind k
--     with_section k s l    s with l as its section of kind k
--     section_at k s        where its entries begin in the image
--     encoded s             the image of the sections s
--     size s                how long it is
--     image t               the image of the tree t
--     sections_in n d f bs  the sections of d directories and f files in bs, with next number n
--     sections_read bs      the same, by the next number and the counts that stand in bs
--     decoded cap bs        the tree of capacity cap whose image bs begins with
--     tree_in bs n d f      the tree of d directories and f files in bs, with next number n and as much room as bs has
--     Begins bs s           bs begins with the image of the sections s
--     fronted bs p field    bs with the field written over it from p on, where bs are enough for an image; else bs
use Rattle.std.specs.Prelude.{◌≡◌, ℕ, ◌+◌, ◌*◌, cond, List, [], ◌∷◌, ◌++◌, length, drop, nat_lt}
use Rattle.std.specs.List.{flat_map}
use Rattle.vocab.specs.declared.kind.Kind.{Kind}
use Rattle.vocab.specs.declared.kind.Kind.TheVariants.{Directory, File}
use Rattle.tree.specs.Questions.{directory, regular}
use Rattle.tree.specs.Trees.{Object, Tree, insert, keep}
use Rattle.format.specs.Entries.{entries, file_bytes, head_bytes}
use Rattle.format.specs.Fields.{half, le16, le32, word, written}
use Rattle.format.specs.Layout.{capacity_in, files_at}
use Rattle.format.specs.declared.layout.TheConstants.{COUNT, DIRECTORIES, FILE_SIZE, HEAD_SIZE, LEAST_SIZE}

pub record Sections : Type 0 where
  pub next : ℕ
  pub directories : List Object
  pub files : List Object

abbrev pub sections_of : Tree → Sections
sections_of t = record { next = t.next; directories = keep directory t.objects; files = keep regular t.objects }

abbrev pub together : List Object → List Object → List Object
together [] fs = fs
together (d ∷ ds) fs = insert d (together ds fs)

abbrev pub tree_of : ℕ → Sections → Tree
tree_of cap s = record { capacity = cap; next = s.next; objects = together s.directories s.files }

abbrev pub section : Kind → Sections → List Object
section Directory s = s.directories
section File s = s.files

abbrev pub with_section : Kind → Sections → List Object → Sections
with_section Directory s l = record { next = s.next; directories = l; files = s.files }
with_section File s l = record { next = s.next; directories = s.directories; files = l }

abbrev pub section_at : Kind → Sections → ℕ
section_at Directory s = DIRECTORIES
section_at File s = files_at (length s.directories)

-- ---- the bytes

abbrev pub encoded : Sections → List ℕ
encoded s =
    le32 s.next
    ++ (le16 (length s.directories) ++ (flat_map head_bytes s.directories ++ (le16 (length s.files) ++ flat_map file_bytes s.files)))

abbrev pub size : Sections → ℕ
size s = files_at (length s.directories) + FILE_SIZE * length s.files

abbrev pub image : Tree → List ℕ
image t = encoded (sections_of t)

-- ---- the way back

abbrev pub sections_in : ℕ → ℕ → ℕ → List ℕ → Sections
sections_in n d f bs = record { next = n; directories = entries Directory d (drop DIRECTORIES bs); files = entries File f (drop (files_at d) bs) }

abbrev pub sections_read : List ℕ → Sections
sections_read bs = let d = half bs COUNT in sections_in (word bs 0) d (half bs (DIRECTORIES + HEAD_SIZE * d)) bs

abbrev pub decoded : ℕ → List ℕ → Tree
decoded cap bs = tree_of cap (sections_read bs)

abbrev pub tree_in : List ℕ → ℕ → ℕ → ℕ → Tree
tree_in bs n d f = tree_of (capacity_in (length bs)) (sections_in n d f bs)

abbrev pub Begins : List ℕ → Sections → Type 0
Begins bs s = bs ≡ encoded s ++ drop (size s) bs

abbrev pub fronted : List ℕ → ℕ → List ℕ → List ℕ
fronted bs p field = cond (nat_lt (length bs) LEAST_SIZE) bs (written bs p field)
