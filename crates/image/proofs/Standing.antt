-- What is known of an image store. Assumes nothing.
use Rattle.std.proofs.Common.{◌≡◌, ℕ, ◌+◌, ◌-◌, ◌*◌, ◌<◌, ◌≤◌, length, sym, ap, ◌∙◌, arith, lit≤}
use Rattle.vocab.specs.declared.kind.Kind.{Kind}
use Rattle.vocab.specs.declared.kind.Kind.TheVariants.{Directory, File}
use Rattle.tree.specs.Law.{Lawful}
use Rattle.format.specs.Images.{section, section_at, size}
use Rattle.format.specs.Layout.{entry_size}
use Rattle.format.specs.declared.layout.TheConstants.{HEAD_SIZE}
use Rattle.vocab.specs.Limits.{most_objects}
use Rattle.format.proofs.Changing.{lowered, raised}
use Rattle.format.proofs.Cutting.{begins_long}
use Rattle.format.proofs.Holding.{begins_here, capacity_most, count_directories, count_files, few}
use Rattle.image.specs.Stores.{bytes_of, store_sections, tree_of}
use Rattle.image.specs.declared.Image.{Image}

pub head_low : (k : Kind) → HEAD_SIZE ≤ entry_size k
head_low Directory = lit≤ tt
head_low File = lit≤ tt

module _ (s : Image) where
  pub law : Lawful (tree_of s)
  unfolding tree_of
  law = s.lawful

  pub directories_are : length (store_sections s).directories ≡ s.directories
  unfolding tree_of
  directories_are = count_directories (bytes_of s) s.next s.directories s.files

  pub files_are : length (store_sections s).files ≡ s.files
  unfolding tree_of
  files_are = count_files (bytes_of s) s.next s.directories s.files

  pub at_most : s.directories + s.files ≤ most_objects
  unfolding tree_of
  at_most = omega (arith, few (bytes_of s) s.next s.directories s.files law s.held, capacity_most (length (bytes_of s)))

  -- the place of an entry, or of one more
  pub place_low : (k : Kind) (i : ℕ) → i ≤ length (section k (store_sections s)) → section_at k (store_sections s) + entry_size k * i ≤ size (store_sections s)
  place_low Directory i h = omega arith
  place_low File i h = omega arith

  pub size_low : size (store_sections s) ≤ 1300000
  size_low = omega (arith, at_most, directories_are, files_are)

  pub place_held : (k : Kind) (i : ℕ) → i < length (section k (store_sections s)) → size (store_sections s) ≤ length (bytes_of s)
  unfolding tree_of
  place_held k i h = begins_long (bytes_of s) (store_sections s) (begins_here (bytes_of s) s.next s.directories s.files law s.held k i h)

  -- the count of a section stands before it
  pub start_low : (k : Kind) → (2 ≤ section_at k (store_sections s)) × (section_at k (store_sections s) ≤ size (store_sections s))
  start_low Directory = (lit≤ tt, omega arith)
  start_low File = (omega arith, omega arith)

  pub count_low : (k : Kind) → length (section k (store_sections s)) ≤ most_objects
  count_low Directory = omega (arith, at_most, directories_are)
  count_low File = omega (arith, at_most, files_are)

  -- ---- counts that are changed

  module _ (k : Kind) (n : ℕ) (n-is : n ≡ length (section k (store_sections s))) where
    directories_of : k ≡ Directory → n ≡ s.directories
    directories_of is = n-is ∙ ap (λ j. length (section j (store_sections s))) is ∙ directories_are

    files_of : k ≡ File → n ≡ s.files
    files_of is = n-is ∙ ap (λ j. length (section j (store_sections s))) is ∙ files_are

    pub directory_more : k ≡ Directory → (n + 1, s.files) ≡ raised k s.directories s.files
    directory_more is = ap (λ d. (d + 1, s.files)) (directories_of is) ∙ ap (λ j. raised j s.directories s.files) (sym is)

    pub file_more : k ≡ File → (s.directories, n + 1) ≡ raised k s.directories s.files
    file_more is = ap (λ f. (s.directories, f + 1)) (files_of is) ∙ ap (λ j. raised j s.directories s.files) (sym is)

    pub directory_less : k ≡ Directory → (n - 1, s.files) ≡ lowered k s.directories s.files
    directory_less is = ap (λ d. (d - 1, s.files)) (directories_of is) ∙ ap (λ j. lowered j s.directories s.files) (sym is)

    pub file_less : k ≡ File → (s.directories, n - 1) ≡ lowered k s.directories s.files
    file_less is = ap (λ f. (s.directories, f - 1)) (files_of is) ∙ ap (λ j. lowered j s.directories s.files) (sym is)
