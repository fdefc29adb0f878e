-- Bytes that hold a lawful tree: its counts, its sections, and the room for more. Assumes nothing.
use Rattle.std.proofs.Common.{◌≡◌, ℕ, zero, suc, ◌+◌, ◌-◌, ◌*◌, ◌/◌, ◌<◌, ◌≤◌, min, Bool, true, false, ltb, List, [], ◌∷◌, length, get_or, drop, sym, refl, ap, ◌∙◌, subst, ⊎_elim, arith, lit≤, length-append}
use Rattle.std.specs.List.{AllByRecursion}
use Rattle.std.proofs.lemmas.Nat.{div-add-mod'}
use Rattle.std.proofs.ByRecursion.{All-get_or, All-weaker}
use Rattle.std.proofs.lemmas.Bool.{cases_lt, cond-true, cond-false, lt-ltb, le-ltb}
use Rattle.vocab.specs.declared.kind.Kind.{Kind}
use Rattle.vocab.specs.declared.kind.Kind.TheVariants.{Directory, File}
use Rattle.tree.specs.Law.{Lawful}
use Rattle.tree.specs.Questions.{contents, directory, kind_of, regular}
use Rattle.tree.specs.Trees.{Object, higher, insert, keep, lower}
use Rattle.tree.proofs.Inserting.{length_insert}
use Rattle.tree.proofs.Lists.{keep_append, keep_keep}
use Rattle.format.specs.Entries.{directory_in, entries, file_in}
use Rattle.format.specs.Images.{Begins, section, section_at, sections_in, sections_of, size, together, tree_in}
use Rattle.format.specs.Layout.{capacity_in, entry_size, files_at}
use Rattle.format.specs.declared.layout.TheConstants.{BARE_SIZE, DIRECTORIES, FILE_SIZE, HEAD_SIZE, LEAST_SIZE}
use Rattle.vocab.specs.Limits.{most_objects}
use Rattle.format.specs.Reading.{Holds, Shows}
use Rattle.format.proofs.Codec.{length_entries}
use Rattle.format.proofs.Cutting.{entry_cut}
use Rattle.format.proofs.Meaning.{kind_true, not_directory, not_regular, section_fits, sections_held}
use Rattle.format.proofs.Reading.{holds, shows}
use Rattle.format.proofs.Sectioning.{keep_every, keep_no, length_sections, section_insert}

-- ---- counts

insert_others : (q : Object → Bool) (o : Object) (l : List Object) → q o ≡ false → length (keep q (insert o l)) ≡ length (keep q l)
insert_others q o l h =
    let m = keep q l in
    let parts = length-append (keep (lower o.number) m) (keep (higher o.number) m) in
    let whole = length-append (keep (lower o.number) m) (o ∷ keep (higher o.number) m) in
    rw (keep_append, h, keep_keep q (lower o.number) l, keep_keep q (higher o.number) l) (omega (arith, parts, whole, length_insert o m))

insert_one : (q : Object → Bool) (o : Object) (l : List Object) → q o ≡ true → length (keep q (insert o l)) ≡ suc (length (keep q l))
insert_one q o l h = ap length (section_insert q o l h) ∙ length_insert o (keep q l)

entries_kind : (k : Kind) (n : ℕ) (bs : List ℕ) → AllByRecursion (λ o. kind_of o ≡ k) (entries k n bs)
unfolding directory_in file_in
entries_kind k zero bs = tt
entries_kind Directory (suc n) bs = (refl, entries_kind Directory n (drop HEAD_SIZE bs))
entries_kind File (suc n) bs = (refl, entries_kind File n (drop FILE_SIZE bs))

-- two lists, of directories and of files, in one
module _ (fs : List Object) (files : AllByRecursion (λ o. kind_of o ≡ File) fs) where
  directories_counted : (ds : List Object) → AllByRecursion (λ o. kind_of o ≡ Directory) ds → length (keep directory (together ds fs)) ≡ length ds
  directories_counted [] h = ap length (keep_no directory fs (All-weaker _ _ not_directory fs files))
  directories_counted (o ∷ ds) h = insert_one directory o (together ds fs) (kind_true Directory o h.0) ∙ ap suc (directories_counted ds h.1)

  files_counted : (ds : List Object) → AllByRecursion (λ o. kind_of o ≡ Directory) ds → length (keep regular (together ds fs)) ≡ length fs
  files_counted [] h = ap length (keep_every regular fs (All-weaker _ _ (kind_true File) fs files))
  files_counted (o ∷ ds) h = insert_others regular o (together ds fs) (not_regular o h.0) ∙ files_counted ds h.1

module _ (bs : List ℕ) (n d f : ℕ) where
  pub count_directories : length (sections_of (tree_in bs n d f)).directories ≡ d
  count_directories =
      directories_counted (entries File f (drop (files_at d) bs)) (entries_kind File f _) (entries Directory d (drop DIRECTORIES bs)) (entries_kind Directory d _)
      ∙ length_entries Directory d _

  pub count_files : length (sections_of (tree_in bs n d f)).files ≡ f
  count_files =
      files_counted (entries File f (drop (files_at d) bs)) (entries_kind File f _) (entries Directory d (drop DIRECTORIES bs)) (entries_kind Directory d _)
      ∙ length_entries File f _

  pub count_objects : length (tree_in bs n d f).objects ≡ d + f
  count_objects = omega (arith, length_sections (tree_in bs n d f).objects, count_directories, count_files)

-- ---- room

capacity_small : (n : ℕ) → n < LEAST_SIZE → capacity_in n ≡ 0
capacity_small n h = cond-true (ltb n LEAST_SIZE) _ _ (lt-ltb n LEAST_SIZE h)

capacity_large : (n : ℕ) → LEAST_SIZE ≤ n → capacity_in n ≡ min ((n - BARE_SIZE) / FILE_SIZE) most_objects
capacity_large n h = cond-false (ltb n LEAST_SIZE) _ _ (le-ltb n LEAST_SIZE h)

-- the same with no test
pub capacity_plain : (n : ℕ) → min ((n - BARE_SIZE) / FILE_SIZE) most_objects ≡ capacity_in n
capacity_plain n =
    ⊎_elim (λ h. let few : (n - BARE_SIZE) / FILE_SIZE ≡ 0 = omega arith in omega (arith, few, capacity_small n h)) (λ h. sym (capacity_large n h)) (cases_lt n LEAST_SIZE)

pub capacity_most : (n : ℕ) → capacity_in n ≤ most_objects
capacity_most n =
    ⊎_elim (λ h. omega (arith, capacity_small n h)) (λ h. omega (arith, capacity_large n h)) (cases_lt n LEAST_SIZE)

-- so many files and the counts fit
pub capacity_fits : (n : ℕ) → LEAST_SIZE ≤ n → BARE_SIZE + FILE_SIZE * capacity_in n ≤ n
capacity_fits n h = omega (arith, capacity_large n h, div-add-mod' (n - BARE_SIZE) FILE_SIZE)

-- ---- bytes that hold a lawful tree

module _ (bs : List ℕ) (n d f : ℕ) (lawful : Lawful (tree_in bs n d f)) (held : LEAST_SIZE ≤ length bs → Begins bs (sections_of (tree_in bs n d f))) where
  pub few : d + f ≤ capacity_in (length bs)
  few = omega (arith, lawful.room, count_objects bs n d f)

  pub enough : 0 < capacity_in (length bs) → LEAST_SIZE ≤ length bs
  enough h = ⊎_elim (λ l. absurd (omega (arith, capacity_small (length bs) l))) (λ l. l) (cases_lt (length bs) LEAST_SIZE)

  pub sections_same : sections_in n d f bs ≡ sections_of (tree_in bs n d f)
  sections_same = ⊎_elim small large (cases_lt (length bs) LEAST_SIZE)
    where
      none : (e g : ℕ) → 0 ≡ e → 0 ≡ g → sections_in n e g bs ≡ sections_of (tree_in bs n e g)
      none e g p q = subst (λ g. sections_in n e g bs ≡ sections_of (tree_in bs n e g)) q (subst (λ e. sections_in n e 0 bs ≡ sections_of (tree_in bs n e 0)) p refl)

      small : length bs < LEAST_SIZE → sections_in n d f bs ≡ sections_of (tree_in bs n d f)
      small h = let z = capacity_small (length bs) h in none d f (omega (arith, few)) (omega (arith, few))

      large : LEAST_SIZE ≤ length bs → sections_in n d f bs ≡ sections_of (tree_in bs n d f)
      large h =
          let p = sym (count_directories bs n d f) in
          let q = sym (count_files bs n d f) in
          (λ i. sections_in n (p i) (q i) bs) ∙ sections_held (tree_in bs n d f) lawful bs (held h)

  pub room_for : (k : Kind) → d + f < capacity_in (length bs) → size (sections_of (tree_in bs n d f)) + entry_size k ≤ length bs
  room_for k h =
      let fits = capacity_fits (length bs) (enough (omega arith)) in
      let size_of : entry_size k ≤ FILE_SIZE = entry_most k in
      omega (arith, count_directories bs n d f, count_files bs n d f)
    where
      entry_most : (k : Kind) → entry_size k ≤ FILE_SIZE
      entry_most Directory = lit≤ tt
      entry_most File = lit≤ tt

  -- the entry at a place of a section
  module _ (k : Kind) (i : ℕ) (within : i < length (section k (sections_of (tree_in bs n d f)))) where
    pub some : 0 < d + f
    some = by k within
      where
        by : (k : Kind) → i < length (section k (sections_of (tree_in bs n d f))) → 0 < d + f
        by Directory h = omega (arith, count_directories bs n d f)
        by File h = omega (arith, count_files bs n d f)

    pub begins_here : Begins bs (sections_of (tree_in bs n d f))
    begins_here = held (enough (omega (arith, some, few)))

    abbrev pub place : ℕ
    place = section_at k (sections_of (tree_in bs n d f)) + entry_size k * i

    pub entry_shown : (none : Object) → Shows k (get_or (section k (sections_of (tree_in bs n d f))) i none) (drop place bs)
    entry_shown none =
        let s = sections_of (tree_in bs n d f) in
        let cut = entry_cut k s bs begins_here i place refl within none in
        let fit = All-get_or _ (section k s) i none within (section_fits (tree_in bs n d f) lawful k) in
        subst (Shows k (get_or (section k s) i none)) (sym cut.1) (shows k (get_or (section k s) i none) cut.0 fit.0 fit.1)

  -- a file's contents
  module _ (i : ℕ) (within : i < length (sections_of (tree_in bs n d f)).files) where
    pub contents_held : (none : Object) → Holds (contents (get_or (sections_of (tree_in bs n d f)).files i none)) (drop (place File i within) bs)
    contents_held none =
        let s = sections_of (tree_in bs n d f) in
        let o = get_or s.files i none in
        let cut = entry_cut File s bs (begins_here File i within) i (place File i within) refl within none in
        let fit = All-get_or _ s.files i none within (section_fits (tree_in bs n d f) lawful File) in
        subst (Holds (contents o)) (sym cut.1) (holds o cut.0 fit.0)
