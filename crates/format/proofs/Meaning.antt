-- Lawful trees and their sections. Assumes nothing.
use Rattle.std.proofs.Common.{◌≡◌, ℕ, suc, ◌+◌, ◌*◌, ◌^◌, ◌<◌, Bool, true, false, cond, not, eqb, List, [], ◌∷◌, ◌++◌, length, drop, Some, None, Option, sym, refl, ap, ◌∙◌, subst, ⊎_elim, append_assoc, arith}
use Rattle.std.specs.List.{flat_map, AllByRecursion}
use Rattle.std.proofs.lemmas.List.{drop_at, drop-drop}
use Rattle.std.proofs.lemmas.Bool.{cases_Bool, cond-false, cond-true, eq-eqb, eqb-true, or_cases}
use Rattle.std.proofs.lemmas.Option.{none-some}
use Rattle.vocab.specs.declared.kind.Kind.{Kind}
use Rattle.vocab.specs.declared.kind.Kind.TheVariants.{Directory, File}
use Rattle.vocab.proofs.Naming.{valid_short}
use Rattle.tree.specs.Law.{Lawful}
use Rattle.tree.specs.Questions.{dir_at, directory, kind_of, regular}
use Rattle.tree.specs.Trees.{Ascends, Body, Object, Tree, at, change, dir, file, insert, is, with_objects, without}
use Rattle.tree.proofs.Ascending.{ascends_keep, at_keep, at_tail, only, split_ascends}
use Rattle.tree.proofs.Changed.{at_number, dir_some, kinds}
use Rattle.tree.proofs.Lists.{length_keep}
use Rattle.format.specs.Entries.{entries, file_bytes, head_bytes}
use Rattle.format.specs.Fields.{half, le16, le32, word}
use Rattle.format.specs.Images.{Begins, Sections, encoded, image, section, sections_in, sections_of, sections_read, size, tree_of, with_section}
use Rattle.format.specs.Layout.{files_at}
use Rattle.format.specs.declared.layout.TheConstants.{COUNT, DIRECTORIES, HEAD_SIZE}
use Rattle.format.specs.Theorems.{Encodable}
use Rattle.format.proofs.Codec.{Fit, entries_back, half_drop, half_le16, word_le32}
use Rattle.format.proofs.Lengths.{length_head, length_joined, length_le16, length_le32}
use Rattle.format.proofs.Sectioning.{section_change, section_change_other, section_insert, section_insert_other, section_without, section_without_other, together_back}

-- ---- kinds

abbrev pub of_kind : Kind → Object → Bool
of_kind Directory = directory
of_kind File = regular

told : (o : Object) → kind_of o ≡ cond (directory o) Directory File
told o = go o.body
  where
    go : (b : Body) → ◌≡◌ {A = Kind} (elim b [ dir ↦ Directory | file c ↦ File ]) (cond (elim b [ dir ↦ true | file c ↦ false ]) Directory File)
    go dir = refl
    go (file c) = refl

pub kind_true : (k : Kind) (o : Object) → kind_of o ≡ k → of_kind k o ≡ true
kind_true Directory o e = let t = told o in grind (arith, cases_Bool (directory o))
kind_true File o e = let t = told o in let r = kinds o in grind (arith, cases_Bool (directory o))

pub true_kind : (k : Kind) (o : Object) → of_kind k o ≡ true → kind_of o ≡ k
true_kind Directory o e = let t = told o in grind (arith, cases_Bool (directory o))
true_kind File o e = let t = told o in let r = kinds o in grind (arith, cases_Bool (directory o))

pub not_regular : (o : Object) → kind_of o ≡ Directory → regular o ≡ false
not_regular o e = kinds o ∙ ap not (kind_true Directory o e)

pub not_directory : (o : Object) → kind_of o ≡ File → directory o ≡ false
not_directory o e = let t = told o in grind (arith, cases_Bool (directory o))

-- ---- what stands where in the image of sections

module _ (s : Sections) (rest : List ℕ) where
  abbrev pub behind_files : List ℕ
  behind_files = flat_map file_bytes s.files ++ rest

  abbrev pub behind_directories : List ℕ
  behind_directories = le16 (length s.files) ++ behind_files

  whole : encoded s ++ rest ≡ le32 s.next ++ (le16 (length s.directories) ++ (flat_map head_bytes s.directories ++ behind_directories))
  whole = simp append_assoc

  drop_next : drop COUNT (encoded s ++ rest) ≡ le16 (length s.directories) ++ (flat_map head_bytes s.directories ++ behind_directories)
  drop_next = ap (drop COUNT) whole ∙ drop_at (le32 s.next) _ COUNT (length_le32 s.next)

  pub drop_to_directories : drop DIRECTORIES (encoded s ++ rest) ≡ flat_map head_bytes s.directories ++ behind_directories
  drop_to_directories =
      sym (drop-drop 2 COUNT (encoded s ++ rest))
      ∙ ap (drop 2) drop_next
      ∙ drop_at (le16 (length s.directories)) _ 2 (length_le16 (length s.directories))

  pub drop_to_count : drop (DIRECTORIES + HEAD_SIZE * length s.directories) (encoded s ++ rest) ≡ behind_directories
  drop_to_count =
      sym (drop-drop (HEAD_SIZE * length s.directories) DIRECTORIES (encoded s ++ rest))
      ∙ ap (drop (HEAD_SIZE * length s.directories)) drop_to_directories
      ∙ drop_at (flat_map head_bytes s.directories) behind_directories _ (length_joined head_bytes HEAD_SIZE length_head s.directories)

  pub drop_to_files : drop (files_at (length s.directories)) (encoded s ++ rest) ≡ behind_files
  drop_to_files =
      ap (λ n. drop n (encoded s ++ rest)) {x = files_at (length s.directories)} {y = DIRECTORIES + HEAD_SIZE * length s.directories + 2} (omega arith)
      ∙ sym (drop-drop 2 (DIRECTORIES + HEAD_SIZE * length s.directories) (encoded s ++ rest))
      ∙ ap (drop 2) drop_to_count
      ∙ drop_at (le16 (length s.files)) behind_files 2 (length_le16 (length s.files))

  pub next_back : s.next < 2 ^ 32 → word (encoded s ++ rest) 0 ≡ s.next
  next_back h = ap (λ l. word l 0) whole ∙ word_le32 s.next _ h

  pub directories_count : length s.directories < 2 ^ 16 → half (encoded s ++ rest) COUNT ≡ length s.directories
  directories_count h = half_drop (encoded s ++ rest) COUNT ∙ ap (λ l. half l 0) drop_next ∙ half_le16 (length s.directories) _ h

  pub files_count : length s.files < 2 ^ 16 → half (encoded s ++ rest) (DIRECTORIES + HEAD_SIZE * length s.directories) ≡ length s.files
  files_count h =
      half_drop (encoded s ++ rest) (DIRECTORIES + HEAD_SIZE * length s.directories)
      ∙ ap (λ l. half l 0) drop_to_count
      ∙ half_le16 (length s.files) behind_files h

  pub sections_in_back : ((k : Kind) → AllByRecursion (λ o. Fit o × (kind_of o ≡ k)) (section k s)) → sections_in s.next (length s.directories) (length s.files) (encoded s ++ rest) ≡ s
  sections_in_back fits =
      let ds = ap (λ l. entries Directory (length s.directories) l) drop_to_directories ∙ entries_back Directory s.directories behind_directories (fits Directory) in
      let fs = ap (λ l. entries File (length s.files) l) drop_to_files ∙ entries_back File s.files rest (fits File) in
      λ i. record { next = s.next; directories = ds i; files = fs i }

-- ---- a lawful tree

all_from_at : (P : Object → Type 0) (n : ℕ) (l : List Object) → Ascends n l → ((x : ℕ) (o : Object) → at x l ≡ Some o → P o) → AllByRecursion P l
all_from_at P n [] r h = tt
all_from_at P n (o ∷ l) r h = (
  h o.number o (cond-true (is o.number o) (Some o) (at o.number l) (eq-eqb o.number o.number refl)),
  all_from_at P (suc o.number) l r.1 (λ x p e. h x p (at_tail x n p o l r e)),
)

at_only : (q : Object → Bool) (u : Option Object) (o : Object) → only q u ≡ Some o → (u ≡ Some o) × (q o ≡ true)
at_only q None o e = absurd (none-some o e)
at_only q (Some p) o e = go (q p) refl
  where
    go : (b : Bool) → q p ≡ b → (Some p ≡ Some o) × (q o ≡ true)
    go true h = let f : Some p ≡ Some o = sym (cond-true (q p) (Some p) None h) ∙ e in let same : p ≡ o = cc in (f, ap q (sym same) ∙ h)
    go false h = let f : None ≡ Some o = sym (cond-false (q p) (Some p) None h) ∙ e in absurd (none-some o f)

module _ (t : Tree) (lawful : Lawful t) where
  pub lawful_fits : (x : ℕ) (o : Object) → at x t.objects ≡ Some o → Fit o
  lawful_fits x o e =
      let own = lawful.each x o e in
      record {
        number = own.number;
        parent = parent o.parent own.home;
        stamp = own.stamp;
        name = valid_short o.name own.name;
        contents = own.short;
      }
    where
      parent : (p : ℕ) → dir_at p t.objects ≡ true → p < 2 ^ 32
      parent p h =
          ⊎_elim
          (λ e. let q = eqb-true p 1 e in omega arith)
          (λ e. let v = dir_some (at p t.objects) e in omega (arith, eqb-true v.0.number p (at_number p v.0 t.objects v.1), (lawful.each p v.0 v.1).number))
          (or_cases (eqb p 1) _ h)

  -- ---- its sections

  pub section_ascends : (k : Kind) → Ascends 2 (section k (sections_of t))
  section_ascends Directory = ascends_keep directory 2 t.objects lawful.ascending
  section_ascends File = ascends_keep regular 2 t.objects lawful.ascending

  at_section : (k : Kind) (x : ℕ) → at x (section k (sections_of t)) ≡ only (of_kind k) (at x t.objects)
  at_section Directory x = at_keep directory x 2 t.objects lawful.ascending
  at_section File x = at_keep regular x 2 t.objects lawful.ascending

  pub at_in_section : (k : Kind) (x : ℕ) (o : Object) → at x (section k (sections_of t)) ≡ Some o → (at x t.objects ≡ Some o) × (kind_of o ≡ k)
  at_in_section k x o e = let w = at_only (of_kind k) (at x t.objects) o (sym (at_section k x) ∙ e) in (w.0, true_kind k o w.1)

  pub section_at_own : (k : Kind) (x : ℕ) (o : Object) → at x t.objects ≡ Some o → kind_of o ≡ k → at x (section k (sections_of t)) ≡ Some o
  section_at_own k x o e h = at_section k x ∙ ap (only (of_kind k)) e ∙ cond-true (of_kind k o) (Some o) None (kind_true k o h)

  pub section_fits : (k : Kind) → AllByRecursion (λ o. Fit o × (kind_of o ≡ k)) (section k (sections_of t))
  section_fits k =
      all_from_at (λ o. Fit o × (kind_of o ≡ k)) 2 (section k (sections_of t)) (section_ascends k)
      (λ x o e. let w = at_in_section k x o e in (lawful_fits x o w.0, w.1))

  pub tree_back : tree_of t.capacity (sections_of t) ≡ t
  tree_back =
      let same = together_back 2 t.objects lawful.ascending in
      λ i. record { capacity = t.capacity; next = t.next; objects = same i }

  pub sections_held : (bs : List ℕ) → Begins bs (sections_of t) → sections_in t.next (length (sections_of t).directories) (length (sections_of t).files) bs ≡ sections_of t
  sections_held bs begins =
      ap (sections_in t.next (length (sections_of t).directories) (length (sections_of t).files)) begins
      ∙ sections_in_back (sections_of t) (drop (size (sections_of t)) bs) section_fits

  pub sections_back : Encodable t → (rest : List ℕ) → sections_read (image t ++ rest) ≡ sections_of t
  sections_back small rest =
      let s = sections_of t in
      let bs = image t ++ rest in
      ap (λ n. sections_in n (half bs COUNT) (half bs (DIRECTORIES + HEAD_SIZE * half bs COUNT)) bs)
      (next_back s rest (omega (arith, lawful.next_high)))
      ∙ ap (λ d. sections_in t.next d (half bs (DIRECTORIES + HEAD_SIZE * d)) bs) (directories_count s rest small.directories)
      ∙ ap (λ f. sections_in t.next (length s.directories) f bs) (files_count s rest small.files)
      ∙ sections_in_back s rest section_fits

  pub encodable : t.capacity < 2 ^ 16 → Encodable t
  encodable h = record { directories = omega (arith, lawful.room, length_keep directory t.objects); files = omega (arith, lawful.room, length_keep regular t.objects) }

  -- ---- and theirs after a change of the tree

  sections_path : {ds ds' fs fs' : List Object} → ds ≡ ds' → fs ≡ fs' → ◌≡◌ {A = Sections} (record { next = t.next; directories = ds; files = fs }) (record { next = t.next; directories = ds'; files = fs' })
  sections_path p q = λ i. record { next = t.next; directories = p i; files = q i }

  pub sections_inserted : (o : Object) → sections_of (with_objects t (insert o t.objects)) ≡ with_section (kind_of o) (sections_of t) (insert o (section (kind_of o) (sections_of t)))
  sections_inserted o = go (kind_of o) refl
    where
      go : (k : Kind) → kind_of o ≡ k → sections_of (with_objects t (insert o t.objects)) ≡ with_section k (sections_of t) (insert o (section k (sections_of t)))
      go Directory e =
          sections_path
          (section_insert directory o t.objects (kind_true Directory o e))
          (section_insert_other regular o t.objects (split_ascends 2 t.objects lawful.ascending) (not_regular o e))
      go File e =
          sections_path
          (section_insert_other directory o t.objects (split_ascends 2 t.objects lawful.ascending) (not_directory o e))
          (section_insert regular o t.objects (kind_true File o e))

  module _ (x : ℕ) (o : Object) (here : at x t.objects ≡ Some o) where
    -- what stands at x is o
    alone : (P : Object → Type 0) → P o → (p : Object) → at x t.objects ≡ Some p → P p
    alone P h p e = let same : o ≡ p = cc in subst P same h

    pub sections_changed : (k : Kind) (g : Object → Object) → kind_of o ≡ k → kind_of (g o) ≡ k → sections_of (with_objects t (change x g t.objects)) ≡ with_section k (sections_of t) (change x g (section k (sections_of t)))
    sections_changed Directory g e f =
        sections_path
        (section_change directory x 2 g t.objects lawful.ascending (alone (λ p. directory (g p) ≡ directory p) (kind_true Directory (g o) f ∙ sym (kind_true Directory o e))))
        (section_change_other regular x 2 g t.objects lawful.ascending (alone (λ p. (regular p ≡ false) × (regular (g p) ≡ false)) (not_regular o e, not_regular (g o) f)))
    sections_changed File g e f =
        sections_path
        (section_change_other directory x 2 g t.objects lawful.ascending (alone (λ p. (directory p ≡ false) × (directory (g p) ≡ false)) (not_directory o e, not_directory (g o) f)))
        (section_change regular x 2 g t.objects lawful.ascending (alone (λ p. regular (g p) ≡ regular p) (kind_true File (g o) f ∙ sym (kind_true File o e))))

    pub sections_removed : (k : Kind) → kind_of o ≡ k → sections_of (with_objects t (without x t.objects)) ≡ with_section k (sections_of t) (without x (section k (sections_of t)))
    sections_removed Directory e =
        sections_path
        (section_without directory x t.objects)
        (section_without_other regular x 2 t.objects lawful.ascending (alone (λ p. regular p ≡ false) (not_regular o e)))
    sections_removed File e =
        sections_path
        (section_without_other directory x 2 t.objects lawful.ascending (alone (λ p. directory p ≡ false) (not_directory o e)))
        (section_without regular x t.objects)
