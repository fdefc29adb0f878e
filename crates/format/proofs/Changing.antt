-- What becomes of bytes that hold a lawful tree as the tree changes. Assumes nothing.
--     Kept bs n d f u     bs stand for the lawful tree u, and begin with its image if they are enough
use Rattle.std.proofs.Common.{◌≡◌, ℕ, ◌+◌, ◌-◌, ◌*◌, ◌<◌, ◌≤◌, ltb, List, ◌∷◌, ◌++◌, length, get_or, take, drop, set, Some, sym, refl, ap, ◌∙◌, subst, ⊎_elim, add-one, arith, lit≤, length-append, length-drop, length-set, length-take-le}
use Rattle.std.proofs.lemmas.Bool.{cases_lt, cond-true, cond-false, lt-ltb, le-ltb}
use Rattle.std.proofs.lemmas.Option.{same_Some}
use Rattle.vocab.specs.declared.kind.Kind.{Kind}
use Rattle.vocab.specs.declared.kind.Kind.TheVariants.{Directory, File}
use Rattle.tree.specs.Changes.{cleared, with_next}
use Rattle.tree.specs.Law.{Lawful, empty}
use Rattle.tree.specs.Questions.{kind_of}
use Rattle.tree.specs.Trees.{Object, Tree, at, change, insert, with_objects, without}
use Rattle.tree.proofs.Inserting.{length_insert}
use Rattle.tree.proofs.Keeping.{bare_lawful, cleared_lawful}
use Rattle.format.specs.Entries.{entry_bytes}
use Rattle.format.specs.Fields.{closed, le16, le32, opened, written}
use Rattle.format.specs.Images.{Begins, Sections, section, fronted, section_at, sections_in, sections_of, size, tree_of, tree_in, with_section}
use Rattle.format.specs.Layout.{capacity_in, entry_size}
use Rattle.format.specs.declared.layout.TheConstants.{COUNT, LEAST_SIZE}
use Rattle.format.proofs.Cutting.{counts-cleared, entry_inserted, entry-removed, entry-written-twice, next-written, opened-bare}
use Rattle.format.proofs.Holding.{begins_here, count_directories, count_files, enough, room_for}
use Rattle.format.proofs.Meaning.{section_ascends, section_at_own, sections_changed, sections_held, sections_inserted, sections_removed, tree_back}
use Rattle.format.proofs.Placing.{at_place as place_at, change_at, insert_at, without_at}

pub record Kept (bs : List ℕ) (n d f : ℕ) (u : Tree) : Type 0 where
  pub tree : tree_in bs n d f ≡ u
  pub lawful : Lawful (tree_in bs n d f)
  pub held : LEAST_SIZE ≤ length bs → Begins bs (sections_of (tree_in bs n d f))

pub kept
    : (u : Tree) → Lawful u → (bs : List ℕ) (n d f : ℕ) → capacity_in (length bs) ≡ u.capacity → Begins bs (sections_of u)
    → n ≡ u.next → d ≡ length (sections_of u).directories → f ≡ length (sections_of u).files → Kept bs n d f u
kept u lawful bs n d f room begins next ds fs =
    let same : sections_in n d f bs ≡ sections_of u = (λ i. sections_in (next i) (ds i) (fs i) bs) ∙ sections_held u lawful bs begins in
    let is : tree_in bs n d f ≡ u = (λ i. tree_of (room i) (same i)) ∙ tree_back u lawful in
    record { tree = is; lawful = subst Lawful (sym is) lawful; held = λ _. subst (λ t. Begins bs (sections_of t)) (sym is) begins }

-- ---- counts

-- of directories and files, with one more of a kind
abbrev pub raised : Kind → ℕ → ℕ → ℕ × ℕ
raised Directory d f = (d + 1, f)
raised File d f = (d, f + 1)

-- with one less
abbrev pub lowered : Kind → ℕ → ℕ → ℕ × ℕ
lowered Directory d f = (d - 1, f)
lowered File d f = (d, f - 1)

-- a section is replaced by a list that is one longer, one shorter, or as long
longer : (k : Kind) (s : Sections) (l : List Object) → length l ≡ length (section k s) + 1
    → let c = raised k (length s.directories) (length s.files) in let u = with_section k s l in (c.0 ≡ length u.directories) × (c.1 ≡ length u.files)
longer Directory s l h = (sym h, refl)
longer File s l h = (refl, sym h)

shorter : (k : Kind) (s : Sections) (l : List Object) → length l ≡ length (section k s) - 1
    → let c = lowered k (length s.directories) (length s.files) in let u = with_section k s l in (c.0 ≡ length u.directories) × (c.1 ≡ length u.files)
shorter Directory s l h = (sym h, refl)
shorter File s l h = (refl, sym h)

as_long : (k : Kind) (s : Sections) (l : List Object) → length l ≡ length (section k s)
    → let u = with_section k s l in (length s.directories ≡ length u.directories) × (length s.files ≡ length u.files)
as_long Directory s l h = (sym h, refl)
as_long File s l h = (refl, sym h)

section_next : (k : Kind) (s : Sections) (l : List Object) → (with_section k s l).next ≡ s.next
section_next Directory s l = refl
section_next File s l = refl

-- ---- a change of bytes that hold a lawful tree

module _ (bs : List ℕ) (n d f : ℕ) (lawful : Lawful (tree_in bs n d f)) (held : LEAST_SIZE ≤ length bs → Begins bs (sections_of (tree_in bs n d f))) (cs : List ℕ) (long : length cs ≡ length bs) where
  abbrev t : Tree
  t = tree_in bs n d f

  abbrev s : Sections
  s = sections_of (tree_in bs n d f)

  room : capacity_in (length cs) ≡ t.capacity
  room = ap capacity_in long

  pub inserted
      : (k : Kind) (o : Object) → kind_of o ≡ k → Lawful (with_objects t (insert o t.objects)) → (none : Object) (i : ℕ)
      → i ≤ length (section k s) → ((j : ℕ) → j < i → (get_or (section k s) j none).number < o.number) → (i < length (section k s) → o.number ≤ (get_or (section k s) i none).number)
      → d + f < capacity_in (length bs)
      → (at end c : ℕ) → at ≡ section_at k s + entry_size k * i → end ≡ size s → c ≡ length (section k s) + 1
      → cs ≡ written (written (opened bs at end (entry_size k)) at (entry_bytes k o)) (section_at k s - 2) (le16 c)
      → Kept cs n (raised k d f).0 (raised k d f).1 (with_objects t (insert o t.objects))
  inserted k o kind law none i within before stops less at end c at-is end_is c-is is =
      let l = section k s in
      let place = insert_at none 2 l (section_ascends t lawful k) o i within before stops in
      let u = with_objects t (insert o t.objects) in
      let same : sections_of u ≡ with_section k s (take i l ++ (o ∷ drop i l)) =
      sections_inserted t lawful o ∙ ap (λ j. with_section j s (insert o (section j s))) kind ∙ ap (with_section k s) place in
      let begins = entry_inserted k s bs (held (enough bs n d f lawful held (omega arith))) i at at-is o end c within (room_for bs n d f lawful held k less) end_is c-is in
      let begins' : Begins cs (sections_of u) = subst (Begins cs) (sym same) (subst (λ x. Begins x (with_section k s (take i l ++ (o ∷ drop i l)))) (sym is) begins) in
      let counts = longer k s (take i l ++ (o ∷ drop i l)) (ap length (sym place) ∙ length_insert o l ∙ sym (add-one (length l))) in
      let ds = sym (count_directories bs n d f) in
      let fs = sym (count_files bs n d f) in
      kept u law cs n (raised k d f).0 (raised k d f).1 room begins' refl
      ((λ j. (raised k (ds j) (fs j)).0) ∙ counts.0 ∙ ap (λ z. length z.directories) (sym same))
      ((λ j. (raised k (ds j) (fs j)).1) ∙ counts.1 ∙ ap (λ z. length z.files) (sym same))

  -- the object o of number x stands at place i of the section of kind k
  module _
      (x : ℕ) (o : Object) (here : at x t.objects ≡ Some o) (k : Kind) (kind : kind_of o ≡ k)
      (none : Object) (i : ℕ) (within : i < length (section k s)) (number : (get_or (section k s) i none).number ≡ x)
      (at_place : ℕ) (place_is : at_place ≡ section_at k s + entry_size k * i)
    where
      pub removed
          : Lawful (with_objects t (without x t.objects))
          → (end c : ℕ) → end ≡ size s → c ≡ length (section k s) - 1
          → cs ≡ written (closed bs at_place end (entry_size k)) (section_at k s - 2) (le16 c)
          → Kept cs n (lowered k d f).0 (lowered k d f).1 (with_objects t (without x t.objects))
      removed law end c end_is c-is is =
          let l = section k s in
          let rest = take i l ++ drop (i + 1) l in
          let gone : without x l ≡ rest =
          ap (λ y. without y l) (sym number) ∙ without_at none 2 l (section_ascends t lawful k) i within ∙ ap (λ j. take i l ++ drop j l) (sym (add-one i)) in
          let u = with_objects t (without x t.objects) in
          let same : sections_of u ≡ with_section k s rest = sections_removed t lawful x o here k kind ∙ ap (with_section k s) gone in
          let begins = entry-removed k s bs (begins_here bs n d f lawful held k i within) i at_place place_is within end c end_is c-is in
          let begins' : Begins cs (sections_of u) = subst (Begins cs) (sym same) (subst (λ y. Begins y (with_section k s rest)) (sym is) begins) in
          let less : length rest ≡ length l - 1 = length-append (take i l) (drop (i + 1) l) ∙ omega (arith, length-take-le i l (omega arith), length-drop (i + 1) l) in
          let counts = shorter k s rest less in
          let ds = sym (count_directories bs n d f) in
          let fs = sym (count_files bs n d f) in
          kept u law cs n (lowered k d f).0 (lowered k d f).1 room begins' refl
          ((λ j. (lowered k (ds j) (fs j)).0) ∙ counts.0 ∙ ap (λ z. length z.directories) (sym same))
          ((λ j. (lowered k (ds j) (fs j)).1) ∙ counts.1 ∙ ap (λ z. length z.files) (sym same))

      -- two fields of its entry are written over
      pub rewritten
          : (g : Object → Object) → kind_of (g o) ≡ k → Lawful (with_objects t (change x g t.objects))
          → (q r : ℕ) (field more : List ℕ) → q + length field ≤ entry_size k → r + length more ≤ entry_size k
          → written (written (entry_bytes k o) q field) r more ≡ entry_bytes k (g o)
          → cs ≡ written (written bs (at_place + q) field) (at_place + r) more
          → Kept cs n d f (with_objects t (change x g t.objects))
      rewritten g still law q r field more fq fr entry is =
          let l = section k s in
          let own : get_or l i none ≡ o = same_Some _ _ (sym (at_place_of) ∙ section_at_own t lawful k x o here kind) in
          let rest = set l i (g o) in
          let new : change x g l ≡ rest =
          ap (λ y. change y g l) (sym number) ∙ change_at none g 2 l (section_ascends t lawful k) i within ∙ ap (λ p. set l i (g p)) own in
          let u = with_objects t (change x g t.objects) in
          let same : sections_of u ≡ with_section k s rest = sections_changed t lawful x o here k g kind still ∙ ap (with_section k s) new in
          let begins =
          entry-written-twice k s bs (begins_here bs n d f lawful held k i within) i at_place place_is within none (g o) q r field more fq fr
          (ap (λ p. written (written (entry_bytes k p) q field) r more) own ∙ entry) in
          let begins' : Begins cs (sections_of u) = subst (Begins cs) (sym same) (subst (λ y. Begins y (with_section k s rest)) (sym is) begins) in
          let counts = as_long k s rest (length-set l i (g o)) in
          kept u law cs n d f room begins' refl
          (sym (count_directories bs n d f) ∙ counts.0 ∙ ap (λ z. length z.directories) (sym same))
          (sym (count_files bs n d f) ∙ counts.1 ∙ ap (λ z. length z.files) (sym same))
        where
          at_place_of : at x (section k s) ≡ Some (get_or (section k s) i none)
          at_place_of = ap (λ y. at y (section k s)) (sym number) ∙ place_at none 2 (section k s) (section_ascends t lawful k) i within

  -- ---- fields in front of the entries

  fronted_small : (p : ℕ) (field : List ℕ) → cs ≡ fronted bs p field → length bs < LEAST_SIZE → bs ≡ cs
  fronted_small p field is h = sym (is ∙ cond-true (ltb (length bs) LEAST_SIZE) _ _ (lt-ltb (length bs) LEAST_SIZE h))

  fronted_large : (p : ℕ) (field : List ℕ) → cs ≡ fronted bs p field → LEAST_SIZE ≤ length bs → written bs p field ≡ cs
  fronted_large p field is h = sym (is ∙ cond-false (ltb (length bs) LEAST_SIZE) _ _ (le-ltb (length bs) LEAST_SIZE h))

  pub renumbered : (m : ℕ) → Lawful (with_next t m) → cs ≡ fronted bs 0 (le32 m) → Kept cs m d f (with_next t m)
  renumbered m law is =
      ⊎_elim
      (λ h. subst (λ y. Kept y m d f (with_next t m)) (fronted_small 0 (le32 m) is h) (record { tree = refl; lawful = law; held = λ l. absurd (omega arith) }))
      (λ h.
      kept (with_next t m) law cs m d f room
      (subst (λ y. Begins y (sections_of (with_next t m))) (fronted_large 0 (le32 m) is h) (next-written bs s m (held h)))
      refl (sym (count_directories bs n d f)) (sym (count_files bs n d f)))
      (cases_lt (length bs) LEAST_SIZE)

  pub emptied : cs ≡ fronted bs COUNT (le16 0 ++ le16 0) → Kept cs n 0 0 (cleared t)
  emptied is =
      ⊎_elim
      (λ h. subst (λ y. Kept y n 0 0 (cleared t)) (fronted_small COUNT (le16 0 ++ le16 0) is h) (record { tree = refl; lawful = cleared_lawful t lawful; held = λ l. absurd (omega arith) }))
      (λ h.
      kept (cleared t) (cleared_lawful t lawful) cs n 0 0 room
      (subst (λ y. Begins y (sections_of (cleared t))) (fronted_large COUNT (le16 0 ++ le16 0) is h) (counts-cleared bs s (held h)))
      refl refl refl)
      (cases_lt (length bs) LEAST_SIZE)

-- whatever the bytes were
pub begun
    : (bs cs : List ℕ) → length cs ≡ length bs → cs ≡ fronted bs 0 (le32 2 ++ (le16 0 ++ le16 0)) → Kept cs 2 0 0 (empty (capacity_in (length bs)))
begun bs cs long is =
    let law = bare_lawful (capacity_in (length bs)) 2 (omega arith) (lit≤ tt) in
    let test = ltb (length bs) LEAST_SIZE in
    ⊎_elim
    (λ h.
    let same : bs ≡ cs = sym (is ∙ cond-true test _ _ (lt-ltb (length bs) LEAST_SIZE h)) in
    subst (λ y. Kept y 2 0 0 (empty (capacity_in (length bs)))) same (record { tree = refl; lawful = law; held = λ l. absurd (omega arith) }))
    (λ h.
    let same : written bs 0 (le32 2 ++ (le16 0 ++ le16 0)) ≡ cs = sym (is ∙ cond-false test _ _ (le-ltb (length bs) LEAST_SIZE h)) in
    kept (empty (capacity_in (length bs))) law cs 2 0 0 (ap capacity_in long)
    (subst (λ y. Begins y (sections_of (empty (capacity_in (length bs))))) same (opened-bare bs 2))
    refl refl refl)
    (cases_lt (length bs) LEAST_SIZE)
