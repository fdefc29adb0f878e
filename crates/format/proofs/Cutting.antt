-- Bytes that begin with the image of sections, and what is written into them. Assumes nothing.
--     before k s     the bytes of the image before the count of the section of kind k
--     behind k s     those behind its entries
use Rattle.std.proofs.Common.{◌≡◌, ℕ, ◌+◌, ◌-◌, ◌*◌, ◌<◌, ◌≤◌, List, [], ◌∷◌, ◌++◌, length, get_or, take, drop, set, sym, refl, ap, ◌∙◌, append_assoc, append-nil, add-one, arith, length-append, length-drop, length-set}
use Rattle.std.proofs.lemmas.Grind.{flat_map-append}
use Rattle.std.proofs.lemmas.List.{drop_at, drop_more, length-take-le, set_split}
use Rattle.std.specs.List.{flat_map}
use Rattle.vocab.specs.declared.kind.Kind.{Kind}
use Rattle.vocab.specs.declared.kind.Kind.TheVariants.{Directory, File}
use Rattle.vocab.specs.declared.stamp.Stamp.{Stamp}
use Rattle.tree.specs.Questions.{contents, root}
use Rattle.tree.specs.Trees.{Object, file}
use Rattle.format.specs.Entries.{contents_field, entry_bytes, file_bytes, head_bytes, name_field, stamp_field}
use Rattle.format.specs.Fields.{closed, le16, le32, opened, written}
use Rattle.format.specs.Images.{Begins, Sections, encoded, section, section_at, size, with_section}
use Rattle.format.specs.Layout.{entry_size}
use Rattle.format.specs.declared.layout.TheConstants.{AUTHOR, COUNT, FILE_SIZE, HEAD_SIZE, NAME_LENGTH, PARENT}
use Rattle.format.proofs.Lengths.{joined_cut, length_contents, length_encoded, length_entry, length_file, length_head}
use Rattle.format.proofs.Lengths.{length_joined, length_joined_take, length_le16, length_le32, length_name, length_stamp}
use Rattle.format.proofs.Writing.{Closed-at, length_written, written_at, written_behind, written_front, written-opened, written-within}

abbrev pub before : Kind → Sections → List ℕ
before Directory s = le32 s.next
before File s = le32 s.next ++ (le16 (length s.directories) ++ flat_map head_bytes s.directories)

abbrev pub behind : Kind → Sections → List ℕ
behind Directory s = le16 (length s.files) ++ flat_map file_bytes s.files
behind File s = []

pub cut
    : (k : Kind) (s : Sections)
    → encoded s ≡ before k s ++ (le16 (length (section k s)) ++ (flat_map (entry_bytes k) (section k s) ++ behind k s))
cut Directory s = refl
cut File s = simp (append_assoc, append-nil)

pub length_before : (k : Kind) (s : Sections) → length (before k s) + 2 ≡ section_at k s
length_before Directory s = omega (arith, length_le32 s.next)
length_before File s =
    simp (length-append, length_le16, length_le32) (omega (arith, length_joined head_bytes HEAD_SIZE length_head s.directories))

pub length_behind : (k : Kind) (s : Sections) → section_at k s + entry_size k * length (section k s) + length (behind k s) ≡ size s
length_behind Directory s = simp (length-append, length_le16) (omega (arith, length_joined file_bytes FILE_SIZE length_file s.files))
length_behind File s = omega arith

pub begins : (b : List ℕ) (s : Sections) (z : List ℕ) → b ≡ encoded s ++ z → Begins b s
begins b s z e = e ∙ ap (λ l. encoded s ++ l) (sym (ap (drop (size s)) e ∙ drop_at (encoded s) z (size s) (length_encoded s)))

pub begins_long : (b : List ℕ) (s : Sections) → Begins b s → size s ≤ length b
begins_long b s h = omega (arith, ap length h ∙ length-append (encoded s) (drop (size s) b), length_encoded s)

-- ---- the entries of one section

cut-with
    : (k : Kind) (s : Sections) (l : List Object)
    → encoded (with_section k s l) ≡ before k s ++ (le16 (length l) ++ (flat_map (entry_bytes k) l ++ behind k s))
cut-with Directory s l = cut Directory (with_section Directory s l)
cut-with File s l = cut File (with_section File s l)

module _ (k : Kind) (s : Sections) where
  -- the bytes with l as the section of kind k, under the count n, and z behind
  abbrev laid : ℕ → List Object → List ℕ → List ℕ
  laid n l z = before k s ++ (le16 n ++ (flat_map (entry_bytes k) l ++ (behind k s ++ z)))

  laid_begins : (b : List ℕ) (l : List Object) (z : List ℕ) → b ≡ laid (length l) l z → Begins b (with_section k s l)
  laid_begins b l z e = begins b (with_section k s l) z (e ∙ sym (ap (λ x. x ++ z) (cut-with k s l) ∙ simp append_assoc))

  counted
      : (b : List ℕ) (m n : ℕ) (l : List Object) (z : List ℕ) → b ≡ laid m l z → n ≡ length l
      → Begins (written b (section_at k s - 2) (le16 n)) (with_section k s l)
  counted b m n l z e c =
      let at : length (before k s) ≡ section_at k s - 2 = omega (arith, length_before k s) in
      laid_begins (written b (section_at k s - 2) (le16 n)) l z
      (ap (λ x. written x (section_at k s - 2) (le16 n)) e
      ∙ written_at (before k s) (le16 m) (flat_map (entry_bytes k) l ++ (behind k s ++ z)) (le16 n) (section_at k s - 2) at
      (length_le16 n ∙ sym (length_le16 m))
      ∙ ap (λ j. laid j l z) c)

  module _ (b : List ℕ) (h : Begins b s) where
    abbrev free : List ℕ
    free = drop (size s) b

    laid_so : b ≡ laid (length (section k s)) (section k s) free
    laid_so = h ∙ ap (λ x. x ++ free) (cut k s) ∙ simp append_assoc

    module _ (i at : ℕ) (at-is : at ≡ section_at k s + entry_size k * i) where
      -- what stands before the i-th entry
      abbrev upto : List ℕ
      upto = before k s ++ (le16 (length (section k s)) ++ flat_map (entry_bytes k) (take i (section k s)))

      length_upto : i ≤ length (section k s) → length upto ≡ at
      length_upto l =
          simp (length-append, length_le16)
          (omega (arith, length_before k s, length_joined_take (entry_bytes k) (entry_size k) (length_entry k) (section k s) i l))

      -- what stands from it on
      abbrev onward : List ℕ
      onward = flat_map (entry_bytes k) (drop i (section k s)) ++ behind k s

      onward_so : i ≤ length (section k s) → b ≡ upto ++ (onward ++ free)
      onward_so l =
          let new = joined_cut (entry_bytes k) (entry_size k) (length_entry k) (section k s) i l in
          laid_so ∙ (λ j. before k s ++ (le16 (length (section k s)) ++ (new j ++ (behind k s ++ free)))) ∙ simp append_assoc

      length_onward : i ≤ length (section k s) → at + length onward ≡ size s
      length_onward l =
          let rest = ap length (onward_so l) ∙ length-append upto (onward ++ free) in
          omega (arith, length_upto l, length-append onward free, length-drop (size s) b, begins_long b s h)

      pub entry_inserted
          : (o : Object) (end n : ℕ) → i ≤ length (section k s) → size s + entry_size k ≤ length b → end ≡ size s → n ≡ length (section k s) + 1
          → Begins (written (written (opened b at end (entry_size k)) at (entry_bytes k o)) (section_at k s - 2) (le16 n))
          (with_section k s (take i (section k s) ++ (o ∷ drop i (section k s))))
      entry_inserted o end n l room end_is n-is =
          let xs = section k s in
          let w = entry_size k in
          let put : written (opened b at end w) at (entry_bytes k o) ≡ laid (length xs) (take i xs ++ (o ∷ drop i xs)) (drop w free) =
          ap (λ x. written (opened x at end w) at (entry_bytes k o)) (onward_so l)
          ∙ written-opened upto onward free (entry_bytes k o) at end w (length_upto l) (omega (arith, length_onward l)) (length_entry k o)
          (simp length-drop (omega arith))
          ∙ simp (flat_map-append, append_assoc) in
          counted _ (length xs) n (take i xs ++ (o ∷ drop i xs)) (drop w free) put
          (simp length-append (omega (arith, length-take-le i xs l, length-drop i xs)))

      module _ (l : i < length (section k s)) where
        -- what stands behind the i-th entry
        abbrev past : List ℕ
        past = flat_map (entry_bytes k) (drop (i + 1) (section k s)) ++ behind k s

        from_entry : (d : Object) → onward ≡ entry_bytes k (get_or (section k s) i d) ++ past
        from_entry d = ap (λ x. flat_map (entry_bytes k) x ++ behind k s) (drop_more (section k s) i d l) ∙ simp append_assoc

        entry_so : (d : Object) → b ≡ upto ++ (entry_bytes k (get_or (section k s) i d) ++ (past ++ free))
        entry_so d = onward_so (omega arith) ∙ ap (λ x. upto ++ (x ++ free)) (from_entry d) ∙ simp append_assoc

        pub entry_cut : (d : Object) → (rest : List ℕ) × (drop at b ≡ entry_bytes k (get_or (section k s) i d) ++ rest)
        entry_cut d = (past ++ free, ap (drop at) (entry_so d) ∙ drop_at upto _ at (length_upto (omega arith)))

        entry_set : (c : List ℕ) (o : Object) → c ≡ upto ++ (entry_bytes k o ++ (past ++ free)) → Begins c (with_section k s (set (section k s) i o))
        entry_set c o e =
            let xs = section k s in
            let same = length-set xs i o in
            let new : set xs i o ≡ take i xs ++ (o ∷ drop (i + 1) xs) = set_split xs i o l ∙ ap (λ n. take i xs ++ (o ∷ drop n xs)) (sym (add-one i)) in
            let is : laid (length (set xs i o)) (set xs i o) free ≡ upto ++ (entry_bytes k o ++ (past ++ free)) =
            (λ j. laid (same j) (new j) free) ∙ simp (flat_map-append, append_assoc) in
            laid_begins c (set xs i o) free (e ∙ sym is)

        in_entry
            : (c y : List ℕ) (q : ℕ) (field : List ℕ) → c ≡ upto ++ (y ++ (past ++ free)) → q + length field ≤ length y
            → written c (at + q) field ≡ upto ++ (written y q field ++ (past ++ free))
        in_entry c y q field e within =
            ap (λ x. written x (at + q) field) e ∙ written-within upto y (past ++ free) field at q (length_upto (omega arith)) within

        pub entry-written
            : (d o : Object) (q : ℕ) (field : List ℕ) → q + length field ≤ entry_size k
            → written (entry_bytes k (get_or (section k s) i d)) q field ≡ entry_bytes k o
            → Begins (written b (at + q) field) (with_section k s (set (section k s) i o))
        entry-written d o q field within is =
            let old = entry_bytes k (get_or (section k s) i d) in
            let lo = length_entry k (get_or (section k s) i d) in
            entry_set (written b (at + q) field) o (in_entry b old q field (entry_so d) (omega arith) ∙ ap (λ x. upto ++ (x ++ (past ++ free))) is)

        pub entry-written-twice
            : (d o : Object) (q r : ℕ) (field more : List ℕ) → q + length field ≤ entry_size k → r + length more ≤ entry_size k
            → written (written (entry_bytes k (get_or (section k s) i d)) q field) r more ≡ entry_bytes k o
            → Begins (written (written b (at + q) field) (at + r) more) (with_section k s (set (section k s) i o))
        entry-written-twice d o q r field more within also is =
            let old = entry_bytes k (get_or (section k s) i d) in
            let lo = length_entry k (get_or (section k s) i d) in
            let once = in_entry b old q field (entry_so d) (omega arith) in
            let long = length_written old q field (omega arith) in
            entry_set (written (written b (at + q) field) (at + r) more) o
            (in_entry (written b (at + q) field) (written old q field) r more once (omega arith) ∙ ap (λ x. upto ++ (x ++ (past ++ free))) is)

        pub entry-removed
            : (end n : ℕ) → end ≡ size s → n ≡ length (section k s) - 1
            → Begins (written (closed b at end (entry_size k)) (section_at k s - 2) (le16 n))
            (with_section k s (take i (section k s) ++ drop (i + 1) (section k s)))
        entry-removed end n end_is n-is =
            let xs = section k s in
            let w = entry_size k in
            let e = entry_bytes k (get_or xs i root) in
            let le = length_entry k (get_or xs i root) in
            let tail : at + w + length past ≡ end =
            omega (arith, length_onward (omega arith), ap length (from_entry root) ∙ length-append e past) in
            let shut : closed b at end w ≡ laid (length xs) (take i xs ++ drop (i + 1) xs) (e ++ free) =
            ap (λ x. closed x at end w) (entry_so root) ∙ Closed-at upto e past free at end w (length_upto (omega arith)) le tail
            ∙ simp (flat_map-append, append_assoc) in
            counted _ (length xs) n (take i xs ++ drop (i + 1) xs) (e ++ free) shut
            (simp length-append (omega (arith, length-take-le i xs (omega arith), length-drop (i + 1) xs)))

-- ---- a field of an entry

-- what is written into the head of an entry
headed
    : (k : Kind) (o p : Object) (q : ℕ) (field : List ℕ) → q + length field ≤ HEAD_SIZE → contents p ≡ contents o
    → written (head_bytes o) q field ≡ head_bytes p
    → written (entry_bytes k o) q field ≡ entry_bytes k p
unfolding file_bytes
headed Directory o p q field within same is = is
headed File o p q field within same is =
    let same' = sym same in
    written_front (head_bytes o) (contents_field (contents o)) field q (omega (arith, length_head o)) ∙ (λ i. is i ++ contents_field (same' i))

pub parent-written
    : (k : Kind) (o : Object) (q : ℕ)
    → written (entry_bytes k o) PARENT (le32 q)
    ≡ entry_bytes k (record { number = o.number; parent = q; name = o.name; stamp = o.stamp; body = o.body })
unfolding head_bytes
parent-written k o q =
    headed k o _ PARENT (le32 q) (omega (arith, length_le32 q)) refl
    (written_at (le32 o.number) (le32 o.parent) (stamp_field o.stamp ++ name_field o.name) (le32 q) PARENT (length_le32 o.number)
    (length_le32 q ∙ sym (length_le32 o.parent)))

pub stamp-written
    : (k : Kind) (o : Object) (t : Stamp)
    → written (entry_bytes k o) AUTHOR (stamp_field t)
    ≡ entry_bytes k (record { number = o.number; parent = o.parent; name = o.name; stamp = t; body = o.body })
unfolding head_bytes
stamp-written k o t =
    let x = le32 o.number ++ le32 o.parent in
    let lx : length x ≡ AUTHOR = simp (length-append, length_le32) in
    headed k o _ AUTHOR (stamp_field t) (omega (arith, length_stamp t)) refl
    (ap (λ l. written l AUTHOR (stamp_field t)) (sym (append_assoc (le32 o.number) (le32 o.parent) _))
    ∙ written_at x (stamp_field o.stamp) (name_field o.name) (stamp_field t) AUTHOR lx (length_stamp t ∙ sym (length_stamp o.stamp))
    ∙ append_assoc (le32 o.number) (le32 o.parent) (stamp_field t ++ name_field o.name))

pub name-written
    : (k : Kind) (o : Object) (m : List ℕ)
    → written (entry_bytes k o) NAME_LENGTH (name_field m)
    ≡ entry_bytes k (record { number = o.number; parent = o.parent; name = m; stamp = o.stamp; body = o.body })
unfolding head_bytes
name-written k o m =
    let x = le32 o.number ++ (le32 o.parent ++ stamp_field o.stamp) in
    let lx : length x ≡ NAME_LENGTH = simp (length-append, length_le32, length_stamp) in
    let is : head_bytes o ≡ x ++ (name_field o.name ++ []) = simp (append_assoc, append-nil) in
    headed k o _ NAME_LENGTH (name_field m) (omega (arith, length_name m)) refl
    (ap (λ l. written l NAME_LENGTH (name_field m)) is
    ∙ written_at x (name_field o.name) [] (name_field m) NAME_LENGTH lx (length_name m ∙ sym (length_name o.name))
    ∙ simp (append_assoc, append-nil))

pub contents-written
    : (o : Object) (c : List ℕ)
    → written (entry_bytes File o) HEAD_SIZE (contents_field c)
    ≡ entry_bytes File (record { number = o.number; parent = o.parent; name = o.name; stamp = o.stamp; body = file c })
unfolding file_bytes head_bytes
contents-written o c =
    let is : file_bytes o ≡ head_bytes o ++ (contents_field (contents o) ++ []) = simp append-nil in
    ap (λ l. written l HEAD_SIZE (contents_field c)) is
    ∙ written_at (head_bytes o) (contents_field (contents o)) [] (contents_field c) HEAD_SIZE (length_head o)
    (length_contents c ∙ sym (length_contents (contents o)))
    ∙ simp append-nil

-- ---- the next number, and images of no objects

pub next-written
    : (b : List ℕ) (s : Sections) (n : ℕ) → Begins b s
    → Begins (written b 0 (le32 n)) (record { next = n; directories = s.directories; files = s.files })
next-written b s n h =
    let rest = le16 (length s.directories) ++ (flat_map head_bytes s.directories ++ behind Directory s) in
    begins _ _ (drop (size s) b)
    (ap (λ x. written x 0 (le32 n)) (h ∙ append_assoc (le32 s.next) rest (drop (size s) b))
    ∙ written_at [] (le32 s.next) (rest ++ drop (size s) b) (le32 n) 0 refl (length_le32 n ∙ sym (length_le32 s.next))
    ∙ sym (append_assoc (le32 n) rest (drop (size s) b)))

pub counts-cleared
    : (b : List ℕ) (s : Sections) → Begins b s
    → Begins (written b COUNT (le16 0 ++ le16 0)) (record { next = s.next; directories = []; files = [] })
counts-cleared b s h =
    let field = le16 0 ++ le16 0 in
    let rest = (le16 (length s.directories) ++ (flat_map head_bytes s.directories ++ behind Directory s)) ++ drop (size s) b in
    begins _ (record { next = s.next; directories = []; files = [] }) (drop (0 + length field) rest)
    (ap (λ x. written x COUNT field) (h ∙ simp append_assoc)
    ∙ written_behind (le32 s.next) rest field COUNT 0 (length_le32 s.next) (omega arith)
    ∙ simp (append_assoc, append-nil))

pub opened-bare
    : (b : List ℕ) (n : ℕ) → Begins (written b 0 (le32 n ++ (le16 0 ++ le16 0))) (record { next = n; directories = []; files = [] })
opened-bare b n =
    let field = le32 n ++ (le16 0 ++ le16 0) in
    begins _ (record { next = n; directories = []; files = [] }) (drop (0 + length field) b) (simp (append_assoc, append-nil))
