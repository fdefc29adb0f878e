-- Fields and entries read back. Assumes nothing.
use Rattle.std.proofs.Common.{◌≡◌, ℕ, zero, suc, ◌+◌, ◌*◌, ◌/◌, ◌%◌, ◌^◌, ◌<◌, ◌≤◌, List, [], ◌∷◌, ◌++◌, length, get_or, take, drop, replicate, sym, refl, ap, ◌∙◌, append_assoc, add-zero, mod-eq_of_lt, mul-zero, mul-suc, arith, length-append, length-take}
use lib.ListN.{length-replicate}
use Rattle.std.proofs.lemmas.Nat.{div-add-mod', div_below, shr-shr}
use Rattle.std.proofs.lemmas.List.{drop_at, drop-drop, get_or-drop, take-append-le, take_at, take-take}
use Rattle.std.specs.List.{flat_map, AllByRecursion}
use Rattle.vocab.specs.Buffers.{padded}
use Rattle.vocab.specs.Limits.{longest_contents, longest_name}
use Rattle.vocab.specs.declared.kind.Kind.{Kind}
use Rattle.vocab.specs.declared.kind.Kind.TheVariants.{Directory, File}
use Rattle.tree.specs.Law.{StampFits}
use Rattle.tree.specs.Questions.{contents, kind_of}
use Rattle.tree.specs.Trees.{Body, Object, dir, file}
use Rattle.format.specs.Entries.{contents_field, directory_in, entries, entry_bytes, entry_in, file_bytes, file_in, head_bytes, name_field, stamp_field}
use Rattle.format.specs.Fields.{half, le16, le32, word}
use Rattle.format.specs.Layout.{entry_size}
use Rattle.format.specs.declared.layout.TheConstants.{CONTENTS, HEAD_SIZE}
use Rattle.format.proofs.Lengths.{length_entry, length_head, length_le16}

-- what an entry can hold
pub record Fit (o : Object) : Type 0 where
  pub number : o.number < 2 ^ 32
  pub parent : o.parent < 2 ^ 32
  pub stamp : StampFits o.stamp
  pub name : length o.name ≤ longest_name
  pub contents : length (contents o) ≤ longest_contents

-- ---- fields

carried : (n a b c r0 r1 r2 r3 : ℕ) → a * 256 + r0 ≡ n → b * 256 + r1 ≡ a → c * 256 + r2 ≡ b → r3 ≡ c → r0 + r1 * 256 + r2 * 65536 + r3 * 16777216 ≡ n
carried n a b c r0 r1 r2 r3 p q r s = omega arith

four : (n : ℕ) → n < 2 ^ 32 → n % 256 + n / 256 % 256 * 256 + n / 65536 % 256 * 65536 + n / 16777216 % 256 * 16777216 ≡ n
four n h =
    let two : n / 256 / 256 ≡ n / 65536 = shr-shr n 8 8 in
    let three : n / 65536 / 256 ≡ n / 16777216 = shr-shr n 16 8 in
    let top : n / 16777216 < 256 = div_below n 16777216 256 (omega arith) (omega arith) in
    carried n (n / 256) (n / 65536) (n / 16777216) _ _ _ _
    (div-add-mod' n 256)
    (ap (λ k. k * 256 + n / 256 % 256) (sym two) ∙ div-add-mod' (n / 256) 256)
    (ap (λ k. k * 256 + n / 65536 % 256) (sym three) ∙ div-add-mod' (n / 65536) 256)
    (mod-eq_of_lt top)

pub word_le32 : (n : ℕ) (rest : List ℕ) → n < 2 ^ 32 → word (le32 n ++ rest) 0 ≡ n
unfolding le32 word
word_le32 n rest h = four n h

pub half_le16 : (n : ℕ) (rest : List ℕ) → n < 2 ^ 16 → half (le16 n ++ rest) 0 ≡ n
unfolding le16 half
half_le16 n rest h = omega arith

pub half_drop : (bs : List ℕ) (p : ℕ) → half bs p ≡ half (drop p bs) 0
unfolding half
half_drop bs p = simp get_or-drop (simp add-zero)

pub word_drop : (bs : List ℕ) (p : ℕ) → word bs p ≡ word (drop p bs) 0
unfolding word
word_drop bs p = simp get_or-drop (simp add-zero)

pub take_padded : (n : ℕ) (bs rest : List ℕ) → length bs ≤ n → take (length bs) (padded n bs ++ rest) ≡ bs
unfolding padded
take_padded n bs rest h =
    take-append-le (length bs) (take n (bs ++ replicate n 0)) rest (simp (length-take, length-append, length-replicate) (omega arith))
    ∙ take-take (length bs) n (bs ++ replicate n 0) h
    ∙ take_at bs (replicate n 0) (length bs) refl

-- ---- a file's contents in its entry

module _ (o : Object) (rest : List ℕ) where
  pub drop_to_length : drop HEAD_SIZE (file_bytes o ++ rest) ≡ contents_field (contents o) ++ rest
  unfolding file_bytes
  drop_to_length =
      ap (drop HEAD_SIZE) (append_assoc (head_bytes o) (contents_field (contents o)) rest)
      ∙ drop_at (head_bytes o) (contents_field (contents o) ++ rest) HEAD_SIZE (length_head o)

  pub drop_to_contents : drop CONTENTS (file_bytes o ++ rest) ≡ padded longest_contents (contents o) ++ rest
  unfolding contents_field
  drop_to_contents =
      sym (drop-drop 2 HEAD_SIZE (file_bytes o ++ rest))
      ∙ ap (drop 2) (drop_to_length ∙ append_assoc (le16 (length (contents o))) (padded longest_contents (contents o)) rest)
      ∙ drop_at (le16 (length (contents o))) (padded longest_contents (contents o) ++ rest) 2 (length_le16 (length (contents o)))

  module _ (fit : Fit o) where
    pub length_back : half (file_bytes o ++ rest) HEAD_SIZE ≡ length (contents o)
    unfolding contents_field
    length_back =
        half_drop (file_bytes o ++ rest) HEAD_SIZE
        ∙ ap (λ l. half l 0) (drop_to_length ∙ append_assoc (le16 (length (contents o))) (padded longest_contents (contents o)) rest)
        ∙ half_le16 (length (contents o)) (padded longest_contents (contents o) ++ rest) (omega (arith, fit.contents))

    pub contents_back : take (half (file_bytes o ++ rest) HEAD_SIZE) (drop CONTENTS (file_bytes o ++ rest)) ≡ contents o
    contents_back = (λ i. take (length_back i) (drop_to_contents i)) ∙ take_padded longest_contents (contents o) rest fit.contents

-- ---- entries

apart : {X : Type 0} → Directory ≡ File → X
apart e = let z : ◌≡◌ {A = ℕ} 0 1 = cc in absurd (omega arith)

body_directory : (b : Body) → ◌≡◌ {A = Kind} (elim b [ dir ↦ Directory | file c ↦ File ]) Directory → dir ≡ b
body_directory dir e = refl
body_directory (file c) e = apart (sym e)

body_file : (b : Body) → ◌≡◌ {A = Kind} (elim b [ dir ↦ Directory | file c ↦ File ]) File → ◌≡◌ {A = Body} (file (elim b [ dir ↦ [] | file c ↦ c ])) b
body_file dir e = apart e
body_file (file c) e = refl

directory_back : (o : Object) (rest : List ℕ) → Fit o → kind_of o ≡ Directory → directory_in (head_bytes o ++ rest) ≡ o
unfolding directory_in head_bytes stamp_field name_field word half le32 le16
directory_back o rest fit e i = record {
  number = four o.number fit.number i;
  parent = four o.parent fit.parent i;
  name = take_padded longest_name o.name rest fit.name i;
  stamp = record { author = (let p : half (head_bytes o ++ rest) 8 ≡ o.stamp.author = omega (arith, fit.stamp.0) in p) i; serial = four o.stamp.serial fit.stamp.1 i };
  body = body_directory o.body e i;
}

file_back : (o : Object) (rest : List ℕ) → Fit o → kind_of o ≡ File → file_in (file_bytes o ++ rest) ≡ o
unfolding file_in file_bytes head_bytes stamp_field name_field word half le32 le16
file_back o rest fit e =
    let tail = contents_field (contents o) in
    let name : take (length o.name) ((padded longest_name o.name ++ tail) ++ rest) ≡ o.name =
    ap (take (length o.name)) (append_assoc (padded longest_name o.name) tail rest) ∙ take_padded longest_name o.name (tail ++ rest) fit.name in
    let body = ap file (contents_back o rest fit) ∙ body_file o.body e in
    λ i. record {
      number = four o.number fit.number i;
      parent = four o.parent fit.parent i;
      name = name i;
      stamp = record { author = (let p : half (file_bytes o ++ rest) 8 ≡ o.stamp.author = omega (arith, fit.stamp.0) in p) i; serial = four o.stamp.serial fit.stamp.1 i };
      body = body i;
    }

pub entry_back : (k : Kind) (o : Object) (rest : List ℕ) → Fit o → kind_of o ≡ k → entry_in k (entry_bytes k o ++ rest) ≡ o
entry_back Directory o rest fit e = directory_back o rest fit e
entry_back File o rest fit e = file_back o rest fit e

pub entries_back : (k : Kind) (l : List Object) (rest : List ℕ) → AllByRecursion (λ o. Fit o × (kind_of o ≡ k)) l → entries k (length l) (flat_map (entry_bytes k) l ++ rest) ≡ l
entries_back k [] rest h = refl
entries_back k (o ∷ l) rest h =
    let bs = flat_map (entry_bytes k) l ++ rest in
    let first : (entry_bytes k o ++ flat_map (entry_bytes k) l) ++ rest ≡ entry_bytes k o ++ bs = append_assoc (entry_bytes k o) (flat_map (entry_bytes k) l) rest in
    let here = ap (entry_in k) first ∙ entry_back k o bs h.0.0 h.0.1 in
    let there =
    ap (λ z. entries k (length l) (drop (entry_size k) z)) first
    ∙ ap (entries k (length l)) (drop_at (entry_bytes k o) bs (entry_size k) (length_entry k o))
    ∙ entries_back k l rest h.1 in
    λ i. here i ∷ there i

pub length_entries : (k : Kind) (n : ℕ) (bs : List ℕ) → length (entries k n bs) ≡ n
length_entries k zero bs = refl
length_entries k (suc n) bs = ap suc (length_entries k n (drop (entry_size k) bs))

pub get_or_entries : (k : Kind) (none : Object) (n : ℕ) (bs : List ℕ) (i : ℕ) → i < n → get_or (entries k n bs) i none ≡ entry_in k (drop (entry_size k * i) bs)
get_or_entries k none zero bs i h = absurd (omega arith)
get_or_entries k none (suc n) bs zero h = ap (λ j. entry_in k (drop j bs)) (sym (mul-zero (entry_size k)))
get_or_entries k none (suc n) bs (suc i) h =
    get_or_entries k none n (drop (entry_size k) bs) i (omega arith)
    ∙ ap (entry_in k) (drop-drop (entry_size k * i) (entry_size k) bs ∙ ap (λ j. drop j bs) (omega (arith, mul-suc (entry_size k) i)))

-- the entry at each place of a section is its object's
pub entry_at : (k : Kind) (none : Object) (l : List Object) (rest : List ℕ) → AllByRecursion (λ o. Fit o × (kind_of o ≡ k)) l → (i : ℕ) → i < length l → entry_in k (drop (entry_size k * i) (flat_map (entry_bytes k) l ++ rest)) ≡ get_or l i none
entry_at k none l rest h i below =
    sym (get_or_entries k none (length l) (flat_map (entry_bytes k) l ++ rest) i below)
    ∙ ap (λ m. get_or m i none) (entries_back k l rest h)
