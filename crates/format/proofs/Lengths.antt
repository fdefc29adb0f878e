-- How long fields, entries and sections are. Assumes nothing.
use Rattle.std.proofs.Common.{◌≡◌, ℕ, ◌+◌, ◌*◌, ◌<◌, ◌≤◌, List, [], ◌∷◌, ◌++◌, length, take, drop, sym, refl, ap, ◌∙◌, mul-zero, mul-suc, mul-add, arith, length-append, take-append-drop, length-take}
use lib.ListN.{length-replicate}
use Rattle.std.proofs.lemmas.Grind.{flat_map-append}
use Rattle.std.proofs.lemmas.Nat.{mul-le}
use Rattle.std.proofs.lemmas.List.{drop_at, length-take-le, take_at}
use Rattle.std.specs.List.{flat_map}
use Rattle.vocab.specs.Buffers.{padded}
use Rattle.vocab.specs.declared.kind.Kind.{Kind}
use Rattle.vocab.specs.declared.kind.Kind.TheVariants.{Directory, File}
use Rattle.vocab.specs.declared.stamp.Stamp.{Stamp}
use Rattle.tree.specs.Trees.{Object}
use Rattle.format.specs.Entries.{contents_field, entry_bytes, file_bytes, head_bytes, name_field, stamp_field}
use Rattle.format.specs.Fields.{le16, le32}
use Rattle.format.specs.Images.{Sections, encoded, size}
use Rattle.format.specs.Layout.{entry_size}
use Rattle.format.specs.declared.layout.TheConstants.{FILE_SIZE, HEAD_SIZE}

pub length_le16 : (n : ℕ) → length (le16 n) ≡ 2
unfolding le16
length_le16 n = refl

pub length_le32 : (n : ℕ) → length (le32 n) ≡ 4
unfolding le32
length_le32 n = refl

pub length_padded : (n : ℕ) (bs : List ℕ) → length (padded n bs) ≡ n
unfolding padded
length_padded n bs = simp (length-take, length-append, length-replicate) (omega arith)

pub length_stamp : (s : Stamp) → length (stamp_field s) ≡ 6
unfolding stamp_field
length_stamp s = simp (length-append, length_le16, length_le32)

pub length_name : (n : List ℕ) → length (name_field n) ≡ 25
unfolding name_field
length_name n = omega (arith, length_padded 24 n)

pub length_contents : (c : List ℕ) → length (contents_field c) ≡ 258
unfolding contents_field
length_contents c = simp (length-append, length_le16, length_padded)

pub length_head : (o : Object) → length (head_bytes o) ≡ HEAD_SIZE
unfolding head_bytes
length_head o = simp (length-append, length_le32, length_stamp, length_name)

pub length_file : (o : Object) → length (file_bytes o) ≡ FILE_SIZE
unfolding file_bytes
length_file o = simp (length-append, length_head, length_contents)

pub length_entry : (k : Kind) (o : Object) → length (entry_bytes k o) ≡ entry_size k
length_entry Directory o = length_head o
length_entry File o = length_file o

-- ---- entries one behind the other, each of w bytes

module _ (f : Object → List ℕ) (w : ℕ) (fixed : (o : Object) → length (f o) ≡ w) where
  pub length_joined : (l : List Object) → length (flat_map f l) ≡ w * length l
  length_joined [] = sym (mul-zero w)
  length_joined (o ∷ l) = length-append (f o) (flat_map f l) ∙ omega (arith, fixed o, length_joined l, mul-suc w (length l))

module _ (f : Object → List ℕ) (w : ℕ) (fixed : (o : Object) → length (f o) ≡ w) (l : List Object) (i : ℕ) (within : i ≤ length l) where
  pub joined_cut : flat_map f l ≡ flat_map f (take i l) ++ flat_map f (drop i l)
  joined_cut = ap (flat_map f) (sym (take-append-drop i l)) ∙ flat_map-append f (take i l) (drop i l)

  pub length_joined_take : length (flat_map f (take i l)) ≡ w * i
  length_joined_take = length_joined f w fixed (take i l) ∙ ap (λ n. w * n) (length-take-le i l within)

  pub take_joined : take (w * i) (flat_map f l) ≡ flat_map f (take i l)
  take_joined = ap (take (w * i)) joined_cut ∙ take_at (flat_map f (take i l)) (flat_map f (drop i l)) (w * i) length_joined_take

  pub drop_joined : drop (w * i) (flat_map f l) ≡ flat_map f (drop i l)
  drop_joined = ap (drop (w * i)) joined_cut ∙ drop_at (flat_map f (take i l)) (flat_map f (drop i l)) (w * i) length_joined_take

pub length_encoded : (s : Sections) → length (encoded s) ≡ size s
length_encoded s =
    simp (length-append, length_le16, length_le32)
    (omega (arith, length_joined head_bytes HEAD_SIZE length_head s.directories, length_joined file_bytes FILE_SIZE length_file s.files))

-- an entry lies within its section
pub entry_within : (w i n : ℕ) → i < n → w * i + w ≤ w * n
entry_within w i n h = let p : w * (i + 1) ≤ w * n = mul-le w (i + 1) w n (omega arith) (omega arith) in omega (arith, p, mul-add w i 1)
