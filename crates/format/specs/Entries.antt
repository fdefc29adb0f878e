-- An object as the bytes of its entry, and the way back. Assumes nothing.
--     stamp_field s, name_field n, contents_field c     these fields of an entry
--     head_bytes o         a directory's entry, and the front of a file's
--     file_bytes o         a file's entry
--     entry_bytes k o      the entry of an object of kind k
--     directory_in bs, file_in bs     the object whose entry bs begins with
--     entry_in k bs        the same, of kind k
--     entries k n bs       the objects of the n entries of kind k that bs begins with
use Rattle.std.specs.Prelude.{ℕ, zero, suc, List, [], ◌∷◌, ◌++◌, length, take, drop, slice_index}
use Rattle.vocab.specs.Buffers.{padded}
use Rattle.vocab.specs.Limits.{longest_contents, longest_name}
use Rattle.vocab.specs.declared.kind.Kind.{Kind}
use Rattle.vocab.specs.declared.kind.Kind.TheVariants.{Directory, File}
use Rattle.vocab.specs.declared.stamp.Stamp.{Stamp}
use Rattle.tree.specs.Questions.{contents}
use Rattle.tree.specs.Trees.{Object, dir, file}
use Rattle.format.specs.Fields.{half, le16, le32, word}
use Rattle.format.specs.Layout.{entry_size}
use Rattle.format.specs.declared.layout.TheConstants.{AUTHOR, CONTENTS, HEAD_SIZE, NAME, NAME_LENGTH, PARENT, SERIAL}

unfoldable pub stamp_field : Stamp → List ℕ
stamp_field s = le16 s.author ++ le32 s.serial

unfoldable pub name_field : List ℕ → List ℕ
name_field n = length n ∷ padded longest_name n

unfoldable pub contents_field : List ℕ → List ℕ
contents_field c = le16 (length c) ++ padded longest_contents c

unfoldable pub head_bytes : Object → List ℕ
head_bytes o = le32 o.number ++ (le32 o.parent ++ (stamp_field o.stamp ++ name_field o.name))

unfoldable pub file_bytes : Object → List ℕ
file_bytes o = head_bytes o ++ contents_field (contents o)

abbrev pub entry_bytes : Kind → Object → List ℕ
entry_bytes Directory o = head_bytes o
entry_bytes File o = file_bytes o

-- ---- the way back

unfoldable pub directory_in : List ℕ → Object
directory_in bs = record {
  number = word bs 0;
  parent = word bs PARENT;
  name = take (slice_index bs NAME_LENGTH) (drop NAME bs);
  stamp = record { author = half bs AUTHOR; serial = word bs SERIAL };
  body = dir;
}

unfoldable pub file_in : List ℕ → Object
file_in bs = record {
  number = word bs 0;
  parent = word bs PARENT;
  name = take (slice_index bs NAME_LENGTH) (drop NAME bs);
  stamp = record { author = half bs AUTHOR; serial = word bs SERIAL };
  body = file (take (half bs HEAD_SIZE) (drop CONTENTS bs));
}

abbrev pub entry_in : Kind → List ℕ → Object
entry_in Directory bs = directory_in bs
entry_in File bs = file_in bs

abbrev pub entries : Kind → ℕ → List ℕ → List Object
entries k zero bs = []
entries k (suc n) bs = entry_in k bs ∷ entries k n (drop (entry_size k) bs)
