-- An object's entry shows it. Assumes nothing.
use Rattle.std.proofs.Common.{◌≡◌, ℕ, List, ◌++◌, length, get_or, take, drop, sym, refl, ap, ◌∙◌, arith, length-append}
use Rattle.vocab.specs.declared.kind.Kind.{Kind}
use Rattle.vocab.specs.declared.kind.Kind.TheVariants.{Directory, File}
use Rattle.tree.specs.Questions.{contents, kind_of}
use Rattle.tree.specs.Trees.{Object}
use Rattle.format.specs.Entries.{directory_in, entry_bytes, entry_in, file_bytes, file_in, head_bytes, name_field, stamp_field}
use Rattle.format.specs.Fields.{half, le16, le32, word}
use Rattle.format.specs.declared.layout.TheConstants.{AUTHOR, CONTENTS, NAME, NAME_LENGTH, PARENT, SERIAL}
use Rattle.format.specs.Reading.{Holds, Shows}
use Rattle.format.proofs.Codec.{Fit, contents_back, entry_back, length_back}
use Rattle.format.proofs.Lengths.{length_entry}

-- ---- what is read at its place

read_number : (k : Kind) (bs : List ℕ) → (entry_in k bs).number ≡ word bs 0
unfolding directory_in file_in
read_number Directory bs = refl
read_number File bs = refl

read_parent : (k : Kind) (bs : List ℕ) → (entry_in k bs).parent ≡ word bs PARENT
unfolding directory_in file_in
read_parent Directory bs = refl
read_parent File bs = refl

read_author : (k : Kind) (bs : List ℕ) → (entry_in k bs).stamp.author ≡ half bs AUTHOR
unfolding directory_in file_in
read_author Directory bs = refl
read_author File bs = refl

read_serial : (k : Kind) (bs : List ℕ) → (entry_in k bs).stamp.serial ≡ word bs SERIAL
unfolding directory_in file_in
read_serial Directory bs = refl
read_serial File bs = refl

read_name : (k : Kind) (bs : List ℕ) → (entry_in k bs).name ≡ take (get_or bs NAME_LENGTH 0) (drop NAME bs)
unfolding directory_in file_in
read_name Directory bs = refl
read_name File bs = refl

read_length : (k : Kind) (o : Object) (rest : List ℕ) → get_or (entry_bytes k o ++ rest) NAME_LENGTH 0 ≡ length o.name
unfolding head_bytes file_bytes le32 le16 stamp_field name_field
read_length Directory o rest = refl
read_length File o rest = refl

pub shows : (k : Kind) (o : Object) (rest : List ℕ) → Fit o → kind_of o ≡ k → Shows k o (entry_bytes k o ++ rest)
shows k o rest fit kind =
    let bs = entry_bytes k o ++ rest in
    let back : entry_in k bs ≡ o = entry_back k o rest fit kind in
    let count = read_length k o rest in
    record {
      long = omega (arith, length-append (entry_bytes k o) rest, length_entry k o);
      number = sym (read_number k bs) ∙ ap (λ p. p.number) back;
      parent = sym (read_parent k bs) ∙ ap (λ p. p.parent) back;
      author = sym (read_author k bs) ∙ ap (λ p. p.stamp.author) back;
      serial = sym (read_serial k bs) ∙ ap (λ p. p.stamp.serial) back;
      name_length = count;
      name = ap (λ n. take n (drop NAME bs)) (sym count) ∙ sym (read_name k bs) ∙ ap (λ p. p.name) back;
      short = fit.name;
    }

pub holds : (o : Object) (rest : List ℕ) → Fit o → Holds (contents o) (file_bytes o ++ rest)
holds o rest fit =
    let bs = file_bytes o ++ rest in
    let count = length_back o rest fit in
    record { count = count; bytes = ap (λ n. take n (drop CONTENTS bs)) (sym count) ∙ contents_back o rest fit; short = fit.contents }
