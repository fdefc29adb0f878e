-- Sizes in an image. Where its fields stand are constants of the code. Assumes nothing.
--     entry_size k         the size of an entry of kind k
--     files_at d           where the files begin, behind d directories and the count of files
--     capacity_in n        how many objects a store in n bytes keeps
--     FieldsStand          where the fields stand, and how long the entries are, number by number
use Rattle.std.specs.Prelude.{◌≡◌, ℕ, ◌+◌, ◌-◌, ◌*◌, ◌/◌, min, cond, nat_lt}
use Rattle.vocab.specs.declared.kind.Kind.{Kind}
use Rattle.vocab.specs.declared.kind.Kind.TheVariants.{Directory, File}
use Rattle.format.specs.declared.layout.TheConstants.{AUTHOR, BARE_SIZE, CONTENTS, COUNT, DIRECTORIES, FILE_SIZE, HEAD_SIZE, LEAST_SIZE, NAME, NAME_LENGTH, PARENT, SERIAL}
use Rattle.vocab.specs.Limits.{most_objects}

abbrev pub entry_size : Kind → ℕ
entry_size Directory = HEAD_SIZE
entry_size File = FILE_SIZE

abbrev pub files_at : ℕ → ℕ
files_at d = BARE_SIZE + HEAD_SIZE * d

abbrev pub capacity_in : ℕ → ℕ
capacity_in n = cond (nat_lt n LEAST_SIZE) 0 (min ((n - BARE_SIZE) / FILE_SIZE) most_objects)

pub record FieldsStand : Type 0 where
  pub parent : PARENT ≡ 4
  pub author : AUTHOR ≡ 8
  pub serial : SERIAL ≡ 10
  pub name_length : NAME_LENGTH ≡ 14
  pub name : NAME ≡ 15
  pub head : HEAD_SIZE ≡ 39
  pub contents : CONTENTS ≡ 41
  pub file : FILE_SIZE ≡ 297
  pub count : COUNT ≡ 4
  pub directories : DIRECTORIES ≡ 6
  pub bare : BARE_SIZE ≡ 8
  pub least : LEAST_SIZE ≡ 305
