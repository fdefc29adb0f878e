-- What an entry shows of its object. Assumes nothing.
--     Shows k o bs      bs begins with an entry of kind k that shows the object o
--     Holds c bs        bs begins with an entry that holds the contents c
use Rattle.std.specs.Prelude.{◌≡◌, ℕ, ◌≤◌, List, length, take, drop, slice_index_or}
use Rattle.vocab.specs.Limits.{longest_contents, longest_name}
use Rattle.vocab.specs.declared.kind.Kind.{Kind}
use Rattle.tree.specs.Trees.{Object}
use Rattle.format.specs.Fields.{half, word}
use Rattle.format.specs.Layout.{entry_size}
use Rattle.format.specs.declared.layout.TheConstants.{AUTHOR, CONTENTS, HEAD_SIZE, NAME, NAME_LENGTH, PARENT, SERIAL}

pub record Shows (k : Kind) (o : Object) (bs : List ℕ) : Type 0 where
  pub long : entry_size k ≤ length bs
  pub number : word bs 0 ≡ o.number
  pub parent : word bs PARENT ≡ o.parent
  pub author : half bs AUTHOR ≡ o.stamp.author
  pub serial : word bs SERIAL ≡ o.stamp.serial
  pub name_length : slice_index_or bs NAME_LENGTH 0 ≡ length o.name
  pub name : take (length o.name) (drop NAME bs) ≡ o.name
  pub short : length o.name ≤ longest_name

pub record Holds (c : List ℕ) (bs : List ℕ) : Type 0 where
  pub count : half bs HEAD_SIZE ≡ length c
  pub bytes : take (length c) (drop CONTENTS bs) ≡ c
  pub short : length c ≤ longest_contents
