-- What is printed of a kind and of a stamp. Assumes nothing.
--     letter k        d for a directory, f for a file
--     stamp_text s    the author, a point, and the serial
use Rattle.std.specs.Prelude.{ℕ, List, ◌++◌, codes}
use Rattle.std.specs.Fmt.{decimal}
use Rattle.vocab.specs.declared.kind.Kind.{Kind}
use Rattle.vocab.specs.declared.kind.Kind.TheVariants.{Directory, File}
use Rattle.vocab.specs.declared.stamp.Stamp.{Stamp}

abbrev pub letter : Kind → List ℕ
letter Directory = codes "d"
letter File = codes "f"

abbrev pub stamp_text : Stamp → List ℕ
stamp_text s = decimal s.author ++ (codes "." ++ decimal s.serial)
