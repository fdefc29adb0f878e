-- Names of objects. Assumes nothing.
--     valid_name n        1 to 24 bytes, each from 33 to 126, and none of them 47, the slash
--     name_or_none n      a valid name, or the root's empty one
--     same_name m n       whether two names are the same, byte by byte
use Rattle.std.specs.Prelude.{ℕ, Bool, true, not, ◌&&◌, ◌||◌, List, [], ◌∷◌, length, ◌==◌, nat_le}
use Rattle.std.specs.Str.{bytes_eq}
use Rattle.vocab.specs.Limits.{longest_name}

abbrev pub every : (ℕ → Bool) → List ℕ → Bool
every p [] = true
every p (b ∷ bs) = p b && every p bs

abbrev pub name_byte : ℕ → Bool
name_byte b = nat_le 33 b && (nat_le b 126 && not (b == 47))

unfoldable pub valid_name : List ℕ → Bool
valid_name n = nat_le 1 (length n) && (nat_le (length n) longest_name && every name_byte n)

unfoldable pub name_or_none : List ℕ → Bool
name_or_none n = length n == 0 || valid_name n

unfoldable pub same_name : List ℕ → List ℕ → Bool
same_name m n = bytes_eq m n
