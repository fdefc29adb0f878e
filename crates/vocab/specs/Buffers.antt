-- Bytes in a longer memory: in the front of a buffer, and filled up with zeros. Assumes nothing.
--     fits bs buffer       the check that the buffer is long enough
--     front bs buffer      the buffer with bs in its front, the rest as it was; and the count of bytes
--     copied bs buffer     the buffer after the copy, and the answer
--     padded n bs          bs and zeros behind it, n bytes in all
use Rattle.std.specs.Prelude.{ℕ, List, [], ◌∷◌, ◌++◌, length, take, drop, replicate, Result, nat_le}
use Rattle.vocab.specs.declared.refusal.Refusal.{Refusal}
use Rattle.vocab.specs.declared.refusal.Refusal.TheVariants.{BufferShort}
use Rattle.vocab.specs.Checks.{Check, check, judge}

abbrev pub fits : List ℕ → List ℕ → Check
fits bs buffer = check (nat_le (length bs) (length buffer)) BufferShort

abbrev pub front : List ℕ → List ℕ → List ℕ × ℕ
front bs buffer = (bs ++ drop (length bs) buffer, length bs)

abbrev pub copied : List ℕ → List ℕ → List ℕ × Result ℕ Refusal
copied bs buffer = judge (fits bs buffer ∷ []) buffer (front bs buffer)

unfoldable pub padded : ℕ → List ℕ → List ℕ
padded n bs = take n (bs ++ replicate n 0)
