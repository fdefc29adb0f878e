-- Bytes in the front of places that are filled up with zeros. Assumes nothing.
use Rattle.std.specs.Prelude.{◌≡◌, ℕ, ◌+◌, ◌-◌, ◌≤◌, List, ◌++◌, length, take, replicate}
use Rattle.std.proofs.Common.{ap, ◌∙◌, arith}
use lib.Seq.{take-append-add}
use Rattle.std.proofs.lemmas.List.{length-append, length-replicate, length-take, length-take-le, take-replicate}
use Rattle.vocab.specs.Buffers.{padded}

pub padded_is : (n : ℕ) (bs : List ℕ) → length bs ≤ n → padded n bs ≡ bs ++ replicate (n - length bs) 0
unfolding padded
padded_is n bs h =
    let count : n ≡ length bs + (n - length bs) = omega arith in
    ap (λ m. take m (bs ++ replicate n 0)) count
    ∙ take-append-add bs (replicate n 0) (n - length bs)
    ∙ ap (λ z. bs ++ z) (take-replicate (n - length bs) n 0 (omega arith))

-- where all places are the front, filled up, the front is as long as it says
pub front_length : (n len : ℕ) (places : List ℕ) → len ≤ n → places ≡ padded n (take len places) → length (take len places) ≡ len
unfolding padded
front_length n len places h k =
    let front = take len places in
    let count : length places ≡ n =
    ap length k ∙ length-take n (front ++ replicate n 0)
    ∙ omega (arith, length-append front (replicate n 0), length-replicate {A = ℕ} n 0) in
    length-take-le len places (omega arith)
