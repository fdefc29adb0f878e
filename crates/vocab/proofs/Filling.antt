-- Bytes in the front of places that are filled up with zeros. Assumes nothing.
use Rattle.std.proofs.Common.{◌≡◌, ℕ, ◌-◌, ◌≤◌, List, [], ◌++◌, length, take, drop, replicate, sym, refl, ap, ◌∙◌, arith}
use Rattle.std.proofs.lemmas.List.{drop-replicate, length-replicate, take_all, take_at}
use borrow.Rule.Slice.PartMut.{post_of}
use Rattle.vocab.specs.Buffers.{padded}
use Rattle.vocab.specs.Places.{padded_is}

module _ (n : ℕ) where
  pub no_bytes : replicate n 0 ≡ padded n []
  unfolding padded
  no_bytes = sym (take_all n (replicate n 0) (omega (arith, length-replicate {A = ℕ} n 0)))

  -- zeros whose front was written over
  module _ (bs : List ℕ) (within : length bs ≤ n) where
    abbrev pub written : List ℕ
    written = bs ++ post_of 0 (length bs - 0) (replicate n 0)

    pub front_kept : take (length bs) written ≡ bs
    front_kept = take_at bs _ (length bs) refl

    pub front_written : written ≡ padded n (take (length bs) written)
    front_written =
        let same : length bs - 0 ≡ length bs = omega arith in
        ap (λ k. bs ++ drop k (replicate n 0)) same
        ∙ ap (λ z. bs ++ z) (drop-replicate {X = ℕ} (length bs) n 0)
        ∙ sym (padded_is n bs within)
        ∙ sym (ap (padded n) front_kept)
