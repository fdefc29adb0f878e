-- Whether an object is entered. Assumes nothing.
use Rattle.std.proofs.Common.{◌≡◌, ℕ, ◌<◌, true, false, ◌&&◌, ltb, List, ◌∷◌, length}
use Rattle.std.proofs.lemmas.Bool.{and_from, and_left, lt-ltb, cond-true, cond-false}
use Rattle.tree.specs.Questions.{dir_at}
use Rattle.tree.specs.Trees.{Object}
use Rattle.listing.specs.Walks.{entered, place}

module _ (l : List Object) (c n : ℕ) (up : List ℕ) (a : ℕ) where
  pub entered_in : dir_at c l ≡ true → length up < n → entered l c (place n up a) ≡ place n (c ∷ up) 0
  entered_in h k = cond-true (dir_at c l && ltb (length up) n) _ _ (and_from _ _ h (lt-ltb (length up) n k))

  pub entered_file : dir_at c l ≡ false → entered l c (place n up a) ≡ place n up c
  entered_file h = cond-false (dir_at c l && ltb (length up) n) _ _ (and_left _ _ h)
