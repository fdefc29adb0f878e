-- Worked cases of cancelling, replay and priorities. Assumes nothing.
--     one k e           the record of loader 1 with serial k and edit e
--     log n rs          the log that entering rs one by one leaves, n numbers being given out
--     library           a server with one file, number 2, named a, of the office's stamp
use Rattle.std.specs.Prelude.{◌≡◌, ℕ, ◌+◌, List, [], ◌∷◌, length, Ok, Err}
use Rattle.vocab.specs.declared.refusal.Refusal.TheVariants.{NameTaken, StampDiffers}
use Rattle.vocab.specs.declared.stamp.Stamp.{Stamp}
use Rattle.vocab.specs.Limits.{temporary}
use Rattle.tree.specs.Changes.{with_next}
use Rattle.tree.specs.Trees.{Tree, file}
use Rattle.model.specs.Records.{Edit, mkdir, create, store, remove, rmdir, rename, Record}
use Rattle.model.specs.Cancelling.{entered}
use Rattle.model.specs.Replaying.{replay}
use Rattle.model.specs.Hoard.{weighted}

abbrev pub stamp : ℕ → ℕ → Stamp
stamp a s = record { author = a; serial = s }

abbrev pub one : ℕ → Edit → Record
one k e = record { author = 1; serial = k; edit = e }

abbrev pub log_from : ℕ → List Record → List Record → List Record
log_from n l [] = l
log_from n l (r ∷ rs) = log_from n (entered n l r) rs

abbrev pub log : ℕ → List Record → List Record
log n rs = log_from n [] rs

abbrev pub a : List ℕ
a = 97 ∷ []

abbrev pub b : List ℕ
b = 98 ∷ []

abbrev pub library : Tree
library = record {
  capacity = 8;
  next = 3;
  objects = record { number = 2; parent = 1; name = a; stamp = stamp 0 2; body = file [] } ∷ [];
}

abbrev pub trial : List Record
trial = one 1 (create temporary 1 a) ∷ one 2 (remove temporary 1 a (stamp 1 1)) ∷ []

pub record WorkedCases : Type 0 where
  -- two stores of an old file: one record, which expects what the first expected
  pub two_stores : log 0 (one 1 (store 2 a (stamp 0 2)) ∷ one 2 (store 2 b (stamp 1 1)) ∷ []) ≡ one 2 (store 2 b (stamp 0 2)) ∷ []
  -- a store and a remove of an old file: the remove alone, which expects what the store expected
  pub store_and_remove : log 0 (one 1 (store 2 a (stamp 0 2)) ∷ one 2 (remove 2 1 a (stamp 1 1)) ∷ []) ≡ one 2 (remove 2 1 a (stamp 0 2)) ∷ []
  -- a directory that a moved file's record still names does not cancel
  pub named_directory : length (log 2 (one 1 (mkdir temporary 1 a) ∷ one 2 (create (temporary + 1) temporary b) ∷ one 3 (rename (temporary + 1) temporary b 1 b) ∷ one 4 (rmdir temporary 1 a) ∷ [])) ≡ 4
  -- one that was made, filled and emptied leaves nothing
  pub emptied_directory : log 2 (one 1 (mkdir temporary 1 a) ∷ one 2 (create (temporary + 1) temporary b) ∷ one 3 (remove (temporary + 1) temporary b (stamp 1 2)) ∷ one 4 (rmdir temporary 1 a) ∷ []) ≡ []
  -- a trial file at a name that the server has: the log passes, and the records as made meet the taken name
  pub trial_cancels : log 1 trial ≡ []
  pub trial_passes : replay 1 (log 1 trial) library ≡ Ok (with_next library 4)
  pub trial_clashes : replay 1 trial library ≡ Err (record { logged = one 1 (create temporary 1 a); failed = NameTaken })
  -- priorities of the weighted policy, by rank and age
  pub weighted_high : weighted 500 200 ≡ 575
  pub weighted_low : weighted 2 1000 ≡ 1
  -- a file stored elsewhere meanwhile is a conflict
  pub stale_store : replay 0 (one 1 (store 2 a (stamp 0 1)) ∷ []) library ≡ Err (record { logged = one 1 (store 2 a (stamp 0 1)); failed = StampDiffers })
