-- Runs that meet the premises of the guarantees, and compute. Assumes nothing.
--     new_one n         a new loader of number n
--     begin, two        a server with nothing on it, and a new loader of number 1; or two, of numbers 1 and 2
--     monday            the office makes a file and fills it; the loader walks and leaves, makes a second file and stores the first
--     meanwhile         the same, and then the office stores the first file too
--     log_of a w        the log of the loader of number a, if it is away
--     tuesday           loader 1 stores the office's file and joins; then loader 2 walks and leaves, and stores it too
--     renewed n w       w with a new loader, of number n, in the place of loader 1
--     wednesday n       the loader of number n stores the file anew, and joins
--     before_join n     the world after these, and before loader 2 joins
--     past_two n        the past of loader 2 then
use Rattle.std.specs.Prelude.{◌≡◌, ℕ, ◌-◌, true, cond, List, [], ◌∷◌, ◌++◌, map, Some, None, Ok, Err, ◌==◌}
use Rattle.vocab.specs.declared.refusal.Refusal.TheVariants.{StampDiffers, NumbersSpent}
use Rattle.vocab.specs.declared.layer.Layer.TheVariants.{Loader as LoaderLayer}
use Rattle.vocab.specs.Limits.{temporary}
use Rattle.tree.specs.Law.{empty}
use Rattle.tree.specs.Trees.{Object, Tree, at, file}
use Rattle.model.specs.declared.answer.Reply.TheVariants.{Records}
use Rattle.model.specs.declared.answer.TurnError.TheVariants.{Conflicting}
use Rattle.model.specs.Records.{Record, create, mkdir, store}
use Rattle.model.specs.Replaying.{replay}
use Rattle.model.specs.Office.{make_file, store_into}
use Rattle.model.specs.Hoard.{plain}
use Rattle.model.specs.Loaders.{Spell, home, away, Loader, log, new_loader}
use Rattle.model.specs.Worlds.{World, Turn, office, walk, leave, edit, join, loader_of, refused, run, step}
use Rattle.model.specs.Past.{Past, given_by, pasts}
use Rattle.law.specs.Guarantees.{Away, Start, new_pasts, touched}

abbrev pub a : List ℕ
a = 97 ∷ []

abbrev pub b : List ℕ
b = 98 ∷ []

-- what stands in the memory of a log before anything is entered does not matter
abbrev pub blank : Record
blank = record { author = 0; serial = 0; edit = mkdir 0 0 [] }

abbrev pub new_one : ℕ → Loader
new_one n = new_loader n (empty 8) (blank ∷ blank ∷ blank ∷ blank ∷ [])

abbrev pub begin_at : ℕ → World
begin_at n = record {
  server = record { capacity = 8; next = n; objects = [] };
  loaders = new_loader 1 (empty 8) (blank ∷ blank ∷ blank ∷ blank ∷ []) ∷ [];
  policy = plain;
}

abbrev pub begin : World
begin = begin_at 2

abbrev pub monday : List Turn
monday =
    office (make_file 1 a)
    ∷ office (store_into 2 a)
    ∷ walk 1 4
    ∷ leave 1
    ∷ edit 1 (make_file 1 b) 4
    ∷ edit 1 (store_into 2 b) 4
    ∷ []

abbrev pub meanwhile : List Turn
meanwhile = monday ++ (office (store_into 2 (a ++ b)) ∷ [])

abbrev pub object_of : ℕ → List ℕ → ℕ → ℕ → List ℕ → Object
object_of x n author serial c = record { number = x; parent = 1; name = n; stamp = record { author = author; serial = serial }; body = file c }

abbrev pub joined : Tree
joined = record { capacity = 8; next = 5; objects = object_of 2 a 1 2 b ∷ object_of 4 b 1 1 [] ∷ [] }

-- one file is made, or two, where the server has one number left
abbrev pub one_file : List Turn
one_file = walk 1 4 ∷ leave 1 ∷ edit 1 (make_file 1 a) 4 ∷ []

abbrev pub two_files : List Turn
two_files = one_file ++ (edit 1 (make_file 1 b) 4 ∷ [])

abbrev pub log_of : ℕ → World → List Record
log_of a w = elim (loader_of a w.loaders) [ None ↦ [] | Some d ↦ elim d.state [ home t ↦ [] | away s ↦ log s d ] ]

-- what the loader recorded on monday
abbrev pub made_b : Record
made_b = record { author = 1; serial = 1; edit = create temporary 1 b }

abbrev pub stored_a : Record
stored_a = record { author = 1; serial = 2; edit = store 2 b (record { author = 0; serial = 3 }) }

pub record WorkedRuns : Type 0 where
  pub starts : Start begin
  -- a join of two records that replaces a file the server had, and makes another
  pub list_passes : replay (given_by (pasts monday begin new_pasts 1).list) (pasts monday begin new_pasts 1).list (run monday begin).server ≡ Ok joined
  pub join_passes : (step (join 1 4 2) (run monday begin)).1 ≡ Ok (Records 2)
  pub join_leaves : (step (join 1 4 2) (run monday begin)).0.server ≡ joined
  -- a conflict at the second record: the first is applied, and nothing is changed
  pub conflicts : (step (join 1 4 2) (run meanwhile begin)).1 ≡ Err (Conflicting (record { refusal = StampDiffers; serial = 2; object = 2 }))
  pub nothing_changed : (step (join 1 4 2) (run meanwhile begin)).0 ≡ run meanwhile begin
  -- the server's last number is given, and no more
  pub last_number : (step (join 1 4 2) (run one_file (begin_at (temporary - 1)))).0.server.next ≡ temporary
  pub no_number : (step (join 1 4 2) (run two_files (begin_at (temporary - 1)))).1 ≡ refused LoaderLayer NumbersSpent

-- what the worked joins come through
pub record WorkedJoins : Type 0 where
  -- the list of the join that passes touches file 2, and there the server has just what the loader saw
  pub is_away : (d : Loader) × (s : Spell) × Away 1 (run monday begin) d s
  pub file_touched : touched 2 (pasts monday begin new_pasts 1).list ≡ true
  pub file_there : at 2 (run monday begin).server.objects ≡ Some (object_of 2 a 0 3 a)
  pub file_seen : at 2 (pasts monday begin new_pasts 1).seen ≡ Some (object_of 2 a 0 3 a)
  -- of the join that conflicts the first record passes alone
  pub log_is : log_of 1 (run meanwhile begin) ≡ made_b ∷ stored_a ∷ []
  pub first_passes : replay 1 (made_b ∷ []) (run meanwhile begin).server ≡ Ok (record { capacity = 8; next = 6; objects = object_of 2 a 0 4 (a ++ b) ∷ object_of 5 b 1 1 [] ∷ [] })
  pub second_fails : replay 1 (made_b ∷ stored_a ∷ []) (run meanwhile begin).server ≡ Err (record { logged = stored_a; failed = StampDiffers })

-- ---- a number that is given again

abbrev pub two : World
two = record { server = record { capacity = 8; next = 2; objects = [] }; loaders = new_one 1 ∷ new_one 2 ∷ []; policy = plain }

abbrev pub tuesday : List Turn
tuesday =
    office (make_file 1 a)
    ∷ office (store_into 2 a)
    ∷ walk 1 4
    ∷ leave 1
    ∷ edit 1 (store_into 2 b) 4
    ∷ join 1 4 1
    ∷ walk 2 4
    ∷ leave 2
    ∷ edit 2 (store_into 2 (a ++ b)) 4
    ∷ []

abbrev pub renewed : ℕ → World → World
renewed n w = record { server = w.server; loaders = map (λ d. cond (d.number == 1) (new_one n) d) w.loaders; policy = w.policy }

abbrev pub wednesday : ℕ → List Turn
wednesday n = walk n 4 ∷ leave n ∷ edit n (store_into 2 (b ++ a)) 4 ∷ join n 4 1 ∷ []

abbrev pub before_join : ℕ → World
before_join n = run (wednesday n) (renewed n (run tuesday two))

abbrev pub past_two : ℕ → Past
past_two n = pasts (wednesday n) (renewed n (run tuesday two)) (pasts tuesday two new_pasts) 2

-- the new loader has the number of the old one, and with its first store comes to the old one's stamp:
-- the join of loader 2 passes, and overwrites what it never saw
pub record NumberGivenAgainOverwrites : Type 0 where
  pub starts : Start two
  pub is_away : (d : Loader) × (s : Spell) × Away 2 (before_join 1) d s
  pub join_passes : (step (join 2 4 1) (before_join 1)).1 ≡ Ok (Records 1)
  pub file_touched : touched 2 (past_two 1).list ≡ true
  pub file_there : at 2 (before_join 1).server.objects ≡ Some (object_of 2 a 1 1 (b ++ a))
  pub file_seen : at 2 (past_two 1).seen ≡ Some (object_of 2 a 1 1 b)
  -- just what JoinOverwritesOnlyWhatWasSeen says is false
  pub unseen : (o : Object) → at 2 (before_join 1).server.objects ≡ Some o → ((q : Object) × (at 2 (past_two 1).seen ≡ Some q) × (q.body ≡ o.body)) → ⊥
  pub overwritten : (step (join 2 4 1) (before_join 1)).0.server.objects ≡ object_of 2 a 2 1 (a ++ b) ∷ []
  -- had it a number of its own, there would be a conflict
  pub other_number : (step (join 2 4 1) (before_join 3)).1 ≡ Err (Conflicting (record { refusal = StampDiffers; serial = 1; object = 2 }))
