-- A server and its loaders, the turns that they take, and runs of turns. Assumes nothing.
--     World             the server's tree, the loaders, and the policy
--     loader_of a ls    the loader of number a, or none
--     with_loader d ls  the loaders with d in the place of the one of its number
--     Turn              a call with its arguments: the office's; or a loader's, by its number, with the places lent in that turn
--     Answer            what an accepted turn gives, or why it is not accepted
--     accepted r        whether the answer r is of an accepted turn
--     refused l e       the answer of a turn that the layer l refuses with e
--     made_by c x       what the accepted call c gives, x being the number of its object
--     call_answer f r   the answer to the result r of a loader's call, f saying what an accepted one gives
--     step t w          the world after the turn t, and the answer; what the loader's state does not allow changes nothing
--     run ts w          the world after the turns ts
use Rattle.std.specs.Prelude.{ℕ, Bool, false, cond, ◌&&◌, ◌||◌, List, [], ◌∷◌, map, length, Some, None, Ok, Err, Option, Result, is_ok, ◌==◌, nat_le, nat_lt}
use Rattle.vocab.specs.declared.layer.Layer.{Layer}
use Rattle.vocab.specs.declared.layer.Layer.TheVariants.{Server, Copy, Loader as LoaderLayer}
use Rattle.vocab.specs.declared.refusal.Refusal.{Refusal}
use Rattle.vocab.specs.declared.refusal.Refusal.TheVariants.{NoSuchObject, NotKept, BufferShort}
use Rattle.vocab.specs.Checks.{check}
use Rattle.tree.specs.Questions.{held, is_file}
use Rattle.tree.specs.Trees.{Object, Tree, at}
use Rattle.model.specs.declared.answer.Conflict.{Conflict}
use Rattle.model.specs.declared.answer.Fault.{Fault}
use Rattle.model.specs.declared.answer.Reply.{Reply}
use Rattle.model.specs.declared.answer.Reply.TheVariants.{Done, Made, Length, Records}
use Rattle.model.specs.declared.answer.TurnError.{TurnError}
use Rattle.model.specs.declared.answer.TurnError.TheVariants.{Refused, Conflicting, NotAllowed}
use Rattle.model.specs.Records.{object}
use Rattle.model.specs.Replaying.{Clash}
use Rattle.model.specs.Office.{Call, make_directory, make_file, store_into, remove_file, remove_directory, rename_object, called}
use Rattle.model.specs.Hoard.{Hoard, Policy, kept_in, ranked, used}
use Rattle.model.specs.Loaders.{Spell, home, away, Loader, guard, edited, walks, leaves, comes_home, joins}

pub record World : Type 0 where
  pub server : Tree
  pub loaders : List Loader
  pub policy : Policy

abbrev pub loader_of : ℕ → List Loader → Option Loader
loader_of a [] = None
loader_of a (d ∷ ds) = cond (d.number == a) (Some d) (loader_of a ds)

abbrev pub with_loader : Loader → List Loader → List Loader
with_loader d ds = map (λ e. cond (e.number == d.number) d e) ds

abbrev pub put_loader : Loader → World → World
put_loader d w = record { server = w.server; loaders = with_loader d w.loaders; policy = w.policy }

abbrev pub put_server : Tree → World → World
put_server t w = record { server = t; loaders = w.loaders; policy = w.policy }

-- ---- reads and ranks

abbrev pub with_hoard : Hoard → Loader → Loader
with_hoard h d = record { number = d.number; serial = d.serial; state = d.state; hoard = h; copy = d.copy; memory = d.memory }

abbrev pub read_done : ℕ → Tree → Loader → Loader × Result ℕ Fault
read_done x t d = (with_hoard (used d.hoard x) d, Ok (length (held (at x t.objects))))

abbrev pub reads_home : ℕ → ℕ → Tree → Loader → Loader × Result ℕ Fault
reads_home x k t d =
    guard Server (check (is_file (at x t.objects)) NoSuchObject ∷ []) d
    (guard LoaderLayer (check (nat_le (length (held (at x t.objects))) k) BufferShort ∷ []) d
    (read_done x t d))

-- stamped in this spell
abbrev pub own_stamp : Spell → Loader → Option Object → Bool
own_stamp s d None = false
own_stamp s d (Some o) = o.stamp.author == d.number && (nat_lt s.base o.stamp.serial && nat_le o.stamp.serial d.serial)

abbrev pub reads_away : Spell → ℕ → ℕ → Loader → Loader × Result ℕ Fault
reads_away s x k d =
    guard Copy (check (is_file (at x d.copy.objects)) NoSuchObject ∷ []) d
    (guard LoaderLayer (check (kept_in d.hoard x || own_stamp s d (at x d.copy.objects)) NotKept ∷ check (nat_le (length (held (at x d.copy.objects))) k) BufferShort ∷ []) d
    (read_done x d.copy d))

-- ---- turns

pub data Turn : Type 0 where
  office : Call → Turn
  office_read : ℕ → ℕ → Turn
  rank : ℕ → ℕ → ℕ → Turn
  read : ℕ → ℕ → ℕ → Turn
  walk : ℕ → ℕ → Turn
  leave : ℕ → Turn
  edit : ℕ → Call → ℕ → Turn
  join : ℕ → ℕ → ℕ → Turn
  quit : ℕ → Turn

-- ---- answers

abbrev pub Answer : Type 0
Answer = Result Reply TurnError

abbrev pub accepted : Answer → Bool
accepted r = is_ok r

abbrev pub refused : Layer → Refusal → Answer
refused l e = Err (Refused (record { refusal = e; layer = l }))

abbrev pub made_by : Call → ℕ → Reply
made_by (make_directory p n) x = Made x
made_by (make_file p n) x = Made x
made_by (store_into y c) x = Done
made_by (remove_file p n) x = Done
made_by (remove_directory p n) x = Done
made_by (rename_object p n q m) x = Done

abbrev pub office_answer : Call → ℕ → Result (Unit {0}) Refusal → Answer
office_answer c x (Ok u) = Ok (made_by c x)
office_answer c x (Err e) = refused Server e

abbrev pub office_reads : ℕ → ℕ → Tree → Answer
office_reads x k t =
    let n = length (held (at x t.objects)) in
    cond (is_file (at x t.objects)) (cond (nat_le n k) (Ok (Length n)) (refused Server BufferShort)) (refused Server NoSuchObject)

abbrev pub rank_answer : Result (Unit {0}) Refusal → Answer
rank_answer (Ok u) = Ok Done
rank_answer (Err e) = refused LoaderLayer e

abbrev pub call_answer : {A : Type 0} → (A → Reply) → Result A Fault → Answer
call_answer f (Ok x) = Ok (f x)
call_answer f (Err e) = Err (Refused e)

abbrev pub conflict_of : Clash → Conflict
conflict_of c = record { refusal = c.failed; serial = c.logged.serial; object = object c.logged.edit }

abbrev pub join_answer : Result (Result ℕ Clash) Fault → Answer
join_answer (Ok (Ok n)) = Ok (Records n)
join_answer (Ok (Err c)) = Err (Conflicting (conflict_of c))
join_answer (Err f) = Err (Refused f)

-- ---- what a loader does, by its state

abbrev pub at_home : World → Loader → (Bool → World × Answer) → World × Answer
at_home w d f = elim d.state [ home b ↦ f b | away s ↦ (w, Err NotAllowed) ]

abbrev pub when_away : World → Loader → (Spell → World × Answer) → World × Answer
when_away w d f = elim d.state [ home b ↦ (w, Err NotAllowed) | away s ↦ f s ]

abbrev pub by_loader : ℕ → World → (Loader → World × Answer) → World × Answer
by_loader a w f = elim (loader_of a w.loaders) [ None ↦ (w, Err NotAllowed) | Some d ↦ f d ]

abbrev pub step : Turn → World → World × Answer
step (office c) w = (put_server (called c w.server).0 w, office_answer c w.server.next (called c w.server).1)
step (office_read x k) w = (w, office_reads x k w.server)
step (rank a x r) w = by_loader a w (λ d. at_home w d (λ b. (put_loader (with_hoard (ranked d.hoard x r).0 d) w, rank_answer (ranked d.hoard x r).1)))
step (read a x k) w =
    by_loader a w (λ d.
    elim d.state [
      | home b ↦ (put_loader (reads_home x k w.server d).0 w, call_answer Length (reads_home x k w.server d).1)
      | away s ↦ (put_loader (reads_away s x k d).0 w, call_answer Length (reads_away s x k d).1)
    ])
step (walk a k) w = by_loader a w (λ d. at_home w d (λ b. (put_loader (walks w.policy k w.server d).0 w, call_answer (λ _. Done) (walks w.policy k w.server d).1)))
step (leave a) w = by_loader a w (λ d. at_home w d (λ b. (put_loader (leaves b d).0 w, call_answer (λ _. Done) (leaves b d).1)))
step (edit a c k) w = by_loader a w (λ d. when_away w d (λ s. (put_loader (edited s c k d).0 w, call_answer (made_by c) (edited s c k d).1)))
step (join a k u) w = by_loader a w (λ d. when_away w d (λ s. (put_loader (joins s k u w.server d).0.1 (put_server (joins s k u w.server d).0.0 w), join_answer (joins s k u w.server d).1)))
step (quit a) w = by_loader a w (λ d. when_away w d (λ s. (put_loader (comes_home d) w, Ok (Records s.count))))

abbrev pub run : List Turn → World → World
run [] w = w
run (t ∷ ts) w = run ts (step t w).0
