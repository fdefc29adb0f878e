-- What a join guarantees, for every run of turns. Assumes nothing.
--     Start w          where a run begins: the server's numbers and parents lie below its next number; the loaders are new, their
--                      numbers differ, none is 0, and no stamp is by one of them; their copies and hoards may be any
--     Away a w d s     in w the loader of number a is d, and is away in the spell s
-- The guarantees are the statements below: each name says what it means.
use Rattle.std.specs.Prelude.{◌≡◌, ℕ, ◌+◌, ◌<◌, ◌≤◌, Bool, true, false, ◌||◌, List, [], ◌∷◌, ◌++◌, Some, None, Ok, Err}
use Rattle.std.specs.List.{AllByRecursion}
use Rattle.vocab.specs.Limits.{temporary}
use Rattle.tree.specs.Questions.{regular}
use Rattle.tree.specs.Trees.{Object, Tree, at, some_of}
use Rattle.model.specs.declared.answer.Conflict.{Conflict}
use Rattle.model.specs.declared.answer.Reply.TheVariants.{Records}
use Rattle.model.specs.declared.answer.TurnError.TheVariants.{Conflicting}
use Rattle.model.specs.Records.{Record, object, removes, stores}
use Rattle.model.specs.Applying.{applied}
use Rattle.model.specs.Replaying.{replay, replayed, settled}
use Rattle.model.specs.Loaders.{Spell, home, away, Loader, comes_home, lent, log, none_strange}
use Rattle.model.specs.Worlds.{World, Turn, join, accepted, loader_of, put_loader, put_server, run, step}
use Rattle.model.specs.Past.{Past, given_by, new_past, pasts}
use Rattle.law.specs.Spells.{Under}

abbrev pub NumbersDiffer : List Loader → Type 0
NumbersDiffer [] = Unit {0}
NumbersDiffer (d ∷ ds) = (loader_of d.number ds ≡ None) × NumbersDiffer ds

pub record Start (w : World) : Type 0 where
  pub numbers : Under w.server.next w.server.objects
  pub low : 2 ≤ w.server.next
  pub high : w.server.next ≤ temporary
  pub new : AllByRecursion (λ d. (d.serial ≡ 0) × (d.state ≡ home false) × (0 < d.number)) w.loaders
  pub differ : NumbersDiffer w.loaders
  -- no stamp is by a loader of the run, and the office's serials lie below the next number
  pub stamps : AllByRecursion (λ o. (loader_of o.stamp.author w.loaders ≡ None) × (o.stamp.author ≡ 0 → o.stamp.serial < w.server.next)) w.server.objects

abbrev pub new_pasts : ℕ → Past
new_pasts a = new_past

pub record Away (a : ℕ) (w : World) (d : Loader) (s : Spell) : Type 0 where
  pub there : loader_of a w.loaders ≡ Some d
  pub out : d.state ≡ away s

-- where the records as they were made would meet no conflict, and lists and numbers suffice, the join passes and leaves the very tree of their replay
abbrev pub JoinFollowsTheEdits : Type 0
JoinFollowsTheEdits =
    (w : World) → Start w → (ts : List Turn) (a : ℕ) (d : Loader) (s : Spell) → Away a (run ts w) d s
    → let v = run ts w in let us = (pasts ts w new_pasts a).list in
    (k u : ℕ) → s.count ≤ lent k d → s.count ≤ u → v.server.next + given_by us ≤ temporary
    → (t : Tree) → replay (given_by us) us v.server ≡ Ok t
    → step (join a k u) v ≡ (put_loader (comes_home d) (put_server t v), Ok (Records s.count))

-- a join that is not accepted leaves the whole world as it was
abbrev pub RefusedJoinChangesNothing : Type 0
RefusedJoinChangesNothing =
    (w : World) → Start w → (ts : List Turn) (a k u : ℕ)
    → let v = run ts w in accepted (step (join a k u) v).1 ≡ false → (step (join a k u) v).0 ≡ v

-- a conflict names the first record of the log that fails: those before it pass, and this one fails with just this refusal
abbrev pub ConflictNamesFirstFailure : Type 0
ConflictNamesFirstFailure =
    (w : World) (a : ℕ) (d : Loader) (s : Spell) → Away a w d s → (k u : ℕ) (c : Conflict) → (step (join a k u) w).1 ≡ Err (Conflicting c)
    → (rs : List Record) × (r : Record) × (qs : List Record) × (t : Tree)
    × (log s d ≡ rs ++ (r ∷ qs))
    × (replayed w.server.next s.given rs w.server ≡ Ok t)
    × ((applied (settled w.server.next s.given r) t).1 ≡ Err c.refusal)
    × (c.serial ≡ r.serial)
    × (c.object ≡ object r.edit)

-- in every run every number on the server is below its next number, itself at most 2^31, so that none is temporary
abbrev pub ServerNumbersStayBelow : Type 0
ServerNumbersStayBelow =
    (w : World) → Start w → (ts : List Turn)
    → Under (run ts w).server.next (run ts w).server.objects × ((run ts w).server.next ≤ temporary)

-- the loader's own count of edits, of numbers given out and of records agree with the past
abbrev pub StateAgreesWithThePast : Type 0
StateAgreesWithThePast =
    (w : World) → Start w → (ts : List Turn) (a : ℕ) (d : Loader) (s : Spell) → Away a (run ts w) d s
    → (d.serial ≡ (pasts ts w new_pasts a).edits) × (s.given ≡ given_by (pasts ts w new_pasts a).list)

-- a store or a remove of x stands on the list
abbrev pub touched : ℕ → List Record → Bool
touched x us = some_of (λ r. stores x r.edit || removes x r.edit) us

-- where a join passes, each object of the server that a store or a remove of the list names held what it held on the server at the loader's last walk
abbrev pub JoinOverwritesOnlyWhatWasSeen : Type 0
JoinOverwritesOnlyWhatWasSeen =
    (w : World) → Start w → (ts : List Turn) (a : ℕ) (d : Loader) (s : Spell) → Away a (run ts w) d s
    → let v = run ts w in let p = pasts ts w new_pasts a in
    (k u n : ℕ) → (step (join a k u) v).1 ≡ Ok (Records n)
    → (x : ℕ) (o : Object) → at x v.server.objects ≡ Some o → touched x p.list ≡ true
    → (q : Object) × (at x p.seen ≡ Some q) × (q.body ≡ o.body)

-- and every other file of the server is there after it, with its contents and its stamp
abbrev pub JoinTouchesOnlyWhatIsListed : Type 0
JoinTouchesOnlyWhatIsListed =
    (w : World) → Start w → (ts : List Turn) (a : ℕ) (d : Loader) (s : Spell) → Away a (run ts w) d s
    → let v = run ts w in let p = pasts ts w new_pasts a in
    (k u n : ℕ) → (step (join a k u) v).1 ≡ Ok (Records n)
    → (x : ℕ) (o : Object) → at x v.server.objects ≡ Some o → regular o ≡ true → touched x p.list ≡ false
    → (q : Object) × (at x (step (join a k u) v).0.server.objects ≡ Some q) × (q.body ≡ o.body) × (q.stamp ≡ o.stamp)

-- the checks of a log's own numbers never fail in a run: 14 says that fewer places are lent than the log has records
abbrev pub LogKnowsItsNumbers : Type 0
LogKnowsItsNumbers =
    (w : World) → Start w → (ts : List Turn) (a : ℕ) (d : Loader) (s : Spell) → Away a (run ts w) d s
    → none_strange s.given (log s d) ≡ true
