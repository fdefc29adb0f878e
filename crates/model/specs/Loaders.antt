-- A loader at home and away, and its calls. Assumes nothing.
--     Spell             the maker, its serial at leave, the count of records, and the numbers given out
--     State             at home, walked or not since it was last away; or away, in a spell
--     Loader            number, serial, state, hoard, copy, and the memory of its log
--     log s d           the records of the spell s in the memory of d
--     newly_made a c m  a new loader of number a, with the copy c and the memory m for its log
--     guard l cs s c    the checks cs of the layer l, and then c; s is what a refusal leaves
--     lent k d          how many places of the log a call is lent: k, but never more than there are
--     log_checks s k d  what a call that is lent k places of the log refuses
--     edited, joined, and so on     each call: what it leaves, and the answer
use Rattle.std.specs.Prelude.{ℕ, ◌+◌, ◌-◌, ◌^◌, min, Bool, true, false, cond, not, ◌&&◌, ◌||◌, List, [], ◌∷◌, ◌++◌, map, length, take, drop, Ok, Err, Result, ◌==◌, nat_le, nat_lt}
use Rattle.vocab.specs.declared.layer.Layer.{Layer}
use Rattle.vocab.specs.declared.layer.Layer.TheVariants.{Log, Copy, Loader as LoaderLayer}
use Rattle.vocab.specs.declared.refusal.Refusal.TheVariants.{NumbersSpent, LogDamaged, LogFull, SerialsSpent, NotWalked, CopyTooSmall, ListShort, BadLoader}
use Rattle.vocab.specs.Checks.{Check, check}
use Rattle.vocab.specs.Limits.{temporary}
use Rattle.tree.specs.Questions.{bare}
use Rattle.tree.specs.Trees.{Object, Tree, with_objects}
use Rattle.model.specs.declared.answer.Fault.{Fault}
use Rattle.model.specs.Records.{Edit, mkdir, create, store, remove, rmdir, rename, Record, makes, object}
use Rattle.model.specs.Applying.{applied, all_checks}
use Rattle.model.specs.Cancelling.{entered}
use Rattle.model.specs.Replaying.{Clash, replay}
use Rattle.model.specs.Office.{Call, edit_of, form_checks}
use Rattle.model.specs.Hoard.{Hoard, Policy, kept_in, walked}

pub record Spell : Type 0 where
  pub maker : ℕ
  pub base : ℕ
  pub count : ℕ
  pub given : ℕ

pub data State : Type 0 where
  home : Bool → State
  away : Spell → State

pub record Loader : Type 0 where
  pub number : ℕ
  pub serial : ℕ
  pub state : State
  pub hoard : Hoard
  pub copy : Tree
  pub memory : List Record

abbrev pub log : Spell → Loader → List Record
log s d = take s.count d.memory

abbrev pub lent : ℕ → Loader → ℕ
lent k d = min k (length d.memory)

abbrev pub guard : {S A : Type 0} → Layer → List Check → S → S × Result A Fault → S × Result A Fault
guard l [] s c = c
guard l (k ∷ ks) s c = cond k.holds (guard l ks s c) (s, Err (record { refusal = k.else; layer = l }))

-- ---- a new loader

abbrev pub new_loader : ℕ → Tree → List Record → Loader
new_loader a copy memory = record {
  number = a;
  serial = 0;
  state = home false;
  hoard = record { kept = []; ranks = []; uses = 0 };
  copy = copy;
  memory = memory;
}

abbrev pub newly_made : ℕ → Tree → List Record → Result Loader Fault
newly_made a copy memory = cond (a == 0) (Err (record { refusal = BadLoader; layer = LoaderLayer })) (Ok (new_loader a copy memory))

-- ---- the log that is lent

-- no server's number and none that was given out
abbrev pub strange : ℕ → ℕ → Bool
strange n x = nat_le (temporary + n) x

abbrev pub names_strange : ℕ → Edit → Bool
names_strange n (mkdir x p m) = strange n x || strange n p
names_strange n (create x p m) = strange n x || strange n p
names_strange n (store x c e) = strange n x
names_strange n (remove x p m e) = strange n x || strange n p
names_strange n (rmdir x p m) = strange n x || strange n p
names_strange n (rename x p m q o) = strange n x || (strange n p || strange n q)

abbrev pub none_strange : ℕ → List Record → Bool
none_strange n [] = true
none_strange n (r ∷ rs) = not (names_strange n r.edit) && none_strange n rs

abbrev pub log_checks : Spell → ℕ → Loader → List Check
log_checks s k d = check (nat_le s.count (lent k d)) LogDamaged ∷ check (none_strange s.given (log s d)) LogDamaged ∷ []

-- ---- edits away

abbrev pub new_record : Spell → Call → Loader → Record
new_record s c d = record { author = d.number; serial = d.serial + 1; edit = edit_of (temporary + s.given) c d.copy }

abbrev pub now_given : Spell → Call → Loader → ℕ
now_given s c d = s.given + cond (makes (new_record s c d).edit) 1 0

abbrev pub new_log : Spell → Call → Loader → List Record
new_log s c d = entered (now_given s c d) (log s d) (new_record s c d)

abbrev pub with_edit_done : Spell → Call → Loader → Loader
with_edit_done s c d = record {
  number = d.number;
  serial = d.serial + 1;
  state = away (record { maker = s.maker; base = s.base; count = length (new_log s c d); given = now_given s c d });
  hoard = d.hoard;
  copy = (applied (new_record s c d) d.copy).0;
  memory = new_log s c d ++ drop (length (new_log s c d)) d.memory;
}

abbrev pub edited : Spell → Call → ℕ → Loader → Loader × Result ℕ Fault
edited s c k d =
    guard Log (log_checks s k d) d
    (guard LoaderLayer (check (nat_lt d.serial (2 ^ 31 - 1)) SerialsSpent ∷ []) d
    (guard Copy (form_checks c ++ all_checks (new_record s c d).edit d.copy) d
    (guard Log (check (nat_le (length (new_log s c d)) (lent k d)) LogFull ∷ []) d
    (with_edit_done s c d, Ok (object (new_record s c d).edit)))))

-- ---- home and away

abbrev pub with_state : State → Loader → Loader
with_state s d = record { number = d.number; serial = d.serial; state = s; hoard = d.hoard; copy = d.copy; memory = d.memory }

-- kept files have their contents, the others none
abbrev pub partly : Hoard → Object → Object
partly h o = cond (kept_in h o.number) o (bare o)

abbrev pub walk_done : Policy → Tree → Loader → Loader
walk_done f t d =
    let h = walked f d.hoard t.objects in
    record { number = d.number; serial = d.serial; state = home true; hoard = h; copy = with_objects d.copy (map (partly h) t.objects); memory = d.memory }

abbrev pub walks : Policy → ℕ → Tree → Loader → Loader × Result (Unit {0}) Fault
walks f k t d =
    guard LoaderLayer
    (check (nat_le (length t.objects) d.copy.capacity) CopyTooSmall ∷ check (nat_le (length t.objects) k) ListShort ∷ [])
    d
    (walk_done f t d, Ok tt)

abbrev pub leaves : Bool → Loader → Loader × Result (Unit {0}) Fault
leaves w d =
    guard LoaderLayer (check w NotWalked ∷ []) d
    (with_state (away (record { maker = d.number; base = d.serial; count = 0; given = 0 })) d, Ok tt)

abbrev pub comes_home : Loader → Loader
comes_home d = with_state (home false) d

-- ---- join

-- the server and the loader after, and the answer: the count of records, or why not
abbrev pub settled_join : Spell → Tree → Loader → Result Tree Clash → (Tree × Loader) × Result (Result ℕ Clash) Fault
settled_join s t d (Ok u) = ((u, comes_home d), Ok (Ok s.count))
settled_join s t d (Err c) = ((t, d), Ok (Err c))

abbrev pub joins : Spell → ℕ → ℕ → Tree → Loader → (Tree × Loader) × Result (Result ℕ Clash) Fault
joins s k u t d =
    guard Log (log_checks s k d) (t, d)
    (guard LoaderLayer (check (nat_le s.count u) ListShort ∷ check (nat_le (t.next + s.given) temporary) NumbersSpent ∷ []) (t, d)
    (settled_join s t d (replay s.given (log s d) t)))
