-- What is proved of the definitions. Assumes nothing.
--     Exactly P Q                P holds exactly where Q does
--     Accepted c                 the change c was accepted
--     KeptIfRefused t c          where the change c of t was refused, it left t as it was
--     Above x p l                x is p, or is come to from p by some number of steps from an object to its parent
--     LawfulByAnyWay t           the law of trees, with ways to the root of any length
--     ButFor x t u               u is as t, but for the object x
--     unless x r                 the number r, or none where it is x
--     Child p x l                x is the number of an object of p
--     Named p n x l              x is the number of an object of p that is named n
use Rattle.std.specs.Prelude.{◌≡◌, ℕ, ◌^◌, ◌<◌, ◌≤◌, true, false, cond, ◌&&◌, List, length, Some, None, Ok, Err, Decides, Option, ◌==◌}
use Rattle.std.specs.Option.{option_map}
use Rattle.vocab.specs.Limits.{longest_contents, temporary}
use Rattle.vocab.specs.declared.kind.Kind.{Kind}
use Rattle.vocab.specs.declared.refusal.Refusal.{Refusal}
use Rattle.vocab.specs.declared.stamp.Stamp.{Stamp}
use Rattle.vocab.specs.Names.{same_name, valid_name}
use Rattle.tree.specs.Changes.{Changed, added, cleared, dropped, fresh, moved, next_set, put, with_contents, with_place}
use Rattle.tree.specs.Law.{Lawful, StampFits, empty}
use Rattle.tree.specs.Questions.{child, climbs, contents, dir_at, look, placed}
use Rattle.tree.specs.Trees.{Ascends, Object, Tree, at}

abbrev pub Exactly : Type 0 → Type 0 → Type 0
Exactly P Q = (P → Q) × (Q → P)

abbrev pub Accepted : Changed → Type 0
Accepted c = c.1 ≡ Ok tt

-- ---- the law is kept

abbrev pub EmptyIsLawful : Type 0
EmptyIsLawful = (cap : ℕ) → Lawful (empty cap)

abbrev pub AddKeepsLaw : Type 0
AddKeepsLaw = (t : Tree) → Lawful t → (k : Kind) (p : ℕ) (n : List ℕ) (x : ℕ) (s : Stamp) → x < 2 ^ 32 → StampFits s → Lawful (added t k p n x s).0

abbrev pub PutKeepsLaw : Type 0
PutKeepsLaw = (t : Tree) → Lawful t → (x : ℕ) (c : List ℕ) (s : Stamp) → StampFits s → Lawful (put t x c s).0

abbrev pub DropKeepsLaw : Type 0
DropKeepsLaw = (t : Tree) → Lawful t → (x : ℕ) → Lawful (dropped t x).0

abbrev pub MoveKeepsLaw : Type 0
MoveKeepsLaw = (t : Tree) → Lawful t → (x q : ℕ) (m : List ℕ) → Lawful (moved t x q m).0

abbrev pub NextKeepsLaw : Type 0
NextKeepsLaw = (t : Tree) → Lawful t → (n : ℕ) → Lawful (next_set t n).0

abbrev pub ClearKeepsLaw : Type 0
ClearKeepsLaw = (t : Tree) → Lawful t → Lawful (cleared t)

-- ---- a refusal changes nothing

abbrev pub KeptIfRefused : Tree → Changed → Type 0
KeptIfRefused t c = (r : Refusal) → c.1 ≡ Err r → c.0 ≡ t

abbrev pub AddRefused : Type 0
AddRefused = (t : Tree) (k : Kind) (p : ℕ) (n : List ℕ) (x : ℕ) (s : Stamp) → KeptIfRefused t (added t k p n x s)

abbrev pub PutRefused : Type 0
PutRefused = (t : Tree) (x : ℕ) (c : List ℕ) (s : Stamp) → KeptIfRefused t (put t x c s)

abbrev pub DropRefused : Type 0
DropRefused = (t : Tree) (x : ℕ) → KeptIfRefused t (dropped t x)

abbrev pub MoveRefused : Type 0
MoveRefused = (t : Tree) (x q : ℕ) (m : List ℕ) → KeptIfRefused t (moved t x q m)

abbrev pub NextRefused : Type 0
NextRefused = (t : Tree) (n : ℕ) → KeptIfRefused t (next_set t n)

-- ---- no way up needs more steps than the capacity

abbrev pub Above : ℕ → ℕ → List Object → Type 0
Above x p l = (k : ℕ) × (climbs k x p l ≡ true)

abbrev pub ClimbsByAnySteps : Type 0
ClimbsByAnySteps = (t : Tree) → length t.objects ≤ t.capacity → (x p : ℕ) → Decides (climbs t.capacity x p t.objects) (Above x p t.objects)

pub record LawfulObjectByAnyWay (l : List Object) (o : Object) : Type 0 where
  pub number : o.number < 2 ^ 32
  pub name : valid_name o.name ≡ true
  pub stamp : StampFits o.stamp
  pub short : length (contents o) ≤ longest_contents
  pub home : dir_at o.parent l ≡ true
  pub rooted : Above 1 o.parent l

pub record LawfulByAnyWay (t : Tree) : Type 0 where
  pub next_low : 2 ≤ t.next
  pub next_high : t.next ≤ temporary
  pub ascending : Ascends 2 t.objects
  pub each : (x : ℕ) (o : Object) → at x t.objects ≡ Some o → LawfulObjectByAnyWay t.objects o
  pub names : (x y : ℕ) (o p : Object) → at x t.objects ≡ Some o → at y t.objects ≡ Some p → placed o.parent o.name p ≡ true → x ≡ y
  pub room : length t.objects ≤ t.capacity

abbrev pub LawByAnyWay : Type 0
LawByAnyWay = (t : Tree) → Exactly (Lawful t) (LawfulByAnyWay t)

-- ---- a change leaves the rest

pub record ButFor (x : ℕ) (t u : Tree) : Type 0 where
  pub capacity : u.capacity ≡ t.capacity
  pub next : u.next ≡ t.next
  pub others : (y : ℕ) → (y == x) ≡ false → at y u.objects ≡ at y t.objects

abbrev pub AddLeavesRest : Type 0
AddLeavesRest = (t : Tree) (k : Kind) (p : ℕ) (n : List ℕ) (x : ℕ) (s : Stamp) → ButFor x t (added t k p n x s).0

abbrev pub PutLeavesRest : Type 0
PutLeavesRest = (t : Tree) (x : ℕ) (c : List ℕ) (s : Stamp) → ButFor x t (put t x c s).0

abbrev pub DropLeavesRest : Type 0
DropLeavesRest = (t : Tree) (x : ℕ) → ButFor x t (dropped t x).0

abbrev pub MoveLeavesRest : Type 0
MoveLeavesRest = (t : Tree) (x q : ℕ) (m : List ℕ) → ButFor x t (moved t x q m).0

abbrev pub NextLeavesRest : Type 0
NextLeavesRest = (t : Tree) (n : ℕ) → let u = (next_set t n).0 in (u.capacity ≡ t.capacity) × (u.objects ≡ t.objects)

abbrev pub ClearLeavesRest : Type 0
ClearLeavesRest = (t : Tree) → ((cleared t).capacity ≡ t.capacity) × ((cleared t).next ≡ t.next)

-- ---- what stands at the number after an accepted change

abbrev pub AtAfterAdd : Type 0
AtAfterAdd = (t : Tree) (k : Kind) (p : ℕ) (n : List ℕ) (x : ℕ) (s : Stamp) → Accepted (added t k p n x s) → at x (added t k p n x s).0.objects ≡ Some (fresh k p n x s)

abbrev pub AtAfterPut : Type 0
AtAfterPut = (t : Tree) (x : ℕ) (c : List ℕ) (s : Stamp) → Accepted (put t x c s) → at x (put t x c s).0.objects ≡ option_map (with_contents c s) (at x t.objects)

abbrev pub AtAfterDrop : Type 0
AtAfterDrop = (t : Tree) (x : ℕ) → Accepted (dropped t x) → at x (dropped t x).0.objects ≡ None

abbrev pub AtAfterMove : Type 0
AtAfterMove = (t : Tree) (x q : ℕ) (n : List ℕ) → Accepted (moved t x q n) → at x (moved t x q n).0.objects ≡ option_map (with_place q n) (at x t.objects)

-- ---- what is bound to a name after an accepted change

abbrev pub unless : ℕ → Option ℕ → Option ℕ
unless x None = None
unless x (Some y) = cond (y == x) None (Some y)

abbrev pub LookAfterAdd : Type 0
LookAfterAdd = (t : Tree) → Lawful t → (k : Kind) (p : ℕ) (n : List ℕ) (x : ℕ) (s : Stamp) → Accepted (added t k p n x s) → (r : ℕ) (m : List ℕ) → look r m (added t k p n x s).0.objects ≡ cond (placed r m (fresh k p n x s)) (Some x) (look r m t.objects)

abbrev pub LookAfterPut : Type 0
LookAfterPut = (t : Tree) (x : ℕ) (c : List ℕ) (s : Stamp) → Accepted (put t x c s) → (r : ℕ) (m : List ℕ) → look r m (put t x c s).0.objects ≡ look r m t.objects

abbrev pub LookAfterDrop : Type 0
LookAfterDrop = (t : Tree) → Lawful t → (x : ℕ) → Accepted (dropped t x) → (r : ℕ) (m : List ℕ) → look r m (dropped t x).0.objects ≡ unless x (look r m t.objects)

abbrev pub LookAfterMove : Type 0
LookAfterMove = (t : Tree) → Lawful t → (x q : ℕ) (n : List ℕ) → Accepted (moved t x q n) → (r : ℕ) (m : List ℕ) → look r m (moved t x q n).0.objects ≡ cond (q == r && same_name n m) (Some x) (unless x (look r m t.objects))

-- ---- what the questions mean

abbrev pub Child : ℕ → ℕ → List Object → Type 0
Child p x l = (o : Object) × (at x l ≡ Some o) × (o.parent ≡ p)

abbrev pub Named : ℕ → List ℕ → ℕ → List Object → Type 0
Named p n x l = (o : Object) × (at x l ≡ Some o) × (placed p n o ≡ true)

abbrev pub LookFinds : Type 0
LookFinds = (t : Tree) → Lawful t → (p : ℕ) (n : List ℕ) (x : ℕ) → Exactly (look p n t.objects ≡ Some x) (Named p n x t.objects)

abbrev pub LookInNoDirectory : Type 0
LookInNoDirectory = (t : Tree) → Lawful t → (p : ℕ) (n : List ℕ) → dir_at p t.objects ≡ false → look p n t.objects ≡ None

abbrev pub LookForNoName : Type 0
LookForNoName = (t : Tree) → Lawful t → (p : ℕ) (n : List ℕ) → valid_name n ≡ false → look p n t.objects ≡ None

abbrev pub ChildFinds : Type 0
ChildFinds = (t : Tree) → Lawful t → (p a x : ℕ) → Exactly (child p a t.objects ≡ Some x) (Child p x t.objects × (a < x) × ((y : ℕ) → Child p y t.objects → a < y → y < x → ⊥))

abbrev pub ChildFindsNone : Type 0
ChildFindsNone = (t : Tree) → Lawful t → (p a : ℕ) → Exactly (child p a t.objects ≡ None) ((y : ℕ) → Child p y t.objects → a < y → ⊥)
