-- Trees and the objects in them. Assumes nothing.
--     Body                  a directory, or a file with its contents
--     Object                number, parent's number, name, stamp and body
--     Tree                  capacity, next number and objects; the root, directory 1, is not among them
--     at x l                the object of number x, or none
--     Ascends n l           the numbers ascend, from n on, so that none stands twice
--     insert o l            l with o behind those of lower number
--     without x l           l without the object of number x
--     change x g l          l with g of the object of number x in its place
--     keep p l, some_of p l     those that pass the test p, in order; whether one does
use Rattle.std.specs.Prelude.{ℕ, suc, ◌≤◌, Bool, false, cond, not, ◌||◌, List, [], ◌∷◌, ◌++◌, map, Some, None, Option, ◌==◌, nat_lt}
use Rattle.vocab.specs.declared.stamp.Stamp.{Stamp}

pub data Body : Type 0 where
  dir : Body
  file : List ℕ → Body

pub record Object : Type 0 where
  pub number : ℕ
  pub parent : ℕ
  pub name : List ℕ
  pub stamp : Stamp
  pub body : Body

pub record Tree : Type 0 where
  pub capacity : ℕ
  pub next : ℕ
  pub objects : List Object

abbrev pub keep : {X : Type 0} → (X → Bool) → List X → List X
keep p [] = []
keep p (x ∷ l) = cond (p x) (x ∷ keep p l) (keep p l)

abbrev pub some_of : {X : Type 0} → (X → Bool) → List X → Bool
some_of p [] = false
some_of p (x ∷ l) = p x || some_of p l

abbrev pub is : ℕ → Object → Bool
is x o = o.number == x

abbrev pub at : ℕ → List Object → Option Object
at x [] = None
at x (o ∷ l) = cond (is x o) (Some o) (at x l)

abbrev pub Ascends : ℕ → List Object → Type 0
Ascends n [] = Unit {0}
Ascends n (o ∷ l) = (n ≤ o.number) × Ascends (suc o.number) l

abbrev pub lower : ℕ → Object → Bool
lower n p = nat_lt p.number n

abbrev pub higher : ℕ → Object → Bool
higher n p = not (nat_lt p.number n)

abbrev pub insert : Object → List Object → List Object
insert o l = keep (lower o.number) l ++ (o ∷ keep (higher o.number) l)

abbrev pub without : ℕ → List Object → List Object
without x l = keep (λ o. not (is x o)) l

abbrev pub change_one : ℕ → (Object → Object) → Object → Object
change_one x g o = cond (is x o) (g o) o

abbrev pub change : ℕ → (Object → Object) → List Object → List Object
change x g l = map (change_one x g) l

abbrev pub with_objects : Tree → List Object → Tree
with_objects t l = record { capacity = t.capacity; next = t.next; objects = l }
