-- What is asked of a tree. Assumes nothing.
--     directory o, regular o, contents o      an object's kind, and what it holds
--     placed p n o       whether o is the object of p that is named n
--     dir_at p l         whether p is the root or a directory of l
--     taken p n l        whether an object of p is named n
--     has_child x l      whether x is the parent of an object
--     climbs k x p l     whether x is p, or is come to from p by at most k steps from an object to its parent
--     look p n l         the number bound to the name n in p, or none
--     child p a l        the smallest number above a among the objects of p, or none
--     smaller m n        the smaller of two numbers, where the first may be missing
--     shown x l          all but the contents of the object of number x, the root's too, or none
--     read t x buffer    the buffer after the contents of the file x were copied into its front, and their length
use Rattle.std.specs.Prelude.{ℕ, zero, suc, min, Bool, true, false, cond, ◌&&◌, ◌||◌, List, [], ◌∷◌, Some, None, Option, Result, ◌==◌, nat_lt}
use Rattle.std.specs.Option.{option_map}
use Rattle.vocab.specs.declared.kind.Kind.{Kind}
use Rattle.vocab.specs.declared.kind.Kind.TheVariants.{Directory, File}
use Rattle.vocab.specs.declared.refusal.Refusal.{Refusal}
use Rattle.vocab.specs.declared.refusal.Refusal.TheVariants.{NoSuchObject}
use Rattle.vocab.specs.Buffers.{fits, front}
use Rattle.vocab.specs.Checks.{check, judge}
use Rattle.vocab.specs.Names.{same_name}
use Rattle.tree.specs.Trees.{Body, dir, file, Object, Tree, at, some_of}

-- ---- of an object

abbrev pub directory : Object → Bool
directory o = elim o.body [ dir ↦ true | file c ↦ false ]

abbrev pub regular : Object → Bool
regular o = elim o.body [ dir ↦ false | file c ↦ true ]

abbrev pub contents : Object → List ℕ
contents o = elim o.body [ dir ↦ [] | file c ↦ c ]

abbrev pub placed : ℕ → List ℕ → Object → Bool
placed p n o = o.parent == p && same_name o.name n

abbrev pub child_of : ℕ → Object → Bool
child_of p o = o.parent == p

-- ---- of what stands at a number

abbrev pub is_some : Option Object → Bool
is_some None = false
is_some (Some o) = true

abbrev pub is_dir : Option Object → Bool
is_dir None = false
is_dir (Some o) = directory o

abbrev pub is_file : Option Object → Bool
is_file None = false
is_file (Some o) = regular o

abbrev pub held : Option Object → List ℕ
held None = []
held (Some o) = contents o

-- ---- of the objects of a tree

abbrev pub dir_at : ℕ → List Object → Bool
dir_at p l = p == 1 || is_dir (at p l)

abbrev pub taken : ℕ → List ℕ → List Object → Bool
taken p n l = some_of (placed p n) l

abbrev pub has_child : ℕ → List Object → Bool
has_child x l = some_of (child_of x) l

abbrev pub climbs : ℕ → ℕ → ℕ → List Object → Bool
climbs zero x p l = p == x
climbs (suc k) x p l = p == x || elim (at p l) [ None ↦ false | Some o ↦ climbs k x o.parent l ]

abbrev pub look : ℕ → List ℕ → List Object → Option ℕ
look p n [] = None
look p n (o ∷ l) = cond (placed p n o) (Some o.number) (look p n l)

abbrev pub child : ℕ → ℕ → List Object → Option ℕ
child p a [] = None
child p a (o ∷ l) = cond (child_of p o && nat_lt a o.number) (Some o.number) (child p a l)

abbrev pub smaller : Option ℕ → ℕ → Option ℕ
smaller None n = Some n
smaller (Some m) n = Some (min m n)

-- ---- what is shown of an object

abbrev pub new_body : Kind → Body
new_body Directory = dir
new_body File = file []

abbrev pub kind_of : Object → Kind
kind_of o = elim o.body [ dir ↦ Directory | file c ↦ File ]

abbrev pub bare : Object → Object
bare o = record { number = o.number; parent = o.parent; name = o.name; stamp = o.stamp; body = new_body (kind_of o) }

abbrev pub root : Object
root = record { number = 1; parent = 1; name = []; stamp = record { author = 0; serial = 0 }; body = dir }

abbrev pub shown : ℕ → List Object → Option Object
shown x l = cond (x == 1) (Some root) (option_map bare (at x l))

abbrev pub read : Tree → ℕ → List ℕ → List ℕ × Result ℕ Refusal
read t x buffer =
    let c = held (at x t.objects) in
    judge (check (is_file (at x t.objects)) NoSuchObject ∷ fits c buffer ∷ []) buffer (front c buffer)
