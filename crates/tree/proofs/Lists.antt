-- Keeping and changing objects. Assumes nothing.
use Rattle.std.proofs.Common.{◌≡◌, suc, ◌≤◌, Bool, false, not, List, [], ◌∷◌, ◌++◌, map, length, refl, ap, arith}
use Rattle.std.proofs.lemmas.Bool.{or_parts, or_from}
use Rattle.tree.specs.Trees.{keep, some_of}

pub keep_keep : {X : Type 0} (p q : X → Bool) (l : List X) → keep p (keep q l) ≡ keep q (keep p l)
keep_keep p q [] = refl
keep_keep p q (x ∷ l) = grind (arith, keep_keep p q l)

pub keep_append : {X : Type 0} (p : X → Bool) (l m : List X) → keep p (l ++ m) ≡ keep p l ++ keep p m
keep_append p [] m = refl
keep_append p (x ∷ l) m = grind (arith, keep_append p l m)

pub keep_map : {X : Type 0} (p : X → Bool) (g : X → X) (same : (x : X) → p (g x) ≡ p x) (l : List X) → keep p (map g l) ≡ map g (keep p l)
keep_map p g same [] = refl
keep_map p g same (x ∷ l) = grind (arith, keep_map p g same l, same x)

pub map_append : {X : Type 0} (g : X → X) (l m : List X) → map g (l ++ m) ≡ map g l ++ map g m
map_append g [] m = refl
map_append g (x ∷ l) m = ap (λ z. g x ∷ z) (map_append g l m)

pub some_keep : {X : Type 0} (p q : X → Bool) (l : List X) → some_of p l ≡ false → some_of p (keep q l) ≡ false
some_keep p q [] h = refl
some_keep p q (x ∷ l) h = grind (arith, some_keep p q l (or_parts (p x) (some_of p l) h).1, or_parts (p x) (some_of p l) h)

pub some_map : {X : Type 0} (p : X → Bool) (g : X → X) (same : (x : X) → p (g x) ≡ p x) (l : List X) → some_of p (map g l) ≡ some_of p l
some_map p g same [] = refl
some_map p g same (x ∷ l) = rw (same x, some_map p g same l)

pub length_keep : {X : Type 0} (p : X → Bool) (l : List X) → length (keep p l) ≤ length l
length_keep p [] = omega arith
length_keep p (x ∷ l) = grind (arith, length_keep p l)

pub length_map : {X : Type 0} (g : X → X) (l : List X) → length (map g l) ≡ length l
length_map g [] = refl
length_map g (x ∷ l) = ap suc (length_map g l)

pub keep_same : {X : Type 0} (p : X → Bool) (l : List X) → some_of (λ x. not (p x)) l ≡ false → keep p l ≡ l
keep_same p [] h = refl
keep_same p (x ∷ l) h = grind (arith, keep_same p l (or_parts (not (p x)) (some_of (λ x. not (p x)) l) h).1, or_parts (not (p x)) (some_of (λ x. not (p x)) l) h)

pub some_append : {X : Type 0} (p : X → Bool) (l m : List X) → some_of p l ≡ false → some_of p m ≡ false → some_of p (l ++ m) ≡ false
some_append p [] m h k = k
some_append p (x ∷ l) m h k = or_from (p x) (some_of p (l ++ m)) (or_parts (p x) (some_of p l) h).0 (some_append p l m (or_parts (p x) (some_of p l) h).1 k)

-- where the change may only keep p false
pub some_map_false : {X : Type 0} (p : X → Bool) (g : X → X) (kept : (x : X) → p x ≡ false → p (g x) ≡ false) (l : List X) → some_of p l ≡ false → some_of p (map g l) ≡ false
some_map_false p g kept [] h = refl
some_map_false p g kept (x ∷ l) h = or_from (p (g x)) (some_of p (map g l)) (kept x (or_parts (p x) (some_of p l) h).0) (some_map_false p g kept l (or_parts (p x) (some_of p l) h).1)

pub some_weaker : {X : Type 0} (p q : X → Bool) (weaker : (x : X) → p x ≡ false → q x ≡ false) (l : List X) → some_of p l ≡ false → some_of q l ≡ false
some_weaker p q weaker [] h = refl
some_weaker p q weaker (x ∷ l) h = or_from (q x) (some_of q l) (weaker x (or_parts (p x) (some_of p l) h).0) (some_weaker p q weaker l (or_parts (p x) (some_of p l) h).1)
