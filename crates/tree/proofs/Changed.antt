-- An object after a change. Assumes nothing.
use Rattle.std.proofs.Common.{◌≡◌, ℕ, Bool, true, false, cond, not, eqb, List, [], ◌∷◌, Some, None, Option, sym, refl, ◌∙◌, arith}
use Rattle.std.specs.Option.{option_map}
use Rattle.std.proofs.lemmas.Bool.{both_ways, or_parts, eqb-true}
use Rattle.tree.specs.Questions.{directory, is_dir, is_file, is_some, regular}
use Rattle.tree.specs.Trees.{Body, Object, at, change, change_one, dir, file, is, some_of}
use Rattle.tree.proofs.Objects.{change_number}

pub at_change : (x y : ℕ) (g : Object → Object) (same : (o : Object) → (g o).number ≡ o.number) (l : List Object) → at y (change x g l) ≡ option_map (change_one x g) (at y l)
at_change x y g same [] = refl
at_change x y g same (o ∷ l) = rw (change_number x g same o) (go (at_change x y g same l) (is y o))
  where
    go : at y (change x g l) ≡ option_map (change_one x g) (at y l) → (b : Bool) → cond b (Some (change_one x g o)) (at y (change x g l)) ≡ option_map (change_one x g) (cond b (Some o) (at y l))
    go ih true = refl
    go ih false = ih

pub at_number : (y : ℕ) (o : Object) (l : List Object) → at y l ≡ Some o → is y o ≡ true
at_number y o [] e = let z : ◌≡◌ {A = ℕ} 0 1 = cc in absurd (omega arith)
at_number y o (p ∷ l) e = go (at_number y o l) (is y p) refl
  where
    go : (at y l ≡ Some o → is y o ≡ true) → (b : Bool) → is y p ≡ b → is y o ≡ true
    go ih true f = let k : p ≡ o = cc in rw k at f
    go ih false f = ih (rw f at e)

-- of a question about the object at y, where the change is of f
module _ (f : ℕ) (g : Object → Object) (same : (o : Object) → (g o).number ≡ o.number) (l : List Object) where
  pub at_other : (y : ℕ) → eqb y f ≡ false → at y (change f g l) ≡ at y l
  at_other y a = at_change f y g same l ∙ go (at y l) refl
    where
      go : (r : Option Object) → at y l ≡ r → option_map (change_one f g) r ≡ r
      go None e = refl
      go (Some o) e = let k : o.number ≡ y = eqb-true o.number y (at_number y o l e) in rw (k, a)

  pub at_question : (q : Option Object → Bool) → ((o : Object) → q (Some (g o)) ≡ q (Some o)) → (y : ℕ) → q (at y (change f g l)) ≡ q (at y l)
  at_question q k y = rw (at_change f y g same l) (go (at y l))
    where
      pick : (o : Object) (b : Bool) → q (Some (cond b (g o) o)) ≡ q (Some o)
      pick o true = k o
      pick o false = refl

      go : (r : Option Object) → q (option_map (change_one f g) r) ≡ q r
      go None = refl
      go (Some o) = pick o (is f o)

  pub at_own : at f (change f g l) ≡ option_map g (at f l)
  at_own = at_change f f g same l ∙ go (at f l) refl
    where
      go : (r : Option Object) → at f l ≡ r → option_map (change_one f g) r ≡ option_map g r
      go None e = refl
      go (Some o) e = rw (at_number f o l e)

pub dir_file : (r : Option Object) → is_file r ≡ true → is_dir r ≡ false
dir_file None h = refl
dir_file (Some o) h = go o.body h
  where
    go : (b : Body) → ◌≡◌ {A = Bool} (elim b [ dir ↦ false | file c ↦ true ]) true → ◌≡◌ {A = Bool} (elim b [ dir ↦ true | file c ↦ false ]) false
    go dir e = sym e
    go (file c) e = refl

pub file_some : (r : Option Object) → is_file r ≡ true → is_some r ≡ true
file_some None h = h
file_some (Some o) h = refl

-- what stands in the changed list stood there before
pub at_changed : (x y : ℕ) (g : Object → Object) (same : (o : Object) → (g o).number ≡ o.number) (l : List Object) (q : Object) → at y (change x g l) ≡ Some q → (o : Object) × (at y l ≡ Some o) × (change_one x g o ≡ q)
at_changed x y g same l q e = go (at y l) refl (sym (at_change x y g same l) ∙ e)
  where
    go : (r : Option Object) → at y l ≡ r → option_map (change_one x g) r ≡ Some q → (o : Object) × (at y l ≡ Some o) × (change_one x g o ≡ q)
    go None f h = let z : ◌≡◌ {A = ℕ} 0 1 = cc in absurd (omega arith)
    go (Some o) f h = (o, f, cc)

pub some_some : (r : Option Object) → is_some r ≡ true → (o : Object) × (r ≡ Some o)
some_some None h = absurd (both_ways false refl h)
some_some (Some o) h = (o, refl)

pub some_none : (r : Option Object) → is_some r ≡ false → r ≡ None
some_none None h = refl
some_none (Some o) h = absurd (both_ways true h refl)

pub dir_some : (r : Option Object) → is_dir r ≡ true → (o : Object) × (r ≡ Some o)
dir_some None h = absurd (both_ways false refl h)
dir_some (Some o) h = (o, refl)

-- a test that nothing passes
pub some_at : (q : Object → Bool) (y : ℕ) (o : Object) (l : List Object) → some_of q l ≡ false → at y l ≡ Some o → q o ≡ false
some_at q y o [] h e = let z : ◌≡◌ {A = ℕ} 0 1 = cc in absurd (omega arith)
some_at q y o (p ∷ l) h e = go (some_at q y o l (or_parts (q p) (some_of q l) h).1) (is y p) refl
  where
    go : (at y l ≡ Some o → q o ≡ false) → (b : Bool) → is y p ≡ b → q o ≡ false
    go ih true f = let k : p ≡ o = cc in rw k at (or_parts (q p) (some_of q l) h).0
    go ih false f = ih (rw f at e)

-- one kind is not the other
pub kinds : (o : Object) → regular o ≡ not (directory o)
kinds o = go o.body
  where
    go : (b : Body) → ◌≡◌ {A = Bool} (elim b [ dir ↦ false | file c ↦ true ]) (not (elim b [ dir ↦ true | file c ↦ false ]))
    go dir = refl
    go (file c) = refl
