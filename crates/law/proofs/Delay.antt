-- A store moved behind records that neither store nor remove its file. Assumes nothing.
use Rattle.std.proofs.Common.{◌≡◌, ℕ, zero, suc, Bool, true, false, cond, not, ◌||◌, eqb, ltb, List, [], ◌∷◌, map, Some, None, Option, sym, refl, ap, ◌∙◌, subst, rules, arith}
use Rattle.std.specs.Option.{option_map}
use Rattle.std.proofs.lemmas.Bool.{both_ways, or_parts, eqb-true, eqb-false, ne_eqb}
use Rattle.tree.proofs.Ascending.{at_insert_other}
use Rattle.std.proofs.lemmas.Bool.Decides.{nat_tests}
use Rattle.model.specs.Applying.{effect, stamped, stands}
use Rattle.model.specs.Records.{Edit, Record, create, mkdir, remove, removes, rename, rmdir, stamp_of, store, stores}
use Rattle.tree.specs.Changes.{fresh, with_contents, with_place}
use Rattle.tree.specs.Questions.{child_of, climbs, has_child, is_dir, is_file, is_some, placed, taken}
use Rattle.tree.specs.Trees.{Object, at, change, change_one, higher, insert, is, keep, lower, some_of}
use Rattle.tree.proofs.Changed.{at_change, at_other, at_own, at_question, dir_file, file_some}
use Rattle.tree.proofs.Lists.{keep_map, length_map, map_append, some_map}
use Rattle.tree.proofs.Objects.{at_without, change_number, without_change}
use Rattle.vocab.specs.declared.kind.Kind.TheVariants.{Directory, File}
use Rattle.vocab.specs.declared.stamp.Stamp.{Stamp}
use Rattle.vocab.specs.Checks.{Holds}
use Rattle.law.proofs.Entering.{births, touches}
use Rattle.law.proofs.Runs.{Passes, final, tests}

pub file_put : (s : Stamp) (c : List ℕ) (r : Option Object) → is_some r ≡ true → is_file (option_map (with_contents c s) r) ≡ true
file_put s c None h = h
file_put s c (Some o) h = refl

parent_change : (f : ℕ) (s : Stamp) (c : List ℕ) (o : Object) → (change_one f (with_contents c s) o).parent ≡ o.parent
parent_change f s c o = grind (arith, nat_tests)

placed_change : (p : ℕ) (n : List ℕ) (f : ℕ) (s : Stamp) (c : List ℕ) (o : Object) → placed p n (change_one f (with_contents c s) o) ≡ placed p n o
placed_change p n f s c o = grind (arith, nat_tests)

module _ (f : ℕ) (s : Stamp) (c : List ℕ) (l : List Object) where
  taken_put : (p : ℕ) (n : List ℕ) → taken p n (change f (with_contents c s) l) ≡ taken p n l
  taken_put p n = some_map (placed p n) (change_one f (with_contents c s)) (placed_change p n f s c) l

  pub child_put : (x : ℕ) → has_child x (change f (with_contents c s) l) ≡ has_child x l
  child_put x = some_map (child_of x) (change_one f (with_contents c s)) (λ o. ap (λ k. eqb k x) (parent_change f s c o)) l

  climbs_put : (k x p : ℕ) → climbs k x p (change f (with_contents c s) l) ≡ climbs k x p l
  climbs_put zero x p = refl
  climbs_put (suc k) x p = ap (λ b. eqb p x || b) (rw (at_change f p (with_contents c s) (λ o. refl) l) (go (climbs_put k x) (at p l)))
    where
      go : ((p : ℕ) → climbs k x p (change f (with_contents c s) l) ≡ climbs k x p l) → (r : Option Object) → ◌≡◌ {A = Bool} (elim (option_map (change_one f (with_contents c s)) r) [ None ↦ false | Some o ↦ climbs k x o.parent (change f (with_contents c s) l) ]) (elim r [ None ↦ false | Some o ↦ climbs k x o.parent l ])
      go ih None = refl
      go ih (Some o) = rw (parent_change f s c o) (ih o.parent)

  pub some_put : (y : ℕ) → is_some (at y (change f (with_contents c s) l)) ≡ is_some (at y l)
  some_put y = at_question f (with_contents c s) (λ o. refl) l is_some (λ o. refl) y

  pub stands_put : (p : ℕ) (n : List ℕ) (y : ℕ) → stands p n (at y (change f (with_contents c s) l)) ≡ stands p n (at y l)
  stands_put p n y = at_question f (with_contents c s) (λ o. refl) l (stands p n) (λ o. refl) y

  dir_put : is_file (at f l) ≡ true → (y : ℕ) → is_dir (at y (change f (with_contents c s) l)) ≡ is_dir (at y l)
  dir_put here y = grind (arith, nat_tests, at_own, file_some, at_other)

  new_put : (cap : ℕ) → is_file (at f l) ≡ true → (y p : ℕ) (n : List ℕ) → tests cap (mkdir y p n) (change f (with_contents c s) l) ≡ tests cap (mkdir y p n) l
  new_put cap here y p n = rw (dir_put here p, taken_put p n, length_map (change_one f (with_contents c s)) l, some_put y)

  -- the checks are the same
  pub tests_put : (cap : ℕ) → is_file (at f l) ≡ true → (e : Edit) → stores f e ≡ false → removes f e ≡ false → tests cap e (change f (with_contents c s) l) ≡ tests cap e l
  tests_put cap here e a b = search (rules, new_put, at_other, child_put, dir_put, stands_put, some_put, taken_put, climbs_put)

map_map : {X : Type 0} (g h : X → X) → ((x : X) → g (h x) ≡ h (g x)) → (l : List X) → map g (map h l) ≡ map h (map g l)
map_map g h k [] = refl
map_map g h k (x ∷ l) = rw (k x, map_map g h k l)

insert_change : (f : ℕ) (g : Object → Object) (same : (o : Object) → (g o).number ≡ o.number) (o : Object) (l : List Object) → is f o ≡ false → insert o (change f g l) ≡ change f g (insert o l)
insert_change f g same o l a =
    rw (
      map_append (change_one f g) (keep (lower o.number) l) (o ∷ keep (higher o.number) l),
      a,
      keep_map (lower o.number) (change_one f g) (λ p. ap (λ k. ltb k o.number) (change_number f g same p)) l,
      keep_map (higher o.number) (change_one f g) (λ p. ap (λ k. not (ltb k o.number)) (change_number f g same p)) l,
    )

one_true : (x : ℕ) (g : Object → Object) (o : Object) → is x o ≡ true → change_one x g o ≡ g o
one_true x g o e = rw e

-- two changes that do not meet, or that do and agree
change_change : (x y : ℕ) (g h : Object → Object) (gs : (o : Object) → (g o).number ≡ o.number) (hs : (o : Object) → (h o).number ≡ o.number) → ((o : Object) → is x o ≡ true → is y o ≡ true → g (h o) ≡ h (g o)) → (o : Object) → change_one x g (change_one y h o) ≡ change_one y h (change_one x g o)
change_change x y g h gs hs k o = grind (arith, nat_tests, k o, gs o, hs o)

module _ (f : ℕ) (s t : Stamp) (c : List ℕ) (l : List Object) where
  pub effect_put : (e : Edit) → stores f e ≡ false → (births f e ≡ false) → effect t e (change f (with_contents c s) l) ≡ change f (with_contents c s) (effect t e l)
  effect_put (mkdir y p n) a b = insert_change f (with_contents c s) (λ o. refl) (fresh Directory p n y t) l b
  effect_put (create y p n) a b = insert_change f (with_contents c s) (λ o. refl) (fresh File p n y t) l b
  effect_put (store y d e) a b = map_map (change_one y (with_contents d t)) (change_one f (with_contents c s)) (change_change y f (with_contents d t) (with_contents c s) (λ o. refl) (λ o. refl) (λ o i j. absurd (eqb-false y f a (sym (eqb-true o.number y i) ∙ eqb-true o.number f j)))) l
  effect_put (remove y p n e) a b = without_change y f (with_contents c s) (λ o. refl) l
  effect_put (rmdir y p n) a b = without_change y f (with_contents c s) (λ o. refl) l
  effect_put (rename y p n q m) a b = map_map (change_one y (with_place q m)) (change_one f (with_contents c s)) (change_change y f (with_place q m) (with_contents c s) (λ o. refl) (λ o. refl) (λ o i j. refl)) l

-- a file that is there is not born
pub unborn : (cap f : ℕ) (e : Edit) (l : List Object) → is_file (at f l) ≡ true → Holds (tests cap e l) → births f e ≡ false
unborn cap f e l here h = grind (arith, nat_tests)

unfoldable pub first : List Object → Option Object
first [] = None
first (o ∷ l) = Some o

-- the first of all objects of a number stands at it
pub at_first : (f : ℕ) (l : List Object) → at f l ≡ first (keep (is f) l)
unfolding first
at_first f [] = refl
at_first f (o ∷ l) = go (at_first f l) (is f o)
  where
    go : at f l ≡ first (keep (is f) l) → (b : Bool) → cond b (Some o) (at f l) ≡ first (cond b (o ∷ keep (is f) l) (keep (is f) l))
    go ih true = refl
    go ih false = ih

-- one object more, of another number
pub at_insert : (f : ℕ) (o : Object) (l : List Object) → is f o ≡ false → at f (insert o l) ≡ at f l
at_insert f o l a = at_insert_other o l f (eqb-false o.number f a)

-- the file and its stamp stay
module _ (cap f : ℕ) (s : Stamp) (l : List Object) (q : Option Object → Bool) (steady : (n : ℕ) (m : List ℕ) (o : Object) → q (Some (with_place n m o)) ≡ q (Some o)) where
  pub stays : (e : Edit) → is_file (at f l) ≡ true → stores f e ≡ false → removes f e ≡ false → Holds (tests cap e l) → q (at f (effect s e l)) ≡ q (at f l)
  stays (mkdir y p n) here a b h = ap q (at_insert f (fresh Directory p n y s) l (unborn cap f (mkdir y p n) l here h))
  stays (create y p n) here a b h = ap q (at_insert f (fresh File p n y s) l (unborn cap f (create y p n) l here h))
  stays (store y d t) here a b h = ap q (at_other y (with_contents d s) (λ o. refl) l f (ne_eqb f y (λ e. eqb-false y f a (sym e))))
  stays (remove y p n t) here a b h = ap q (at_without y f l (ne_eqb f y (λ e. eqb-false y f b (sym e))))
  stays (rmdir y p n) here a b h = ap q (at_without y f l (ne_eqb f y (λ e. both_ways (is_dir (at f l)) (dir_file (at f l) here) (subst (λ k. is_dir (at k l) ≡ true) (sym e) h.0))))
  stays (rename y p n q' m) here a b h = at_question y (with_place q' m) (λ o. refl) l q (λ o. steady q' m o) f

-- the records rs pass and leave the same where the store of f comes after them
module _ (cap f : ℕ) (s t : Stamp) (c : List ℕ) where
  pub delay : (rs : List Record) (l : List Object) → is_file (at f l) ≡ true → stamped t (at f l) ≡ true → some_of (touches f) rs ≡ false → Passes cap rs (change f (with_contents c s) l)
      → Passes cap rs l × (final rs (change f (with_contents c s) l) ≡ change f (with_contents c s) (final rs l)) × (is_file (at f (final rs l)) ≡ true) × (stamped t (at f (final rs l)) ≡ true)
  delay [] l here st n h = (tt, refl, here, st)
  delay (r ∷ rs) l here st n h =
      let parts = or_parts (touches f r) (some_of (touches f) rs) n in
      let off = or_parts (stores f r.edit) (removes f r.edit) parts.0 in
      let ok : Holds (tests cap r.edit l) = subst Holds (tests_put f s c l cap here r.edit off.0 off.1) h.0 in
      let same : effect (stamp_of r) r.edit (change f (with_contents c s) l) ≡ change f (with_contents c s) (effect (stamp_of r) r.edit l) = effect_put f s (stamp_of r) c l r.edit off.0 (unborn cap f r.edit l here ok) in
      let rest = delay rs (effect (stamp_of r) r.edit l) (stays cap f (stamp_of r) l is_file (λ n m o. refl) r.edit here off.0 off.1 ok ∙ here) (stays cap f (stamp_of r) l (stamped t) (λ n m o. refl) r.edit here off.0 off.1 ok ∙ st) parts.1 (subst (Passes cap rs) same h.1) in
      ((ok, rest.0), ap (final rs) same ∙ rest.1, rest.2, rest.3)
