-- What does not read contents: checks, and the edit that a call asks for. Assumes nothing.
--     Like l k     the objects l and k differ in contents alone
use Rattle.std.proofs.Common.{◌≡◌, ℕ, zero, suc, Bool, true, false, cond, not, ◌||◌, eqb, List, [], ◌∷◌, ◌++◌, map, Some, None, Option, sym, refl, ap, ◌∙◌, ap₂, rules, arith}
use Rattle.std.specs.Option.{option_map}
use Rattle.std.proofs.lemmas.Bool.Decides.{nat_tests}
use Rattle.model.specs.Applying.{effect, stamped, stands}
use Rattle.model.specs.Hoard.{Hoard}
use Rattle.model.specs.Loaders.{partly}
use Rattle.model.specs.Office.{Call, bound, edit_of, stamp_at}
use Rattle.model.specs.Records.{Edit, create, mkdir, remove, rename, rmdir, store}
use Rattle.tree.specs.Changes.{fresh, with_contents, with_place}
use Rattle.tree.specs.Questions.{bare, child_of, climbs, has_child, is_dir, is_file, is_some, look, new_body, placed, taken}
use Rattle.tree.specs.Trees.{Body, Object, Tree, at, change, dir, file, higher, insert, is, keep, lower, without}
use Rattle.tree.proofs.Lists.{keep_map, length_map, map_append, some_map}
use Rattle.vocab.specs.declared.kind.Kind.TheVariants.{Directory, File}
use Rattle.vocab.specs.declared.stamp.Stamp.{Stamp}
use Rattle.law.proofs.Runs.{tests}

abbrev bared : List Object → List Object
bared l = map bare l

at_bare : (x : ℕ) (l : List Object) → at x (bared l) ≡ option_map bare (at x l)
at_bare x [] = refl
at_bare x (o ∷ l) = go (at_bare x l) (is x o)
  where
    go : at x (bared l) ≡ option_map bare (at x l) → (b : Bool) → cond b (Some (bare o)) (at x (bared l)) ≡ option_map bare (cond b (Some o) (at x l))
    go ih true = refl
    go ih false = ih

question : (q : Option Object → Bool) → ((o : Object) → q (Some (bare o)) ≡ q (Some o)) → (x : ℕ) (l : List Object) → q (at x (bared l)) ≡ q (at x l)
question q k x l = grind (arith, nat_tests, at_bare)

abbrev kind_body : Body → Body
kind_body b = new_body (elim b [ dir ↦ Directory | file c ↦ File ])

dir_body : (b : Body) → ◌≡◌ {A = Bool} (elim (kind_body b) [ dir ↦ true | file c ↦ false ]) (elim b [ dir ↦ true | file c ↦ false ])
dir_body dir = refl
dir_body (file c) = refl

file_body : (b : Body) → ◌≡◌ {A = Bool} (elim (kind_body b) [ dir ↦ false | file c ↦ true ]) (elim b [ dir ↦ false | file c ↦ true ])
file_body dir = refl
file_body (file c) = refl

module _ (l : List Object) where
  dir_bare : (x : ℕ) → is_dir (at x (bared l)) ≡ is_dir (at x l)
  dir_bare x = question is_dir (λ o. dir_body o.body) x l

  file_bare : (x : ℕ) → is_file (at x (bared l)) ≡ is_file (at x l)
  file_bare x = question is_file (λ o. file_body o.body) x l

  some_bare : (x : ℕ) → is_some (at x (bared l)) ≡ is_some (at x l)
  some_bare x = question is_some (λ o. refl) x l

  stamped_bare : (t : Stamp) (x : ℕ) → stamped t (at x (bared l)) ≡ stamped t (at x l)
  stamped_bare t x = question (stamped t) (λ o. refl) x l

  stands_bare : (p : ℕ) (n : List ℕ) (x : ℕ) → stands p n (at x (bared l)) ≡ stands p n (at x l)
  stands_bare p n x = question (stands p n) (λ o. refl) x l

  taken_bare : (p : ℕ) (n : List ℕ) → taken p n (bared l) ≡ taken p n l
  taken_bare p n = some_map (placed p n) bare (λ o. refl) l

  child_bare : (x : ℕ) → has_child x (bared l) ≡ has_child x l
  child_bare x = some_map (child_of x) bare (λ o. refl) l

  climbs_bare : (k x p : ℕ) → climbs k x p (bared l) ≡ climbs k x p l
  climbs_bare zero x p = refl
  climbs_bare (suc k) x p = ap (λ b. eqb p x || b) (rw (at_bare p l) (go (climbs_bare k x) (at p l)))
    where
      go : ((p : ℕ) → climbs k x p (bared l) ≡ climbs k x p l) → (r : Option Object) → ◌≡◌ {A = Bool} (elim (option_map bare r) [ None ↦ false | Some o ↦ climbs k x o.parent (bared l) ]) (elim r [ None ↦ false | Some o ↦ climbs k x o.parent l ])
      go ih None = refl
      go ih (Some o) = ih o.parent

  tests_bare : (cap : ℕ) (e : Edit) → tests cap e (bared l) ≡ tests cap e l
  tests_bare cap e = search (rules, dir_bare, taken_bare, length_map, some_bare, file_bare, stamped_bare, stands_bare, child_bare, climbs_bare)

abbrev on : List Object → Tree
on l = record { capacity = 0; next = 0; objects = l }

stamp_bare : (x : ℕ) (l : List Object) → stamp_at x (on (bared l)) ≡ stamp_at x (on l)
stamp_bare x l = grind (arith, nat_tests, at_bare)

look_bare : (p : ℕ) (n : List ℕ) (l : List Object) → look p n (bared l) ≡ look p n l
look_bare p n [] = refl
look_bare p n (o ∷ l) = ap (λ z. cond (placed p n o) (Some o.number) z) (look_bare p n l)

bound_bare : (p : ℕ) (n : List ℕ) (l : List Object) → bound p n (on (bared l)) ≡ bound p n (on l)
bound_bare p n l = ap (λ (r : Option ℕ). let z : ℕ = elim r [ None ↦ 0 | Some x ↦ x ] in z) (look_bare p n l)

edit_bare : (k : ℕ) (c : Call) (l : List Object) → edit_of k c (on (bared l)) ≡ edit_of k c (on l)
edit_bare k c l = search (rules, stamp_bare, bound_bare)

edit_on : (k : ℕ) (c : Call) (t : Tree) → edit_of k c t ≡ edit_of k c (on t.objects)
edit_on k c t = search rules

-- ---- effects

twice_body : (b : Body) → kind_body (kind_body b) ≡ kind_body b
twice_body dir = refl
twice_body (file c) = refl

bare_twice : (o : Object) → bare (bare o) ≡ bare o
bare_twice o = ap (λ b. record { number = o.number; parent = o.parent; name = o.name; stamp = o.stamp; body = b }) (twice_body o.body)

bared_twice : (l : List Object) → bared (bared l) ≡ bared l
bared_twice [] = refl
bared_twice (o ∷ l) = ap₂ (λ x y. x ∷ y) (bare_twice o) (bared_twice l)

insert_bare : (o : Object) (l : List Object) → bared (insert o l) ≡ insert (bare o) (bared l)
insert_bare o l = map_append bare (keep (lower o.number) l) (o ∷ keep (higher o.number) l) ∙ sym (ap₂ (λ u v. u ++ (bare o ∷ v)) (keep_map (lower o.number) bare (λ p. refl) l) (keep_map (higher o.number) bare (λ p. refl) l))

insert_both : (o : Object) (l : List Object) → bared (insert o l) ≡ bared (insert o (bared l))
insert_both o l = insert_bare o l ∙ sym (insert_bare o (bared l) ∙ ap (insert (bare o)) (bared_twice l))

without_both : (x : ℕ) (l : List Object) → bared (without x l) ≡ bared (without x (bared l))
without_both x l = sym (keep_map (λ o. not (is x o)) bare (λ o. refl) l) ∙ ap (without x) (sym (bared_twice l)) ∙ keep_map (λ o. not (is x o)) bare (λ o. refl) (bared l)

change_both : (x : ℕ) (g : Object → Object) → ((o : Object) → bare (g o) ≡ bare (g (bare o))) → (l : List Object) → bared (change x g l) ≡ bared (change x g (bared l))
change_both x g k [] = refl
change_both x g k (o ∷ l) = let ih = change_both x g k l in grind (arith, nat_tests, k o, bare_twice o)

effect_both : (s : Stamp) (e : Edit) (l : List Object) → bared (effect s e l) ≡ bared (effect s e (bared l))
effect_both s (mkdir x p n) l = insert_both (fresh Directory p n x s) l
effect_both s (create x p n) l = insert_both (fresh File p n x s) l
effect_both s (store x c t) l = change_both x (with_contents c s) (λ o. refl) l
effect_both s (remove x p n t) l = without_both x l
effect_both s (rmdir x p n) l = without_both x l
effect_both s (rename x p n q m) l = change_both x (with_place q m) (λ o. sym (bare_twice (with_place q m o))) l

-- ---- lists that differ in contents alone

abbrev pub Like : List Object → List Object → Type 0
Like l k = bared l ≡ bared k

pub like_tests : (cap : ℕ) (e : Edit) (l k : List Object) → Like l k → tests cap e l ≡ tests cap e k
like_tests cap e l k h = sym (tests_bare l cap e) ∙ ap (tests cap e) h ∙ tests_bare k cap e

pub like_edit : (n : ℕ) (c : Call) (t u : Tree) → Like t.objects u.objects → edit_of n c t ≡ edit_of n c u
like_edit n c t u h = edit_on n c t ∙ sym (edit_bare n c t.objects) ∙ ap (λ l. edit_of n c (on l)) h ∙ edit_bare n c u.objects ∙ sym (edit_on n c u)

pub like_effect : (s : Stamp) (e : Edit) (l k : List Object) → Like l k → Like (effect s e l) (effect s e k)
like_effect s e l k h = effect_both s e l ∙ ap (λ z. bared (effect s e z)) h ∙ sym (effect_both s e k)

pub like_partly : (h : Hoard) (l : List Object) → Like (map (partly h) l) l
like_partly h [] = refl
like_partly h (o ∷ l) = let ih = like_partly h l in grind (arith, nat_tests, bare_twice o)
