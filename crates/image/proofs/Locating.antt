-- What searches through the sections tell of the tree. Assumes nothing.
use Rattle.std.proofs.Common.{◌≡◌, ℕ, Bool, true, false, ◌||◌, get_or, Some, None, Ok, Err, Option, MatchOption, Result, sym, refl, ap, ◌∙◌, subst, arith, min, tests}
use Rattle.std.specs.Result.{result_ok}
use Rattle.std.specs.Ordering.{nat_cmp, ord_min}
use Rattle.std.proofs.lemmas.Bool.{cases_Bool, cond_both}
use Rattle.std.proofs.lemmas.Option.{none-some}
use Rattle.vocab.specs.declared.kind.Kind.{Kind}
use Rattle.vocab.specs.declared.kind.Kind.TheVariants.{Directory, File}
use Rattle.tree.specs.Law.{Lawful}
use Rattle.tree.specs.Questions.{child, is_file, regular}
use Rattle.tree.specs.Trees.{Object, Tree, at, some_of}
use Rattle.tree.proofs.Ascending.{at_keep, only, or_else}
use Rattle.format.specs.Images.{section, sections_of}
use Rattle.format.proofs.Meaning.{at_in_section, section_ascends}
use Rattle.format.proofs.Placing.{at_between, at_place, some_at_place, some_nowhere}
use Rattle.format.proofs.Sectioning.{at_sections, child_above, child_at, child_nowhere, child_sections, lesser, some_sections}
use Rattle.image.specs.Places.{Found, FoundFile, FoundIn, Picked, Stands, found}
use Rattle.image.specs.Searches.{First, Located, nothing}
use Rattle.image.specs.declared.place.Place.{Place}

module _ (t : Tree) (lawful : Lawful t) (x : ℕ) where
  pub stands : (k : Kind) (i : ℕ) → Located x (section k (sections_of t)) (Ok i) → Stands x t (record { kind = k; index = i })
  stands k i h =
      let l = section k (sections_of t) in
      let there = ap (λ y. at y l) (sym h.1) ∙ at_place nothing 2 l (section_ascends t lawful k) i h.0 in
      let own = at_in_section t lawful k x (get_or l i nothing) there in
      record { within = h.0; here = own.0; number = h.1; kind = own.1 }

  pub absent : (k : Kind) (i : ℕ) → Located x (section k (sections_of t)) (Err i) → at x (section k (sections_of t)) ≡ None
  absent k i h = at_between nothing 2 (section k (sections_of t)) (section_ascends t lawful k) x i h.0 h.1 (λ l. h.2 i (omega arith) l)

  abbrev places : Kind → Option ℕ → Option Place
  places k None = None
  places k (Some i) = Some (record { kind = k; index = i })

  pub found_in : (k : Kind) (u : Result ℕ ℕ) (r : Option ℕ) → r ≡ result_ok u → Located x (section k (sections_of t)) u → FoundIn k x t (places k r)
  found_in k (Ok i) r e h = subst (λ r. FoundIn k x t (places k r)) (sym e) (refl, stands k i h)
  found_in k (Err i) r e h = subst (λ r. FoundIn k x t (places k r)) (sym e) (absent k i h)

  pub nowhere : FoundIn Directory x t None → FoundIn File x t None → at x t.objects ≡ None
  nowhere d f = at_sections x 2 t.objects lawful.ascending ∙ (λ i. or_else (d i) (f i))

  -- no file, where the files have none of this number
  pub no_file : FoundIn File x t None → is_file (at x t.objects) ≡ false
  no_file h = go (at x t.objects) (sym (at_keep regular x 2 t.objects lawful.ascending) ∙ h)
    where
      go : (u : Option Object) → only regular u ≡ None → is_file u ≡ false
      go None e = refl
      go (Some o) e = cond_both (regular o) (Some o) None (λ u. u ≡ None → regular o ≡ false) (λ r u. absurd (none-some o (sym u))) (λ r u. r) e

  pub found_any : {P : Type 0} (u r : Option Place) → FoundIn Directory x t u → (P → FoundIn File x t r) → MatchOption u P (λ p. r ≡ Some p) → Found x t r
  found_any None None d f e = nowhere d (f e)
  found_any None (Some p) d f e = (f e).1
  found_any (Some p) r d f e = subst (Found x t) (sym e) d.1

  pub found_file : (r : Option Place) → FoundIn File x t r → FoundFile x t r
  found_file None h = no_file h
  found_file (Some p) h = h

-- ---- by a test

module _ (t : Tree) (q : Object → Bool) where
  pub picked : (k : Kind) (p : Place) → First k q (sections_of t) (Some p) → Picked q t (Some p)
  picked k p h = (some_sections q t.objects ∙ by p.kind (some_at_place nothing q (section p.kind (sections_of t)) p.index h.1 h.2), h.1, h.2)
    where
      by : (k : Kind) → some_of q (section k (sections_of t)) ≡ true → (some_of q (sections_of t).directories || some_of q (sections_of t).files) ≡ true
      by Directory e = ap (λ b. b || some_of q (sections_of t).files) e
      by File e = grind (arith, cases_Bool (some_of q (sections_of t).directories))

  pub unpicked : First Directory q (sections_of t) None → First File q (sections_of t) None → some_of q t.objects ≡ false
  unpicked d f =
      let e = some_nowhere nothing q (sections_of t).directories d in
      let g = some_nowhere nothing q (sections_of t).files f in
      some_sections q t.objects ∙ (λ i. e i || g i)

  -- the first directory, or else the first file
  pub either : {P : Type 0} (u r : Option Place) → First Directory q (sections_of t) u → (P → First File q (sections_of t) r) → MatchOption u P (λ p. r ≡ Some p) → Picked q t r
  either None None d f e = unpicked d (f e)
  either None (Some p) d f e = picked File p (f e)
  either (Some p) r d f e = subst (Picked q t) (sym e) (picked Directory p d)

-- ---- the least child

module _ (t : Tree) (p a : ℕ) where
  pub child_first : (k : Kind) (w : Place) → First k (child_above p a) (sections_of t) (Some w) → child p a (section k (sections_of t)) ≡ Some (found t w).number
  child_first k w h =
      ap (λ j. child p a (section j (sections_of t))) (sym h.0) ∙ child_at p a nothing (section w.kind (sections_of t)) w.index h.1 h.3 h.2

  pub child_none : (k : Kind) → First k (child_above p a) (sections_of t) None → child p a (section k (sections_of t)) ≡ None
  child_none k h = child_nowhere p a nothing (section k (sections_of t)) h

  pub least_of : Lawful t → (x y : Option ℕ) → x ≡ child p a (sections_of t).directories → y ≡ child p a (sections_of t).files → lesser x y ≡ child p a t.objects
  least_of lawful x y d f = (λ i. lesser (d i) (f i)) ∙ sym (child_sections p a 2 t.objects lawful.ascending)

pub lesser_none : (y : Option ℕ) → lesser None y ≡ y
lesser_none None = refl
lesser_none (Some z) = refl

pub ord_least : (x y : ℕ) → ord_min nat_cmp x y ≡ min x y
ord_least x y = grind (arith, tests)
