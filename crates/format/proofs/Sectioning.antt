-- A list of objects and its two sections. Assumes nothing.
use Rattle.std.proofs.Common.{◌≡◌, ℕ, zero, suc, ◌+◌, ◌<◌, ◌≤◌, min, Bool, true, false, cond, not, ◌&&◌, ◌||◌, ltb, List, [], ◌∷◌, length, get_or, Some, None, Option, sym, refl, ap, ◌∙◌, arith}
use Rattle.std.specs.List.{AllByRecursion}
use Rattle.std.proofs.lemmas.Bool.{cases_Bool, cond-false, cond-true, eqb-false, eqb-true}
use Rattle.std.proofs.lemmas.Option.{none-some}
use Rattle.tree.specs.Questions.{child, child_of, directory, regular, smaller}
use Rattle.tree.specs.Trees.{Ascends, Object, at, change, change_one, higher, insert, is, keep, lower, some_of, without}
use Rattle.tree.proofs.Ascending.{ascends_at, ascends_insert, ascends_keep, ascends_weaker, at_insert_other, at_keep, at_low, change_none, insert_behind, insert_low, only, or_else, split_ascends, without_none}
use Rattle.tree.proofs.Changed.{kinds}
use Rattle.tree.proofs.Lists.{keep_append, keep_keep}
use Rattle.tree.proofs.Means.{child_given}
use Rattle.tree.proofs.Objects.{Split, split_insert, split_keep}
use Rattle.format.specs.Images.{together}

-- ---- changes of the list, in the section of those that pass q

module _ (q : Object → Bool) where
  pub section_insert : (o : Object) (l : List Object) → q o ≡ true → keep q (insert o l) ≡ insert o (keep q l)
  section_insert o l h = rw (keep_append, h, keep_keep q (lower o.number) l, keep_keep q (higher o.number) l)

  pub section_insert_other : (o : Object) (l : List Object) → Split l → q o ≡ false → keep q (insert o l) ≡ keep q l
  section_insert_other o l s h = rw (keep_append, h, keep_keep q (lower o.number) l, keep_keep q (higher o.number) l) (split_keep q l s o.number)

  pub section_without : (x : ℕ) (l : List Object) → keep q (without x l) ≡ without x (keep q l)
  section_without x l = keep_keep q (λ o. not (is x o)) l

  -- nothing stands at x in the section, where what stands at x fails q
  pub section_absent : (x n : ℕ) (l : List Object) → Ascends n l → ((o : Object) → at x l ≡ Some o → q o ≡ false) → at x (keep q l) ≡ None
  section_absent x n l r h = at_keep q x n l r ∙ go (at x l) h
    where
      go : (u : Option Object) → ((o : Object) → u ≡ Some o → q o ≡ false) → only q u ≡ None
      go None k = refl
      go (Some o) k = rw (k o refl)

  pub section_without_other : (x n : ℕ) (l : List Object) → Ascends n l → ((o : Object) → at x l ≡ Some o → q o ≡ false) → keep q (without x l) ≡ keep q l
  section_without_other x n l r h = section_without x l ∙ without_none x (keep q l) (section_absent x n l r h)

  pub section_change : (x n : ℕ) (g : Object → Object) (l : List Object) → Ascends n l → ((o : Object) → at x l ≡ Some o → q (g o) ≡ q o) → keep q (change x g l) ≡ change x g (keep q l)
  section_change x n g [] r h = refl
  section_change x n g (o ∷ l) r h = go (section_change x (suc o.number) g l r.1) (is x o) refl
    where
      go : (((p : Object) → at x l ≡ Some p → q (g p) ≡ q p) → keep q (change x g l) ≡ change x g (keep q l)) → (b : Bool) → is x o ≡ b → keep q (change_one x g o ∷ change x g l) ≡ change x g (keep q (o ∷ l))
      go ih true e =
          let none : at x l ≡ None = at_low x (suc o.number) l (omega (arith, eqb-true o.number x e)) r.1 in
          let rest = ih (λ p f. let z : ◌≡◌ {A = ℕ} 0 1 = cc in absurd (omega arith)) in
          let same = h o (cond-true (is x o) (Some o) (at x l) e) in
          grind (arith, cases_Bool (q o))
      go ih false e =
          let rest = ih (λ p f. h p (cond-false (is x o) (Some o) (at x l) e ∙ f)) in
          grind (arith, cases_Bool (q o))

  pub section_change_other : (x n : ℕ) (g : Object → Object) (l : List Object) → Ascends n l → ((o : Object) → at x l ≡ Some o → (q o ≡ false) × (q (g o) ≡ false)) → keep q (change x g l) ≡ keep q l
  section_change_other x n g l r h =
      section_change x n g l r (λ o e. (h o e).1 ∙ sym (h o e).0)
      ∙ change_none x g (keep q l) (section_absent x n l r (λ o e. (h o e).0))

-- ---- the two sections give the list again

together_behind : (o : Object) (ds fs : List Object) → Ascends (suc o.number) ds → together ds (o ∷ fs) ≡ o ∷ together ds fs
together_behind o [] fs r = refl
together_behind o (p ∷ ds) fs r =
    ap (insert p) (together_behind o ds fs (ascends_weaker (suc o.number) (suc p.number) ds (omega (arith, r.0)) r.1))
    ∙ insert_behind p o (together ds fs) (omega (arith, r.0))

pub together_back : (n : ℕ) (l : List Object) → Ascends n l → together (keep directory l) (keep regular l) ≡ l
together_back n [] r = refl
together_back n (o ∷ l) r = go (together_back (suc o.number) l r.1) (directory o) refl
  where
    go : together (keep directory l) (keep regular l) ≡ l → (b : Bool) → directory o ≡ b → together (keep directory (o ∷ l)) (keep regular (o ∷ l)) ≡ o ∷ l
    go ih true e = rw (e, kinds o ∙ ap not e) (ap (insert o) ih ∙ insert_low (suc o.number) o l (omega arith) r.1)
    go ih false e = rw (e, kinds o ∙ ap not e) (together_behind o (keep directory l) (keep regular l) (ascends_keep directory (suc o.number) l r.1) ∙ ap (λ z. o ∷ z) ih)

-- ---- and are those of the two together

pub keep_every : (q : Object → Bool) (l : List Object) → AllByRecursion (λ o. q o ≡ true) l → keep q l ≡ l
keep_every q [] h = refl
keep_every q (o ∷ l) h = rw h.0 (ap (λ z. o ∷ z) (keep_every q l h.1))

pub keep_no : (q : Object → Bool) (l : List Object) → AllByRecursion (λ o. q o ≡ false) l → keep q l ≡ []
keep_no q [] h = refl
keep_no q (o ∷ l) h = rw h.0 (keep_no q l h.1)

split_together : (ds fs : List Object) → Split fs → Split (together ds fs)
split_together [] fs s = s
split_together (o ∷ ds) fs s = split_insert o (together ds fs) (split_together ds fs s)

pub together_directories : (m : ℕ) (ds fs : List Object) → Ascends m ds → AllByRecursion (λ o. directory o ≡ true) ds → AllByRecursion (λ o. directory o ≡ false) fs → keep directory (together ds fs) ≡ ds
together_directories m [] fs r h k = keep_no directory fs k
together_directories m (o ∷ ds) fs r h k =
    section_insert directory o (together ds fs) h.0
    ∙ ap (insert o) (together_directories (suc o.number) ds fs r.1 h.1 k)
    ∙ insert_low (suc o.number) o ds (omega arith) r.1

pub together_files : (n : ℕ) (ds fs : List Object) → Ascends n fs → AllByRecursion (λ o. regular o ≡ false) ds → AllByRecursion (λ o. regular o ≡ true) fs → keep regular (together ds fs) ≡ fs
together_files n [] fs r h k = keep_every regular fs k
together_files n (o ∷ ds) fs r h k =
    section_insert_other regular o (together ds fs) (split_together ds fs (split_ascends n fs r)) h.0 ∙ together_files n ds fs r h.1 k

together_at : (x : ℕ) (ds fs : List Object) → at x ds ≡ None → at x fs ≡ None → at x (together ds fs) ≡ None
together_at x [] fs h k = k
together_at x (o ∷ ds) fs h k = go (λ e. together_at x ds fs e k) (is x o) refl
  where
    go : (at x ds ≡ None → at x (together ds fs) ≡ None) → (b : Bool) → is x o ≡ b → at x (insert o (together ds fs)) ≡ None
    go ih true e = let z : Some o ≡ None = sym (cond-true (is x o) (Some o) (at x ds) e) ∙ h in absurd (none-some o (sym z))
    go ih false e = at_insert_other o (together ds fs) x (eqb-false o.number x e) ∙ ih (sym (cond-false (is x o) (Some o) (at x ds) e) ∙ h)

pub together_ascends : (n : ℕ) (ds fs : List Object) → Ascends n ds → Ascends n fs → AllByRecursion (λ o. at o.number fs ≡ None) ds → Ascends n (together ds fs)
together_ascends n [] fs r s h = s
together_ascends n (o ∷ ds) fs r s h =
    ascends_insert n o (together ds fs) r.0
    (together_at o.number ds fs (at_low o.number (suc o.number) ds (omega arith) r.1) h.0)
    (together_ascends n ds fs (ascends_weaker n (suc o.number) ds (omega (arith, r.0)) r.1) s h.1)

-- ---- questions of the list, asked of its sections

pub at_sections : (x n : ℕ) (l : List Object) → Ascends n l → at x l ≡ or_else (at x (keep directory l)) (at x (keep regular l))
at_sections x n l r = rw (at_keep directory x n l r, at_keep regular x n l r) (go (at x l))
  where
    go : (u : Option Object) → u ≡ or_else (only directory u) (only regular u)
    go None = refl
    go (Some o) = let k = kinds o in grind (arith, cases_Bool (directory o))

pub some_sections : (q : Object → Bool) (l : List Object) → some_of q l ≡ (some_of q (keep directory l) || some_of q (keep regular l))
some_sections q [] = refl
some_sections q (o ∷ l) =
    let ih = some_sections q l in
    let k = kinds o in
    grind (arith, cases_Bool (directory o), cases_Bool (q o), cases_Bool (some_of q (keep directory l)))

pub length_sections : (l : List Object) → length l ≡ length (keep directory l) + length (keep regular l)
length_sections [] = refl
length_sections (o ∷ l) = let ih = length_sections l in let k = kinds o in grind (arith, cases_Bool (directory o))

-- the smaller of two numbers, either of which may be missing
abbrev pub lesser : Option ℕ → Option ℕ → Option ℕ
lesser u None = u
lesser u (Some n) = smaller u n

lesser_first : (m : ℕ) (u : Option ℕ) → ((x : ℕ) → u ≡ Some x → m ≤ x) → Some m ≡ lesser (Some m) u
lesser_first m None h = refl
lesser_first m (Some x) h = let k : m ≡ min m x = omega (arith, h x refl) in ap Some k

lesser_second : (m : ℕ) (u : Option ℕ) → ((x : ℕ) → u ≡ Some x → m ≤ x) → Some m ≡ lesser u (Some m)
lesser_second m None h = refl
lesser_second m (Some x) h = let k : m ≡ min x m = omega (arith, h x refl) in ap Some k

-- a child of p above a
abbrev pub child_above : ℕ → ℕ → Object → Bool
child_above p a o = child_of p o && ltb a o.number

module _ (p a : ℕ) where
  child_from : (n : ℕ) (l : List Object) → Ascends n l → (x : ℕ) → child p a l ≡ Some x → n ≤ x
  child_from n l r x e = let w = (child_given p a n l r x e).0 in ascends_at x n w.0 l r w.1

  pub child_sections : (n : ℕ) (l : List Object) → Ascends n l → child p a l ≡ lesser (child p a (keep directory l)) (child p a (keep regular l))
  child_sections n [] r = refl
  child_sections n (o ∷ l) r = go (child_sections (suc o.number) l r.1) (directory o) refl (child_above p a o) refl
    where
      D : List Object
      D = keep directory l

      F : List Object
      F = keep regular l

      taken : (u : Option ℕ) → child_above p a o ≡ true → cond (child_above p a o) (Some o.number) u ≡ Some o.number
      taken u = cond-true (child_above p a o) (Some o.number) u

      passed : (u : Option ℕ) → child_above p a o ≡ false → cond (child_above p a o) (Some o.number) u ≡ u
      passed u = cond-false (child_above p a o) (Some o.number) u

      later : (q : Object → Bool) (x : ℕ) → child p a (keep q l) ≡ Some x → o.number ≤ x
      later q x e = omega (arith, child_from (suc o.number) (keep q l) (ascends_keep q (suc o.number) l r.1) x e)

      go : child p a l ≡ lesser (child p a (keep directory l)) (child p a (keep regular l)) → (b : Bool) → directory o ≡ b → (c : Bool) → child_above p a o ≡ c → child p a (o ∷ l) ≡ lesser (child p a (keep directory (o ∷ l))) (child p a (keep regular (o ∷ l)))
      go ih true d true e =
          rw (d, kinds o ∙ ap not d)
          (taken (child p a l) e ∙ lesser_first o.number (child p a F) (later regular) ∙ ap (λ z. lesser z (child p a F)) (sym (taken (child p a D) e)))
      go ih true d false e = rw (d, kinds o ∙ ap not d) (passed (child p a l) e ∙ ih ∙ ap (λ z. lesser z (child p a F)) (sym (passed (child p a D) e)))
      go ih false d true e =
          rw (d, kinds o ∙ ap not d)
          (taken (child p a l) e ∙ lesser_second o.number (child p a D) (later directory) ∙ ap (lesser (child p a D)) (sym (taken (child p a F) e)))
      go ih false d false e = rw (d, kinds o ∙ ap not d) (passed (child p a l) e ∙ ih ∙ ap (lesser (child p a D)) (sym (passed (child p a F) e)))

  -- the first by place that is a child of p above a
  module _ (none : Object) where
    pub child_at : (l : List Object) (i : ℕ) → i < length l → ((j : ℕ) → j < i → child_above p a (get_or l j none) ≡ false) → child_above p a (get_or l i none) ≡ true → child p a l ≡ Some (get_or l i none).number
    child_at [] i h b e = absurd (omega arith)
    child_at (o ∷ l) zero h b e = cond-true (child_above p a o) _ _ e
    child_at (o ∷ l) (suc i) h b e =
        cond-false (child_above p a o) _ _ (b 0 (omega arith)) ∙ child_at l i (omega arith) (λ j k. b (suc j) (omega arith)) e

    pub child_nowhere : (l : List Object) → ((j : ℕ) → j < length l → child_above p a (get_or l j none) ≡ false) → child p a l ≡ None
    child_nowhere [] h = refl
    child_nowhere (o ∷ l) h =
        cond-false (child_above p a o) _ _ (h 0 (omega arith)) ∙ child_nowhere l (λ j k. h (suc j) (omega arith))
