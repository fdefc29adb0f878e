-- Temporary numbers settled: what cancels is the same. Assumes nothing.
use Rattle.std.proofs.Common.{◌≡◌, ℕ, ◌+◌, ◌-◌, ◌<◌, ◌≤◌, Bool, true, false, cond, not, ◌&&◌, eqb, ltb, leb, ◌⊎◌, List, [], ◌∷◌, ◌++◌, map, sym, refl, ap, ◌∙◌, ap₂, inl, inr, arith, rules}
use Rattle.std.specs.List.{AllByRecursion}
use Rattle.std.proofs.ByRecursion.{All-weaker}
use Rattle.std.proofs.lemmas.Bool.{and_from, and_left, eq-eqb, ne_eqb, cases_eq, lt-ltb, lt-leb, le-leb}
use Rattle.vocab.specs.Limits.{temporary}
use Rattle.std.proofs.lemmas.Bool.Decides.{nat_tests}
use Rattle.model.specs.Cancelling.{born, erase_object, erase_store, named_by_other, stored_before}
use Rattle.model.specs.Records.{Edit, Record, create, mkdir, names, object, remove, rename, rmdir, stamp_of, store, stores}
use Rattle.model.specs.Replaying.{settle, settled, settled_edit}
use Rattle.tree.specs.Trees.{keep, some_of}
use Rattle.tree.proofs.Lists.{map_append}
use Rattle.vocab.specs.declared.stamp.Stamp.{Stamp}
use Rattle.law.proofs.Entering.{cancel, expected, instead}
use Rattle.law.proofs.Runs.{rec}

-- a number below m, or one of the first n temporary ones
abbrev pub Known : ℕ → ℕ → ℕ → Type 0
Known m n x = (x < m) ⊎ ((temporary ≤ x) × (x < temporary + n))

abbrev pub Knows : ℕ → ℕ → Edit → Type 0
Knows m k (mkdir x p n) = Known m k x × Known m k p
Knows m k (create x p n) = Known m k x × Known m k p
Knows m k (store x c e) = Known m k x × Unit {0}
Knows m k (remove x p n e) = Known m k x × Known m k p
Knows m k (rmdir x p n) = Known m k x × Known m k p
Knows m k (rename x p n q o) = Known m k x × Known m k p × Known m k q

pub keep_map_all : {X : Type 0} (p q : X → Bool) (g : X → X) (l : List X) → AllByRecursion (λ x. p (g x) ≡ q x) l → keep p (map g l) ≡ map g (keep q l)
keep_map_all p q g [] h = refl
keep_map_all p q g (x ∷ l) h = let ih = keep_map_all p q g l h.1 in grind (arith, nat_tests, h.0)

pub some_map_all : {X : Type 0} (p q : X → Bool) (g : X → X) (l : List X) → AllByRecursion (λ x. p (g x) ≡ q x) l → some_of p (map g l) ≡ some_of q l
some_map_all p q g [] h = refl
some_map_all p q g (x ∷ l) h = rw (h.0, some_map_all p q g l h.1)

eqb_iff : (a b c d : ℕ) → (a ≡ b → c ≡ d) → (c ≡ d → a ≡ b) → eqb a b ≡ eqb c d
eqb_iff a b c d f g = elim (cases_eq a b) [ inl e ↦ eq-eqb a b e ∙ sym (eq-eqb c d (f e)) | inr e ↦ ne_eqb a b e ∙ sym (ne_eqb c d (λ h. e (g h))) ]

-- N numbers were given out at last, n of them so far
module _ (m n b N : ℕ) (mb : m ≤ b) (bt : b ≤ temporary) (more : n ≤ N) where
  born_low : (k x : ℕ) → x < m → born k x ≡ false
  born_low k x h = and_left (leb temporary x) (ltb x (temporary + k)) (lt-leb temporary x (omega arith))

  born_high : (k x : ℕ) → n ≤ k → (temporary ≤ x) × (x < temporary + n) → born k x ≡ true
  born_high k x le h = and_from (leb temporary x) (ltb x (temporary + k)) (le-leb temporary x h.0) (lt-ltb x (temporary + k) (omega (arith, h.1)))

  settle_low : (x : ℕ) → x < m → settle b N x ≡ x
  settle_low x h = rw (born_low N x h)

  settle_high : (x : ℕ) → (temporary ≤ x) × (x < temporary + n) → settle b N x ≡ b + (x - temporary)
  settle_high x h = rw (born_high N x more h)

  pub settle_eq : (x y : ℕ) → Known m n x → Known m n y → eqb (settle b N x) (settle b N y) ≡ eqb x y
  settle_eq x y (inl h) (inl k) = rw (settle_low x h, settle_low y k)
  settle_eq x y (inl h) (inr k) = rw (settle_low x h, settle_high y k) (eqb_iff x (b + (y - temporary)) x y (omega (arith, k.0)) (omega (arith, k.0)))
  settle_eq x y (inr h) (inl k) = rw (settle_low y k, settle_high x h) (eqb_iff (b + (x - temporary)) y x y (omega (arith, h.0)) (omega (arith, h.0)))
  settle_eq x y (inr h) (inr k) = rw (settle_high x h, settle_high y k) (eqb_iff (b + (x - temporary)) (b + (y - temporary)) x y (omega (arith, h.0, k.0)) (omega (arith, h.0, k.0)))

  pub settle_born : (x : ℕ) → Known m n x → leb b (settle b N x) ≡ born n x
  settle_born x (inl h) = ap (leb b) (settle_low x h) ∙ lt-leb b x (omega arith) ∙ sym (born_low n x h)
  settle_born x (inr h) = ap (leb b) (settle_high x h) ∙ le-leb b (b + (x - temporary)) (omega arith) ∙ sym (born_high n x (omega arith) h)

  pub object_settled : (x : ℕ) → Known m n x → (e : Edit) → Knows m n e → eqb (object (settled_edit b N e)) (settle b N x) ≡ eqb (object e) x
  object_settled x k e h = search rules

  pub stores_settled : (x : ℕ) → Known m n x → (e : Edit) → Knows m n e → stores (settle b N x) (settled_edit b N e) ≡ stores x e
  stores_settled x k e h = search rules

  names_settled : (x : ℕ) → Known m n x → (e : Edit) → Knows m n e → names (settle b N x) (settled_edit b N e) ≡ names x e
  names_settled x k e h = search (rules, settle_eq)

  abbrev pub AllKnown : List Record → Type 0
  AllKnown rs = AllByRecursion (λ r. Knows m n r.edit) rs

  stored_settled : (x : ℕ) → Known m n x → (rs : List Record) → AllKnown rs → stored_before (settle b N x) (map (settled b N) rs) ≡ stored_before x rs
  stored_settled x k [] h = refl
  stored_settled x k (r ∷ rs) h = let ih = stored_settled x k rs h.1 in search rules

  pub erase_store_settled : (x : ℕ) → Known m n x → (rs : List Record) → AllKnown rs → erase_store (settle b N x) (map (settled b N) rs) ≡ map (settled b N) (erase_store x rs)
  erase_store_settled x k [] h = refl
  erase_store_settled x k (r ∷ rs) h =
      let ih = erase_store_settled x k rs h.1 in
      let same = stores_settled x k r.edit h.0 in
      grind (arith, nat_tests)

  module _ (rs : List Record) (known : AllKnown rs) where
    expected_settled : (x : ℕ) → Known m n x → (e : Stamp) → expected (settle b N x) e (map (settled b N) rs) ≡ expected x e rs
    expected_settled x k e = ap (instead e) (stored_settled x k rs known)

    erase_object_settled : (x : ℕ) → Known m n x → erase_object (settle b N x) (map (settled b N) rs) ≡ map (settled b N) (erase_object x rs)
    erase_object_settled x k = keep_map_all (λ r. not (eqb (object r.edit) (settle b N x))) (λ r. not (eqb (object r.edit) x)) (settled b N) rs (All-weaker (λ r. Knows m n r.edit) _ (λ r h. ap not (object_settled x k r.edit h)) rs known)

    named_settled : (x : ℕ) → Known m n x → named_by_other (settle b N x) (map (settled b N) rs) ≡ named_by_other x rs
    named_settled x k = some_map_all (λ r. not (eqb (object r.edit) (settle b N x)) && names (settle b N x) r.edit) (λ r. not (eqb (object r.edit) x) && names x r.edit) (settled b N) rs (All-weaker (λ r. Knows m n r.edit) _ (λ r h. ap₂ (λ u v. not u && v) (object_settled x k r.edit h) (names_settled x k r.edit h)) rs known)

    cancel_settled_edit : (s : Stamp) (e : Edit) → Knows m n e → map (settled b N) (cancel (born n) rs (rec s (e))) ≡ cancel (leb b) (map (settled b N) rs) (rec s (settled_edit b N e))
    cancel_settled_edit s (mkdir x p o) h = map_append (settled b N) rs _
    cancel_settled_edit s (create x p o) h = map_append (settled b N) rs _
    cancel_settled_edit s (store x c e) h = rw (map_append (settled b N) (erase_store x rs) (rec s (store x c (expected x e rs)) ∷ []), erase_store_settled x h.0 rs known, expected_settled x h.0 e)
    cancel_settled_edit s (remove x p o e) h = rw (settle_born x h.0, erase_store_settled x h.0 rs known, erase_object_settled x h.0, expected_settled x h.0 e) (go (born n x))
      where
        go : (t : Bool) → map (settled b N) (cond t (erase_object x rs) (erase_store x rs ++ (rec s (remove x p o (expected x e rs)) ∷ []))) ≡ cond t (map (settled b N) (erase_object x rs)) (map (settled b N) (erase_store x rs) ++ (rec s (remove (settle b N x) (settle b N p) o (expected x e rs)) ∷ []))
        go true = refl
        go false = map_append (settled b N) (erase_store x rs) _
    cancel_settled_edit s (rmdir x p o) h = rw (settle_born x h.0, named_settled x h.0, erase_object_settled x h.0) (go (born n x && not (named_by_other x rs)))
      where
        go : (t : Bool) → map (settled b N) (cond t (erase_object x rs) (rs ++ (rec s (rmdir x p o) ∷ []))) ≡ cond t (map (settled b N) (erase_object x rs)) (map (settled b N) rs ++ (rec s (rmdir (settle b N x) (settle b N p) o) ∷ []))
        go true = refl
        go false = map_append (settled b N) rs _
    cancel_settled_edit s (rename x p o q r) h = map_append (settled b N) rs _

    pub cancel_settled : (r : Record) → Knows m n r.edit → map (settled b N) (cancel (born n) rs r) ≡ cancel (leb b) (map (settled b N) rs) (settled b N r)
    cancel_settled r h = cancel_settled_edit (stamp_of r) r.edit h
