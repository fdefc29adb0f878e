-- The numbers that a spell knows. Assumes nothing.
use Rattle.std.proofs.Common.{◌≡◌, ℕ, ◌+◌, ◌<◌, ◌≤◌, true, not, eqb, List, [], ◌∷◌, Some, None, Option, refl, ap, subst, inl, inr, arith, rules}
use Rattle.std.specs.List.{AllByRecursion}
use Rattle.std.proofs.ByRecursion.{All-append}
use Rattle.std.proofs.lemmas.Bool.{or_cases, and_parts, eqb-true, eq-eqb, cond_both}
use Rattle.vocab.specs.Limits.{temporary}
use Rattle.model.proofs.Each.{all_keep, all_at}
use Rattle.model.specs.Applying.{effect, stands}
use Rattle.model.specs.Records.{Edit, create, mkdir, object, remove, rename, rmdir, store}
use Rattle.tree.specs.Changes.{fresh, with_contents, with_place}
use Rattle.tree.specs.Questions.{dir_at, is_dir, is_some, placed}
use Rattle.tree.specs.Trees.{Object, at, change, higher, insert, is, keep, lower}
use Rattle.tree.proofs.Changed.{at_number, file_some, dir_some, some_some}
use Rattle.vocab.specs.declared.kind.Kind.TheVariants.{Directory, File}
use Rattle.vocab.specs.declared.stamp.Stamp.{Stamp}
use Rattle.vocab.specs.Checks.{Holds}
use Rattle.model.specs.Past.{given}
use Rattle.law.specs.Spells.{Numbered}
use Rattle.law.proofs.Entering.{births}
use Rattle.law.proofs.Runs.{tests}
use Rattle.law.proofs.Settle.{Known, Knows}

abbrev pub Placed : ℕ → ℕ → Object → Type 0
Placed m n o = Known m n o.number × Known m n o.parent × (2 ≤ o.number)

pub known_more : (m n k x : ℕ) → Known m n x → Known m (n + k) x
known_more m n k x (inl h) = inl h
known_more m n k x (inr h) = inr (h.0, omega arith)

pub knows_more : (m n k : ℕ) (e : Edit) → Knows m n e → Knows m (n + k) e
knows_more m n k e h = search rules

pub at_all : (P : Object → Type 0) (y : ℕ) (l : List Object) → AllByRecursion P l → is_some (at y l) ≡ true → (o : Object) × (at y l ≡ Some o) × P o
at_all P y l h e = let v = some_some (at y l) e in (v.0, v.1, all_at P y v.0 l h v.1)

stands_some : (p : ℕ) (n : List ℕ) (r : Option Object) → stands p n r ≡ true → is_some r ≡ true
stands_some p n None h = h
stands_some p n (Some o) h = refl

module _ (m n : ℕ) (root : 1 < m) (l : List Object) (objs : AllByRecursion (Placed m n) l) where
  known_at : (y : ℕ) → is_some (at y l) ≡ true → Known m n y
  known_at y h = let k = at_all (Placed m n) y l objs h in subst (Known m n) (eqb-true k.0.number y (at_number y k.0 l k.1)) k.2.0

  known_dir : (p : ℕ) → dir_at p l ≡ true → Known m n p
  known_dir p h = elim (or_cases (eqb p 1) (is_dir (at p l)) h) [ inl e ↦ inl (omega (arith, eqb-true p 1 e)) | inr e ↦ known_at p (ap is_some (dir_some (at p l) e).1) ]

  known_parent : (y p : ℕ) (o : List ℕ) → stands p o (at y l) ≡ true → Known m n p
  known_parent y p o h =
      let k = at_all (Placed m n) y l objs (stands_some p o (at y l) h) in
      let s : placed p o k.0 ≡ true = rw k.1 at h in
      subst (Known m n) (eqb-true k.0.parent p (and_parts _ _ s).0) k.2.1

  new_known : (y : ℕ) → y ≡ temporary + n → Known m (n + 1) y
  new_known y e = inr (omega arith, omega arith)

  pub knows : (cap : ℕ) (e : Edit) → Numbered n e → Holds (tests cap e l) → Knows m (n + given e) e
  knows cap (mkdir y p o) k h = (new_known y k, known_more m n 1 p (known_dir p h.0))
  knows cap (create y p o) k h = (new_known y k, known_more m n 1 p (known_dir p h.0))
  knows cap (store y c e) k h = (known_more m n 0 y (known_at y (file_some (at y l) h.0)), tt)
  knows cap (remove y p o e) k h = (known_more m n 0 y (known_at y (file_some (at y l) h.0)), known_more m n 0 p (known_parent y p o h.1.0))
  knows cap (rmdir y p o) k h = (known_more m n 0 y (known_at y (ap is_some (dir_some (at y l) h.0).1)), known_more m n 0 p (known_parent y p o h.1.0))
  knows cap (rename y p o q r) k h = (known_more m n 0 y (known_at y h.0), known_more m n 0 p (known_parent y p o h.1.0), known_more m n 0 q (known_dir q h.1.1.0))

pub all_insert : (P : Object → Type 0) (o : Object) (l : List Object) → P o → AllByRecursion P l → AllByRecursion P (insert o l)
all_insert P o l k h = All-append P (keep (lower o.number) l) (o ∷ keep (higher o.number) l) (all_keep P (lower o.number) l h) (k, all_keep P (higher o.number) l h)

pub all_change : (P : Object → Type 0) (x : ℕ) (g : Object → Object) → ((o : Object) → P o → P (g o)) → (l : List Object) → AllByRecursion P l → AllByRecursion P (change x g l)
all_change P x g k [] h = tt
all_change P x g k (o ∷ l) h = (cond_both (is x o) (g o) o P (λ _. k o h.0) (λ _. h.0), all_change P x g k l h.1)

module _ (m n : ℕ) where
  pub placed_effect : (s : Stamp) (e : Edit) (l : List Object) → Knows m n e → ((births (object e) e ≡ true) → 2 ≤ object e) → AllByRecursion (Placed m n) l → AllByRecursion (Placed m n) (effect s e l)
  placed_effect s (mkdir y p o) l k big h = all_insert (Placed m n) (fresh Directory p o y s) l (k.0, k.1, big (eq-eqb y y refl)) h
  placed_effect s (create y p o) l k big h = all_insert (Placed m n) (fresh File p o y s) l (k.0, k.1, big (eq-eqb y y refl)) h
  placed_effect s (store y c e) l k big h = all_change (Placed m n) y (with_contents c s) (λ o g. g) l h
  placed_effect s (remove y p o e) l k big h = all_keep (Placed m n) (λ q. not (is y q)) l h
  placed_effect s (rmdir y p o) l k big h = all_keep (Placed m n) (λ q. not (is y q)) l h
  placed_effect s (rename y p o q r) l k big h = all_change (Placed m n) y (with_place q r) (λ o g. (g.0, k.2, g.2)) l h
