-- The stamp that a list of records awaits of a file that is older than the list. Assumes nothing.
--     awaits x e       the stamp that e expects of the file x, or none
--     sooner o p       o, or p where o is none
--     awaited x rs     the first stamp that rs expects of x, or none
use Rattle.std.proofs.Common.{◌≡◌, ℕ, ◌<◌, ◌≤◌, Bool, true, false, cond, not, ◌&&◌, eqb, List, [], ◌∷◌, ◌++◌, Some, None, Option, refl, ◌∙◌, arith, rules}
use Rattle.std.proofs.lemmas.Bool.{or_parts, and_parts, eqb-true, ne_eqb, leb-true}
use Rattle.std.proofs.lemmas.Bool.Decides.{nat_tests}
use Rattle.model.specs.Cancelling.{born, erase_object, erase_store, named_by_other}
use Rattle.model.specs.Records.{Edit, Record, create, mkdir, object, remove, rename, rmdir, stamp_of, store, stores}
use Rattle.tree.specs.Trees.{keep, some_of}
use Rattle.vocab.specs.declared.stamp.Stamp.{Stamp}
use Rattle.vocab.specs.Limits.{temporary}
use Rattle.law.proofs.Entering.{Alone, Lone, cancel, expected, touches}
use Rattle.law.proofs.Runs.{rec}

abbrev pub awaits : ℕ → Edit → Option Stamp
awaits x (mkdir y p n) = None
awaits x (create y p n) = None
awaits x (store y c f) = cond (eqb y x) (Some f) None
awaits x (remove y p n f) = cond (eqb y x) (Some f) None
awaits x (rmdir y p n) = None
awaits x (rename y p n q m) = None

abbrev pub sooner : Option Stamp → Option Stamp → Option Stamp
sooner None o = o
sooner (Some f) o = Some f

abbrev pub awaited : ℕ → List Record → Option Stamp
awaited x [] = None
awaited x (r ∷ rs) = sooner (awaits x r.edit) (awaited x rs)

awaits_none : (x : ℕ) (s : Stamp) (e : Edit) → touches x (rec s e) ≡ false → awaits x e ≡ None
awaits_none x s e h = search rules

awaited_keep : (x : ℕ) (p : Record → Bool) → ((r : Record) → p r ≡ false → touches x r ≡ false) → (rs : List Record) → awaited x (keep p rs) ≡ awaited x rs
awaited_keep x p k [] = refl
awaited_keep x p k (r ∷ rs) =
    let ih = awaited_keep x p k rs in
    let none : p r ≡ false → awaits x r.edit ≡ None = λ f. awaits_none x (stamp_of r) r.edit (k r f) in
    grind (arith, nat_tests, none)

pub awaited_push : (x : ℕ) (rs : List Record) (r : Record) → awaited x (rs ++ (r ∷ [])) ≡ sooner (awaited x rs) (awaits x r.edit)
awaited_push x [] r = search rules
awaited_push x (q ∷ rs) r = let ih = awaited_push x rs r in search rules

pub untouched : (x : ℕ) (rs : List Record) → some_of (touches x) rs ≡ false → awaited x rs ≡ None
untouched x [] h = refl
untouched x (r ∷ rs) h = let k = or_parts (touches x r) (some_of (touches x) rs) h in rw (awaits_none x (stamp_of r) r.edit k.0) (untouched x rs k.1)

-- without the first store of x: what the list then awaits, or what the next record takes over
abbrev Takes : ℕ → List Record → Stamp → Type 0
Takes x rs t = sooner (awaited x (erase_store x rs)) (Some (expected x t rs)) ≡ sooner (awaited x rs) (Some t)

takes_step : (x : ℕ) (t s : Stamp) (e : Edit) (rs : List Record) → Alone e rs → Takes x rs t → Takes x (rec s e ∷ rs) t
takes_step x t s e rs a ih = search (rules, eqb-true, untouched)

takes : (x : ℕ) (t : Stamp) (rs : List Record) → Lone rs → Takes x rs t
takes x t [] a = refl
takes x t (r ∷ rs) a = takes_step x t (stamp_of r) r.edit rs a.0 (takes x t rs a.1)

apart : (x y : ℕ) (r : Record) → eqb y x ≡ false → not (eqb (object r.edit) y) ≡ false → touches x r ≡ false
apart x y r h k = grind (arith, nat_tests)

stores_apart : (x y : ℕ) (s : Stamp) (e : Edit) → eqb y x ≡ false → stores y e ≡ true → awaits x e ≡ None
stores_apart x y s e h k = search rules

awaited_erase : (x y : ℕ) → eqb y x ≡ false → (rs : List Record) → awaited x (erase_store y rs) ≡ awaited x rs
awaited_erase x y h [] = refl
awaited_erase x y h (r ∷ rs) =
    let ih = awaited_erase x y h rs in
    let none = stores_apart x y (stamp_of r) r.edit h in
    grind (arith, nat_tests, none)

born_late : (k y : ℕ) → born k y ≡ true → temporary ≤ y
born_late k y h = leb-true temporary y (and_parts _ _ h).0

-- what a log awaits of an older file, a record more
module _ (x : ℕ) (old : x < temporary) (rs : List Record) (lone : Lone rs) where
  after_store : (y : ℕ) (s : Stamp) (t : Stamp) (f : Stamp → Edit) → ((t : Stamp) → awaits x (f t) ≡ cond (eqb y x) (Some t) None) → awaited x (erase_store y rs ++ (rec s (f (expected y t rs)) ∷ [])) ≡ sooner (awaited x rs) (awaits x (f t))
  after_store y s t f k = grind (arith, nat_tests, awaited_push, takes, awaited_erase)

  after_gone : (y : ℕ) → temporary ≤ y → awaited x (erase_object y rs) ≡ awaited x rs
  after_gone y h = awaited_keep x (λ r. not (eqb (object r.edit) y)) (λ r k. apart x y r (ne_eqb y x (λ e. omega arith)) k) rs

  none_after : (o : Option Stamp) → o ≡ sooner o None
  none_after None = refl
  none_after (Some f) = refl

  pub awaited_cancel : (k : ℕ) (s : Stamp) (e : Edit) → awaited x (cancel (born k) rs (rec s e)) ≡ sooner (awaited x rs) (awaits x e)
  awaited_cancel k s (mkdir y p n) = awaited_push x rs (rec s (mkdir y p n))
  awaited_cancel k s (create y p n) = awaited_push x rs (rec s (create y p n))
  awaited_cancel k s (store y c t) = after_store y s t (λ t. store y c t) (λ t. refl)
  awaited_cancel k s (remove y p n t) = go (born k y) refl
    where
      go : (b : Bool) → born k y ≡ b → awaited x (cond b (erase_object y rs) (erase_store y rs ++ (rec s (remove y p n (expected y t rs)) ∷ []))) ≡ sooner (awaited x rs) (cond (eqb y x) (Some t) None)
      go true g = let le = born_late k y g in rw (ne_eqb y x (λ e. omega arith)) (after_gone y le ∙ none_after (awaited x rs))
      go false g = after_store y s t (λ t. remove y p n t) (λ t. refl)
  awaited_cancel k s (rmdir y p n) = go (born k y && not (named_by_other y rs)) refl
    where
      go : (b : Bool) → (born k y && not (named_by_other y rs)) ≡ b → awaited x (cond b (erase_object y rs) (rs ++ (rec s (rmdir y p n) ∷ []))) ≡ sooner (awaited x rs) None
      go true g = after_gone y (born_late k y (and_parts _ _ g).0) ∙ none_after (awaited x rs)
      go false g = awaited_push x rs (rec s (rmdir y p n))
  awaited_cancel k s (rename y p n q m) = awaited_push x rs (rec s (rename y p n q m))
