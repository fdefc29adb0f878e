-- A record more, with what it cancels, leaves the same objects. Assumes nothing.
use Rattle.std.proofs.Common.{◌≡◌, ℕ, ◌≤◌, Bool, true, false, cond, not, ◌&&◌, ◌||◌, eqb, leb, ◌⊎◌, List, [], ◌∷◌, ◌++◌, sym, refl, ap, ◌∙◌, subst, inl, inr, arith, rules}
use Rattle.std.proofs.lemmas.Bool.{or_parts, and_parts, eqb-true, leb-true, not-true}
use Rattle.std.proofs.lemmas.Bool.Decides.{nat_tests}
use Rattle.model.specs.Applying.{effect, stamped}
use Rattle.model.specs.Cancelling.{erase_object, erase_store, named_by_other}
use Rattle.model.specs.Records.{Edit, Record, create, mkdir, names, object, remove, rename, rmdir, stamp_of, store}
use Rattle.tree.specs.Changes.{with_contents}
use Rattle.tree.specs.Questions.{child_of, has_child, is_file}
use Rattle.tree.specs.Trees.{Object, at, change, is, some_of, without}
use Rattle.tree.proofs.Lists.{keep_same, some_weaker}
use Rattle.tree.proofs.Objects.{Split, without_own_change}
use Rattle.vocab.specs.declared.stamp.Stamp.{Stamp}
use Rattle.vocab.specs.Checks.{Holds}
use Rattle.law.proofs.Delay.{child_put, delay, stands_put}
use Rattle.law.proofs.Entering.{Alone, Lone, cancel, expected, lands, lands_other, touches}
use Rattle.law.proofs.Erase.{erase}
use Rattle.law.proofs.Runs.{Passes, final, rec, tests}

-- without the store of f the records leave the same, or the file as it was before that store
abbrev Way : ℕ → Stamp → List Record → List Object → Type 0
Way f e rs l =
    ((final rs l ≡ final (erase_store f rs) l) × (expected f e rs ≡ e))
    ⊎ ((s : Stamp) × (c : List ℕ) × (final rs l ≡ change f (with_contents c s) (final (erase_store f rs) l)) × (is_file (at f (final (erase_store f rs) l)) ≡ true) × (stamped (expected f e rs) (at f (final (erase_store f rs) l)) ≡ true))

record Late (cap f : ℕ) (e : Stamp) (rs : List Record) (l : List Object) : Type 0 where
  pub passes : Passes cap (erase_store f rs) l
  pub way : Way f e rs l

late_step : (cap f : ℕ) (e : Stamp) (s : Stamp) (t : Edit) (rs : List Record) (l : List Object) → (Late cap f e rs (effect s t l)) → Alone t rs → Passes cap (rec s t ∷ rs) l → Late cap f e (rec s t ∷ rs) l
late_step cap f e s (mkdir y p n) rs l ih a h = record { passes = (h.0, ih.passes); way = ih.way }
late_step cap f e s (create y p n) rs l ih a h = record { passes = (h.0, ih.passes); way = ih.way }
late_step cap f e s (store y c t) rs l ih a h = go (eqb y f) refl
  where
    go : (b : Bool) → eqb y f ≡ b → Late cap f e (rec s (store y c t) ∷ rs) l
    go false g = record { passes = rw g (h.0, ih.passes); way = rw g ih.way }
    go true g =
        let y=f : y ≡ f = eqb-true y f g in
        let only : some_of (touches f) rs ≡ false = rw y=f at a in
        let d = delay cap f s t c rs l (rw y=f at h.0.0) (rw y=f at h.0.1.0) only (subst (λ k. Passes cap rs (change k (with_contents c s) l)) y=f h.1) in
        record {
          passes = rw g d.0;
          way = rw g (inr (s, c, subst (λ k. final rs (change k (with_contents c s) l) ≡ change f (with_contents c s) (final rs l)) (sym y=f) d.1, d.2, d.3));
        }
late_step cap f e s (remove y p n t) rs l ih a h = record { passes = (h.0, ih.passes); way = ih.way }
late_step cap f e s (rmdir y p n) rs l ih a h = record { passes = (h.0, ih.passes); way = ih.way }
late_step cap f e s (rename y p n q m) rs l ih a h = record { passes = (h.0, ih.passes); way = ih.way }

late : (cap f : ℕ) (e : Stamp) (rs : List Record) (l : List Object) → Lone rs → Passes cap rs l → Late cap f e rs l
late cap f e [] l a h = record { passes = tt; way = inl (refl, refl) }
late cap f e (r ∷ rs) l a h = late_step cap f e (stamp_of r) r.edit rs l (late cap f e rs (effect (stamp_of r) r.edit l) a.1 h.1) a.0 h

pub passes_push : (cap : ℕ) (rs : List Record) (r : Record) (l : List Object) → Passes cap rs l → Holds (tests cap r.edit (final rs l)) → Passes cap (rs ++ (r ∷ [])) l
passes_push cap [] r l h k = (k, tt)
passes_push cap (q ∷ rs) r l h k = (h.0, passes_push cap rs r (effect (stamp_of q) q.edit l) h.1 k)

pub passes_front : (cap : ℕ) (rs : List Record) (r : Record) (l : List Object) → Passes cap (rs ++ (r ∷ [])) l → Passes cap rs l × Holds (tests cap r.edit (final rs l))
passes_front cap [] r l h = (tt, h.0)
passes_front cap (q ∷ rs) r l h = let k = passes_front cap rs r (effect (stamp_of q) q.edit l) h.1 in ((h.0, k.0), k.1)

pub final_push : (rs : List Record) (r : Record) (l : List Object) → final (rs ++ (r ∷ [])) l ≡ effect (stamp_of r) r.edit (final rs l)
final_push [] r l = refl
final_push (q ∷ rs) r l = final_push rs r (effect (stamp_of q) q.edit l)

over_put : (f : ℕ) (s t : Stamp) (c d : List ℕ) (l : List Object) → change f (with_contents d t) (change f (with_contents c s) l) ≡ change f (with_contents d t) l
over_put f s t c d [] = refl
over_put f s t c d (o ∷ l) = let ih = over_put f s t c d l in grind (arith, nat_tests)

-- us pass and leave what rs leave
abbrev pub Alike : ℕ → List Object → List Record → List Record → Type 0
Alike cap l us rs = Passes cap us l × (final us l ≡ final rs l)

module _ (cap : ℕ) (rs : List Record) (l : List Object) (lone : Lone rs) (h : Passes cap rs l) where
  store_push : (f : ℕ) (c : List ℕ) (e s : Stamp) → Holds (tests cap (store f c e) (final rs l)) → Alike cap l (erase_store f rs ++ (rec s (store f c (expected f e rs)) ∷ [])) (rs ++ (rec s (store f c e) ∷ []))
  store_push f c e s k = go (late cap f e rs l lone h).way
    where
      us : List Record
      us = erase_store f rs

      make : Holds (tests cap (store f c (expected f e rs)) (final (erase_store f rs) l)) → change f (with_contents c s) (final (erase_store f rs) l) ≡ change f (with_contents c s) (final rs l) → Alike cap l (erase_store f rs ++ (rec s (store f c (expected f e rs)) ∷ [])) (rs ++ (rec s (store f c e) ∷ []))
      make a b = (passes_push cap us (rec s (store f c (expected f e rs))) l (late cap f e rs l lone h).passes a, final_push us (rec s (store f c (expected f e rs))) l ∙ b ∙ sym (final_push rs (rec s (store f c e)) l))

      go : Way f e rs l → Alike cap l (erase_store f rs ++ (rec s (store f c (expected f e rs)) ∷ [])) (rs ++ (rec s (store f c e) ∷ []))
      go (inl w) = make (rw (w.1, ← w.0) k) (ap (change f (with_contents c s)) (sym w.0))
      go (inr w) = make (w.3, (w.4, k.1.1)) (sym (ap (change f (with_contents c s)) w.2 ∙ over_put f w.0 s w.1 c (final (erase_store f rs) l)))

  remove_push : (f p : ℕ) (n : List ℕ) (e s : Stamp) → Holds (tests cap (remove f p n e) (final rs l)) → Alike cap l (erase_store f rs ++ (rec s (remove f p n (expected f e rs)) ∷ [])) (rs ++ (rec s (remove f p n e) ∷ []))
  remove_push f p n e s k = go (late cap f e rs l lone h).way
    where
      us : List Record
      us = erase_store f rs

      make : Holds (tests cap (remove f p n (expected f e rs)) (final (erase_store f rs) l)) → without f (final (erase_store f rs) l) ≡ without f (final rs l) → Alike cap l (erase_store f rs ++ (rec s (remove f p n (expected f e rs)) ∷ [])) (rs ++ (rec s (remove f p n e) ∷ []))
      make a b = (passes_push cap us (rec s (remove f p n (expected f e rs))) l (late cap f e rs l lone h).passes a, final_push us (rec s (remove f p n (expected f e rs))) l ∙ b ∙ sym (final_push rs (rec s (remove f p n e)) l))

      go : Way f e rs l → Alike cap l (erase_store f rs ++ (rec s (remove f p n (expected f e rs)) ∷ [])) (rs ++ (rec s (remove f p n e) ∷ []))
      go (inl w) = make (rw (w.1, ← w.0) k) (ap (without f) (sym w.0))
      go (inr w) =
          let moved : Holds (tests cap (remove f p n e) (change f (with_contents w.1 w.0) (final (erase_store f rs) l))) = rw w.2 at k in
          make (w.3, (sym (stands_put f w.0 w.1 (final (erase_store f rs) l) p n f) ∙ moved.1.0, (w.4, (ap not (sym (child_put f w.0 w.1 (final (erase_store f rs) l) f)) ∙ moved.1.1.1.0, tt))))
          (sym (ap (without f) w.2 ∙ without_own_change f (with_contents w.1 w.0) (λ o. refl) (final (erase_store f rs) l)))

-- no number and no parent from b up
abbrev pub from : ℕ → Object → Bool
from b o = leb b o.number || leb b o.parent

abbrev pub Below : ℕ → List Object → Type 0
Below b l = some_of (from b) l ≡ false

absent : (b x : ℕ) (l : List Object) → Below b l → b ≤ x → without x l ≡ l
absent b x l k le = keep_same (λ o. not (is x o)) l (some_weaker (from b) (λ o. not (not (is x o))) (λ o e. grind (arith, nat_tests, or_parts (leb b o.number) (leb b o.parent) e)) l k)

childless : (b x : ℕ) (l : List Object) → Below b l → b ≤ x → has_child x l ≡ false
childless b x l k le = some_weaker (from b) (child_of x) (λ o e. grind (arith, nat_tests, or_parts (leb b o.number) (leb b o.parent) e)) l k

lands_names : (x : ℕ) (e : Edit) → names x e ≡ false → lands x e ≡ false
lands_names x e h = search rules

weaken : (x : ℕ) (r : Record) → (not (eqb (object r.edit) x) && names x r.edit) ≡ false → lands_other x r ≡ false
weaken x r h = grind (arith, nat_tests)

-- a file that the record removes has nothing put under it
abbrev pub Bare : ℕ → List Record → Edit → Type 0
Bare b rs (mkdir x p n) = Unit {0}
Bare b rs (create x p n) = Unit {0}
Bare b rs (store x c e) = Unit {0}
Bare b rs (remove x p n e) = b ≤ x → some_of (lands_other x) rs ≡ false
Bare b rs (rmdir x p n) = Unit {0}
Bare b rs (rename x p n q m) = Unit {0}

module _ (cap b : ℕ) (rs : List Record) (l : List Object) (asc : Split l) (below : Below b l) (lone : Lone rs) where
  gone : (x : ℕ) (s : Stamp) (e : Edit) → b ≤ x → some_of (lands_other x) rs ≡ false → Passes cap rs l → effect s e (final rs l) ≡ without x (final rs l) → Alike cap l (erase_object x rs) (rs ++ (rec s e ∷ []))
  gone x s e le n h k =
      let nox : without x l ≡ l = absent b x l below le in
      let got = erase cap x rs l (subst Split (sym nox) asc) (subst (λ z. has_child x z ≡ false) (sym nox) (childless b x l below le)) n h in
      (subst (Passes cap (erase_object x rs)) nox got.0, ap (final (erase_object x rs)) (sym nox) ∙ got.1 ∙ sym k ∙ sym (final_push rs (rec s e) l))

  cancel_alike : (s : Stamp) (e : Edit) → Bare b rs e → Passes cap (rs ++ (rec s e ∷ [])) l → Alike cap l (cancel (leb b) rs (rec s e)) (rs ++ (rec s e ∷ []))
  cancel_alike s (mkdir x p n) bare h = (h, refl)
  cancel_alike s (create x p n) bare h = (h, refl)
  cancel_alike s (store x c e) bare h = let k = passes_front cap rs (rec s (store x c e)) l h in store_push cap rs l lone k.0 x c e s k.1
  cancel_alike s (remove x p n e) bare h = go (leb b x) refl
    where
      k : Passes cap rs l × Holds (tests cap (remove x p n e) (final rs l))
      k = passes_front cap rs (rec s (remove x p n e)) l h

      go : (t : Bool) → leb b x ≡ t → Alike cap l (cond t (erase_object x rs) (erase_store x rs ++ (rec s (remove x p n (expected x e rs)) ∷ []))) (rs ++ (rec s (remove x p n e) ∷ []))
      go true f = gone x s (remove x p n e) (leb-true b x f) (bare (leb-true b x f)) k.0 refl
      go false f = remove_push cap rs l lone k.0 x p n e s k.1
  cancel_alike s (rmdir x p n) bare h = go (leb b x && not (named_by_other x rs)) refl
    where
      k : Passes cap rs l × Holds (tests cap (rmdir x p n) (final rs l))
      k = passes_front cap rs (rec s (rmdir x p n)) l h

      go : (t : Bool) → (leb b x && not (named_by_other x rs)) ≡ t → Alike cap l (cond t (erase_object x rs) (rs ++ (rec s (rmdir x p n) ∷ []))) (rs ++ (rec s (rmdir x p n) ∷ []))
      go true f =
          let both = and_parts (leb b x) (not (named_by_other x rs)) f in
          gone x s (rmdir x p n) (leb-true b x both.0) (some_weaker (λ r. not (eqb (object r.edit) x) && names x r.edit) (lands_other x) (weaken x) rs (not-true (named_by_other x rs) both.1)) k.0 refl
      go false f = (h, refl)
  cancel_alike s (rename x p n q m) bare h = (h, refl)

  pub one_step : (r : Record) → Bare b rs r.edit → Passes cap (rs ++ (r ∷ [])) l → Passes cap (cancel (leb b) rs r) l × (final (cancel (leb b) rs r) l ≡ final (rs ++ (r ∷ [])) l)
  one_step r bare h = cancel_alike (stamp_of r) r.edit bare h
