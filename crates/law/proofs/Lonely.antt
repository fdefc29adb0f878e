-- Each file has one store at most. Assumes nothing.
use Rattle.std.proofs.Common.{◌≡◌, ℕ, ◌≤◌, Bool, true, false, cond, not, ◌&&◌, eqb, List, [], ◌∷◌, ◌++◌, map, sym, refl, ap, ◌∙◌, subst, ap₂, rules}
use Rattle.std.specs.List.{AllByRecursion}
use Rattle.std.proofs.ByRecursion.{All-weaker}
use Rattle.std.proofs.lemmas.Bool.{or_parts, or_from, eqb-false, ne_eqb, cond_both, not-true}
use Rattle.vocab.specs.Limits.{temporary}
use Rattle.model.specs.Cancelling.{erase_store}
use Rattle.model.specs.Records.{Edit, Record, create, mkdir, remove, removes, rename, rmdir, stamp_of, store, stores}
use Rattle.model.specs.Replaying.{settle, settled, settled_edit}
use Rattle.tree.specs.Trees.{keep, some_of}
use Rattle.tree.proofs.Lists.{keep_same, some_append, some_keep, some_weaker}
use Rattle.vocab.specs.declared.stamp.Stamp.{Stamp}
use Rattle.law.proofs.Entering.{Alone, Lone, cancel, lands, lands_other, touches}
use Rattle.law.proofs.Runs.{rec}
use Rattle.law.proofs.Settle.{Known, Knows, object_settled, some_map_all}

alone_keep : (p : Record → Bool) (e : Edit) (rs : List Record) → Alone e rs → Alone e (keep p rs)
alone_keep p e rs a = search (rules, some_keep)

pub lone_keep : (p : Record → Bool) (rs : List Record) → Lone rs → Lone (keep p rs)
lone_keep p [] a = tt
lone_keep p (r ∷ rs) a =
    let ih = lone_keep p rs a.1 in
    cond_both (p r) (r ∷ keep p rs) (keep p rs) Lone (λ _. (alone_keep p r.edit rs a.0, ih)) (λ _. ih)

-- what holds of each record, or of none, does without a store
pub all_erase : (P : Record → Type 0) (x : ℕ) (rs : List Record) → AllByRecursion P rs → AllByRecursion P (erase_store x rs)
all_erase P x [] h = tt
all_erase P x (r ∷ rs) h = cond_both (stores x r.edit) rs (r ∷ erase_store x rs) (AllByRecursion P) (λ _. h.1) (λ _. (h.0, all_erase P x rs h.1))

pub some_erase : (p : Record → Bool) (x : ℕ) (rs : List Record) → some_of p rs ≡ false → some_of p (erase_store x rs) ≡ false
some_erase p x [] h = refl
some_erase p x (r ∷ rs) h =
    let k = or_parts (p r) (some_of p rs) h in
    cond_both (stores x r.edit) rs (r ∷ erase_store x rs) (λ z. some_of p z ≡ false) (λ _. k.1) (λ _. or_from (p r) (some_of p (erase_store x rs)) k.0 (some_erase p x rs k.1))

-- the store e, if it is one, is of a file that r does not touch
abbrev Off : Record → Edit → Type 0
Off r (mkdir x p n) = Unit {0}
Off r (create x p n) = Unit {0}
Off r (store x c e) = touches x r ≡ false
Off r (remove x p n e) = Unit {0}
Off r (rmdir x p n) = Unit {0}
Off r (rename x p n q m) = Unit {0}

alone_push : (e : Edit) (rs : List Record) (r : Record) → Alone e rs → Off r e → Alone e (rs ++ (r ∷ []))
alone_push e rs r a k = search (rules, some_append, or_from)

alone_none : (e : Edit) → Alone e []
alone_none e = search rules

lone_push : (rs : List Record) (r : Record) → Lone rs → AllByRecursion (λ q. Off r q.edit) rs → Lone (rs ++ (r ∷ []))
lone_push [] r a k = (alone_none r.edit, tt)
lone_push (q ∷ rs) r a k = (alone_push q.edit rs r a.0 k.0, lone_push rs r a.1 k.1)

-- a record that neither stores nor removes
off_plain : (r : Record) → ((x : ℕ) → touches x r ≡ false) → (e : Edit) → Off r e
off_plain r k e = search rules

all_any : {X : Type 0} (P : X → Type 0) → ((x : X) → P x) → (l : List X) → AllByRecursion P l
all_any P k [] = tt
all_any P k (x ∷ l) = (k x, all_any P k l)

plain_push : (rs : List Record) (r : Record) → ((x : ℕ) → touches x r ≡ false) → Lone rs → Lone (rs ++ (r ∷ []))
plain_push rs r k a = lone_push rs r a (all_any (λ q. Off r q.edit) (λ q. off_plain r k q.edit) rs)

-- where no two stores of x stand, to erase the first is to erase all
abbrev unstored : ℕ → List Record → List Record
unstored x rs = keep (λ r. not (stores x r.edit)) rs

alone_stores : (x : ℕ) (e : Edit) (rs : List Record) → Alone e rs → stores x e ≡ true → some_of (touches x) rs ≡ false
alone_stores x e rs a h = search rules

erase_all : (x : ℕ) (rs : List Record) → Lone rs → erase_store x rs ≡ unstored x rs
erase_all x [] a = refl
erase_all x (r ∷ rs) a = go (erase_all x rs a.1) (stores x r.edit) refl
  where
    go : erase_store x rs ≡ unstored x rs → (b : Bool) → stores x r.edit ≡ b → cond (stores x r.edit) rs (r ∷ erase_store x rs) ≡ cond (not (stores x r.edit)) (r ∷ unstored x rs) (unstored x rs)
    go ih true e = rw e (sym (keep_same (λ q. not (stores x q.edit)) rs (some_weaker (touches x) (λ q. not (not (stores x q.edit))) (λ q k. rw (or_parts (stores x q.edit) (removes x q.edit) k).0) rs (alone_stores x r.edit rs a.0 e))))
    go ih false e = rw e (ap (λ z. r ∷ z) ih)

-- the other records, where those that store x are out
off_unstored : (x : ℕ) (r : Record) → ((y : ℕ) → eqb y x ≡ false → touches y r ≡ false) → (e : Edit) → stores x e ≡ false → Off r e
off_unstored x r k e h = search rules

all_unstored : (x : ℕ) (r : Record) → ((y : ℕ) → eqb y x ≡ false → touches y r ≡ false) → (rs : List Record) → AllByRecursion (λ q. Off r q.edit) (unstored x rs)
all_unstored x r k [] = tt
all_unstored x r k (q ∷ rs) =
    let ih = all_unstored x r k rs in
    cond_both (not (stores x q.edit)) (q ∷ unstored x rs) (unstored x rs) (AllByRecursion (λ q. Off r q.edit)) (λ e. (off_unstored x r k q.edit (not-true (stores x q.edit) e), ih)) (λ _. ih)

unstored_push : (x : ℕ) (rs : List Record) (r : Record) → ((y : ℕ) → eqb y x ≡ false → touches y r ≡ false) → Lone rs → Lone (unstored x rs ++ (r ∷ []))
unstored_push x rs r k a = lone_push (unstored x rs) r (lone_keep (λ q. not (stores x q.edit)) rs a) (all_unstored x r k rs)

erased_push : (x : ℕ) (rs : List Record) (r : Record) → ((y : ℕ) → eqb y x ≡ false → touches y r ≡ false) → Lone rs → Lone (erase_store x rs ++ (r ∷ []))
erased_push x rs r k a = subst (λ z. Lone (z ++ (r ∷ []))) (sym (erase_all x rs a)) (unstored_push x rs r k a)

pub flip : (x y : ℕ) → eqb y x ≡ false → eqb x y ≡ false
flip x y h = ne_eqb x y (λ e. eqb-false y x h (sym e))

lone_cancel_edit : (t : ℕ → Bool) (rs : List Record) (s : Stamp) (e : Edit) → Lone rs → Lone (cancel t rs (rec s e))
lone_cancel_edit t rs s e a = search (rules, plain_push, erased_push, or_from, flip, lone_keep)

pub lone_cancel : (t : ℕ → Bool) (rs : List Record) (r : Record) → Lone rs → Lone (cancel t rs r)
lone_cancel t rs r a = lone_cancel_edit t rs (stamp_of r) r.edit a

module _ (m n b N : ℕ) (mb : m ≤ b) (bt : b ≤ temporary) (more : n ≤ N) where
  touches_settled : (x : ℕ) → Known m n x → (s : Stamp) (e : Edit) → Knows m n e → touches (settle b N x) (rec s (settled_edit b N e)) ≡ touches x (rec s e)
  touches_settled x k s e h = search rules

  lands_settled : (x : ℕ) → Known m n x → (e : Edit) → Knows m n e → lands (settle b N x) (settled_edit b N e) ≡ lands x e
  lands_settled x k e h = search rules

  pub landings_settled : (x : ℕ) → Known m n x → (rs : List Record) → AllByRecursion (λ r. Knows m n r.edit) rs → some_of (lands_other (settle b N x)) (map (settled b N) rs) ≡ some_of (lands_other x) rs
  landings_settled x k rs h = some_map_all (lands_other (settle b N x)) (lands_other x) (settled b N) rs (All-weaker (λ r. Knows m n r.edit) _ (λ r g. ap₂ (λ u v. not u && v) (object_settled m n b N mb bt more x k r.edit g) (lands_settled x k r.edit g)) rs h)

  alone_settled : (e : Edit) (rs : List Record) → Knows m n e → AllByRecursion (λ r. Knows m n r.edit) rs → Alone e rs → Alone (settled_edit b N e) (map (settled b N) rs)
  alone_settled (mkdir x p o) rs k h a = tt
  alone_settled (create x p o) rs k h a = tt
  alone_settled (store x c e) rs k h a = some_map_all (touches (settle b N x)) (touches x) (settled b N) rs (All-weaker (λ r. Knows m n r.edit) _ (λ r g. touches_settled x k.0 (stamp_of r) r.edit g) rs h) ∙ a
  alone_settled (remove x p o e) rs k h a = tt
  alone_settled (rmdir x p o) rs k h a = tt
  alone_settled (rename x p o q r) rs k h a = tt

  pub lone_settled : (rs : List Record) → AllByRecursion (λ r. Knows m n r.edit) rs → Lone rs → Lone (map (settled b N) rs)
  lone_settled [] h a = tt
  lone_settled (r ∷ rs) h a = (alone_settled r.edit rs h.0 h.1 a.0, lone_settled rs h.1 a.1)
