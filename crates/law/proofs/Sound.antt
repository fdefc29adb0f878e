-- A spell's log beside all that it recorded. Assumes nothing.
use Rattle.std.proofs.Common.{◌≡◌, ℕ, ◌+◌, ◌<◌, ◌≤◌, true, false, not, eqb, List, [], ◌∷◌, ◌++◌, map, sym, refl, ap, ◌∙◌, subst, inl, inr, arith, rules}
use Rattle.std.specs.List.{AllByRecursion}
use Rattle.std.proofs.ByRecursion.{All-weaker}
use Rattle.std.proofs.lemmas.Bool.{and_left, and_right, eqb-true, ne_eqb, not_from_true}
use Rattle.vocab.specs.Limits.{temporary}
use Rattle.model.specs.Applying.{effect}
use Rattle.model.specs.Cancelling.{born}
use Rattle.model.specs.Records.{Edit, Record, object, stamp_of}
use Rattle.model.specs.Replaying.{settled, settled_edit}
use Rattle.tree.specs.Questions.{is_file}
use Rattle.tree.specs.Trees.{Object, at, some_of}
use Rattle.tree.proofs.Changed.{at_number, file_some}
use Rattle.tree.proofs.Lists.{map_append}
use Rattle.tree.proofs.Objects.{Split}
use Rattle.vocab.specs.Checks.{Holds}
use Rattle.model.specs.Past.{given}
use Rattle.law.specs.Spells.{Numbered}
use Rattle.law.proofs.Entering.{Lone, cancel, lands, lands_other}
use Rattle.law.proofs.Knowing.{Placed, at_all, known_more, knows, knows_more, placed_effect}
use Rattle.law.proofs.Landing.{all_cancel, born_is, file_before, free_knows, fresh_landings, landing_cancel, lands_file}
use Rattle.law.proofs.Lonely.{landings_settled, lone_cancel, lone_settled}
use Rattle.law.proofs.OneStep.{Bare, Below, final_push, one_step, passes_front, passes_push}
use Rattle.law.proofs.Runs.{Passes, final, tests}
use Rattle.law.proofs.Settle.{Knows, cancel_settled}

-- all records us of a spell, its log rs, the copy's objects l, and n numbers given out, where the spell began on numbers below m
pub record Sound (m : ℕ) (us rs : List Record) (l : List Object) (n : ℕ) : Type 0 where
  pub objects : AllByRecursion (Placed m n) l
  pub records : AllByRecursion (λ r. Knows m n r.edit) rs
  pub bare : (x : ℕ) → is_file (at x l) ≡ true → some_of (lands_other x) rs ≡ false
  pub lone : Lone rs
  pub agree : (cap b N : ℕ) (k : List Object) → m ≤ b → b ≤ temporary → n ≤ N → Split k → Below b k → Passes cap (map (settled b N) us) k → Passes cap (map (settled b N) rs) k × (final (map (settled b N) rs) k ≡ final (map (settled b N) us) k)

pub sound_begin : (m : ℕ) (l : List Object) → AllByRecursion (Placed m 0) l → Sound m [] [] l 0
sound_begin m l h = record { objects = h; records = tt; bare = λ x f. refl; lone = tt; agree = λ cap b N k mb bt more s w p. (p, refl) }

bare_of : (m n b N : ℕ) (mb : m ≤ b) (bt : b ≤ temporary) (more : n ≤ N) (cap : ℕ) (rs : List Record) (l : List Object) → AllByRecursion (λ r. Knows m n r.edit) rs → ((x : ℕ) → is_file (at x l) ≡ true → some_of (lands_other x) rs ≡ false) → (e : Edit) → Knows m n e → Holds (tests cap e l) → Bare b (map (settled b N) rs) (settled_edit b N e)
bare_of m n b N mb bt more cap rs l known bare e k h = search (rules, landings_settled)

pub sound_more : (m : ℕ) → 1 < m → m ≤ temporary → (us rs : List Record) (l : List Object) (n : ℕ) → Sound m us rs l n → (cap : ℕ) (r : Record) → Numbered n r.edit → Holds (tests cap r.edit l) → Sound m (us ++ (r ∷ [])) (cancel (born (n + given r.edit)) rs r) (effect (stamp_of r) r.edit l) (n + given r.edit)
sound_more m root mt us rs l n old cap r num h = record {
  objects = placed_effect m n' (stamp_of r) r.edit l knew (λ g. omega (arith, (born_is n (object r.edit) r.edit num g).0)) (All-weaker (Placed m n) (Placed m n') (λ o g. (known_more m n (given r.edit) o.number g.0, known_more m n (given r.edit) o.parent g.1, g.2)) l old.objects);
  records = all_cancel (Knows m n') (born n') rs known (stamp_of r) r.edit (free_knows m n' r.edit knew);
  bare = λ x f. bare' x f;
  lone = lone_cancel (born n') rs r old.lone;
  agree = λ cap b N k mb bt more s w p. agree' cap b N k mb bt more s w p;
}
  where
    n' : ℕ
    n' = n + given r.edit

    knew : Knows m n' r.edit
    knew = knows m n root l old.objects cap r.edit num h

    known : AllByRecursion (λ r. Knows m n' r.edit) rs
    known = All-weaker (λ q. Knows m n q.edit) (λ q. Knows m n' q.edit) (λ q g. knows_more m n (given r.edit) q.edit g) rs old.records

    bare' : (x : ℕ) → is_file (at x (effect (stamp_of r) r.edit l)) ≡ true → some_of (lands_other x) (cancel (born n') rs r) ≡ false
    bare' x f = elim (file_before cap x (stamp_of r) l r.edit h f) [
      | inl g ↦ landing_cancel x (born n') rs (old.bare x g) (stamp_of r) r.edit (and_right (not (eqb (object r.edit) x)) (lands x r.edit) (lands_file cap x (stamp_of r) l r.edit (two g) h g))
      | inr g ↦ landing_cancel x (born n') rs (fresh_landings m n x (λ p k. ne_eqb p x (λ e. elim k [ inl a ↦ omega (arith, (born_is n x r.edit num g).0) | inr a ↦ omega (arith, (born_is n x r.edit num g).0) ])) rs old.records) (stamp_of r) r.edit (and_left (not (eqb (object r.edit) x)) (lands x r.edit) (not_from_true (eqb (object r.edit) x) (born_is n x r.edit num g).1))
    ]
      where
        two : is_file (at x l) ≡ true → 2 ≤ x
        two g = let k = at_all (Placed m n) x l old.objects (file_some (at x l) g) in subst (λ z. 2 ≤ z) (eqb-true k.0.number x (at_number x k.0 l k.1)) k.2.2

    agree' : (cap b N : ℕ) (k : List Object) → m ≤ b → b ≤ temporary → n' ≤ N → Split k → Below b k → Passes cap (map (settled b N) (us ++ (r ∷ []))) k → Passes cap (map (settled b N) (cancel (born n') rs r)) k × (final (map (settled b N) (cancel (born n') rs r)) k ≡ final (map (settled b N) (us ++ (r ∷ []))) k)
    agree' cap' b N k mb bt more s w p =
        let q : Passes cap' (map (settled b N) us ++ (settled b N r ∷ [])) k = subst (λ z. Passes cap' z k) (map_append (settled b N) us (r ∷ [])) p in
        let parts = passes_front cap' (map (settled b N) us) (settled b N r) k q in
        let ih = old.agree cap' b N k mb bt (omega arith) s w parts.0 in
        let pushed = passes_push cap' (map (settled b N) rs) (settled b N r) k ih.0 (subst (λ z. Holds (tests cap' (settled_edit b N r.edit) z)) (sym ih.1) parts.1) in
        let one = one_step cap' b (map (settled b N) rs) k s w (lone_settled m n' b N mb bt more rs known old.lone) (settled b N r) (bare_of m n' b N mb bt more cap rs l known old.bare r.edit knew h) pushed in
        let same = cancel_settled m n' b N mb bt more rs known r knew in (
          subst (λ z. Passes cap' z k) (sym same) one.0,
          ap (λ z. final z k) same ∙ one.1 ∙ final_push (map (settled b N) rs) (settled b N r) k ∙ ap (effect (stamp_of r) (settled_edit b N r.edit)) ih.1 ∙ sym (final_push (map (settled b N) us) (settled b N r) k) ∙ ap (λ z. final z k) (sym (map_append (settled b N) us (r ∷ []))),
        )
