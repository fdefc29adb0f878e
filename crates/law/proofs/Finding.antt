-- The loaders of a world: one is found by its number, and another put into its place. Assumes nothing.
use Rattle.std.proofs.Common.{◌≡◌, ℕ, Bool, cond, eqb, List, [], ◌∷◌, Some, None, Err, refl, ap, ◌∙◌, arith}
use Rattle.std.specs.List.{AllByRecursion}
use Rattle.std.proofs.lemmas.Bool.{eqb-false, cond_both}
use Rattle.std.proofs.lemmas.Bool.Decides.{nat_tests}
use Rattle.std.proofs.lemmas.Option.{none-some}
use Rattle.model.specs.declared.answer.TurnError.TheVariants.{NotAllowed}
use Rattle.model.specs.Loaders.{Loader, Spell, away, home}
use Rattle.model.specs.Worlds.{Answer, World, by_loader, loader_of, with_loader}
use Rattle.law.specs.Guarantees.{NumbersDiffer}

pub its_number : (a : ℕ) (ds : List Loader) (d : Loader) → loader_of a ds ≡ Some d → d.number ≡ a
its_number a [] d e = absurd (none-some d e)
its_number a (x ∷ ds) d e = let ih = its_number a ds d in grind (arith, nat_tests)

pub holds_of : (P : Loader → Type 0) (a : ℕ) (ds : List Loader) (d : Loader) → AllByRecursion P ds → loader_of a ds ≡ Some d → P d
holds_of P a [] d h e = absurd (none-some d e)
holds_of P a (x ∷ ds) d h e = let ih = holds_of P a ds d h.1 in grind (arith, nat_tests, h.0)

pub found : (P : Loader → Type 0) (a : ℕ) (ds : List Loader) (d : Loader) → AllByRecursion P ds → loader_of a ds ≡ Some d → P d × (d.number ≡ a)
found P a ds d h e = (holds_of P a ds d h e, its_number a ds d e)

pub put_all : (P Q : Loader → Type 0) (e : Loader) → Q e → ((d : Loader) → (d.number ≡ e.number → ⊥) → P d → Q d) → (ds : List Loader) → AllByRecursion P ds → AllByRecursion Q (with_loader e ds)
put_all P Q e q k [] h = tt
put_all P Q e q k (d ∷ ds) h = (cond_both (eqb d.number e.number) e d Q (λ f. q) (λ f. k d (eqb-false d.number e.number f) h.0), put_all P Q e q k ds h.1)

same_number : (e d : Loader) → (cond (eqb d.number e.number) e d).number ≡ d.number
same_number e d = grind (arith, nat_tests)

none_put : (a : ℕ) (e : Loader) (ds : List Loader) → loader_of a ds ≡ None → loader_of a (with_loader e ds) ≡ None
none_put a e [] h = refl
none_put a e (d ∷ ds) h = let ih = none_put a e ds in grind (arith, nat_tests)

pub differ_put : (e : Loader) (ds : List Loader) → NumbersDiffer ds → NumbersDiffer (with_loader e ds)
differ_put e [] h = tt
differ_put e (d ∷ ds) h = (ap (λ n. loader_of n (with_loader e ds)) (same_number e d) ∙ none_put d.number e ds h.0, differ_put e ds h.1)

put_none : (e : Loader) (ds : List Loader) → loader_of e.number ds ≡ None → with_loader e ds ≡ ds
put_none e [] h = refl
put_none e (d ∷ ds) h = let ih = put_none e ds in grind (arith, nat_tests)

pub put_same : (a : ℕ) (ds : List Loader) (d : Loader) → NumbersDiffer ds → loader_of a ds ≡ Some d → with_loader d ds ≡ ds
put_same a [] d h e = refl
put_same a (x ∷ ds) d h e =
    let ih = put_same a ds d h.1 in
    let none = put_none d ds in
    let k = its_number a (x ∷ ds) d e in
    grind (arith, nat_tests, h.0)

-- ---- by number and state

pub by_keeps : (P : World × Answer → Type 0) (a : ℕ) (w : World) (f : Loader → World × Answer) → P (w, Err NotAllowed) → ((d : Loader) → loader_of a w.loaders ≡ Some d → P (f d)) → P (by_loader a w f)
by_keeps P a w f n k = grind (arith, nat_tests)

pub state_keeps : (P : World × Answer → Type 0) (d : Loader) (f : Bool → World × Answer) (g : Spell → World × Answer) → ((b : Bool) → d.state ≡ home b → P (f b)) → ((s : Spell) → d.state ≡ away s → P (g s)) → P (elim d.state [ home b ↦ f b | away s ↦ g s ])
state_keeps P d f g h k = grind (arith, nat_tests)
