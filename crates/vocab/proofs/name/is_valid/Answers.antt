use Rattle.std.proofs.Common.{◌≡◌, true, false, sym, ◌∙◌, ⊎_elim, rules, tests, arith}
use Rattle.std.proofs.lemmas.Bool.{eqb-true}
use Rattle.std.proofs.lemmas.Iterator.{cases_from_all, YieldsList-from_slice}
use Rattle.vocab.specs.Names.{name_byte}
use Rattle.vocab.proofs.Naming.{every_from_cases, valid_within, valid_none, valid_long}
use Rattle.vocab.proofs.name.is_valid.Goals as goal

pub returns-then-is_empty : goal.returns-then-is_empty
returns-then-is_empty c =
    let n = c.args.name.now in
    sym (⊎_elim (λ none. valid_none n (eqb-true _ _ (sym c.is_empty.ensures ∙ none))) (λ long. valid_long n long.1) c.then-is_empty.either)

pub returns : goal.returns
returns c =
    let n = c.args.name.now in
    let tested = cases_from_all _ _ _ (λ b. name_byte b ≡ true) (λ b. name_byte b ≡ false) c.all.ensures.ran (YieldsList-from_slice n cc) (λ x q k. search (rules, tests)) (λ x q k. search (rules, tests)) in
    every_from_cases name_byte n c.all.result tested ∙ sym (valid_within n (sym c.if-is_empty.ensures) (omega arith))
