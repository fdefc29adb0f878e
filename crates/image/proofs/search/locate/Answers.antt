use Rattle.std.proofs.Common.{rules, nat_cmp, subst}
use Rattle.std.proofs.lemmas.List.Sorted.{answers_always}
use Rattle.std.specs.List.Sorted.{IsBinarySearchResult}
use Rattle.format.specs.Fields.{word}
use Rattle.image.proofs.search.locate.Goals as goal

pub returns-clause-position : goal.returns-clause-position
returns-clause-position g c =
    let by_key = c.binary_search_by_key.ensures.position (λ e. word e 0) (answers_always _ _ _ (λ f a r f' called. search rules)) in
    subst (λ es. IsBinarySearchResult (λ e. nat_cmp (word e 0) c.args.number) es c.binary_search_by_key.result) c.as_chunks.ensures.front by_key
