use Rattle.std.proofs.Common.{◌≡◌, [], ◌∷◌, ◌++◌, refl, ap, ◌∙◌, rules}
use Rattle.std.proofs.lemmas.Fn.{chained_keeps}
use Rattle.rows.specs.Rows.{objects_in}
use Rattle.rows.proofs.Holding.{rows_freed}
use Rattle.rows.proofs.freeing.free_all.Goals as goal

pub returns : goal.returns
returns c =
    chained_keeps _ (λ rows last. objects_in rows ≡ []) (λ rows f row g none step. ap (λ r. objects_in (rows ++ r ∷ [])) (search rules) ∙ rows_freed rows ∙ none) c.fill_with.new.self _ _ refl c.fill_with.ensures.ran.1
