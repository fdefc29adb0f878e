-- One record more at the end of a spell. Assumes nothing.
use Rattle.std.proofs.Common.{◌≡◌, ◌+◌, [], ◌∷◌, ◌++◌, refl, ap, ◌∙◌, subst, arith}
use Rattle.model.specs.Applying.{applied}
use Rattle.model.specs.Cancelling.{entered}
use Rattle.model.specs.Past.{given, given_by}
use Rattle.law.specs.Spells.{Numbered, logged}
use Rattle.law.specs.Theorems.{CopyGrows, CountGrows, LogGrows, SpellGrows}

pub count_grows : CountGrows
count_grows [] r = omega arith
count_grows (q ∷ us) r = ap (λ z. given q.edit + z) (count_grows us r) ∙ (let e : given q.edit + (given_by us + given r.edit) ≡ given q.edit + given_by us + given r.edit = omega arith in e)

pub copy_grows : CopyGrows
copy_grows [] r copy = refl
copy_grows (q ∷ us) r copy = copy_grows us r (applied q copy).0

pub spell_grows : SpellGrows
spell_grows n [] r copy h num ok =
    let e : n + 0 ≡ n = omega arith in
    (subst (λ z. Numbered z r.edit) e num, ok, tt)
spell_grows n (q ∷ us) r copy h num ok =
    let e : n + (given q.edit + given_by us) ≡ n + given q.edit + given_by us = omega arith in
    (h.0, h.1, spell_grows (n + given q.edit) us r (applied q copy).0 h.2 (subst (λ z. Numbered z r.edit) e num) ok)

pub log_grows : LogGrows
log_grows n rs [] r =
    let e : n + given r.edit ≡ n + (given r.edit + 0) = omega arith in
    ap (λ z. entered z rs r) e
log_grows n rs (q ∷ us) r =
    let k = n + given q.edit in
    let e : k + given_by (us ++ (r ∷ [])) ≡ n + (given q.edit + given_by (us ++ (r ∷ []))) = omega arith in
    log_grows k (entered k rs q) us r ∙ ap (λ z. entered z (logged k (entered k rs q) us) r) e
