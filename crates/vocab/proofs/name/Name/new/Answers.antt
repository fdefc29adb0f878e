use Rattle.std.proofs.Common.{◌≡◌, Some, None, sym, ap, ◌∙◌, arith}
use Rattle.vocab.specs.Names.{name_or_none}
use Rattle.vocab.proofs.Naming.{named, valid_short}
use Rattle.vocab.proofs.name.Name.new.Goals as goal

pub invariant_of-result : goal.invariant_of-result
invariant_of-result c =
    let made : c.new.result ≡ Some c.in_ok-text.text = grind arith in
    let held = rw made at c.new.ensures in
    ap name_or_none held.1 ∙ named c.args.name.now (sym c.if-not-is_valid.ensures)

pub returns-in_err-text : goal.returns-in_err-text
returns-in_err-text c =
    let none : c.new.result ≡ None = grind arith in
    let long = rw none at c.new.ensures in
    let short = valid_short c.args.name.now (sym c.if-not-is_valid.ensures) in
    absurd (omega arith)
