use Rattle.std.proofs.Common.{◌≡◌, arith, rules}
use Rattle.std.proofs.lemmas.Bool.Decides.{nat_tests}
use Rattle.tree.proofs.Steps.{climb_up}
use Rattle.image.specs.Places.{found}
use Rattle.image.specs.Stores.{tree_of}
use Rattle.image.proofs.Image.encloses.Goals as goal

pub loop-preserved : goal.loop-preserved
loop-preserved c =
    let t = tree_of c.args.self.now in
    let here = c.loop.here in
    let other : here ≡ c.args.number → ⊥ = λ e. grind (arith, nat_tests) in
    let up = climb_up c.room-end.result c.loop.counter c.args.number here t.objects c.loop-test.true other (found t c.in-Some.place) c.in-Some.ensures.here in
    search rules
