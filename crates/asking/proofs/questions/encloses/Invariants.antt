use Rattle.std.proofs.Common.{◌≡◌, ◌-◌}
use Rattle.tree.specs.Questions.{climbs}
use Rattle.asking.proofs.questions.encloses.Given as goal

abbrev pub invariant-loop : goal.invariant-loop
invariant-loop g l =
    let objects = (g.V.TreeView.tree l.view).objects in
    climbs l.end l.number l.initial.here objects ≡ climbs (l.end - l.counter) l.number l.here objects
