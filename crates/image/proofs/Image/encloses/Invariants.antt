use Rattle.std.proofs.Common.{◌≡◌, ◌-◌}
use Rattle.tree.specs.Questions.{climbs}
use Rattle.image.specs.Stores.{tree_of}
use Rattle.image.proofs.Image.encloses.Given as goal

abbrev pub invariant-loop : goal.invariant-loop
invariant-loop l =
    let objects = (tree_of l.self).objects in
    climbs l.end l.number l.initial.here objects ≡ climbs (l.end - l.counter) l.number l.here objects
