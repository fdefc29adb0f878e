use Rattle.std.proofs.Common.{◌≡◌, length}
use Rattle.listing.specs.Meaning.{place_of}
use Rattle.listing.specs.Walks.{advance}
use Rattle.listing.proofs.ListingIterator.next.Given as goal

abbrev pub invariant-loop-number : goal.invariant-loop-number
invariant-loop-number g l =
    let t = g.V.TreeView.tree l.initial.self-inside.view.now in
    (l.self-inside.view.now ≡ l.initial.self-inside.view.now)
    × (advance t (place_of l.self-inside) ≡ advance t (place_of l.initial.self-inside))

abbrev pub decreases-loop-number : goal.decreases-loop-number
decreases-loop-number g l = length l.self-inside.path.held
