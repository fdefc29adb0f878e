use Rattle.std.proofs.Common.{rules}
use Rattle.listing.proofs.Walking.{steps}
use Rattle.listing.proofs.ListingIterator.next.Goals as goal

pub returns-in-Some-clause-steps : goal.returns-in-Some-clause-steps
returns-in-Some-clause-steps g c =
    rw (← c.self.view_is) (steps g.V.TreeView.tree _ _ _ (g.V.TreeView.lawful _) c.self.invariant c.loop-number.invariant.0 (search rules))

pub invariant_of-self : goal.invariant_of-self
invariant_of-self g c = (returns-in-Some-clause-steps g c).sound

pub returns-in-Some-clause-goes : goal.returns-in-Some-clause-goes
returns-in-Some-clause-goes g c =
    let step = returns-in-Some-clause-steps g c in
    search (rules, step.gives)

pub returns-in_err-finished-clause-steps : goal.returns-in_err-finished-clause-steps
returns-in_err-finished-clause-steps g c =
    rw (← c.self.view_is) (steps g.V.TreeView.tree _ _ _ (g.V.TreeView.lawful _) c.self.invariant c.loop-number.invariant.0 (search rules))

pub invariant_of-self-in_err-finished : goal.invariant_of-self-in_err-finished
invariant_of-self-in_err-finished g c = (returns-in_err-finished-clause-steps g c).sound
