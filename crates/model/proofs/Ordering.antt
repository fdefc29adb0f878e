-- A record's own checks and what the store refuses after them, as one list. Assumes nothing.
use Rattle.std.proofs.Common.{rules}
use Rattle.model.specs.Theorems.{AppliedInOrder}

pub applied_in_order : AppliedInOrder
applied_in_order = search rules
