use Rattle.std.proofs.Common.{refl}
use Rattle.tree.proofs.Leaving.{added_rest, dropped_rest, moved_rest, next_rest, put_rest}
use Rattle.tree.proofs.laws.changes_leave_the_rest.Goals as goal

pub returns : goal.returns
returns c = record { adds = added_rest; puts = put_rest; drops = dropped_rest; moves = moved_rest; next = next_rest; clears = λ t. (refl, refl) }
