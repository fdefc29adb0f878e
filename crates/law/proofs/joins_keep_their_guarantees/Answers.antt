use Rattle.law.proofs.Clashing.{names_first}
use Rattle.law.proofs.Joining.{follows_edits, log_knows, numbers_below, refused_leaves, state_agrees}
use Rattle.law.proofs.Seeing.{leaves_others, overwrites_seen}
use Rattle.law.proofs.joins_keep_their_guarantees.Goals as goal

pub returns : goal.returns
returns c = record { follows = follows_edits; refused = refused_leaves; conflict = names_first; numbers = numbers_below; state = state_agrees; log = log_knows; seen = overwrites_seen; listed = leaves_others }
