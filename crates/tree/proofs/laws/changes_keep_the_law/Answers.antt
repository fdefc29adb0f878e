use Rattle.std.proofs.Common.{arith}
use Rattle.tree.proofs.Keeping.{added_lawful, bare_lawful, cleared_lawful, dropped_lawful, moved_lawful, next_lawful, put_lawful}
use Rattle.tree.proofs.laws.changes_keep_the_law.Goals as goal

pub returns : goal.returns
returns c = record {
  start = λ cap. bare_lawful cap 2 (omega arith) (omega arith);
  adds = added_lawful;
  puts = put_lawful;
  drops = dropped_lawful;
  moves = moved_lawful;
  next = next_lawful;
  clears = cleared_lawful;
}
