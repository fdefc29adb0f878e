-- Edits, and records of them. Assumes nothing.
--     Edit              one of six, each with the number of its object first:
--                       mkdir x p n, create x p n     x is made, named n in p
--                       store x c e                   x gets the contents c; e is the stamp that it is expected to have
--                       remove x p n e                the file x, named n in p, goes; e as for store
--                       rmdir x p n                   the directory x, named n in p, goes
--                       rename x p n q m              x, named n in p, is named m in q
--     Record            an edit with its author and serial
--     stamp_of r        the stamp that the record sets
--     object e          the number of its object
--     makes e           whether it makes its object
--     stores x e, removes x e     whether it stores, or removes, the file x
--     names d e         whether it names d as parent or new parent
--     expectation e     the stamp that it expects, or none
use Rattle.std.specs.Prelude.{ℕ, Bool, true, false, ◌||◌, List, Some, None, Option, ◌==◌}
use Rattle.vocab.specs.declared.stamp.Stamp.{Stamp}

pub data Edit : Type 0 where
  mkdir : ℕ → ℕ → List ℕ → Edit
  create : ℕ → ℕ → List ℕ → Edit
  store : ℕ → List ℕ → Stamp → Edit
  remove : ℕ → ℕ → List ℕ → Stamp → Edit
  rmdir : ℕ → ℕ → List ℕ → Edit
  rename : ℕ → ℕ → List ℕ → ℕ → List ℕ → Edit

pub record Record : Type 0 where
  pub author : ℕ
  pub serial : ℕ
  pub edit : Edit

abbrev pub stamp_of : Record → Stamp
stamp_of r = record { author = r.author; serial = r.serial }

abbrev pub with_edit : Record → Edit → Record
with_edit r e = record { author = r.author; serial = r.serial; edit = e }

abbrev pub object : Edit → ℕ
object (mkdir x p n) = x
object (create x p n) = x
object (store x c e) = x
object (remove x p n e) = x
object (rmdir x p n) = x
object (rename x p n q m) = x

abbrev pub makes : Edit → Bool
makes (mkdir x p n) = true
makes (create x p n) = true
makes (store x c e) = false
makes (remove x p n e) = false
makes (rmdir x p n) = false
makes (rename x p n q m) = false

abbrev pub stores : ℕ → Edit → Bool
stores d (mkdir x p n) = false
stores d (create x p n) = false
stores d (store x c e) = x == d
stores d (remove x p n e) = false
stores d (rmdir x p n) = false
stores d (rename x p n q m) = false

abbrev pub removes : ℕ → Edit → Bool
removes d (mkdir x p n) = false
removes d (create x p n) = false
removes d (store x c e) = false
removes d (remove x p n e) = x == d
removes d (rmdir x p n) = false
removes d (rename x p n q m) = false

abbrev pub names : ℕ → Edit → Bool
names d (mkdir x p n) = p == d
names d (create x p n) = p == d
names d (store x c e) = false
names d (remove x p n e) = p == d
names d (rmdir x p n) = p == d
names d (rename x p n q m) = p == d || q == d

abbrev pub expectation : Edit → Option Stamp
expectation (mkdir x p n) = None
expectation (create x p n) = None
expectation (store x c e) = Some e
expectation (remove x p n e) = Some e
expectation (rmdir x p n) = None
expectation (rename x p n q m) = None
