-- Replaying records on a tree. Assumes nothing.
--     settle b n x       the server's number for x: b + k for a temporary number 2^31 + k given out, else x itself
--     settled b n r      the record with the server's numbers
--     Clash              a record that fails, as logged, and the refusal that it fails with
--     Outcome            what a replay leaves: the tree, or the clash that it met
--     replayed b n rs t  the records rs applied in order; the clash is the first that fails
--     replay n rs t      the same from t's own next number, which is then raised by n
use Rattle.std.specs.Prelude.{ℕ, ◌+◌, ◌-◌, cond, List, [], ◌∷◌, Ok, Err, Result}
use Rattle.vocab.specs.declared.refusal.Refusal.{Refusal}
use Rattle.vocab.specs.Limits.{temporary}
use Rattle.tree.specs.Changes.{with_next}
use Rattle.tree.specs.Trees.{Tree}
use Rattle.model.specs.Records.{Edit, mkdir, create, store, remove, rmdir, rename, Record, with_edit}
use Rattle.model.specs.Applying.{applied}
use Rattle.model.specs.Cancelling.{born}

abbrev pub settle : ℕ → ℕ → ℕ → ℕ
settle b n x = cond (born n x) (b + (x - temporary)) x

abbrev pub settled_edit : ℕ → ℕ → Edit → Edit
settled_edit b n (mkdir x p m) = mkdir (settle b n x) (settle b n p) m
settled_edit b n (create x p m) = create (settle b n x) (settle b n p) m
settled_edit b n (store x c e) = store (settle b n x) c e
settled_edit b n (remove x p m e) = remove (settle b n x) (settle b n p) m e
settled_edit b n (rmdir x p m) = rmdir (settle b n x) (settle b n p) m
settled_edit b n (rename x p m q o) = rename (settle b n x) (settle b n p) m (settle b n q) o

abbrev pub settled : ℕ → ℕ → Record → Record
settled b n r = with_edit r (settled_edit b n r.edit)

pub record Clash : Type 0 where
  pub logged : Record
  pub failed : Refusal

abbrev pub Outcome : Type 0
Outcome = Result Tree Clash

abbrev pub replayed : ℕ → ℕ → List Record → Tree → Outcome
replayed b n [] t = Ok t
replayed b n (r ∷ rs) t =
    elim (applied (settled b n r) t).1 [
      | Ok u ↦ replayed b n rs (applied (settled b n r) t).0
      | Err e ↦ Err (record { logged = r; failed = e })
    ]

abbrev pub replay : ℕ → List Record → Tree → Outcome
replay n rs t = elim (replayed t.next n rs t) [ Ok u ↦ Ok (with_next u (t.next + n)) | Err c ↦ Err c ]
