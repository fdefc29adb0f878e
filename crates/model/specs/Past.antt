-- The past of a run, kept apart from the world: it is told by the turns, by whether each was accepted, and by the server at walks. Assumes nothing.
--     given e, given_by us     how many numbers an edit, or a list of records, gives out: one for each new object
--     copy_after us t          the tree t after the records us
--     Past                     of a loader: the server's objects at its last accepted walk, the uncancelled list since it left, and its accepted edits since it was new
--     shadow cap p             the walk's objects with the list so far applied, in a tree of capacity cap
--     listed a cap c p         the record of the call c as it goes onto the list
--     past_after t w r ps      the pasts after the turn t in the world w was answered by r
--     pasts ts w ps            the pasts after the turns ts
use Rattle.std.specs.Prelude.{ℕ, ◌+◌, cond, List, [], ◌∷◌, ◌++◌, Some, None, ◌==◌}
use Rattle.vocab.specs.Limits.{temporary}
use Rattle.tree.specs.Trees.{Object, Tree}
use Rattle.model.specs.Records.{Edit, Record, makes}
use Rattle.model.specs.Applying.{applied}
use Rattle.model.specs.Office.{Call, edit_of}
use Rattle.model.specs.Worlds.{World, Answer, loader_of, Turn, office, office_read, rank, read, walk, leave, edit, join, quit, step, accepted}

abbrev pub given : Edit → ℕ
given e = cond (makes e) 1 0

abbrev pub given_by : List Record → ℕ
given_by [] = 0
given_by (r ∷ us) = given r.edit + given_by us

abbrev pub copy_after : List Record → Tree → Tree
copy_after [] t = t
copy_after (r ∷ us) t = copy_after us (applied r t).0

pub record Past : Type 0 where
  pub seen : List Object
  pub list : List Record
  pub edits : ℕ

abbrev pub Pasts : Type 0
Pasts = ℕ → Past

abbrev pub new_past : Past
new_past = record { seen = []; list = []; edits = 0 }

abbrev pub walk_tree : ℕ → Past → Tree
walk_tree cap p = record { capacity = cap; next = 2; objects = p.seen }

abbrev pub shadow : ℕ → Past → Tree
shadow cap p = copy_after p.list (walk_tree cap p)

abbrev pub listed : ℕ → ℕ → Call → Past → Record
listed a cap c p = record { author = a; serial = p.edits + 1; edit = edit_of (temporary + given_by p.list) c (shadow cap p) }

abbrev pub put_past : ℕ → Past → Pasts → Pasts
put_past a p ps = λ b. cond (b == a) p (ps b)

abbrev pub capacity_of : ℕ → World → ℕ
capacity_of a w = elim (loader_of a w.loaders) [ None ↦ 0 | Some d ↦ d.copy.capacity ]

abbrev pub past_after : Turn → World → Answer → Pasts → Pasts
past_after (office c) w r ps = ps
past_after (office_read x k) w r ps = ps
past_after (rank a x n) w r ps = ps
past_after (read a x k) w r ps = ps
past_after (walk a k) w r ps = cond (accepted r) (put_past a (record { seen = w.server.objects; list = (ps a).list; edits = (ps a).edits }) ps) ps
past_after (leave a) w r ps = cond (accepted r) (put_past a (record { seen = (ps a).seen; list = []; edits = (ps a).edits }) ps) ps
past_after (edit a c k) w r ps = cond (accepted r) (put_past a (record { seen = (ps a).seen; list = (ps a).list ++ (listed a (capacity_of a w) c (ps a) ∷ []); edits = (ps a).edits + 1 }) ps) ps
past_after (join a k u) w r ps = ps
past_after (quit a) w r ps = ps

abbrev pub pasts : List Turn → World → Pasts → Pasts
pasts [] w ps = ps
pasts (t ∷ ts) w ps = pasts ts (step t w).0 (past_after t w (step t w).1 ps)
