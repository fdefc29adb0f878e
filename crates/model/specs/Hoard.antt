-- The hoard: what a loader keeps for being away. Assumes nothing.
--     Kept, Ranked       a kept file with its last use; a number with its rank
--     Hoard              the kept files, the ranks, and the count of uses
--     kept_in h x        whether the file x is kept
--     rank_of h x        its rank, 0 where it has none
--     age h x            the uses since its last, or 2^32 - 1 for a file that is not kept
--     used h x           the hoard after an accepted read of x
--     ranked h x r       the hoard after x got the rank r, and the answer
--     before f h o p     whether the file o goes before p: by higher priority under the policy f, of equals by lower number
--     chosen f h l       the 16 files of l that go first, or all if there are fewer
--     walked f h l       the hoard after a walk through the objects l
--     weighted, plain    the two policies
use Rattle.std.specs.Prelude.{ℕ, ◌+◌, ◌-◌, ◌*◌, ◌/◌, ◌^◌, min, Bool, cond, not, ◌&&◌, ◌||◌, List, [], ◌∷◌, ◌++◌, map, length, take, Result, ◌==◌, nat_le, nat_lt}
use Rattle.vocab.specs.declared.refusal.Refusal.{Refusal}
use Rattle.vocab.specs.declared.refusal.Refusal.TheVariants.{RanksFull, RankTooHigh}
use Rattle.vocab.specs.Checks.{check, judge}
use Rattle.tree.specs.Questions.{regular}
use Rattle.tree.specs.Trees.{Object, keep, some_of}

pub record Kept : Type 0 where
  pub number : ℕ
  pub last_use : ℕ

pub record Ranked : Type 0 where
  pub number : ℕ
  pub rank : ℕ

pub record Hoard : Type 0 where
  pub kept : List Kept
  pub ranks : List Ranked
  pub uses : ℕ

abbrev pub most : ℕ
most = 2 ^ 32 - 1

abbrev pub kept_in : Hoard → ℕ → Bool
kept_in h x = some_of (λ k. k.number == x) h.kept

-- ---- uses

abbrev pub last_use_in : List Kept → ℕ → ℕ → ℕ
last_use_in [] x d = d
last_use_in (k ∷ ks) x d = cond (k.number == x) k.last_use (last_use_in ks x d)

abbrev pub age : Hoard → ℕ → ℕ
age h x = cond (kept_in h x) (h.uses - last_use_in h.kept x 0) most

abbrev pub used : Hoard → ℕ → Hoard
used h x =
    let n = min (h.uses + 1) most in
    record { kept = map (λ k. cond (k.number == x) (record { number = x; last_use = n }) k) h.kept; ranks = h.ranks; uses = n }

-- ---- ranks

abbrev pub rank_in : List Ranked → ℕ → ℕ
rank_in [] x = 0
rank_in (r ∷ rs) x = cond (r.number == x) r.rank (rank_in rs x)

abbrev pub rank_of : Hoard → ℕ → ℕ
rank_of h x = rank_in h.ranks x

abbrev pub has_rank : Hoard → ℕ → Bool
has_rank h x = some_of (λ r. r.number == x) h.ranks

abbrev pub with_rank : Hoard → ℕ → ℕ → List Ranked
with_rank h x r =
    cond (r == 0) (keep (λ k. not (k.number == x)) h.ranks)
    (cond (has_rank h x) (map (λ k. cond (k.number == x) (record { number = x; rank = r }) k) h.ranks) (h.ranks ++ (record { number = x; rank = r } ∷ [])))

abbrev pub ranked : Hoard → ℕ → ℕ → Hoard × Result (Unit {0}) Refusal
ranked h x r =
    judge
    (check (nat_le r 1000) RankTooHigh ∷ check (r == 0 || (has_rank h x || nat_lt (length h.ranks) 64)) RanksFull ∷ [])
    h
    (record { kept = h.kept; ranks = with_rank h x r; uses = h.uses }, tt)

-- ---- the choice

abbrev pub Policy : Type 0
Policy = ℕ → ℕ → ℕ

abbrev pub priority : Policy → Hoard → Object → ℕ
priority f h o = f (rank_of h o.number) (age h o.number)

abbrev pub before : Policy → Hoard → Object → Object → Bool
before f h o p = nat_lt (priority f h p) (priority f h o) || (priority f h o == priority f h p && nat_lt o.number p.number)

abbrev pub placed_in : Policy → Hoard → Object → List Object → List Object
placed_in f h o [] = o ∷ []
placed_in f h o (p ∷ l) = cond (before f h o p) (o ∷ p ∷ l) (p ∷ placed_in f h o l)

abbrev pub sorted : Policy → Hoard → List Object → List Object
sorted f h [] = []
sorted f h (o ∷ l) = placed_in f h o (sorted f h l)

abbrev pub chosen : Policy → Hoard → List Object → List Object
chosen f h l = take 16 (sorted f h (keep regular l))

abbrev pub walked : Policy → Hoard → List Object → Hoard
walked f h l = record { kept = map (λ o. record { number = o.number; last_use = last_use_in h.kept o.number h.uses }) (chosen f h l); ranks = h.ranks; uses = h.uses }

-- ---- the two policies

abbrev pub plain : Policy
plain rank age = rank

-- 75 parts of the rank and 25 of the recency
abbrev pub weighted : Policy
weighted rank age = (75 * rank + 25 * (1000 - min age 1000)) / 100
