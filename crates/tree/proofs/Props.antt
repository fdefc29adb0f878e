-- `Lawful` has one proof at most. Assumes nothing.
use Rattle.std.proofs.Common.{◌≡◌, ℕ, suc, ◌^◌, ◌<◌, ◌≤◌, true, List, [], ◌∷◌, length, Some}
use mathlib.Core.Logic.{∥∥₁_elim}
use denote.Struct.Props.{props}
use std.HLevel.{Π_prop}
use Rattle.vocab.specs.Limits.{temporary}
use Rattle.vocab.specs.Names.{valid_name}
use Rattle.tree.specs.Law.{Lawful, LawfulObject, StampFits}
use Rattle.tree.specs.Questions.{climbs, contents, dir_at, placed}
use Rattle.tree.specs.Trees.{Ascends, Object, Tree, at}

pub ascends_prop : (n : ℕ) (l : List Object) → IsProp (Ascends n l)
ascends_prop n [] = λ p q i. tt
ascends_prop n (o ∷ l) = let h : IsProp (n ≤ o.number) = hlevel props in λ p q i. (h p.0 q.0 i, ascends_prop (suc o.number) l p.1 q.1 i)

fine_prop : (cap : ℕ) (l : List Object) (o : Object) → IsProp (LawfulObject cap l o)
fine_prop cap l o p q =
    let a : IsProp (o.number < 2 ^ 32) = hlevel props in
    let b : IsProp (valid_name o.name ≡ true) = hlevel props in
    let c : IsProp (StampFits o.stamp) = hlevel props in
    let d : IsProp (length (contents o) ≤ 256) = hlevel props in
    let e : IsProp (dir_at o.parent l ≡ true) = hlevel props in
    let f : IsProp (climbs cap 1 o.parent l ≡ true) = hlevel props in
    λ i. record { number = a p.number q.number i; name = b p.name q.name i; stamp = c p.stamp q.stamp i; short = d p.short q.short i; home = e p.home q.home i; rooted = f p.rooted q.rooted i }

pub lawful_prop : (t : Tree) → IsProp (Lawful t)
lawful_prop t p q =
    let a : IsProp (2 ≤ t.next) = hlevel props in
    let b : IsProp (t.next ≤ temporary) = hlevel props in
    let d : IsProp ((x : ℕ) (o : Object) → at x t.objects ≡ Some o → LawfulObject t.capacity t.objects o) = Π_prop (λ x. Π_prop (λ o. Π_prop (λ _. fine_prop t.capacity t.objects o))) in
    let e : IsProp ((x y : ℕ) (o p : Object) → at x t.objects ≡ Some o → at y t.objects ≡ Some p → placed o.parent o.name p ≡ true → x ≡ y) = Π_prop (λ x. Π_prop (λ y. Π_prop (λ o. Π_prop (λ p. Π_prop (λ _. Π_prop (λ _. Π_prop (λ _. hlevel props))))))) in
    let f : IsProp (length t.objects ≤ t.capacity) = hlevel props in
    λ i. record { next_low = a p.next_low q.next_low i; next_high = b p.next_high q.next_high i; ascending = ascends_prop 2 t.objects p.ascending q.ascending i; each = d p.each q.each i; names = e p.names q.names i; room = f p.room q.room i }

pub untold : (t : Tree) → ∥ Lawful t ∥₁ → Lawful t
untold t h = ∥∥₁_elim h (lawful_prop t) (λ x. x)
