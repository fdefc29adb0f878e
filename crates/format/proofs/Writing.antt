-- Bytes that are written over, and parts of them that are rotated. Assumes nothing.
use Rattle.std.proofs.Common.{◌≡◌, ℕ, ◌+◌, ◌-◌, ◌≤◌, List, ◌++◌, length, take, drop, sym, ap, ◌∙◌, append_assoc, arith, length-append, length-drop, take-append-drop, length-take}
use Rattle.std.proofs.lemmas.List.{drop-append-le, drop_at, drop-drop, length-take-le, take-append-le, take_at}
use Rattle.format.specs.Fields.{closed, opened, written}

pub length_written : (bs : List ℕ) (p : ℕ) (field : List ℕ) → p + length field ≤ length bs → length (written bs p field) ≡ length bs
length_written bs p field h = simp (length-append, length-take, length-drop) (omega arith)

pub written_at : (x y z field : List ℕ) (p : ℕ) → length x ≡ p → length field ≡ length y → written (x ++ (y ++ z)) p field ≡ x ++ (field ++ z)
written_at x y z field p e l =
    let front = take_at x (y ++ z) p e in
    let back : drop (p + length field) (x ++ (y ++ z)) ≡ z =
    sym (drop-drop (length field) p (x ++ (y ++ z))) ∙ ap (drop (length field)) (drop_at x (y ++ z) p e) ∙ drop_at y z (length field) (sym l) in
    λ i. front i ++ (field ++ back i)

pub written_front : (y z field : List ℕ) (q : ℕ) → q + length field ≤ length y → written (y ++ z) q field ≡ written y q field ++ z
written_front y z field q h =
    let front = take-append-le q y z (omega arith) in
    let back = drop-append-le (q + length field) y z h in
    (λ i. front i ++ (field ++ back i)) ∙ simp append_assoc

pub written_behind : (x y field : List ℕ) (p q : ℕ) → length x ≡ p → q ≤ length y → written (x ++ y) (p + q) field ≡ x ++ written y q field
written_behind x y field p q e h =
    let assoc : x ++ y ≡ (x ++ take q y) ++ drop q y = ap (λ l. x ++ l) (sym (take-append-drop q y)) ∙ sym (append_assoc x (take q y) (drop q y)) in
    let front : take (p + q) (x ++ y) ≡ x ++ take q y =
    ap (take (p + q)) assoc ∙ take_at (x ++ take q y) (drop q y) (p + q) (simp length-append (omega (arith, length-take-le q y h))) in
    let back : drop (p + q + length field) (x ++ y) ≡ drop (q + length field) y =
    ap (λ n. drop n (x ++ y)) {x = p + q + length field} {y = p + (q + length field)} (omega arith)
    ∙ sym (drop-drop (q + length field) p (x ++ y)) ∙ ap (drop (q + length field)) (drop_at x y p e) in
    (λ i. front i ++ (field ++ back i)) ∙ append_assoc x (take q y) (field ++ drop (q + length field) y)

pub written-within
    : (x y z field : List ℕ) (p q : ℕ) → length x ≡ p → q + length field ≤ length y
    → written (x ++ (y ++ z)) (p + q) field ≡ x ++ (written y q field ++ z)
written-within x y z field p q e h =
    written_behind x (y ++ z) field p q e (simp length-append (omega arith)) ∙ ap (λ l. x ++ l) (written_front y z field q h)

-- ---- one behind the other

pub written-written
    : (bs s t : List ℕ) (at p : ℕ) → p ≡ at + length s → p + length t ≤ length bs → written (written bs at s) p t ≡ written bs at (s ++ t)
written-written bs s t at p e h =
    let pre : length (take at bs ++ s) ≡ p = simp (length-append, length-take) (omega arith) in
    let assoc : written bs at s ≡ (take at bs ++ s) ++ drop (at + length s) bs = sym (append_assoc (take at bs) s _) in
    let front : take p (written bs at s) ≡ take at bs ++ s = ap (take p) assoc ∙ take_at (take at bs ++ s) _ p pre in
    let back : drop (p + length t) (written bs at s) ≡ drop (at + length (s ++ t)) bs =
    sym (drop-drop (length t) p (written bs at s)) ∙ ap (drop (length t)) (ap (drop p) assoc ∙ drop_at (take at bs ++ s) _ p pre)
    ∙ drop-drop (length t) (at + length s) bs
    ∙ ap (λ k. drop k bs) {x = at + length s + length t} {y = at + length (s ++ t)} (simp length-append (omega arith)) in
    (λ i. front i ++ (t ++ back i))
    ∙ append_assoc (take at bs) s (t ++ drop (at + length (s ++ t)) bs)
    ∙ ap (λ l. take at bs ++ l) (sym (append_assoc s t (drop (at + length (s ++ t)) bs)))

pub then
    : {b₁ b₂ : List ℕ} (bs s t : List ℕ) (at p : ℕ) → b₁ ≡ written bs at s → b₂ ≡ written b₁ p t → p ≡ at + length s → p + length t ≤ length bs
    → b₂ ≡ written bs at (s ++ t)
then bs s t at p e f l h = f ∙ ap (λ b. written b p t) e ∙ written-written bs s t at p l h

-- ---- rotated

module _ (x m z : List ℕ) (a b : ℕ) (lx : length x ≡ a) (lm : a + length m ≡ b) where
  part_at : take (b - a) (drop a (x ++ (m ++ z))) ≡ m
  part_at = ap (take (b - a)) (drop_at x (m ++ z) a lx) ∙ take_at m z (b - a) (omega arith)

  past_at : drop b (x ++ (m ++ z)) ≡ z
  past_at = ap (drop b) (sym (append_assoc x m z)) ∙ drop_at (x ++ m) z b (simp length-append (omega arith))

-- the part p ++ q, rotated at k
rotated : (x p q z : List ℕ) (a b k : ℕ) → length x ≡ a → length p ≡ k → a + length (p ++ q) ≡ b → (bs : List ℕ) → bs ≡ x ++ ((p ++ q) ++ z)
    → (let part = take (b - a) (drop a bs) in take a bs ++ ((drop k part ++ take k part) ++ drop b bs)) ≡ x ++ (q ++ (p ++ z))
rotated x p q z a b k lx lp lb bs is =
    let front : take a bs ≡ x = ap (take a) is ∙ take_at x _ a lx in
    let part : take (b - a) (drop a bs) ≡ p ++ q = ap (λ l. take (b - a) (drop a l)) is ∙ part_at x (p ++ q) z a b lx lb in
    let past : drop b bs ≡ z = ap (drop b) is ∙ past_at x (p ++ q) z a b lx lb in
    let far : drop k (take (b - a) (drop a bs)) ≡ q = ap (drop k) part ∙ drop_at p q k lp in
    let near : take k (take (b - a) (drop a bs)) ≡ p = ap (take k) part ∙ take_at p q k lp in
    (λ i. front i ++ ((far i ++ near i) ++ past i)) ∙ ap (λ l. x ++ l) (append_assoc q p z)

pub written-opened
    : (x y z field : List ℕ) (at end w : ℕ) → length x ≡ at → at + length y ≡ end → length field ≡ w → w ≤ length z
    → written (opened (x ++ (y ++ z)) at end w) at field ≡ x ++ (field ++ (y ++ drop w z))
written-opened x y z field at end w lx ly lf lz =
    let bs = x ++ (y ++ z) in
    let lw : length (take w z) ≡ w = length-take-le w z lz in
    let is : bs ≡ x ++ ((y ++ take w z) ++ drop w z) =
    ap (λ l. x ++ (y ++ l)) (sym (take-append-drop w z)) ∙ ap (λ l. x ++ l) (sym (append_assoc y (take w z) (drop w z))) in
    let ll : length bs ≡ at + (length y + length z) = simp length-append (omega arith) in
    let lp : length y ≡ length (take (end + w - at) (drop at bs)) - w = simp (length-take, length-drop) (omega arith) in
    let gap : opened bs at end w ≡ x ++ (take w z ++ (y ++ drop w z)) =
    rotated x y (take w z) (drop w z) at (end + w) (length (take (end + w - at) (drop at bs)) - w) lx lp (simp length-append (omega arith)) bs is in
    ap (λ l. written l at field) gap ∙ written_at x (take w z) (y ++ drop w z) field at lx (omega arith)

pub Closed-at
    : (x e y z : List ℕ) (at end w : ℕ) → length x ≡ at → length e ≡ w → at + w + length y ≡ end
    → closed (x ++ (e ++ (y ++ z))) at end w ≡ x ++ (y ++ (e ++ z))
Closed-at x e y z at end w lx le ly =
    rotated x e y z at end w lx le (simp length-append (omega arith)) (x ++ (e ++ (y ++ z))) (ap (λ l. x ++ l) (sym (append_assoc e y z)))
