-- What a binary search through the entries of a section finds. Assumes nothing.
use Rattle.std.proofs.Common.{◌≡◌, ℕ, zero, suc, ◌+◌, ◌-◌, ◌*◌, ◌/◌, ◌<◌, ◌≤◌, List, [], length, get_or, take, drop, Ok, Err, Result, sym, refl, ap, ◌∙◌, subst, arith, tests, length-drop, mul-zero, mul-suc}
use Rattle.std.specs.Cmp.{ranks}
use Rattle.std.specs.List.Sorted.{IsBinarySearchResult, IsSearchInRange}
use Rattle.std.specs.Ordering.{MatchOrdering, nat_cmp, ordering_index}
use Rattle.std.specs.declared.cmp.Ordering.{Ordering}
use Rattle.std.specs.declared.cmp.Ordering.TheVariants.{Less, Equal, Greater}
use Rattle.std.specs.Simd.{first_chunks}
use Rattle.std.proofs.lemmas.List.{drop-drop, drop-take, get_or-take, length-take-le}
use Rattle.std.proofs.Math.Nat.{mul-div_cancel, mul_comm}
use Rattle.vocab.specs.declared.kind.Kind.{Kind}
use Rattle.tree.specs.Trees.{Ascends, Object}
use Rattle.format.specs.Fields.{word}
use Rattle.format.specs.Images.{section, section_at}
use Rattle.format.specs.Layout.{entry_size}
use Rattle.format.proofs.Holding.{entry_shown}
use Rattle.format.proofs.Lengths.{entry_within}
use Rattle.format.proofs.Meaning.{section_ascends}
use Rattle.format.proofs.Placing.{ascends_get_or}
use Rattle.image.specs.Searches.{Located, Numbers, nothing}
use Rattle.image.specs.Stores.{bytes_of, store_sections, tree_of}
use Rattle.image.specs.declared.Image.{Image}
use Rattle.image.proofs.Standing.{head_low, law, place_held, place_low}

-- one of the first chunks
chunk_at : (w n : ℕ) (bs : List ℕ) (i : ℕ) (d : List ℕ) → i < n → get_or (first_chunks w n bs) i d ≡ take w (drop (w * i) bs)
chunk_at w zero bs i d h = absurd (omega arith)
chunk_at w (suc n) bs zero d h = ap (λ k. take w (drop k bs)) (sym (mul-zero w))
chunk_at w (suc n) bs (suc i) d h =
    chunk_at w n (drop w bs) i d (omega arith) ∙ ap (take w) (drop-drop (w * i) w bs ∙ ap (λ k. drop k bs) {x = w + w * i} {y = w * suc i} (omega (arith, mul-suc w i)))

length_chunks : (w n : ℕ) (bs : List ℕ) → length (first_chunks w n bs) ≡ n
length_chunks w zero bs = refl
length_chunks w (suc n) bs = ap suc (length_chunks w n (drop w bs))

pub word_front : (w : ℕ) (bs : List ℕ) → 4 ≤ w → word (take w bs) 0 ≡ word bs 0
unfolding word
word_front w bs h =
    rw (get_or-take w bs 0 0 (omega arith), get_or-take w bs 1 0 (omega arith), get_or-take w bs 2 0 (omega arith), get_or-take w bs 3 0 (omega arith)) refl

-- ---- in entries of w bytes

module _ (w : ℕ) (wide : 4 ≤ w) (l : List Object) (up : Ascends 2 l) (bs : List ℕ) (long : length bs ≡ w * length l) (own : Numbers w l bs) (x : ℕ) where
  abbrev entries : List (List ℕ)
  entries = first_chunks w (length bs / w) bs

  count : length bs / w ≡ length l
  count = ap (λ n. n / w) (long ∙ mul_comm w (length l)) ∙ mul-div_cancel (length l) (omega arith)

  abbrev number : ℕ → ℕ
  number i = (get_or l i nothing).number

  key : (i : ℕ) (d : List ℕ) → i < length l → word (get_or entries i d) 0 ≡ number i
  key i d h = ap (λ e. word e 0) (chunk_at w (length bs / w) bs i d (omega (arith, count))) ∙ word_front w (drop (w * i) bs) wide ∙ own i h

  -- what the answer o of a comparison says of the number at i
  abbrev Says : ℕ → Ordering → Type 0
  Says i o = MatchOrdering o (number i < x) (number i ≡ x) (x < number i)

  says : (i : ℕ) (d : List ℕ) → i < length l → (o : Ordering) → nat_cmp (word (get_or entries i d) 0) x ≡ o → Says i o
  says i d h o e = subst (Says i) e (subst (λ n. MatchOrdering (nat_cmp n x) (number i < x) (number i ≡ x) (x < number i)) (sym (key i d h)) (ranks (number i) x))

  higher : (a b : ℕ) → a ≤ b → ordering_index (nat_cmp a x) ≤ ordering_index (nat_cmp b x)
  higher a b le = grind (arith, tests)

  pub located : (r : Result ℕ ℕ) → IsSearchInRange r (length bs / w) → IsBinarySearchResult (λ e. nat_cmp (word e 0) x) entries r → Located x l r
  located (Ok i) h k = let within : i < length l = omega (arith, count) in (within, says i [] within Equal (k []))
  located (Err i) h k =
      let n = length_chunks w (length bs / w) bs in
      let parted = k (λ a b d le lt. higher _ _ (omega (arith, ascends_get_or nothing 2 l up a b le (omega (arith, count)), key a d (omega (arith, count)), key b d (omega (arith, count))))) in (
        omega (arith, count),
        (λ j a. says j [] (omega (arith, count)) Less (parted.0 j [] (omega arith) a)),
        (λ j a b. says j [] b Greater (parted.1 j [] a (omega (arith, count)))),
      )

-- ---- in a section of a store

module _ (s : Image) (k : Kind) where
  abbrev objects : List Object
  objects = section k (store_sections s)

  pub located_in
      : (w : ℕ) → entry_size k ≡ w → 4 ≤ w → (bs : List ℕ) → length bs ≡ entry_size k * length objects → Numbers (entry_size k) objects bs
      → (x : ℕ) (r : Result ℕ ℕ) → IsSearchInRange r (length bs / w) → IsBinarySearchResult (λ e. nat_cmp (word e 0) x) (first_chunks w (length bs / w) bs) r → Located x objects r
  located_in w is wide bs long own x r =
      located w wide objects (section_ascends (tree_of s) (law s) k) bs (long ∙ ap (λ n. n * length objects) is) (subst (λ n. Numbers n objects bs) is own) x r

  -- the bytes from where it starts to where it ends
  module _
      (bs : List ℕ) (same : bs ≡ bytes_of s) (count start end : ℕ) (count_is : count ≡ length objects) (some : count ≡ 0 → ⊥)
      (start_is : start ≡ section_at k (store_sections s)) (end_is : end ≡ section_at k (store_sections s) + entry_size k * count)
    where
      size_is : end - start ≡ entry_size k * length objects
      size_is = omega (arith, start_is, end_is, ap (λ n. entry_size k * n) count_is)

      pub held : end ≤ length bs
      held = omega (arith, end_is, ap length same, place_held s k 0 (omega (arith, count_is)), place_low s k count (omega (arith, count_is)))

      long : length (take (end - start) (drop start bs)) ≡ entry_size k * length objects
      long = length-take-le (end - start) (drop start bs) (omega (arith, length-drop start bs, held)) ∙ size_is

      numbers : Numbers (entry_size k) objects (take (end - start) (drop start bs))
      unfolding tree_of
      numbers i h =
          let p = entry_size k * i in
          let rest = end - start - p in
          let more = entry_within (entry_size k) i (length objects) h in
          let wide = head_low k in
          let whole : end - start ≡ p + rest = omega (arith, size_is) in
          let shown = entry_shown (bytes_of s) s.next s.directories s.files (law s) s.held k i h nothing in
          ap (λ n. word (drop p (take n (drop start bs))) 0) whole
          ∙ ap (λ es. word es 0) (drop-take p rest (drop start bs))
          ∙ word_front rest (drop p (drop start bs)) (omega (arith, size_is))
          ∙ ap (λ es. word es 0) (drop-drop p start bs ∙ (λ j. drop (start_is j + p) (same j)))
          ∙ shown.number

      pub cut : (length (take (end - start) (drop start bs)) ≡ entry_size k * length objects) × Numbers (entry_size k) objects (take (end - start) (drop start bs))
      cut = (long, numbers)
