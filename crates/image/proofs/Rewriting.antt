-- An entry changed or removed in an image store. Assumes nothing.
use Rattle.std.proofs.Common.{◌≡◌, ℕ, ◌+◌, ◌-◌, ◌*◌, ◌<◌, ◌≤◌, List, length, sym, refl, ap, ◌∙◌, subst, mul-add, arith}
use Rattle.vocab.specs.declared.kind.Kind.{Kind}
use Rattle.vocab.specs.declared.kind.Kind.TheVariants.{File}
use Rattle.vocab.specs.declared.stamp.Stamp.{Stamp}
use Rattle.tree.specs.Changes.{with_contents, with_place}
use Rattle.tree.specs.Trees.{Object, with_objects}
use Rattle.format.specs.Entries.{contents_field, entry_bytes, name_field, stamp_field}
use Rattle.format.specs.Fields.{closed, le16, le32, written}
use Rattle.format.specs.Images.{section, section_at, size}
use Rattle.format.specs.Layout.{entry_size}
use Rattle.format.specs.declared.layout.TheConstants.{AUTHOR, HEAD_SIZE, LEAST_SIZE, NAME_LENGTH, PARENT}
use Rattle.format.proofs.Changing.{Kept, removed, rewritten, lowered}
use Rattle.format.proofs.Cutting.{contents-written, name-written, parent-written, stamp-written}
use Rattle.format.proofs.Holding.{enough, few, some}
use Rattle.format.proofs.Lengths.{length_contents, length_le32, length_name, length_stamp}
use Rattle.image.specs.Places.{Stands, found}
use Rattle.image.specs.Searches.{nothing}
use Rattle.image.specs.Stores.{CanHold, bytes_of, changed_at, rest_of, store_sections, tree_of}
use Rattle.image.specs.declared.Image.{Image}
use Rattle.image.specs.declared.place.Place.{Place}
use Rattle.image.proofs.Locating.{stands}
use Rattle.image.proofs.Standing.{head_low, law, place_held, place_low, size_low}
use Rattle.image.proofs.Storing.{Settled, settled}

module _ (s : Image) (p : Place) (within : p.index < length (section p.kind (store_sections s))) where
  pub own : Stands (found (tree_of s) p).number (tree_of s) p
  own = stands (tree_of s) (law s) (found (tree_of s) p).number p.kind p.index (within, refl)

  pub entry_held : section_at p.kind (store_sections s) + entry_size p.kind * p.index + entry_size p.kind ≤ size (store_sections s)
  entry_held =
      let more = place_low s p.kind (p.index + 1) (omega arith) in
      omega (arith, mul-add (entry_size p.kind) p.index 1)

  -- the entry lies within the bytes
  pub inside : (at : ℕ) → at ≡ section_at p.kind (store_sections s) + entry_size p.kind * p.index → (bs : List ℕ) → bs ≡ bytes_of s → (at + entry_size p.kind ≤ length bs) × (at + entry_size p.kind ≤ 1300000)
  inside at is bs same = (omega (arith, ap length same, entry_held, place_held s p.kind p.index within), omega (arith, entry_held, size_low s))

  -- so does the gap that closes over it
  pub closable : (at end w : ℕ) → at ≡ section_at p.kind (store_sections s) + entry_size p.kind * p.index → end ≡ size (store_sections s) → w ≡ entry_size p.kind → (bs : List ℕ) → bs ≡ bytes_of s → (at + w ≤ end) × (end ≤ length bs)
  closable at end w at-is end_is w-is bs same = (omega (arith, entry_held), omega (arith, ap length same, place_held s p.kind p.index within))

  pub large : LEAST_SIZE ≤ length (bytes_of s)
  unfolding tree_of
  large =
      let own = some (bytes_of s) s.next s.directories s.files (law s) s.held p.kind p.index within in
      enough (bytes_of s) s.next s.directories s.files (law s) s.held
      (omega (arith, own, few (bytes_of s) s.next s.directories s.files (law s) s.held))

  -- where the bytes cs are written, and the entry stands at `at`
  module _ (cs : List ℕ) (long : length cs ≡ s.bytes.len) (at : ℕ) (at-is : at ≡ section_at p.kind (store_sections s) + entry_size p.kind * p.index) where
    pub overwritten
        : p.kind ≡ File → (c : List ℕ) (e : Stamp)
        → CanHold s (changed_at s p (with_contents c e))
        → (b₀ b₁ : List ℕ) → b₀ ≡ bytes_of s → b₁ ≡ written b₀ (at + AUTHOR) (stamp_field e) → cs ≡ written b₁ (at + HEAD_SIZE) (contents_field c)
        → Settled s cs s.directories s.files (changed_at s p (with_contents c e))
    unfolding tree_of
    overwritten file c e lawful b₀ b₁ e₀ e₁ e₂ = settled s cs long large s.directories s.files _ kept
      where
        as-file
            : (k : Kind) → k ≡ File → let o = found (tree_of s) p in
            written (entry_bytes k (record { number = o.number; parent = o.parent; name = o.name; stamp = e; body = o.body })) HEAD_SIZE (contents_field c) ≡ entry_bytes k (with_contents c e o)
        as-file k h =
            let o = found (tree_of s) p in
            let new : Object = record { number = o.number; parent = o.parent; name = o.name; stamp = e; body = o.body } in
            ap (λ j. written (entry_bytes j new) HEAD_SIZE (contents_field c)) h ∙ contents-written new c ∙ ap (λ j. entry_bytes j (with_contents c e o)) (sym h)

        kept : Kept cs s.next s.directories s.files (with_objects (tree_of s) (changed_at s p (with_contents c e)))
        kept =
            let o = found (tree_of s) p in
            rewritten (bytes_of s) s.next s.directories s.files (law s) s.held cs (long ∙ s.bytes.ok.0) o.number o own.here p.kind own.kind nothing p.index within refl at at-is
            (with_contents c e) (sym file) lawful AUTHOR HEAD_SIZE (stamp_field e) (contents_field c)
            (omega (arith, length_stamp e, ap entry_size file))
            (omega (arith, length_contents c, ap entry_size file))
            (ap (λ z. written z HEAD_SIZE (contents_field c)) (stamp-written p.kind o e) ∙ as-file p.kind file)
            (e₂ ∙ ap (λ b. written b (at + HEAD_SIZE) (contents_field c)) (e₁ ∙ ap (λ b. written b (at + AUTHOR) (stamp_field e)) e₀))

    pub replaced
        : (q : ℕ) (m : List ℕ)
        → CanHold s (changed_at s p (with_place q m))
        → (b₀ b₁ : List ℕ) → b₀ ≡ bytes_of s → b₁ ≡ written b₀ (at + PARENT) (le32 q) → cs ≡ written b₁ (at + NAME_LENGTH) (name_field m)
        → Settled s cs s.directories s.files (changed_at s p (with_place q m))
    unfolding tree_of
    replaced q m lawful b₀ b₁ e₀ e₁ e₂ = settled s cs long large s.directories s.files _ kept
      where
        kept : Kept cs s.next s.directories s.files (with_objects (tree_of s) (changed_at s p (with_place q m)))
        kept =
            let o = found (tree_of s) p in
            let new : Object = record { number = o.number; parent = q; name = o.name; stamp = o.stamp; body = o.body } in
            let low = head_low p.kind in
            rewritten (bytes_of s) s.next s.directories s.files (law s) s.held cs (long ∙ s.bytes.ok.0) o.number o own.here p.kind own.kind nothing p.index within refl at at-is
            (with_place q m) own.kind lawful PARENT NAME_LENGTH (le32 q) (name_field m)
            (omega (arith, length_le32 q))
            (omega (arith, length_name m))
            (ap (λ z. written z NAME_LENGTH (name_field m)) (parent-written p.kind o q) ∙ name-written p.kind new m)
            (e₂ ∙ ap (λ b. written b (at + NAME_LENGTH) (name_field m)) (e₁ ∙ ap (λ b. written b (at + PARENT) (le32 q)) e₀))

    pub gone
        : CanHold s (rest_of s p)
        → (w start end n : ℕ) → w ≡ entry_size p.kind → start ≡ section_at p.kind (store_sections s) → end ≡ size (store_sections s) → n ≡ length (section p.kind (store_sections s))
        → (b₀ b₁ : List ℕ) → b₀ ≡ bytes_of s → b₁ ≡ closed b₀ at end w → cs ≡ written b₁ (start - 2) (le16 (n - 1))
        → (d f : ℕ) → (d, f) ≡ lowered p.kind s.directories s.files
        → Settled s cs d f (rest_of s p)
    unfolding tree_of
    gone lawful w start end n w-is start_is end_is n-is b₀ b₁ e₀ e₁ e₂ d f counts =
        settled s cs long large d f _ (subst (λ r. Kept cs s.next r.0 r.1 (with_objects (tree_of s) (rest_of s p))) (sym counts) kept)
      where
        all : b₁ ≡ closed (bytes_of s) at end (entry_size p.kind)
        all = e₁ ∙ (λ i. closed (e₀ i) at end (w-is i))

        kept : Kept cs s.next (lowered p.kind s.directories s.files).0 (lowered p.kind s.directories s.files).1 (with_objects (tree_of s) (rest_of s p))
        kept =
            let o = found (tree_of s) p in
            removed (bytes_of s) s.next s.directories s.files (law s) s.held cs (long ∙ s.bytes.ok.0) o.number o own.here p.kind own.kind nothing p.index within refl at at-is
            lawful end (n - 1) end_is (ap (λ j. j - 1) n-is)
            (e₂ ∙ (λ i. written (all i) (start_is i - 2) (le16 (n - 1))))
