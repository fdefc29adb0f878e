-- An entry more in an image store. Assumes nothing.
use Rattle.std.proofs.Common.{◌≡◌, ℕ, ◌+◌, ◌-◌, ◌*◌, ◌<◌, ◌≤◌, false, List, length, Ok, Err, refl, sym, ap, ◌∙◌, subst, arith}
use Rattle.std.proofs.lemmas.Bool.{both_ways}
use Rattle.vocab.specs.declared.kind.Kind.{Kind}
use Rattle.vocab.specs.declared.kind.Kind.TheVariants.{Directory, File}
use Rattle.vocab.specs.declared.status.Status.{Status}
use Rattle.tree.specs.Meaning.{status_of}
use Rattle.tree.specs.Questions.{is_some, kind_of, new_body}
use Rattle.tree.specs.Trees.{Object, at, insert, with_objects}
use Rattle.format.specs.Entries.{entry_bytes}
use Rattle.format.specs.Fields.{le16, opened, written}
use Rattle.format.specs.Images.{section, section_at, size}
use Rattle.format.specs.Layout.{entry_size}
use Rattle.format.specs.declared.layout.TheConstants.{LEAST_SIZE}
use Rattle.format.proofs.Changing.{Kept, inserted, raised}
use Rattle.format.proofs.Holding.{count_objects, enough, room_for}
use Rattle.image.specs.Searches.{Located, nothing}
use Rattle.image.specs.Stores.{CanHold, bytes_of, store_sections, tree_of}
use Rattle.image.specs.declared.Image.{Image}
use Rattle.image.proofs.Locating.{stands}
use Rattle.image.proofs.Standing.{law, place_low}
use Rattle.image.proofs.Storing.{Settled, settled}

told : (e : Status) → kind_of (status_of e) ≡ e.kind
told e = go e.kind
  where
    go : (k : Kind) → kind_of (record { number = e.number; parent = e.parent; name = e.name; stamp = e.stamp; body = new_body k }) ≡ k
    go Directory = refl
    go File = refl

module _ (s : Image) where
  pub taken_number : (k : Kind) (x i : ℕ) → is_some (at x (tree_of s).objects) ≡ false → Located x (section k (store_sections s)) (Ok i) → ⊥
  taken_number k x i free h = let z = both_ways _ free (ap is_some (stands (tree_of s) (law s) x k i h).here) in z

  module _ (e : Status) (room : length (tree_of s).objects < (tree_of s).capacity) where
    abbrev objects : List Object
    objects = insert (status_of e) (tree_of s).objects

    -- where there is room for an object, there is an image
    pub large : LEAST_SIZE ≤ length (bytes_of s)
    unfolding tree_of
    large = enough (bytes_of s) s.next s.directories s.files (law s) s.held (omega (arith, room))

    less : s.directories + s.files < (tree_of s).capacity
    unfolding tree_of
    less = omega (arith, room, count_objects (bytes_of s) s.next s.directories s.files)

    pub room_behind : size (store_sections s) + entry_size e.kind ≤ length (bytes_of s)
    unfolding tree_of
    room_behind = room_for (bytes_of s) s.next s.directories s.files (law s) s.held e.kind less

    -- where the entry would stand at place i
    module _
        (i : ℕ) (here : Located e.number (section e.kind (store_sections s)) (Err i))
        (at end w : ℕ) (at-is : at ≡ section_at e.kind (store_sections s) + entry_size e.kind * i) (end_is : end ≡ size (store_sections s)) (w-is : w ≡ entry_size e.kind)
      where
        pub openable : (bs : List ℕ) → bs ≡ bytes_of s → (at ≤ end) × (end + w ≤ length bs)
        openable bs same = (omega (arith, place_low s e.kind i here.0), omega (arith, ap length same, room_behind))

        -- the gap, the entry and the count, one after another
        pub entered
            : CanHold s objects
            → (start n : ℕ) → start ≡ section_at e.kind (store_sections s) → n ≡ length (section e.kind (store_sections s))
            → (b₀ b₁ b₂ cs : List ℕ) → b₀ ≡ bytes_of s → b₁ ≡ opened b₀ at end w → b₂ ≡ written b₁ at (entry_bytes e.kind (status_of e))
            → cs ≡ written b₂ (start - 2) (le16 (n + 1)) → length cs ≡ s.bytes.len
            → (d f : ℕ) → (d, f) ≡ raised e.kind s.directories s.files
            → Settled s cs d f objects
        unfolding tree_of
        entered lawful start n start_is n-is b₀ b₁ b₂ cs e₀ e₁ e₂ e₃ long d f counts =
            settled s cs long large d f objects (subst (λ r. Kept cs s.next r.0 r.1 (with_objects (tree_of s) objects)) (sym counts) kept)
          where
            all : b₂ ≡ written (opened (bytes_of s) at end (entry_size e.kind)) at (entry_bytes e.kind (status_of e))
            all = e₂ ∙ ap (λ b. written b at (entry_bytes e.kind (status_of e))) (e₁ ∙ (λ j. opened (e₀ j) at end (w-is j)))

            kept : Kept cs s.next (raised e.kind s.directories s.files).0 (raised e.kind s.directories s.files).1 (with_objects (tree_of s) objects)
            kept =
                inserted (bytes_of s) s.next s.directories s.files (law s) s.held cs (long ∙ s.bytes.ok.0) e.kind (status_of e) (told e) lawful nothing i here.0 here.1
                (λ l. let b = here.2 i (omega arith) l in omega arith)
                less at end (n + 1) at-is end_is (ap (λ j. j + 1) n-is)
                (e₃ ∙ (λ j. written (all j) (start_is j - 2) (le16 (n + 1))))
