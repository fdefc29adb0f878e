-- What an image store is after its bytes are written. Assumes nothing.
--     Settled s cs d f l     with the bytes cs and the counts d and f, s stands for the lawful tree that has the objects l
use Rattle.std.proofs.Common.{◌≡◌, ℕ, ◌<◌, ◌≤◌, cond, ltb, List, [], length, vec_items, sym, ap, ◌∙◌, subst, ⊎_elim, arith}
use Rattle.std.specs.Vec.{with_items}
use Rattle.std.proofs.lemmas.List.{with_items_is}
use Rattle.std.proofs.lemmas.Bool.{cases_lt, cond-false, le-ltb}
use Rattle.tree.specs.Law.{Lawful}
use Rattle.tree.specs.Trees.{Object, Tree, with_objects}
use Rattle.format.specs.Images.{Begins, sections_of, tree_in}
use Rattle.format.specs.declared.layout.TheConstants.{LEAST_SIZE}
use Rattle.format.proofs.Changing.{Kept}
use Rattle.image.specs.Stores.{bytes_of, tree_of}
use Rattle.image.specs.declared.Image.{Image}

-- the bytes that are too few for an image
abbrev spare : List ℕ → List ℕ
spare bs = cond (ltb (length bs) LEAST_SIZE) bs []

spare_same : (bs cs : List ℕ) → length cs ≡ length bs → (length bs < LEAST_SIZE → cs ≡ bs) → spare cs ≡ spare bs
spare_same bs cs long small =
    ⊎_elim
    (λ h. ap spare (small h))
    (λ h. cond-false (ltb (length cs) LEAST_SIZE) _ _ (le-ltb (length cs) LEAST_SIZE (omega arith)) ∙ sym (cond-false (ltb (length bs) LEAST_SIZE) _ _ (le-ltb (length bs) LEAST_SIZE h)))
    (cases_lt (length bs) LEAST_SIZE)

abbrev stored : Image → List ℕ → List ℕ
stored s cs = vec_items (with_items s.bytes cs)

-- the bytes cs were written, and stand for the tree u
module _ (s : Image) (cs : List ℕ) (long : length cs ≡ s.bytes.len) (n d f : ℕ) (u : Tree) (k : Kept cs n d f u) where
  same : stored s cs ≡ cs
  same = with_items_is s.bytes cs long

  pub lawful_after : Lawful (tree_in (stored s cs) n d f)
  lawful_after = subst (λ b. Lawful (tree_in b n d f)) (sym same) k.lawful

  pub held_after : LEAST_SIZE ≤ length (stored s cs) → Begins (stored s cs) (sections_of (tree_in (stored s cs) n d f))
  held_after = subst (λ b. LEAST_SIZE ≤ length b → Begins b (sections_of (tree_in b n d f))) (sym same) k.held

  pub tree_after : tree_in (stored s cs) n d f ≡ u
  tree_after = ap (λ b. tree_in b n d f) same ∙ k.tree

  pub spare_after : (length (bytes_of s) < LEAST_SIZE → cs ≡ bytes_of s) → spare (stored s cs) ≡ spare (bytes_of s)
  spare_after small = ap spare same ∙ spare_same (bytes_of s) cs (long ∙ s.bytes.ok.0) small

pub record Settled (s : Image) (cs : List ℕ) (d f : ℕ) (l : List Object) : Type 0 where
  pub lawful : Lawful (tree_in (stored s cs) s.next d f)
  pub held : LEAST_SIZE ≤ length (stored s cs) → Begins (stored s cs) (sections_of (tree_in (stored s cs) s.next d f))
  pub tree : tree_in (stored s cs) s.next d f ≡ with_objects (tree_of s) l
  pub spare : spare (stored s cs) ≡ spare (bytes_of s)

pub settled : (s : Image) (cs : List ℕ) → length cs ≡ s.bytes.len → LEAST_SIZE ≤ length (bytes_of s) → (d f : ℕ) (l : List Object) → Kept cs s.next d f (with_objects (tree_of s) l) → Settled s cs d f l
settled s cs long large d f l kept =
    let u = with_objects (tree_of s) l in
    record {
      lawful = lawful_after s cs long s.next d f u kept;
      held = held_after s cs long s.next d f u kept;
      tree = tree_after s cs long s.next d f u kept;
      spare = spare_after s cs long s.next d f u kept (λ small. absurd (omega (arith, small, large)));
    }
