-- A walk from a sound place gives what was left, one number at a step. Assumes nothing.
use Rattle.std.proofs.Common.{◌≡◌, ℕ, suc, ◌-◌, ◌<◌, ◌≤◌, Bool, true, false, List, [], ◌∷◌, ◌++◌, length, Some, None, Option, sym, refl, ap, ◌∙◌, append_assoc, arith}
use Rattle.std.specs.Iterator.{YieldsFirst}
use Rattle.std.specs.Option.{option_map}
use Rattle.tree.specs.Law.{Lawful}
use Rattle.tree.specs.Questions.{child, dir_at}
use Rattle.tree.specs.Trees.{Object, Tree}
use Rattle.listing.specs.Listings.{beneath, listing}
use Rattle.listing.specs.Walks.{Chain, Place, Sound, advance, beyond, entered, inner, left, left_from, onward, place, Step, Walk}
use Rattle.listing.proofs.Beyond.{First, behind_first, beneath_file, beyond_all, beyond_first, beyond_none}
use Rattle.listing.proofs.Chains.{chain_short}
use Rattle.listing.proofs.Entering.{entered_file, entered_in}

module _ (t : Tree) (w : Lawful t) where
  abbrev l : List Object
  l = t.objects

  abbrev cap : ℕ
  cap = t.capacity

  -- behind a comes c, then what lies beneath it, then what is behind c
  left_first : (up : List ℕ) (a c : ℕ) → First (inner up) a c l → length up < cap → left_from t up a ≡ c ∷ (beneath (cap - suc (length up)) c l ++ left_from t up c)
  left_first [] a c f h =
      let k : cap ≡ suc (cap - 1) = omega arith in
      ap (λ m. beyond m 1 a l) k ∙ beyond_first l (cap - 1) 1 a c f ∙ ap (λ m. c ∷ (beneath (cap - 1) c l ++ beyond m 1 c l)) (sym k)
  left_first (d ∷ up) a c f h =
      let m = cap - suc (suc (length up)) in
      let k : cap - suc (length up) ≡ suc m = omega arith in
      ap (λ n. beyond n d a l ++ left_from t up d) k
      ∙ ap (λ z. z ++ left_from t up d) (beyond_first l m d a c f)
      ∙ ap (λ z. c ∷ z) (append_assoc (beneath m c l) (beyond (suc m) d c l) (left_from t up d))
      ∙ ap (λ n. c ∷ (beneath m c l ++ (beyond n d c l ++ left_from t up d))) (sym k)

  -- what a step from the directories up and the number a comes to
  record Comes (n : ℕ) (up : List ℕ) (a : ℕ) (q : Place) (r : Option ℕ) : Type 0 where
    chain : Chain l q.path
    room : q.room ≡ n
    gives : YieldsFirst (left t) (place n up a) r q

  enters : (n : ℕ) (up : List ℕ) (a c : ℕ) → Chain l up → length l ≤ n → First (inner up) a c l → Comes n up a (entered l c (place n up a)) (Some c)
  enters n up a c ch h f = go (dir_at c l) refl
    where
      longer : Chain l (c ∷ up)
      longer = (ap (option_map (λ o. o.parent)) f.found ∙ ap Some f.parent, ch)

      short : suc (length up) ≤ length l
      short = chain_short t w (c ∷ up) longer

      first : left_from t up a ≡ c ∷ (beneath (cap - suc (length up)) c l ++ left_from t up c)
      first = left_first up a c f (omega (arith, short, w.room))

      go : (b : Bool) → dir_at c l ≡ b → Comes n up a (entered l c (place n up a)) (Some c)
      go true e =
          rw (entered_in l c n up a e (omega (arith, short))) (record {
            chain = longer;
            room = refl;
            gives = first ∙ ap (λ z. c ∷ (z ++ left_from t up c)) (sym (beyond_all l (cap - suc (length up)) c 2 (omega arith) w.ascending));
          })
      go false e =
          rw (entered_file l c n up a e) (record {
            chain = ch;
            room = refl;
            gives = first ∙ ap (λ z. c ∷ (z ++ left_from t up c)) (beneath_file t w (cap - suc (length up)) c e);
          })

  comes : (n : ℕ) (up : List ℕ) (a : ℕ) → Chain l up → length l ≤ n → Comes n up a (onward l n up a).0 (onward l n up a).1
  comes n [] a ch h = go (child 1 a l) refl
    where
      on : Option ℕ → Place × Option ℕ
      on r = elim r [ None ↦ (place n [] a, None) | Some c ↦ (entered l c (place n [] a), Some c) ]

      go : (r : Option ℕ) → child 1 a l ≡ r → Comes n [] a (on r).0 (on r).1
      go None e = let none = beyond_none l cap 1 a e in record { chain = tt; room = refl; gives = (none, none) }
      go (Some c) e = enters n [] a c ch h (behind_first 1 a c 2 l w.ascending e)
  comes n (d ∷ up) a ch h = go (comes n up d ch.1 h) (child d a l) refl
    where
      on : Option ℕ → Place × Option ℕ
      on r = elim r [ None ↦ onward l n up d | Some c ↦ (entered l c (place n (d ∷ up) a), Some c) ]

      go : Comes n up d (onward l n up d).0 (onward l n up d).1 → (r : Option ℕ) → child d a l ≡ r → Comes n (d ∷ up) a (on r).0 (on r).1
      go s None e = record { chain = s.chain; room = s.room; gives = rw (beyond_none l (cap - suc (length up)) d a e) s.gives }
      go s (Some c) e = enters n (d ∷ up) a c ch h (behind_first d a c 2 l w.ascending e)

  pub begins : (n : ℕ) → left t (place n [] 0) ≡ listing t
  begins n = beyond_all l cap 1 2 (omega arith) w.ascending

pub steps : {V : Type 0} (tree : V → Tree) (w v : Walk V) (r : Option ℕ) → Lawful (tree w.view) → Sound (tree w.view) w.place → v.view ≡ w.view → (v.place, r) ≡ advance (tree w.view) w.place → Step tree w r v
steps tree w v r law s same e =
    let t = tree w.view in
    let p = w.place in
    let c = comes t law p.room p.path p.after s.chain s.room in
    let to : v.place ≡ (advance t p).0 = ap (λ z. z.0) e in
    record {
      view = same;
      from = s;
      place = e;
      sound = rw (same, to) (record { chain = c.chain; room = omega (arith, c.room, s.room) });
      gives = rw (same, to, ap (λ z. z.1) e) c.gives;
    }
