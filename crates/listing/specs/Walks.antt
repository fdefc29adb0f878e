-- A walk through a tree in the order of its listing. Assumes nothing.
--     Place              how far a walk has come: the directories entered and not yet finished, the innermost first; the number last
--                        given in the innermost; and how many directories can be entered
--     place n up a       the place of room n, path up and number a
--     inner up           the innermost of the directories up, the root where there is none
--     entered l c p      p, having given c: in c where that is a directory and there is room, else behind c
--     onward l n up a    the step from the place of room n, path up and number a: to the next object of the innermost, or else on from
--                        behind that directory in the one around it
--     advance t p        the place after the next step, and the number that it gives, or none at the end
--     behind d a o       whether o is an object of d of a number above a
--     beyond k d a l     what lies beneath d from behind a on, at most k levels down
--     left t p           all that is still to be given
--     Chain l up         each of up is an object of the next, and the last of the root
--     Sound t p          the path is a chain, and there is room for as many as there are objects
--     Walk V             a walk through the tree that a view of type V shows: the view, and the place
--     walk v p           the walk through v at the place p
--     left_of tree w     all that is still to be given by w
--     Step tree w r v    from the sound walk w, one step comes to the walk v and gives r, which is the first of what was left, or none at the end
use Rattle.std.specs.Prelude.{◌≡◌, ℕ, zero, suc, ◌-◌, ◌≤◌, Bool, cond, ◌&&◌, List, [], ◌∷◌, ◌++◌, length, Some, None, Option, nat_lt}
use Rattle.std.specs.List.{flat_map}
use Rattle.std.specs.Option.{option_map}
use Rattle.std.specs.Iterator.{YieldsFirst}
use Rattle.tree.specs.Questions.{child, child_of, dir_at}
use Rattle.tree.specs.Trees.{Object, Tree, at, keep}
use Rattle.listing.specs.Listings.{beneath}

pub record Place : Type 0 where
  pub path : List ℕ
  pub after : ℕ
  pub room : ℕ

abbrev pub place : ℕ → List ℕ → ℕ → Place
place n up a = record { path = up; after = a; room = n }

-- ---- a step

abbrev pub inner : List ℕ → ℕ
inner [] = 1
inner (d ∷ up) = d

abbrev pub entered : List Object → ℕ → Place → Place
entered l c p = cond (dir_at c l && nat_lt (length p.path) p.room) (place p.room (c ∷ p.path) 0) (place p.room p.path c)

abbrev pub onward : List Object → ℕ → List ℕ → ℕ → Place × Option ℕ
onward l n [] a = elim (child 1 a l) [ None ↦ (place n [] a, None) | Some c ↦ (entered l c (place n [] a), Some c) ]
onward l n (d ∷ up) a = elim (child d a l) [ None ↦ onward l n up d | Some c ↦ (entered l c (place n (d ∷ up) a), Some c) ]

abbrev pub advance : Tree → Place → Place × Option ℕ
advance t p = onward t.objects p.room p.path p.after

-- ---- what is left

abbrev pub behind : ℕ → ℕ → Object → Bool
behind d a o = child_of d o && nat_lt a o.number

abbrev pub beyond : ℕ → ℕ → ℕ → List Object → List ℕ
beyond zero d a l = []
beyond (suc k) d a l = flat_map (λ o. o.number ∷ beneath k o.number l) (keep (behind d a) l)

abbrev pub left_from : Tree → List ℕ → ℕ → List ℕ
left_from t [] a = beyond t.capacity 1 a t.objects
left_from t (d ∷ up) a = beyond (t.capacity - length (d ∷ up)) d a t.objects ++ left_from t up d

abbrev pub left : Tree → Place → List ℕ
left t p = left_from t p.path p.after

-- ---- sound places

abbrev pub Chain : List Object → List ℕ → Type 0
Chain l [] = Unit {0}
Chain l (d ∷ up) = (option_map (λ o. o.parent) (at d l) ≡ Some (inner up)) × Chain l up

pub record Sound (t : Tree) (p : Place) : Type 0 where
  pub chain : Chain t.objects p.path
  pub room : length t.objects ≤ p.room

-- ---- walks

pub record Walk (V : Type 0) : Type 0 where
  pub view : V
  pub place : Place

abbrev pub walk : {V : Type 0} → V → Place → Walk V
walk v p = record { view = v; place = p }

module _ {V : Type 0} (tree : V → Tree) where
  abbrev pub left_of : Walk V → List ℕ
  left_of w = left (tree w.view) w.place

  pub record Step (w : Walk V) (r : Option ℕ) (v : Walk V) : Type 0 where
    pub view : v.view ≡ w.view
    pub from : Sound (tree w.view) w.place
    pub place : (v.place, r) ≡ advance (tree w.view) w.place
    pub sound : Sound (tree v.view) v.place
    pub gives : YieldsFirst left_of w r v
