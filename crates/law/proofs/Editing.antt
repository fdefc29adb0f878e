-- An edit away: the record that is made is the record that is listed. Assumes nothing.
use Rattle.std.proofs.Common.{◌≡◌, ℕ, ◌+◌, ◌-◌, ◌^◌, ltb, leb, ◌⊎◌, List, [], ◌∷◌, ◌++◌, map, length, drop, Ok, Err, Result, sym, refl, ap, ◌∙◌, subst, ap₂, inl, inr, rules}
use Rattle.std.proofs.lemmas.List.{take_at}
use Rattle.model.specs.declared.answer.Fault.{Fault}
use Rattle.model.specs.Applying.{all_checks, applied, effect}
use Rattle.model.specs.Cancelling.{born, entered}
use Rattle.model.specs.Loaders.{Loader, Spell as Stay, edited, guard, lent, log, log_checks, new_log, new_record, now_given, with_edit_done}
use Rattle.model.specs.Office.{Call, edit_of, form_checks}
use Rattle.model.specs.Past.{Past, given, given_by, listed, shadow, walk_tree}
use Rattle.model.specs.Records.{Record, object, stamp_of}
use Rattle.tree.specs.Questions.{bare}
use Rattle.tree.specs.Trees.{Object, Tree, with_objects}
use Rattle.vocab.specs.declared.layer.Layer.TheVariants.{Copy, Loader as LoaderLayer, Log}
use Rattle.vocab.specs.declared.refusal.Refusal.TheVariants.{LogFull, SerialsSpent}
use Rattle.vocab.specs.Checks.{Check, Holds, check}
use Rattle.vocab.specs.Limits.{temporary}
use Rattle.law.specs.Spells.{Numbered}
use Rattle.law.proofs.Alike.{like_edit, like_effect, like_tests}
use Rattle.law.proofs.Entering.{cancel, entered_cancel}
use Rattle.law.proofs.Growing.{copy_grows, count_grows}
use Rattle.law.proofs.Guarding.{guard_ways}
use Rattle.law.proofs.Runs.{passed, tests, tests_of}
use Rattle.law.proofs.Sane.{Fit, Out}
use Rattle.law.proofs.Sound.{Sound, sound_more}

holds_parts : (cs ds : List Check) → Holds (cs ++ ds) → Holds cs × Holds ds
holds_parts [] ds h = (tt, h)
holds_parts (c ∷ cs) ds h = let k = holds_parts cs ds h.1 in ((h.0, k.0), k.1)

numbered : (k : ℕ) (c : Call) (t : Tree) → Numbered k (edit_of (temporary + k) c t)
numbered k c t = search rules

module _ (s : Stay) (c : Call) (k : ℕ) (d : Loader) where
  abbrev copy_checks : List Check
  copy_checks = form_checks c ++ all_checks (new_record s c d).edit d.copy

  abbrev room_check : List Check
  room_check = check (leb (length (new_log s c d)) (lent k d)) LogFull ∷ []

  abbrev serial_check : List Check
  serial_check = check (ltb d.serial (2 ^ 31 - 1)) SerialsSpent ∷ []

  abbrev end : Loader × Result ℕ Fault
  end = (with_edit_done s c d, Ok (object (new_record s c d).edit))

  pub edit_ways : (Holds (tests d.copy.capacity (new_record s c d).edit d.copy.objects) × (edited s c k d ≡ (with_edit_done s c d, Ok (object (new_record s c d).edit)))) ⊎ ((f : Fault) × (edited s c k d ≡ (d, Err f)))
  edit_ways = elim (guard_ways Log (log_checks s k d) d (guard LoaderLayer serial_check d (guard Copy copy_checks d (guard Log room_check d end)))) [
    | inr h ↦ inr h
    | inl h ↦ elim (guard_ways LoaderLayer serial_check d (guard Copy copy_checks d (guard Log room_check d end))) [
      | inr g ↦ inr (g.0, h.1 ∙ g.1)
      | inl g ↦ elim (guard_ways Copy copy_checks d (guard Log room_check d end)) [
        | inr f ↦ inr (f.0, h.1 ∙ g.1 ∙ f.1)
        | inl f ↦ elim (guard_ways Log room_check d end) [
          | inr e ↦ inr (e.0, h.1 ∙ g.1 ∙ f.1 ∙ e.1)
          | inl e ↦ inl (subst Holds (tests_of (new_record s c d).edit d.copy) (holds_parts (form_checks c) (all_checks (new_record s c d).edit d.copy) f.0).1, h.1 ∙ g.1 ∙ f.1 ∙ e.1)
        ]
      ]
    ]
  ]

module _ (next a : ℕ) (d : Loader) (s : Stay) (c : Call) (p : Past) (mine : d.number ≡ a) (counted : d.serial ≡ p.edits) (o : Out next d.copy d.memory p s) (ok : Holds (tests d.copy.capacity (new_record s c d).edit d.copy.objects)) where
  abbrev cap : ℕ
  cap = d.copy.capacity

  abbrev r : Record
  r = new_record s c d

  abbrev u : Record
  u = listed a cap c p

  abbrev l : List Object
  l = o.tree.objects

  pub same_edit : r.edit ≡ u.edit
  same_edit = like_edit (temporary + s.given) c d.copy o.tree o.like ∙ ap (edit_of (temporary + s.given) c) (sym o.is) ∙ ap (λ k. edit_of (temporary + k) c (shadow cap p)) o.given

  same : r ≡ u
  same = ap (λ z. record { author = z; serial = d.serial + 1; edit = r.edit }) mine ∙ ap (λ z. record { author = a; serial = z + 1; edit = r.edit }) counted ∙ ap (λ z. record { author = a; serial = p.edits + 1; edit = z }) same_edit

  pub listed_passes : Holds (tests o.tree.capacity u.edit l)
  listed_passes = subst Holds (like_tests cap r.edit d.copy.objects l o.like ∙ ap (λ z. tests cap z l) same_edit ∙ ap (λ k. tests k u.edit l) (sym o.room)) ok

  abbrev after : Past
  after = record { seen = p.seen; list = p.list ++ (u ∷ []); edits = p.edits + 1 }

  pub shadow_now : shadow cap after ≡ with_objects o.tree (effect (stamp_of u) u.edit l)
  shadow_now = copy_grows p.list u (walk_tree cap p) ∙ ap (λ t. (applied u t).0) o.is ∙ ap (λ z. z.0) (passed o.tree u listed_passes)

  pub num : Numbered s.given u.edit
  num = subst (λ z. Numbered z u.edit) (sym o.given) (numbered (given_by p.list) c (shadow cap p))

  entry : entered (s.given + given u.edit) (log s d) u ≡ cancel (born (s.given + given u.edit)) o.records u
  entry = ap (λ z. entered (s.given + given u.edit) z u) o.lies ∙ entered_cancel (s.given + given u.edit) o.records u

  sound_now : Sound o.from (p.list ++ (u ∷ [])) (new_log s c d) (effect (stamp_of u) u.edit l) (now_given s c d)
  sound_now =
      subst (λ z. Sound o.from (p.list ++ (u ∷ [])) (entered (s.given + given z.edit) (log s d) z) (effect (stamp_of u) u.edit l) (s.given + given z.edit)) (sym same)
      (subst (λ z. Sound o.from (p.list ++ (u ∷ [])) z (effect (stamp_of u) u.edit l) (s.given + given u.edit)) (sym entry)
      (sound_more o.from o.above o.top p.list o.records l s.given o.sound o.tree.capacity u num listed_passes))

  abbrev spell : Stay
  spell = record { maker = s.maker; base = s.base; count = length (new_log s c d); given = now_given s c d }

  abbrev memory : List Record
  memory = new_log s c d ++ drop (length (new_log s c d)) d.memory

  out_now : Out next (with_objects d.copy (effect (stamp_of r) r.edit d.copy.objects)) memory after spell
  out_now = record {
    from = o.from;
    above = o.above;
    early = o.early;
    top = o.top;
    given = ap₂ (λ x y. x + given y.edit) o.given same ∙ sym (count_grows p.list u);
    records = new_log s c d;
    lies = take_at (new_log s c d) (drop (length (new_log s c d)) d.memory) (length (new_log s c d)) refl;
    tree = with_objects o.tree (effect (stamp_of u) u.edit l);
    is = shadow_now;
    room = o.room;
    sound = sound_now;
    like = like_effect (stamp_of r) r.edit d.copy.objects l o.like ∙ ap (λ z. map bare (effect (stamp_of z) z.edit l)) same;
  }

  pub edit_fits : Fit next (with_edit_done s c d) (record { seen = p.seen; list = p.list ++ (listed a d.copy.capacity c p ∷ []); edits = p.edits + 1 })
  edit_fits = (ap (λ z. z + 1) counted, subst (λ z. Out next z.0 memory after spell) (sym (passed d.copy r ok)) out_now)
