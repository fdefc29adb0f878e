use Rattle.std.proofs.Common.{◌≡◌, ◌-◌, ◌≤◌, length, get_or, take, drop, sym, ap, ◌∙◌, subst, arith, length-drop}
use Rattle.std.proofs.lemmas.List.{take_all}
use Rattle.format.specs.Images.{section}
use Rattle.format.specs.Reading.{Shows}
use Rattle.format.proofs.Holding.{entry_shown}
use Rattle.image.specs.Searches.{nothing}
use Rattle.image.specs.Stores.{bytes_of, store_sections, tree_of}
use Rattle.image.proofs.Standing.{law, place_held, place_low}
use Rattle.image.proofs.Image.entry.Goals as goal

within : (c : goal.After-offset_of) → c.offset_of.result ≤ length c.as_slice-all.result.now
within c =
    let s = c.args.self.now in
    omega (arith, ap length c.as_slice-all.ensures.value, place_held s c.args.place.kind c.args.place.index c.requires, place_low s c.args.place.kind c.args.place.index (omega (arith, c.requires)))

pub slice_bounds-result-count : goal.slice_bounds-result-count
slice_bounds-result-count c = within c

pub slice_bounds-result-start : goal.slice_bounds-result-start
slice_bounds-result-start c = within c

pub returns : goal.returns
unfolding tree_of
returns c =
    let s = c.args.self.now in
    let k = c.args.place.kind in
    let all = c.as_slice-all.result.now in
    let p = c.offset_of.result in
    let same : take (length all - p) (drop p all) ≡ drop p all = take_all (length all - p) (drop p all) (omega (arith, length-drop p all)) in
    let shown = entry_shown (bytes_of s) s.next s.directories s.files (law s) s.held k c.args.place.index c.requires nothing in
    let at = sym c.offset_of.ensures in
    let bytes = sym c.as_slice-all.ensures.value in
    subst (Shows k (get_or (section k (store_sections s)) c.args.place.index nothing)) ((λ i. drop (at i) (bytes i)) ∙ sym same) shown
