-- What the fields of a listing stand for. Assumes nothing.
--     place_of w     how far the walk has come
use Rattle.listing.specs.declared.Listing.TheInside.{Inside}
use Rattle.listing.specs.Walks.{Place, place}

abbrev pub place_of : {V : Type 0} → Inside V → Place
place_of w = place w.path.places w.path.held w.after
