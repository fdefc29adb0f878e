-- Numbers and text as bytes. Assumes nothing.
--     le16 n, le32 n         a number in two and in four bytes, the lowest first
--     half bs p, word bs p   the number in the two, in the four bytes of bs from p on
--     written bs p field     bs with the field written over it from p on
--     opened bs at end w     bs after its part from `at` to end + w was rotated right by w: a gap of w bytes at `at`
--     closed bs at end w     bs after its part from `at` to end was rotated left by w: the w bytes at `at` have gone to its end
use Rattle.std.specs.Prelude.{ℕ, ◌+◌, ◌-◌, ◌*◌, ◌/◌, ◌%◌, List, [], ◌∷◌, ◌++◌, length, take, drop, slice_index}

unfoldable pub le16 : ℕ → List ℕ
le16 n = n % 256 ∷ n / 256 % 256 ∷ []

unfoldable pub le32 : ℕ → List ℕ
le32 n = n % 256 ∷ n / 256 % 256 ∷ n / 65536 % 256 ∷ n / 16777216 % 256 ∷ []

unfoldable pub half : List ℕ → ℕ → ℕ
half bs p = slice_index bs p + slice_index bs (p + 1) * 256

unfoldable pub word : List ℕ → ℕ → ℕ
word bs p = slice_index bs p + slice_index bs (p + 1) * 256 + slice_index bs (p + 2) * 65536 + slice_index bs (p + 3) * 16777216

abbrev pub written : List ℕ → ℕ → List ℕ → List ℕ
written bs p field = take p bs ++ (field ++ drop (p + length field) bs)

abbrev pub opened : List ℕ → ℕ → ℕ → ℕ → List ℕ
opened bs at end w =
    let part = take (end + w - at) (drop at bs) in
    take at bs ++ ((drop (length part - w) part ++ take (length part - w) part) ++ drop (end + w) bs)

abbrev pub closed : List ℕ → ℕ → ℕ → ℕ → List ℕ
closed bs at end w =
    let part = take (end - at) (drop at bs) in
    take at bs ++ ((drop w part ++ take w part) ++ drop end bs)
