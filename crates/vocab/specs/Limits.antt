-- The limits of names, contents and numbers. Assumes nothing.
--     longest_name, longest_contents     how many bytes they may have
--     most_objects                       how many objects a store keeps at most
--     temporary                          the first temporary number, and the highest next number
use Rattle.std.specs.Prelude.{ℕ, ◌^◌}

abbrev pub longest_name : ℕ
longest_name = 24

abbrev pub longest_contents : ℕ
longest_contents = 256

abbrev pub most_objects : ℕ
most_objects = 4096

abbrev pub temporary : ℕ
temporary = 2 ^ 31
