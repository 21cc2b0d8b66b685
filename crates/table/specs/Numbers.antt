-- How far the numbers in a trail reach.
use Rattle.std.specs.Prelude.{ℕ}

-- a trail tells its parent and its link in 16 bits each
abbrev pub most_numbers : ℕ
most_numbers = 65536
