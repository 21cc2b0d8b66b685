-- What the rules mean.
use Rattle.std.specs.Prelude.{ℕ, zero, suc, ◌/◌, ◌%◌, Bool, false, cond, ◌==◌, count_ones, nat_lt}

-- Ladder: the lowest-numbered limit held by just one set decides for that set. Of the first k limits:
unfoldable pub ladder : ℕ → ℕ → ℕ → Bool
ladder zero a b = false
ladder (suc k) a b = cond (a % 2 == b % 2) (ladder k (a / 2) (b / 2)) (a % 2 == 1)

-- Count: the set with more limits is better.
abbrev pub more : ℕ → ℕ → Bool
more a b = nat_lt (count_ones b) (count_ones a)
