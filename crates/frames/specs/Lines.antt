-- A sheet as its lines.
use Rattle.std.specs.Prelude.{ℕ, suc, cond, List, [], ◌∷◌, ◌==◌}

-- one byte more in front of the first line
abbrev pub begun : ℕ → List (List ℕ) → List (List ℕ)
begun b [] = (b ∷ []) ∷ []
begun b (l ∷ ls) = (b ∷ l) ∷ ls

-- a sheet cut behind each line feed, which is byte 10; only the last line may lack it
unfoldable pub lines : List ℕ → List (List ℕ)
lines [] = []
lines (b ∷ bs) = cond (b == 10) ((b ∷ []) ∷ lines bs) (begun b (lines bs))

-- where the first line ends: behind its line feed, or where the sheet ends
abbrev pub line_end : List ℕ → ℕ
line_end [] = 0
line_end (b ∷ bs) = cond (b == 10) 1 (suc (line_end bs))
