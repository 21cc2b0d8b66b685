-- What the simple scales mean.
use Rattle.std.specs.Prelude.{ℕ, ◌+◌, ◌-◌, ◌^◌, min, max, Bool, cond, ◌==◌, bit_or, count_ones, nat_le}
use Rattle.scale.specs.declared.grades.Grade.{Grade}
use Rattle.scale.specs.declared.grades.Grade.TheVariants.{Tiny, Small, Medium, Large, Huge}
use Rattle.scale.specs.declared.peaks.Peak.{Peak}
use Rattle.scale.specs.declared.tallies.Tally.{Tally}
use Rattle.scale.specs.declared.yarns.YarnSet.{YarnSet}

-- ---- peak: joining takes the greater

abbrev pub no_peak : Peak
no_peak = record { value = 0 }

abbrev pub higher : Peak → Peak → Peak
higher x y = record { value = max x.value y.value }

abbrev pub at_most_peak : Peak → Peak → Bool
at_most_peak x y = nat_le x.value y.value

-- ---- tally: joining adds and stops at the top

abbrev pub no_tally : Tally
no_tally = record { value = 0 }

-- min (x + y) top, at values up to the top. The outer max says nothing there; it keeps the laws at numbers past the top,
-- which no tally of a program has.
abbrev pub summed : Tally → Tally → Tally
summed x y = record { value = max (max x.value y.value) (min (x.value + y.value) (2 ^ 32 - 1)) }

abbrev pub at_most_tally : Tally → Tally → Bool
at_most_tally x y = nat_le x.value y.value

-- ---- yarn set: joining is union, no worse is contained in, liked is having no more yarns

abbrev pub no_yarns : YarnSet
no_yarns = record { bits = 0 }

abbrev pub together : YarnSet → YarnSet → YarnSet
together x y = record { bits = bit_or x.bits y.bits }

abbrev pub within : YarnSet → YarnSet → Bool
within x y = bit_or x.bits y.bits == y.bits

abbrev pub no_more_yarns : YarnSet → YarnSet → Bool
no_more_yarns x y = nat_le (count_ones x.bits) (count_ones y.bits)

-- ---- grade: joining takes the later

-- the code of a grade
abbrev pub grade_code : Grade → ℕ
grade_code Tiny = 0
grade_code Small = 1
grade_code Medium = 2
grade_code Large = 3
grade_code Huge = 4

abbrev pub at_most_grade : Grade → Grade → Bool
at_most_grade x y = nat_le (grade_code x) (grade_code y)

abbrev pub later : Grade → Grade → Grade
later x y = cond (at_most_grade x y) y x
