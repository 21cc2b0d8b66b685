-- A sheet and its first line.
use Rattle.std.proofs.Common.{◌≡◌, ℕ, ◌<◌, ◌+◌, ◌==◌, Option, min, true, false, eqb, List, [], ◌∷◌, ◌++◌, length, take, drop, refl, ap, ◌∙◌, arith}
use Rattle.std.specs.List.{flat_map, position, position_or_len}
use Rattle.std.specs.Option.{MatchOption}
use Rattle.std.proofs.lemmas.Bool.{and_parts, cond-false}
use Rattle.std.proofs.lemmas.Bool.Decides.{nat_tests}
use Rattle.std.proofs.lemmas.Grind.{common_steps}
use Rattle.frames.specs.Digits.{is_digit, all_digits}
use Rattle.frames.specs.Lines.{begun, lines, line_end}

-- the first line ends behind its first byte at the earliest
pub end_after : (s : List ℕ) → 0 < length s → 0 < line_end s
end_after [] h = absurd (omega arith)
end_after (b ∷ s) h = grind (arith, nat_tests)

-- it ends behind the first line feed, or where the sheet ends
line_end_place : (s : List ℕ) → line_end s ≡ min (position_or_len (λ b. b == 10) s + 1) (length s)
line_end_place [] = refl
line_end_place (b ∷ s) = grind (arith, nat_tests, line_end_place s)

pub line_end_found : (s : List ℕ) (r : Option ℕ) (e : ℕ) → r ≡ position (λ b. b == 10) s → MatchOption r (e ≡ length s) (λ i. e ≡ i + 1) → e ≡ line_end s
line_end_found s r e found h = grind (arith, common_steps, nat_tests, line_end_place s, found, h)

-- the lines of a sheet are its first and those of the rest
pub first_cut : (s : List ℕ) → 0 < length s → lines s ≡ take (line_end s) s ∷ lines (drop (line_end s) s)
unfolding lines
first_cut [] h = absurd (omega arith)
first_cut (b ∷ []) h = grind (arith, nat_tests)
first_cut (b ∷ (c ∷ s)) h = grind (arith, nat_tests, first_cut (c ∷ s) (omega arith))

-- ---- the lines together are the sheet

joined_begun : (b : ℕ) (ls : List (List ℕ)) → flat_map (λ l. l) (begun b ls) ≡ b ∷ flat_map (λ l. l) ls
joined_begun b [] = refl
joined_begun b (l ∷ ls) = refl

pub lines_joined : (s : List ℕ) → flat_map (λ l. l) (lines s) ≡ s
unfolding lines
lines_joined [] = refl
lines_joined (b ∷ s) = grind (arith, joined_begun b (lines s), lines_joined s)

-- ---- a line that was written is the first line

no_feed : (b : ℕ) → is_digit b ≡ true → eqb b 10 ≡ false
no_feed b h = grind (arith, nat_tests)

pub lines_text : (t s : List ℕ) → all_digits t ≡ true → lines ((t ++ (10 ∷ [])) ++ s) ≡ (t ++ (10 ∷ [])) ∷ lines s
unfolding lines
lines_text [] s h = refl
lines_text (b ∷ t) s h =
    let p = and_parts (is_digit b) (all_digits t) h in
    cond-false (eqb b 10) _ _ (no_feed b p.0) ∙ ap (begun b) (lines_text t s p.1)
