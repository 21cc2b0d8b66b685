-- Tallies keep the laws of a scale. A sum that stops at a top t is associative, at numbers past the top too.
use Rattle.std.specs.Prelude.{◌≡◌, ℕ, ◌+◌, ◌-◌, ◌^◌, ◌<◌, ◌≤◌, min, max}
use Rattle.std.proofs.Common.{sym, ap, ◌∙◌, ⊎_elim, arith}
use Rattle.std.proofs.lemmas.Bool.{cases_lt}
use Rattle.std.proofs.lemmas.Bool.Decides.{nat_tests}
use Rattle.scale.specs.declared.tallies.Tally.{Tally}
use Rattle.scale.specs.Laws.{Laws}
use Rattle.scale.specs.Measures.{no_tally, summed, at_most_tally}

module _ (t : ℕ) where
  abbrev pub stopped : ℕ → ℕ → ℕ
  stopped x y = max (max x y) (min (x + y) t)

  -- up to the top it is the sum or the top
  up_to_top : (x y : ℕ) → x ≤ t → y ≤ t → stopped x y ≡ min (x + y) t
  up_to_top x y h k = omega arith

  -- past the top it is the greater
  past_left : (x y : ℕ) → t < x → stopped x y ≡ max x y
  past_left x y h = omega arith

  past_right : (x y : ℕ) → t < y → stopped x y ≡ max x y
  past_right x y h = omega arith

  pub stopped_assoc : (x y z : ℕ) → stopped (stopped x y) z ≡ stopped x (stopped y z)
  stopped_assoc x y z = ⊎_elim past_x (λ hx. ⊎_elim past_y (λ hy. ⊎_elim past_z (λ hz. none hx hy hz) (cases_lt t z)) (cases_lt t y)) (cases_lt t x) where
    past_x : t < x → stopped (stopped x y) z ≡ stopped x (stopped y z)
    past_x h =
        let m : t < max x y = omega arith in
        let u : max (max x y) z ≡ max x (stopped y z) = omega arith in
        ap (λ k. stopped k z) (past_left x y h) ∙ past_left (max x y) z m ∙ u ∙ sym (past_left x (stopped y z) h)

    past_y : t < y → stopped (stopped x y) z ≡ stopped x (stopped y z)
    past_y h =
        let m : t < max x y = omega arith in
        let n : t < max y z = omega arith in
        let u : max (max x y) z ≡ max x (max y z) = omega arith in
        ap (λ k. stopped k z) (past_right x y h) ∙ past_left (max x y) z m ∙ u ∙ sym (past_right x (max y z) n) ∙ ap (stopped x) (sym (past_left y z h))

    past_z : t < z → stopped (stopped x y) z ≡ stopped x (stopped y z)
    past_z h =
        let n : t < max y z = omega arith in
        let u : max (stopped x y) z ≡ max x (max y z) = omega arith in
        past_right (stopped x y) z h ∙ u ∙ sym (past_right x (max y z) n) ∙ ap (stopped x) (sym (past_right y z h))

    none : x ≤ t → y ≤ t → z ≤ t → stopped (stopped x y) z ≡ stopped x (stopped y z)
    none hx hy hz =
        let u : min (min (x + y) t + z) t ≡ min (x + min (y + z) t) t = omega arith in
        ap (λ k. stopped k z) (up_to_top x y hx hy) ∙ up_to_top (min (x + y) t) z (omega arith) hz ∙ u ∙ sym (up_to_top x (min (y + z) t) hx (omega arith)) ∙ ap (stopped x) (sym (up_to_top y z hy hz))

tally : ℕ → Tally
tally n = record { value = n }

pub tally_fair : Laws no_tally summed at_most_tally at_most_tally
unfolding tally
tally_fair = record {
  assoc = λ x y z. ap tally (stopped_assoc (2 ^ 32 - 1) x.value y.value z.value);
  left = λ x. ap tally (omega arith);
  right = λ x. ap tally (omega arith);
  reflexive = λ x. grind (arith, nat_tests);
  transitive = λ x y z h k. grind (arith, nat_tests);
  least = λ x. grind (arith, nat_tests);
  before = λ x y z h. grind (arith, nat_tests);
  behind = λ x y z h. grind (arith, nat_tests);
  total = λ x y. grind (arith, nat_tests);
  carries = λ x y z h k. grind (arith, nat_tests);
  agrees = λ x y h. h;
}
