-- The ladder, limit by limit from the lowest.
use Rattle.std.specs.Prelude.{◌≡◌, ℕ, zero, suc, ◌+◌, ◌*◌, ◌/◌, ◌%◌, ◌^◌, ◌<◌, max, true, false, ◌⊎◌, ◌==◌, ◌≢◌, bit_or, bit_xor, nat_eq, refl}
use Rattle.std.proofs.Common.{sym, ap, ◌∙◌, inl, inr, ⊎_elim, zero-le, suc-le-suc, div-one, one-add, arith}
use Rattle.std.proofs.Math.Numerals.{unary_clauses}
use Rattle.std.specs.Int.Bits.{xor_add_and}
use Rattle.std.specs.Int.Count.{count_trailing_zeros, under}
use Rattle.std.proofs.lemmas.Nat.{shr-shr, xor_shr, xor_mod, and_le_l, and_le_r}
use Rattle.std.proofs.lemmas.Bool.{cond-true, cond-false, eq-eqb, ne_eqb, eqb-true, eqb-false, both_ways, cases_Bool, cases_eq}
use Rattle.scale.specs.Unions.{or_half, or_low}
use Rattle.rule.specs.Rules.{ladder}

-- ---- "at least as good", one limit at a time

-- the lowest limits are alike and the others decide, or only the first set holds the lowest
abbrev Ahead : ℕ → ℕ → ℕ → Type 0
Ahead k a b = ((a % 2 ≡ b % 2) × (ladder k (b / 2) (a / 2) ≡ false)) ⊎ ((a % 2 ≡ 1) × (b % 2 ≡ 0))

ahead : (k a b : ℕ) → ladder (suc k) b a ≡ false → Ahead k a b
unfolding ladder
ahead k a b h =
    ⊎_elim (λ same. inl (sym same, sym (cond-true _ _ _ (eq-eqb (b % 2) (a % 2) same)) ∙ h))
    (λ other. let low : b % 2 ≡ 1 → ⊥ = eqb-false (b % 2) 1 (sym (cond-false _ _ _ (ne_eqb (b % 2) (a % 2) other)) ∙ h) in inr (omega (arith, low, other), omega (arith, low)))
    (cases_eq (b % 2) (a % 2))

behind : (k a b : ℕ) → Ahead k a b → ladder (suc k) b a ≡ false
unfolding ladder
behind k a b (inl h) = cond-true _ _ _ (eq-eqb (b % 2) (a % 2) (sym h.0)) ∙ h.1
behind k a b (inr h) =
    let other : b % 2 ≡ a % 2 → ⊥ = λ e. omega arith in
    let low : b % 2 ≡ 1 → ⊥ = λ e. omega arith in
    cond-false _ _ _ (ne_eqb (b % 2) (a % 2) other) ∙ ne_eqb (b % 2) 1 low

pub ladder_carries : (k a b c : ℕ) → ladder k b a ≡ false → ladder k c b ≡ false → ladder k c a ≡ false
unfolding ladder
ladder_carries zero a b c h g = refl
ladder_carries (suc k) a b c h g = behind k a c (join (ahead k a b h) (ahead k b c g) (ladder_carries k (a / 2) (b / 2) (c / 2))) where
  join : Ahead k a b → Ahead k b c → (ladder k (b / 2) (a / 2) ≡ false → ladder k (c / 2) (b / 2) ≡ false → ladder k (c / 2) (a / 2) ≡ false) → Ahead k a c
  join (inl p) (inl q) rest = inl (p.0 ∙ q.0, rest p.1 q.1)
  join (inl p) (inr q) rest = inr (p.0 ∙ q.0, q.1)
  join (inr p) (inl q) rest = inr (p.0, sym q.0 ∙ p.1)
  join (inr p) (inr q) rest = absurd (omega arith)

pub ladder_contains : (k a b : ℕ) → bit_or b a ≡ a → ladder k b a ≡ false
unfolding ladder
ladder_contains zero a b h = refl
ladder_contains (suc k) a b h =
    let high : bit_or (b / 2) (a / 2) ≡ a / 2 = sym (or_half b a) ∙ ap (λ (x : ℕ). x / 2) h in
    let low : max (b % 2) (a % 2) ≡ a % 2 = sym (or_low b a) ∙ ap (λ (x : ℕ). x % 2) h in
    behind k a b (⊎_elim (λ same. inl (same, ladder_contains k (a / 2) (b / 2) high)) (λ other. inr (omega (arith, low, other), omega (arith, low, other))) (cases_eq (a % 2) (b % 2)))

-- not both are better
pub ladder_asymmetric : (k a b : ℕ) → ladder k a b ≡ true → ladder k b a ≡ false
unfolding ladder
ladder_asymmetric zero a b h = absurd (both_ways false refl h)
ladder_asymmetric (suc k) a b h =
    behind k a b
    (⊎_elim (λ same. inl (same, ladder_asymmetric k (a / 2) (b / 2) (sym (cond-true _ _ _ (eq-eqb (a % 2) (b % 2) same)) ∙ h)))
    (λ other. let one : a % 2 ≡ 1 = eqb-true (a % 2) 1 (sym (cond-false _ _ _ (ne_eqb (a % 2) (b % 2) other)) ∙ h) in inr (one, omega (arith, other)))
    (cases_eq (a % 2) (b % 2)))

pub ladder_total : (k a b : ℕ) → (ladder k b a ≡ false) ⊎ (ladder k a b ≡ false)
ladder_total k a b = ⊎_elim (λ yes'. inr (ladder_asymmetric k b a yes')) (λ no'. inl no') (cases_Bool (ladder k b a))

-- ---- the lowest limit in which two sets differ

-- the exclusive or of the higher limits, and of the lowest
xor_half : (a b : ℕ) → bit_xor a b / 2 ≡ bit_xor (a / 2) (b / 2)
xor_half a b = xor_shr a b 1

xor_low : (x y : ℕ) → x < 2 → y < 2 → ((bit_xor x y ≡ 0) × (x ≡ y)) ⊎ ((bit_xor x y ≡ 1) × (x ≢ y))
xor_low zero zero h k = inl (refl, refl)
xor_low zero (suc zero) h k = inr (refl, λ e. omega arith)
xor_low (suc zero) zero h k = inr (refl, λ e. omega arith)
xor_low (suc zero) (suc zero) h k = inl (refl, refl)
xor_low zero (suc (suc y)) h k = absurd (omega arith)
xor_low (suc zero) (suc (suc y)) h k = absurd (omega arith)
xor_low (suc (suc x)) y h k = absurd (omega arith)

under_below : (d t k : ℕ) → (d ≡ 0 → t < k) → under d t < suc k
under_below zero t k h = suc-le-suc (h refl)
under_below (suc d) t k h = suc-le-suc zero-le

pub trailing_below : (k n : ℕ) → 0 < n → n < 2 ^ k → count_trailing_zeros k n < k
unfolding count_trailing_zeros
trailing_below zero n some lt = absurd (omega arith)
trailing_below (suc k) n some lt =
    let l : n < 2 ^ k * 2 = simp unary_clauses at lt in
    under_below (n % 2) (count_trailing_zeros k (n / 2)) k (λ e. trailing_below k (n / 2) (omega arith) (omega arith))

-- the set that holds it is better
pub lowest_decides : (k a b : ℕ) → 0 < bit_xor a b → bit_xor a b < 2 ^ k → (a / 2 ^ count_trailing_zeros k (bit_xor a b) % 2 == 1) ≡ ladder k a b
unfolding count_trailing_zeros ladder
lowest_decides zero a b some lt = absurd (omega arith)
lowest_decides (suc k) a b some lt =
    let t = count_trailing_zeros k (bit_xor a b / 2) in
    ⊎_elim
    (λ alike.
    let even : bit_xor a b % 2 ≡ 0 = xor_mod a b 1 ∙ alike.0 in
    let l : bit_xor a b < 2 ^ k * 2 = simp unary_clauses at lt in
    let up : 0 < bit_xor (a / 2) (b / 2) = omega (arith, xor_half a b) in
    let half : bit_xor (a / 2) (b / 2) < 2 ^ k = omega (arith, xor_half a b) in
    let later : count_trailing_zeros (suc k) (bit_xor a b) ≡ 1 + t = ap (λ d. under d t) even ∙ sym (one-add t) in
    ap (λ (n : ℕ). nat_eq (a / 2 ^ n % 2) 1) later ∙ ap (λ (n : ℕ). nat_eq (n % 2) 1) (sym (shr-shr a 1 t)) ∙ ap (λ (d : ℕ). nat_eq (a / 2 / 2 ^ count_trailing_zeros k d % 2) 1) (xor_half a b)
    ∙ lowest_decides k (a / 2) (b / 2) up half ∙ sym (cond-true _ _ _ (eq-eqb _ _ alike.1)))
    (λ apart.
    let odd : bit_xor a b % 2 ≡ 1 = xor_mod a b 1 ∙ apart.0 in
    let here : count_trailing_zeros (suc k) (bit_xor a b) ≡ 0 = ap (λ d. under d t) odd in
    ap (λ (n : ℕ). nat_eq (a / 2 ^ n % 2) 1) here ∙ ap (λ (n : ℕ). nat_eq (n % 2) 1) (div-one a) ∙ sym (cond-false _ _ _ (ne_eqb _ _ apart.1)))
    (xor_low (a % 2) (b % 2) (omega arith) (omega arith))

-- sets that differ are not equal to the ladder
pub one_is_better : (k a b : ℕ) → 0 < bit_xor a b → bit_xor a b < 2 ^ k → ladder k a b ≡ false → ladder k b a ≡ true
unfolding ladder
one_is_better zero a b some lt h = absurd (omega arith)
one_is_better (suc k) a b some lt h =
    ⊎_elim
    (λ alike.
    let even : bit_xor a b % 2 ≡ 0 = xor_mod a b 1 ∙ alike.0 in
    let l : bit_xor a b < 2 ^ k * 2 = simp unary_clauses at lt in
    let up : 0 < bit_xor (a / 2) (b / 2) = omega (arith, xor_half a b) in
    let half : bit_xor (a / 2) (b / 2) < 2 ^ k = omega (arith, xor_half a b) in
    cond-true _ _ _ (eq-eqb _ _ (sym alike.1)) ∙ one_is_better k (a / 2) (b / 2) up half (sym (cond-true _ _ _ (eq-eqb _ _ alike.1)) ∙ h))
    (λ apart.
    let low : a % 2 ≡ 1 → ⊥ = eqb-false (a % 2) 1 (sym (cond-false _ _ _ (ne_eqb _ _ apart.1)) ∙ h) in
    let other : b % 2 ≡ a % 2 → ⊥ = λ e. apart.1 (sym e) in
    cond-false _ _ _ (ne_eqb (b % 2) (a % 2) other) ∙ eq-eqb (b % 2) 1 (omega (arith, low, apart.1)))
    (xor_low (a % 2) (b % 2) (omega arith) (omega arith))

pub ladder_level : (k a b : ℕ) → a ≡ b → ladder k a b ≡ false
unfolding ladder
ladder_level zero a b e = refl
ladder_level (suc k) a b e = cond-true _ _ _ (eq-eqb (a % 2) (b % 2) (ap (λ (n : ℕ). n % 2) e)) ∙ ladder_level k (a / 2) (b / 2) (ap (λ (n : ℕ). n / 2) e)

pub same_from_xor : (a b : ℕ) → bit_xor a b ≡ 0 → a ≡ b
same_from_xor a b e = omega (arith, xor_add_and a b, and_le_l a b, and_le_r a b)
