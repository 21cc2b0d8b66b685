-- Numbers as sets of bits: `|` is union. Each fact is shown bit by bit, from the lowest.
use Rattle.std.specs.Prelude.{◌≡◌, ℕ, ◌/◌, ◌%◌, ◌≤◌, max, bit_or, count_ones, refl}
use Rattle.std.proofs.Common.{sym, ap, ◌∙◌, arith}
use Rattle.std.proofs.Math.Arith.{bin_ind}
use Rattle.std.specs.Int.Bits.{or_step, or_self}
use Rattle.std.proofs.lemmas.Nat.{or_comm, ones-le}
use Rattle.std.specs.Int.Count.{ones_step}

-- the higher bits of a union, and its lowest bit
pub or_half : (a b : ℕ) → bit_or a b / 2 ≡ bit_or (a / 2) (b / 2)
or_half a b = omega (arith, or_step a b)

pub or_low : (a b : ℕ) → bit_or a b % 2 ≡ max (a % 2) (b % 2)
or_low a b = omega (arith, or_step a b)

pub same_by_bits : (a b : ℕ) → a / 2 ≡ b / 2 → a % 2 ≡ b % 2 → a ≡ b
same_by_bits a b high low = omega arith

pub or_assoc : (a b c : ℕ) → bit_or (bit_or a b) c ≡ bit_or a (bit_or b c)
or_assoc =
    bin_ind (λ (a : ℕ). (b c : ℕ) → bit_or (bit_or a b) c ≡ bit_or a (bit_or b c)) (λ b c. refl)
    (λ a rest b c.
    let high = or_half (bit_or a b) c ∙ ap (λ (x : ℕ). bit_or x (c / 2)) (or_half a b) ∙ rest (b / 2) (c / 2) ∙ sym (or_half a (bit_or b c) ∙ ap (bit_or (a / 2)) (or_half b c)) in
    same_by_bits (bit_or (bit_or a b) c) (bit_or a (bit_or b c)) high (omega (arith, or_low (bit_or a b) c, or_low a b, or_low a (bit_or b c), or_low b c)))

-- a set within another has no more elements
pub ones_within : (a b : ℕ) → bit_or a b ≡ b → count_ones a ≤ count_ones b
ones_within =
    bin_ind (λ (a : ℕ). (b : ℕ) → bit_or a b ≡ b → count_ones a ≤ count_ones b) (λ b h. omega (arith, ones-le 0 0 (omega arith)))
    (λ a rest b h.
    let high = sym (or_half a b) ∙ ap (λ (x : ℕ). x / 2) h in
    let low = sym (or_low a b) ∙ ap (λ (x : ℕ). x % 2) h in
    omega (arith, low, ones_step a, ones_step b, rest (b / 2) high))

-- within carries on
pub within_carries : (a b c : ℕ) → bit_or a b ≡ b → bit_or b c ≡ c → bit_or a c ≡ c
within_carries a b c p q = ap (bit_or a) (sym q) ∙ sym (or_assoc a b c) ∙ ap (λ (x : ℕ). bit_or x c) p ∙ q

-- a third set keeps within, in front and behind
pub within_before : (a b c : ℕ) → bit_or a b ≡ b → bit_or (bit_or c a) (bit_or c b) ≡ bit_or c b
within_before a b c p =
    ap (λ (x : ℕ). bit_or x (bit_or c b)) (or_comm c a) ∙ or_assoc a c (bit_or c b) ∙ ap (bit_or a) (sym (or_assoc c c b) ∙ ap (λ (x : ℕ). bit_or x b) (or_self c) ∙ or_comm c b)
    ∙ sym (or_assoc a b c) ∙ ap (λ (x : ℕ). bit_or x c) p ∙ or_comm b c

pub within_behind : (a b c : ℕ) → bit_or a b ≡ b → bit_or (bit_or a c) (bit_or b c) ≡ bit_or b c
within_behind a b c p = (λ i. bit_or (or_comm a c i) (or_comm b c i)) ∙ within_before a b c p ∙ or_comm c b
