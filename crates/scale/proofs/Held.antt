-- Held sets as numbers.
use Rattle.std.proofs.Common.{◌≡◌, ℕ, suc, ◌+◌, ◌-◌, ◌*◌, ◌/◌, ◌%◌, ◌^◌, ◌<◌, ◌≤◌, min, max, Bool, true, false, cond, List, [], ◌∷◌, ◌++◌, length, sym, refl, ap, ◌∙◌, ⊎_elim, mul_assoc, mul_comm, mul-le-mul_left, pow-suc, mul-add, mul_left_comm, arith, pow-add}
use native.Mathlib.Nat.{pow-le-pow_right}
use Rattle.std.proofs.lemmas.List.{length-append}
use lib.Bits.{bit_or, or_mod}
use Rattle.std.proofs.lemmas.Bool.{and_parts, both_ways, cases_lt}
use Rattle.scale.specs.Shapes.{Shape, parts_of, holds, bits, HoldsAll, Shaped}
use Rattle.scale.specs.Shapes.Shape.{simple, paired}
use Rattle.scale.specs.Unions.{or_half, or_low, same_by_bits}

-- ---- bits

pub bits-append : (xs ys : List Bool) → bits (xs ++ ys) ≡ bits xs + 2 ^ length xs * bits ys
bits-append [] ys = omega arith
bits-append (x ∷ xs) ys =
    let double : 2 ^ suc (length xs) * bits ys ≡ 2 * (2 ^ length xs * bits ys) = ap (λ n. n * bits ys) (pow-suc 2 (length xs) ∙ mul_comm (2 ^ length xs) 2) ∙ mul_assoc 2 (2 ^ length xs) (bits ys) in
    omega (arith, bits-append xs ys, double)

-- ---- the number of simple scales

pub parts_few : {S : Type 0} (a : Shape S) → parts_of a ≤ 9
parts_few (simple no_worse) = omega arith
parts_few (paired a b) = omega arith

pub parts_length : {S : Type 0} (a : Shape S) (limits cost : S) → parts_of a ≡ min 9 (length (holds a limits cost))
parts_length (simple no_worse) limits cost = refl
parts_length (paired a b) limits cost =
    let x = holds a limits.first cost.first in
    let y = holds b limits.second cost.second in
    omega (arith, parts_length a limits.first cost.first, parts_length b limits.second cost.second, length-append x y)

-- ---- two held sets, one behind the other

-- the bits of y behind n others, modulo 256, are those of y modulo 256
behind_mod : (n x y : ℕ) → (x % 256 + (y % 256) * 2 ^ n) % 256 ≡ (x + 2 ^ n * y) % 256
behind_mod n x y =
    let q = y / 256 in
    let r = y % 256 in
    let whole : y ≡ 256 * q + r = omega arith in
    let split : 2 ^ n * y ≡ 256 * (2 ^ n * q) + r * 2 ^ n =
    ap (λ k. 2 ^ n * k) whole ∙ mul-add (2 ^ n) (256 * q) r ∙ (λ i. mul_left_comm (2 ^ n) 256 q i + mul_comm (2 ^ n) r i) in
    omega (arith, split)

-- nine bits or more in front leave nothing of y
past_mod : (n x y : ℕ) → 9 ≤ n → (x % 256 + (y % 256) * 2 ^ 9) % 256 ≡ (x + 2 ^ n * y) % 256
past_mod n x y h =
    let m = n - 8 in
    let e : n ≡ 8 + m = omega arith in
    let power : 2 ^ n * y ≡ 256 * (2 ^ m * y) = ap (λ k. 2 ^ k * y) e ∙ ap (λ k. k * y) (pow-add 2 8 m) ∙ mul_assoc 256 (2 ^ m) y in
    omega (arith, power)

pub held_both : (n p x y : ℕ) → p ≡ min 9 n → (x % 256 + (y % 256) * 2 ^ p) % 256 ≡ (x + 2 ^ n * y) % 256
held_both n p x y e =
    ⊎_elim (λ few. let same : p ≡ n = omega arith in ap (λ k. (x % 256 + (y % 256) * 2 ^ k) % 256) same ∙ behind_mod n x y)
    (λ many. let nine : p ≡ 9 = omega arith in ap (λ k. (x % 256 + (y % 256) * 2 ^ k) % 256) nine ∙ past_mod n x y many) (cases_lt n 9)

-- room for them
pub held_room : (p y : ℕ) → p ≤ 9 → (y % 256) * 2 ^ p ≤ 130560
held_room p y h =
    let top : 2 ^ p ≤ 2 ^ 9 = pow-le-pow_right {n = 2} (omega arith) {i = p} {j = 9} h in
    let most : (y % 256) * 2 ^ p ≤ (y % 256) * 2 ^ 9 = mul-le-mul_left (y % 256) top in
    omega arith

-- ---- a cost that is no worse holds all that the other holds

-- where the first list is true, the second is
Kept : List Bool → List Bool → Type 0
Kept [] [] = Unit {0}
Kept [] (x ∷ xs) = ⊥
Kept (y ∷ ys) [] = ⊥
Kept (y ∷ ys) (x ∷ xs) = (y ≡ true → x ≡ true) × Kept ys xs

kept_append : (ys xs vs us : List Bool) → Kept ys xs → Kept vs us → Kept (ys ++ vs) (xs ++ us)
unfolding Kept
kept_append [] [] vs us h k = k
kept_append [] (x ∷ xs) vs us h k = absurd h
kept_append (y ∷ ys) [] vs us h k = absurd h
kept_append (y ∷ ys) (x ∷ xs) vs us h k = (h.0, kept_append ys xs vs us h.1 k)

holds_kept : {S : Type 0} (no_worse : S → S → Bool) (a : Shape S) → Shaped no_worse a → (limits x y : S) → no_worse x y ≡ true → Kept (holds a limits y) (holds a limits x)
unfolding Kept
holds_kept no_worse (simple own) law limits x y h = ((λ held. law.1 x y limits (sym (law.0 x y) ∙ h) held), tt)
holds_kept no_worse (paired a b) law limits x y h =
    let p = law.0 in
    let q = law.1.0 in
    let parts = law.1.1 in
    let both = and_parts (p x.first y.first) (q x.second y.second) (sym (parts.0 x y) ∙ h) in
    kept_append (holds a limits.first y.first) (holds a limits.first x.first) (holds b limits.second y.second) (holds b limits.second x.second)
    (holds_kept p a parts.1 limits.first x.first y.first both.0) (holds_kept q b parts.2 limits.second x.second y.second both.1)

low_bit : (y x : Bool) → (y ≡ true → x ≡ true) → max (cond y 1 0) (cond x 1 0) ≡ cond x 1 0
low_bit true true h = refl
low_bit true false h = absurd (both_ways false refl (h refl))
low_bit false true h = refl
low_bit false false h = refl

bit_small : (b : Bool) → cond b 1 0 < 2
bit_small true = omega arith
bit_small false = omega arith

bits_kept : (ys xs : List Bool) → Kept ys xs → bit_or (bits ys) (bits xs) ≡ bits xs
unfolding Kept
bits_kept [] [] h = refl
bits_kept [] (x ∷ xs) h = absurd h
bits_kept (y ∷ ys) [] h = absurd h
bits_kept (y ∷ ys) (x ∷ xs) h =
    let a = bits (y ∷ ys) in
    let b = bits (x ∷ xs) in
    let sy = bit_small y in
    let sx = bit_small x in
    let ha : a / 2 ≡ bits ys = omega arith in
    let hb : b / 2 ≡ bits xs = omega arith in
    let la : a % 2 ≡ cond y 1 0 = omega arith in
    let lb : b % 2 ≡ cond x 1 0 = omega arith in
    let high : bit_or a b / 2 ≡ b / 2 = or_half a b ∙ (λ i. bit_or (ha i) (hb i)) ∙ bits_kept ys xs h.1 ∙ sym hb in
    let low : bit_or a b % 2 ≡ b % 2 = or_low a b ∙ (λ i. max (la i) (lb i)) ∙ low_bit y x h.0 ∙ sym lb in
    same_by_bits (bit_or a b) b high low

pub holds_all : {S : Type 0} (no_worse : S → S → Bool) (a : Shape S) → Shaped no_worse a → HoldsAll no_worse a
holds_all no_worse a law limits x y h =
    let ys = holds a limits y in
    let xs = holds a limits x in
    sym (or_mod (bits ys) (bits xs) 8) ∙ ap (λ n. n % 256) (bits_kept ys xs (holds_kept no_worse a law limits x y h))
