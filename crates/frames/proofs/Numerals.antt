-- Numbers and their digits: what is written reads back, and what was read is written again.
use Rattle.std.proofs.Common.{◌≡◌, ℕ, zero, suc, ◌+◌, ◌*◌, ◌/◌, ◌%◌, ◌^◌, ◌<◌, true, List, [], ◌∷◌, ◌++◌, length, take, drop, sym, refl, ap, ◌∙◌, subst, add-zero, pow-suc, arith}
use Rattle.std.proofs.lemmas.List.{append_assoc, append-nil, take-append-drop}
use Rattle.std.proofs.lemmas.List.Folds.{list_all-append}
use Rattle.std.proofs.lemmas.Bool.{and_parts, and_from}
use Rattle.std.proofs.lemmas.Bool.Decides.{nat_tests}
use Rattle.frames.specs.Digits.{is_digit, digit_value, digit_of, all_digits, value, value_from, digits}

-- ---- one digit

pub digit_back : (r : ℕ) → r < 16 → digit_value (digit_of r) ≡ r
digit_back r h = grind (arith, nat_tests)

pub digit_again : (d : ℕ) → is_digit d ≡ true → digit_of (digit_value d) ≡ d
digit_again d h = grind (arith, nat_tests)

pub digit_below : (d : ℕ) → digit_value d < 16
digit_below d = grind (arith, nat_tests)

pub digit_of_is_digit : (r : ℕ) → r < 16 → is_digit (digit_of r) ≡ true
digit_of_is_digit r h = grind (arith, nat_tests)

-- ---- all digits

pub all_digits-append : (xs ys : List ℕ) → all_digits xs ≡ true → all_digits ys ≡ true → all_digits (xs ++ ys) ≡ true
all_digits-append xs ys h k = list_all-append is_digit xs ys ∙ and_from _ _ h k

all_digits_parts : (n : ℕ) (xs : List ℕ) → all_digits xs ≡ true → (all_digits (take n xs) ≡ true) × (all_digits (drop n xs) ≡ true)
all_digits_parts n xs h = and_parts _ _ (sym (list_all-append is_digit (take n xs) (drop n xs)) ∙ ap all_digits (take-append-drop n xs) ∙ h)

pub all_digits-take : (n : ℕ) (xs : List ℕ) → all_digits xs ≡ true → all_digits (take n xs) ≡ true
all_digits-take n xs h = (all_digits_parts n xs h).0

pub all_digits-drop : (n : ℕ) (xs : List ℕ) → all_digits xs ≡ true → all_digits (drop n xs) ≡ true
all_digits-drop n xs h = (all_digits_parts n xs h).1

pub all_digits-digits : (w n : ℕ) → all_digits (digits w n) ≡ true
unfolding digits
all_digits-digits zero n = refl
all_digits-digits (suc w) n = all_digits-append (digits w (n / 16)) (digit_of (n % 16) ∷ []) (all_digits-digits w (n / 16)) (and_from _ _ (digit_of_is_digit (n % 16) (omega arith)) refl)

-- ---- numbers

pub value_from_push : (n : ℕ) (xs : List ℕ) (d : ℕ) → value_from n (xs ++ (d ∷ [])) ≡ value_from n xs * 16 + digit_value d
value_from_push n [] d = refl
value_from_push n (x ∷ xs) d = value_from_push (n * 16 + digit_value x) xs d

-- a number that fits reads back
pub value-digits : (w n : ℕ) → n < 16 ^ w → value (digits w n) ≡ n
unfolding digits
value-digits zero n h = omega arith
value-digits (suc w) n h =
    let fits : n < 16 ^ w * 16 = subst (λ x. n < x) (pow-suc 16 w) h in
    let high : n / 16 < 16 ^ w = omega arith in
    let front = value-digits w (n / 16) high in
    let last = digit_back (n % 16) (omega arith) in
    value_from_push 0 (digits w (n / 16)) (digit_of (n % 16)) ∙ omega (arith, front, last)

-- digits that were read are written again
digits-value_from : (w n : ℕ) (ds : List ℕ) → all_digits ds ≡ true → digits (w + length ds) (value_from n ds) ≡ digits w n ++ ds
unfolding digits
digits-value_from w n [] h = ap (λ k. digits k n) (add-zero w) ∙ sym (append-nil (digits w n))
digits-value_from w n (d ∷ ds) h =
    let p = and_parts (is_digit d) (all_digits ds) h in
    let m = n * 16 + digit_value d in
    let below = digit_below d in
    let high : m / 16 ≡ n = omega arith in
    let low : m % 16 ≡ digit_value d = omega arith in
    let size : w + suc (length ds) ≡ suc w + length ds = omega arith in
    ap (λ k. digits k (value_from m ds)) size ∙ digits-value_from (suc w) m ds p.1
    ∙ ap (λ x. (digits w x ++ (digit_of (m % 16) ∷ [])) ++ ds) high ∙ ap (λ x. (digits w n ++ (x ∷ [])) ++ ds) (ap digit_of low ∙ digit_again d p.0)
    ∙ append_assoc (digits w n) (d ∷ []) ds

pub digits_value : (w : ℕ) (ds : List ℕ) → length ds ≡ w → all_digits ds ≡ true → digits w (value ds) ≡ ds
unfolding digits
digits_value w ds e h =
    let size : w ≡ 0 + length ds = omega arith in
    ap (λ k. digits k (value ds)) size ∙ digits-value_from 0 0 ds h
