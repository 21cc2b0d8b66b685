-- How many numbers below a bound pass a test, and the largest of what a function gives there.
use Rattle.std.proofs.Common.{◌≡◌, ℕ, zero, suc, ◌<◌, ◌≤◌, Bool, true, false, cond, List, length, get_or, take, count_by, refl, ap, ◌∙◌, ⊎_elim, zero-le, add-one, arith}
use Rattle.std.proofs.lemmas.List.{take_all}
use Rattle.std.proofs.lemmas.List.Sums.{sum_by_more}
use Rattle.std.proofs.lemmas.Bool.{cases_eq}
use Rattle.std.proofs.lemmas.Bool.Decides.{nat_tests}
use Rattle.trails.specs.Below.{count_below, most_below}

-- ---- how many pass

pub count_below_le : (n : ℕ) (p : ℕ → Bool) → count_below n p ≤ n
count_below_le zero p = zero-le
count_below_le (suc n) p = let rest = count_below_le n p in grind arith

-- a greater bound has no fewer
pub count_below_grows : (p : ℕ → Bool) (m n : ℕ) → m ≤ n → count_below m p ≤ count_below n p
count_below_grows p m zero h = let none : m ≡ 0 = omega arith in rw none zero-le
count_below_grows p m (suc n) h =
    let all : m ≡ suc n → count_below m p ≡ count_below (suc n) p = ap (λ k. count_below k p) in
    let rest : m ≤ n → count_below m p ≤ count_below n p = count_below_grows p m n in
    grind arith

-- so with k, the next to be counted, there are no more than below any n that is greater
pub count_below_next : (p : ℕ → Bool) (k n : ℕ) → k < n → count_below (suc k) p ≤ count_below n p
count_below_next p k n h = count_below_grows p (suc k) n h

-- below n, a stricter test passes no more, and fewer where it leaves out a number m that the other passes
pub count_below_stricter : (p q : ℕ → Bool) (n : ℕ) → ((j : ℕ) → j < n → q j ≡ true → p j ≡ true) → count_below n q ≤ count_below n p
count_below_stricter p q zero stricter = zero-le
count_below_stricter p q (suc n) stricter =
    let rest : count_below n q ≤ count_below n p = count_below_stricter p q n (λ j h. stricter j (omega arith)) in grind (arith, nat_tests, stricter n (omega arith))

pub count_below_less : (p q : ℕ → Bool) (m : ℕ) → p m ≡ true → q m ≡ false → (n : ℕ) → ((j : ℕ) → j < n → q j ≡ true → p j ≡ true)
    → m < n → count_below n q < count_below n p
count_below_less p q m passes fails zero stricter h = omega arith
count_below_less p q m passes fails (suc n) stricter h =
    ⊎_elim
    (λ (e : m ≡ n).
    let passes_here : p n ≡ true = rw e at passes in
    let fails_here : q n ≡ false = rw e at fails in
    let rest : count_below n q ≤ count_below n p = count_below_stricter p q n (λ j l. stricter j (omega arith)) in
    rw (passes_here, fails_here) (omega arith))
    (λ (ne : m ≡ n → ⊥).
    let rest : count_below n q < count_below n p = count_below_less p q m passes fails n (λ j l. stricter j (omega arith)) (omega arith) in
    grind (arith, nat_tests, stricter n (omega arith)))
    (cases_eq m n)

-- ---- the largest

pub most_below_ge : (n : ℕ) (f : ℕ → ℕ) (m : ℕ) → m < n → f m ≤ most_below n f
most_below_ge zero f m h = omega arith
most_below_ge (suc n) f m h =
    let here : m ≡ n → f m ≡ f n = ap f in
    let rest : m < n → f m ≤ most_below n f = most_below_ge n f m in
    grind arith

-- ---- the places of a list

module _ {X : Type 0} (p : X → Bool) (xs : List X) (d : X) where
  -- among the first n elements as many pass as there are places below n whose element passes
  pub count_below-take : (n : ℕ) → n ≤ length xs → count_below n (λ k. p (get_or xs k d)) ≡ count_by p (take n xs)
  count_below-take zero h = refl
  count_below-take (suc n) h =
      let rest = count_below-take n (omega arith) in
      let more = sum_by_more (λ x. cond (p x) 1 0) xs n d h in
      rw (← add-one n) (omega arith)

  pub count_below-count_by : count_below (length xs) (λ k. p (get_or xs k d)) ≡ count_by p xs
  count_below-count_by = count_below-take (length xs) (omega arith) ∙ ap (count_by p) (take_all (length xs) xs (omega arith))
