-- Rows of numbers, and how often a list of rows lists one.
use Rattle.std.proofs.Common.{◌≡◌, ℕ, zero, suc, ◌+◌, ◌<◌, ◌≤◌, true, false, cond, eqb, ltb, List, [], ◌∷◌, ◌++◌, map, length, sym, refl, ap, ◌∙◌, zero-le, arith}
use Rattle.std.proofs.lemmas.Bool.{eqb-true, eq-eqb, ne_eqb, and_parts, and_left}
use Rattle.std.proofs.lemmas.Bool.Decides.{nat_tests}
use Rattle.trails.specs.Counts.{gathered, same_row, times_listed}

-- ---- the same row

-- rows that are the same are equal, and a row is the same as itself
pub same_row_equal : (xs ys : List ℕ) → same_row xs ys ≡ true → xs ≡ ys
same_row_equal [] [] e = refl
same_row_equal [] (y ∷ ys) e = cc
same_row_equal (x ∷ xs) [] e = cc
same_row_equal (x ∷ xs) (y ∷ ys) e =
    let both = and_parts (eqb x y) (same_row xs ys) e in
    let first : x ≡ y = eqb-true x y both.0 in
    let rest : xs ≡ ys = same_row_equal xs ys both.1 in
    cc

pub same_row_itself : (xs : List ℕ) → same_row xs xs ≡ true
same_row_itself [] = refl
same_row_itself (x ∷ xs) = rw (eq-eqb x x refl) (same_row_itself xs)

-- rows that begin differently are not the same
pub other_first_differs : (j k : ℕ) → (j ≡ k → ⊥) → (xs ys : List ℕ) → same_row (k ∷ xs) (j ∷ ys) ≡ false
other_first_differs j k ne xs ys = and_left (eqb k j) (same_row xs ys) (ne_eqb k j (λ e. ne (sym e)))

-- ---- how often a row is listed

pub listed_append : (row : List ℕ) (xs ys : List (List ℕ))
    → times_listed row (xs ++ ys) ≡ times_listed row xs + times_listed row ys
listed_append row [] ys = omega arith
listed_append row (x ∷ xs) ys = let rest = listed_append row xs ys in grind arith

-- where k is put before each row of a list, a row that begins with k is listed as often as what is behind the k was
pub listed_behind_first : (k : ℕ) (row : List ℕ) (xs : List (List ℕ))
    → times_listed (k ∷ row) (map (λ ks. k ∷ ks) xs) ≡ times_listed row xs
listed_behind_first k row [] = refl
listed_behind_first k row (x ∷ xs) = rw (eq-eqb k k refl, listed_behind_first k row xs)

-- where j is put before each, a row that does not begin with j is not listed
pub not_listed_behind_other : (j : ℕ) (row : List ℕ) → ((x : List ℕ) → same_row row (j ∷ x) ≡ false)
    → (xs : List (List ℕ)) → times_listed row (map (λ ks. j ∷ ks) xs) ≡ 0
not_listed_behind_other j row differs [] = refl
not_listed_behind_other j row differs (x ∷ xs) = rw (differs x) (not_listed_behind_other j row differs xs)

-- what is gathered lists no row that no f j lists
pub not_listed_gathered : (row : List ℕ) (f : ℕ → List (List ℕ)) → ((j : ℕ) → times_listed row (f j) ≡ 0)
    → (n : ℕ) → times_listed row (gathered n f) ≡ 0
not_listed_gathered row f none zero = refl
not_listed_gathered row f none (suc n) =
    let rest = not_listed_gathered row f none n in
    omega (arith, listed_append row (gathered n f) (f n), none n)

-- what is gathered lists a row that at most f k lists as often as f k does, if k is below n, and else never
pub listed_gathered : (row : List ℕ) (f : ℕ → List (List ℕ)) (k : ℕ)
    → ((j : ℕ) → (j ≡ k → ⊥) → times_listed row (f j) ≡ 0)
    → (n : ℕ) → times_listed row (gathered n f) ≡ cond (ltb k n) (times_listed row (f k)) 0
listed_gathered row f k others zero = grind (arith, nat_tests)
listed_gathered row f k others (suc n) =
    let more = listed_append row (gathered n f) (f n) in
    let rest = listed_gathered row f k others n in
    let here : n ≡ k → times_listed row (f n) ≡ times_listed row (f k) = ap (λ j. times_listed row (f j)) in
    grind (arith, nat_tests, others n)

-- ---- the pigeonhole

-- the list without one row: it is shorter by as often as the row was listed, and lists the others as often as before
without : List ℕ → List (List ℕ) → List (List ℕ)
without row [] = []
without row (x ∷ xs) = cond (same_row row x) (without row xs) (x ∷ without row xs)

without_length : (row : List ℕ) (xs : List (List ℕ)) → length (without row xs) + times_listed row xs ≡ length xs
unfolding without
without_length row [] = refl
without_length row (x ∷ xs) = let rest = without_length row xs in grind arith

without_others : (row other : List ℕ) → (row ≡ other → ⊥) → (xs : List (List ℕ))
    → times_listed other (without row xs) ≡ times_listed other xs
unfolding without
without_others row other ne [] = refl
without_others row other ne (x ∷ xs) =
    let rest = without_others row other ne xs in
    let never : same_row row x ≡ true → same_row other x ≡ true → ⊥ =
    λ e d. ne (same_row_equal row x e ∙ sym (same_row_equal other x d)) in
    grind (arith, never)

-- where n rows all differ and each is listed, the list has at least n rows
pub pigeonhole : (n : ℕ) (f : ℕ → List ℕ) (xs : List (List ℕ)) → ((i j : ℕ) → i < n → j < n → f i ≡ f j → i ≡ j)
    → ((i : ℕ) → i < n → 0 < times_listed (f i) xs) → n ≤ length xs
pigeonhole zero f xs differ listed = zero-le
pigeonhole (suc n) f xs differ listed =
    let apart : (i : ℕ) → i < n → f n ≡ f i → ⊥ =
    λ i h e. let same = differ n i (omega arith) (omega arith) e in omega arith in
    let still : (i : ℕ) → i < n → 0 < times_listed (f i) (without (f n) xs) =
    λ i h. rw (without_others (f n) (f i) (apart i h) xs) (listed i (omega arith)) in
    let others = pigeonhole n f (without (f n) xs) (λ i j hi hj. differ i j (omega arith) (omega arith)) still in
    omega (arith, without_length (f n) xs, listed n (omega arith))
