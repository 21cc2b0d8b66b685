-- The loop for the best open trail: one place more.
use Rattle.std.proofs.Common.{◌≡◌, ℕ, zero, suc, ◌+◌, ◌<◌, ◌≤◌, Bool, true, false, cond, ◌&&◌, List, length, get_or, take, IfSome, Some, None, Option, sym, refl, ap, ap₂, ◌∙◌, add-one, arith}
use Rattle.std.specs.Option.{MatchOption, IsSomeAnd}
use Rattle.std.proofs.lemmas.List.{get_or-take, length-take-le}
use Rattle.std.proofs.lemmas.Bool.{cond_both}
use Rattle.scale.specs.declared.scales.Scale.{Ghosts}
use Rattle.trails.specs.declared.trails.Trail.{Trail}
use Rattle.trails.specs.Repertoires.{Repertoire}
use Rattle.trails.specs.Tables.{is_open, tabled, trail_at, estimate}
use Rattle.trails.specs.Choosing.{goes_first, estimate_at, best_below, best}
use Rattle.table.specs.Chosen.{place_of, better_by}
use Rattle.trails.proofs.ReadTrails.{read_at}

-- one test behind another, or both at once
both_tests : {X : Type 0} (a b : Bool) (x y : X) → cond a (cond b x y) y ≡ cond (a && b) x y
both_tests true b x y = refl
both_tests false b x y = refl

-- a place below n is below the next number
found_further : {S : Type 0} (n : ℕ) (o : Option (ℕ × S)) → IfSome (place_of o) (λ k. k < n) → IfSome (place_of o) (λ k. k < suc n)
found_further n None h = h
found_further n (Some chosen) h = omega arith

-- the place out of the best one, by a closure that gives the first of a pair
pub place_mapped : {S : Type 0} {Gives : ℕ × S → ℕ → Type 0} → ((x : ℕ × S) (k : ℕ) → Gives x k → k ≡ x.0) → (b : Option (ℕ × S)) (o : Option ℕ) → MatchOption b (o ≡ None) (λ x. IsSomeAnd o (Gives x)) → o ≡ place_of b
place_mapped told None o h = h
place_mapped told (Some x) None h = absurd h
place_mapped told (Some x) (Some k) h = ap Some (told x k h)

module _ {S : Type 0} (s : Ghosts S) (r : Repertoire S) (prefers : S → S → Bool) (trails : List (Trail S)) (used : ℕ) where
  -- one place more: the best so far, b, beside the trail t that was read at place i
  pub best_more : (i : ℕ) (t : Trail S) → i < length trails → t ≡ get_or trails i t → (b : Option (ℕ × S)) → b ≡ best_below s r prefers (tabled trails used) i
      → cond (is_open t.state) (better_by prefers i (estimate s r t) b) b ≡ best_below s r prefers (tabled trails used) (i + 1)
  unfolding best_below
  best_more i t lt read b so_far =
      let next : Trail S → Option (ℕ × S) → Option (ℕ × S) = λ x o. cond (is_open x.state && goes_first prefers (estimate s r x) o) (Some (i, estimate s r x)) o in
      both_tests (is_open t.state) _ _ _ ∙ ap₂ next (read_at s trails i t lt read) so_far ∙ ap (best_below s r prefers (tabled trails used)) (sym (add-one i))

  -- the place of the best one is among those looked at
  best_is_below : (n : ℕ) → IfSome (place_of (best_below s r prefers (tabled trails used) n)) (λ k. k < n)
  unfolding best_below
  best_is_below zero = tt
  best_is_below (suc n) =
      cond_both (is_open (trail_at s trails n).state && goes_first prefers (estimate_at s r (tabled trails used) n) (best_below s r prefers (tabled trails used) n))
      (Some (n, estimate_at s r (tabled trails used) n)) (best_below s r prefers (tabled trails used) n) (λ o. IfSome (place_of o) (λ k. k < suc n))
      (λ _. omega arith) (λ _. found_further n (best_below s r prefers (tabled trails used) n) (best_is_below n))

  -- at the end of the loop
  pub best_is : (i : ℕ) → i ≡ used → (b : Option (ℕ × S)) → b ≡ best_below s r prefers (tabled trails used) i → b ≡ best s r prefers (tabled trails used)
  unfolding best
  best_is i e b so_far = so_far ∙ ap (best_below s r prefers (tabled trails used)) e

  -- so it is a used place
  pub best_within : IfSome (place_of (best s r prefers (tabled trails used))) (λ k. k < used)
  unfolding best
  best_within = best_is_below used

  -- the used places alone have the same best one
  front_below : (n : ℕ) → n ≤ used → best_below s r prefers (tabled (take used trails) (length (take used trails))) n ≡ best_below s r prefers (tabled trails used) n
  unfolding best_below
  front_below zero h = refl
  front_below (suc n) h =
      ap₂ (λ (t : Trail S) (o : Option (ℕ × S)). cond (is_open t.state && goes_first prefers (estimate s r t) o) (Some (n, estimate s r t)) o) (get_or-take used trails n _ h) (front_below n (omega arith))

  pub best_front : used ≤ length trails → best s r prefers (tabled (take used trails) (length (take used trails))) ≡ best s r prefers (tabled trails used)
  unfolding best
  best_front fits = ap (best_below s r prefers (tabled (take used trails) (length (take used trails)))) (length-take-le used trails fits) ∙ front_below used (omega arith)
