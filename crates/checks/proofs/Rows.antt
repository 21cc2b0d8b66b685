-- All elements of a row pass a test, told by the numbers of their places.
use Rattle.std.proofs.Common.{◌≡◌, ℕ, zero, suc, ◌<◌, ◌≤◌, Bool, true, List, [], length, get_or, take, sym, refl, ap, ◌∙◌, zero-add, arith}
use Rattle.std.specs.List.{list_all, enumerate_from}
use Rattle.std.proofs.lemmas.Bool.{ne_eqb}
use Rattle.std.proofs.lemmas.Bool.Decides.{Decides-below_and, Decides-like, same_from_decides}
use Rattle.std.proofs.lemmas.List.{get_or_default, get_or-take, length-take-le}
use Rattle.std.proofs.lemmas.List.FromFn.{length-enumerate_from, get_or-enumerate_from}
use Rattle.std.proofs.lemmas.List.Sums.{AllPass-from_list_all, list_all-from_AllPass}
use Rattle.scale.specs.declared.scales.Scale.{Ghosts}
use Rattle.trails.specs.declared.trails.Trail.{Trail}
use Rattle.trails.specs.Below.{all_below}
use Rattle.trails.specs.Checks.{is_place_right}
use Rattle.trails.specs.Repertoires.{Repertoire}
use Rattle.trails.specs.Tables.{trail_at}
use Rattle.checks.specs.Answers.{is_right}

-- two tests that agree below n
agreeing : (n : ℕ) (p q : ℕ → Bool) → ((k : ℕ) → k < n → p k ≡ q k) → all_below n p ≡ all_below n q
agreeing zero p q same = refl
agreeing (suc n) p q same = rw (same n (omega arith), agreeing n p q (λ k l. same k (omega arith))) refl

-- a test of the elements
pub all_of_row : {X : Type 0} (q : X → Bool) (xs : List X) (d : X) → list_all q xs ≡ all_below (length xs) (λ k. q (get_or xs k d))
all_of_row q xs d =
    let p : ℕ → Bool = λ k. q (get_or xs k d) in
    same_from_decides _ _ (AllPass-from_list_all q xs, list_all-from_AllPass q xs)
    (Decides-like _ (λ h k e l. ap q (get_or_default xs k e d l) ∙ h k l) (λ h k l. h k d l)
    (Decides-below_and p (λ k. p k ≡ true) (λ n. all_below n p) (λ k. (λ e. e, λ e. e)) refl (λ n. refl) (length xs)))

module _ {S : Type 0} (s : Ghosts S) (r : Repertoire S) where
  -- a place is right where its trail is right there
  place_right : (trails : List (Trail S)) (i : ℕ) → is_right s r (trail_at s trails i) i ≡ is_place_right s r trails i
  place_right trails zero = refl
  place_right trails (suc i) = rw (ne_eqb (suc i) 0 (λ h. omega arith)) refl

  -- a test of the trails with their places
  pub all_of_places : (trails : List (Trail S)) → list_all (λ x. is_right s r x.1 x.0) (enumerate_from 0 trails) ≡ all_below (length trails) (is_place_right s r trails)
  all_of_places trails =
      let q : ℕ × Trail S → Bool = λ x. is_right s r x.1 x.0 in
      let placed = enumerate_from 0 trails in
      let d : ℕ × Trail S = (0, trail_at s [] 0) in
      all_of_row q placed d ∙ ap (λ n. all_below n (λ k. q (get_or placed k d))) (length-enumerate_from 0 trails)
      ∙ agreeing (length trails) _ _ (λ k l. ap q (get_or-enumerate_from 0 trails k d l) ∙ ap (is_right s r (trail_at s trails k)) (zero-add k) ∙ place_right trails k)

  -- the used places of a table, taken alone
  pub used_alone : (trails : List (Trail S)) (used : ℕ) → used ≤ length trails
      → all_below (length (take used trails)) (is_place_right s r (take used trails)) ≡ all_below used (is_place_right s r trails)
  used_alone trails used le =
      ap (λ n. all_below n (is_place_right s r (take used trails))) (length-take-le used trails le)
      ∙ agreeing used _ _ (λ k l. sym (place_right (take used trails) k) ∙ ap (λ t. is_right s r t k) (get_or-take used trails k _ l) ∙ place_right trails k)
