-- What it means that the checks pass.
use Rattle.std.proofs.Common.{◌≡◌, ℕ, zero, suc, ◌<◌, ◌≤◌, Bool, true, false, cond, List, [], ◌∷◌, ◌++◌, length, Some, None, sym, refl, ap, arith}
use Rattle.std.proofs.lemmas.Bool.{and_parts, and_from, ltb-true, leb-true, eqb-true, lt-ltb, le-leb, eq-eqb}
use Rattle.std.proofs.lemmas.Bool.Decides.{Decides-below_and}
use Rattle.scale.specs.declared.scales.Scale.{Ghosts}
use Rattle.repertoire.specs.declared.refusals.Refusal.{Refusal}
use Rattle.trails.specs.declared.standings.Standing.{Standing}
use Rattle.trails.specs.declared.trails.Trail.{Trail}
use Rattle.trails.specs.Below.{all_below}
use Rattle.trails.specs.Repertoires.{Repertoire, link_at, link_count}
use Rattle.trails.specs.Checks.{first_failing, is_between_motifs, guide_suits, repertoire_checks, length_checks, begin_checks, is_same_repertoire, is_place_right, is_same_table, standing_checks, call_checks}
use Rattle.trails.proofs.Invariant.{Fair, Whole}
use Rattle.trails.proofs.Paths.{Guided}
use Rattle.trails.proofs.Bounded.{motif_known}

-- ---- lists of checks

-- all tests of a list of checks hold
abbrev Passing : List (Refusal × Bool) → Type 0
Passing [] = Unit {0}
Passing (check ∷ checks) = (check.1 ≡ true) × Passing checks

-- where none fails, all hold
pub passing : (checks : List (Refusal × Bool)) → first_failing checks ≡ None → Passing checks
passing [] e = tt
passing (check ∷ checks) e = go check.1 refl e (passing checks)
  where
    go : (x : Bool) → check.1 ≡ x → cond x (first_failing checks) (Some check.0) ≡ None → (first_failing checks ≡ None → Passing checks) → (check.1 ≡ true) × Passing checks
    go true t e rest = (t, rest e)
    go false t e rest = cc

-- a list behind another: none fails where all of the first hold and none of the second fails
pub none_fails_append : (xs ys : List (Refusal × Bool)) → Passing xs → first_failing ys ≡ None → first_failing (xs ++ ys) ≡ None
none_fails_append [] ys p e = e
none_fails_append (x ∷ xs) ys p e = rw p.0 (none_fails_append xs ys p.1 e)

passing_parts : (xs ys : List (Refusal × Bool)) → Passing (xs ++ ys) → Passing xs × Passing ys
passing_parts [] ys p = (tt, p)
passing_parts (x ∷ xs) ys p = let rest = passing_parts xs ys p.1 in ((p.0, rest.0), rest.1)

-- all numbers below n pass
all_pass : (n : ℕ) (p : ℕ → Bool) → all_below n p ≡ true → (k : ℕ) → k < n → p k ≡ true
all_pass n p = (Decides-below_and p (λ k. p k ≡ true) (λ m. all_below m p) (λ k. (λ e. e, λ e. e)) refl (λ m. refl) n).0

passing_all : (n : ℕ) (p : ℕ → Bool) → ((k : ℕ) → k < n → p k ≡ true) → all_below n p ≡ true
passing_all n p = (Decides-below_and p (λ k. p k ≡ true) (λ m. all_below m p) (λ k. (λ e. e, λ e. e)) refl (λ m. refl) n).1

-- ---- an accepted repertoire

pub record Accepted {S : Type 0} (s : Ghosts S) (r : Repertoire S) : Type 0 where
  pub passes : Passing (repertoire_checks s r)
  pub starts : r.header.start < r.header.motifs
  pub reaches : (k : ℕ) → k < link_count r → (link_at s r k).to < r.header.motifs
  pub guided : Guided s r

accepted : {S : Type 0} (s : Ghosts S) (r : Repertoire S) → Passing (repertoire_checks s r) → Accepted s r
accepted s r p =
    let ends = and_parts _ _ p.1.0 in
    let links = p.1.1.1.0 in
    let guide = and_parts _ _ p.1.1.1.1.1.0 in
    record {
      passes = p;
      starts = ltb-true _ _ ends.0;
      reaches = λ k l. ltb-true _ _ (and_parts _ _ (all_pass (link_count r) (λ k. is_between_motifs s r (link_at s r k)) links k l)).1;
      guided = record { at_goal = guide.0; along = all_pass (link_count r) (λ k. guide_suits s r (link_at s r k)) guide.1 };
    }

-- begin accepts the repertoire and a table of at least one place
pub begin_accepted : {S : Type 0} (s : Ghosts S) (r : Repertoire S) (trails : List (Trail S)) → first_failing (begin_checks s r trails) ≡ None → Accepted s r × (0 < length trails)
begin_accepted s r trails e =
    let both = passing_parts (repertoire_checks s r) (length_checks s r trails) (passing (begin_checks s r trails) e) in
    (accepted s r both.0, ltb-true _ _ (and_parts _ _ both.1.0).0)

-- ---- a call that is served

-- what a call may rely on that has made its checks, whatever has become of the table
pub record Served {S R : Type 0} (s : Ghosts S) (r : Repertoire S) (x : Standing S R) (trails : List (Trail S)) : Type 0 where
  pub places_is : length trails ≡ x.places
  pub within : x.used ≤ length trails
  pub places_right : (i : ℕ) → i < x.used → is_place_right s r trails i ≡ true

pub call_served : {S R : Type 0} (s : Ghosts S) (r : Repertoire S) (x : Standing S R) (trails : List (Trail S)) → first_failing (call_checks s r x trails) ≡ None → Served s r x trails
call_served s r x trails e =
    let both = passing_parts (repertoire_checks s r) (standing_checks s r x trails) (passing (call_checks s r x trails) e) in
    let table = and_parts _ _ both.1.1.0 in
    let places = and_parts _ _ table.1 in
    record {
      places_is = eqb-true _ _ table.0;
      within = leb-true _ _ places.0;
      places_right = all_pass x.used (is_place_right s r trails) places.1;
    }

-- ---- a standing that goes with the repertoire and the table

-- begun with that repertoire and so many places
pub record Fits {S R : Type 0} (r : Repertoire S) (places : ℕ) (x : Standing S R) : Type 0 where
  pub header_is : x.header ≡ r.header
  pub links_is : x.links ≡ link_count r
  pub places_is : x.places ≡ places

module _ {S : Type 0} (s : Ghosts S) (r : Repertoire S) (ok : Accepted s r) where
  place_right : (laws : Fair s) (trails : List (Trail S)) (used : ℕ) → Whole s r trails used → (i : ℕ) → i < used → is_place_right s r trails i ≡ true
  place_right laws trails used whole zero u =
      and_from _ _ (lt-ltb _ _ (motif_known s laws r trails used whole ok.starts ok.reaches 0 u)) (eq-eqb _ _ whole.grown.first.parent_is)
  place_right laws trails used whole (suc i) u =
      let g = whole.grown.on (suc i) (omega arith) u in
      and_from _ _ (lt-ltb _ _ (motif_known s laws r trails used whole ok.starts ok.reaches (suc i) u)) (and_from _ _ (lt-ltb _ _ g.real) (lt-ltb _ _ g.lower))

  -- with it no call is refused for its repertoire or its table
  pub call_passes : {R : Type 0} (laws : Fair s) (x : Standing S R) (trails : List (Trail S)) → Fits r (length trails) x → Whole s r trails x.used → first_failing (call_checks s r x trails) ≡ None
  call_passes laws x trails f whole =
      let h = x.header in
      let e = f.header_is in
      let same : is_same_repertoire s r x ≡ true =
      and_from _ _ (eq-eqb r.header.motifs h.motifs (ap (λ y. y.motifs) (sym e))) (and_from _ _ (eq-eqb r.header.start h.start (ap (λ y. y.start) (sym e)))
      (and_from _ _ (eq-eqb r.header.goal h.goal (ap (λ y. y.goal) (sym e))) (eq-eqb _ _ (sym f.links_is)))) in
      let table : is_same_table s r x trails ≡ true =
      and_from _ _ (eq-eqb _ _ (sym f.places_is)) (and_from _ _ (le-leb _ _ whole.grown.within) (passing_all x.used (is_place_right s r trails) (place_right laws trails x.used whole))) in
      none_fails_append (repertoire_checks s r) (standing_checks s r x trails) ok.passes (rw (same, table) refl)
