-- The enumeration of the paths from the start that repeat no motif lists each of them once, and nothing else.
use Rattle.std.proofs.Common.{◌≡◌, ℕ, zero, suc, ◌<◌, ◌≤◌, Bool, true, false, cond, not, ◌&&◌, ltb, List, [], ◌∷◌, map, refl, arith}
use Rattle.std.proofs.lemmas.Bool.{cond_both, not_from_false}
use Rattle.std.proofs.lemmas.Bool.Decides.{nat_tests}
use Rattle.scale.specs.declared.scales.Scale.{Ghosts}
use Rattle.repertoire.specs.Links.{leaves}
use Rattle.trails.specs.Below.{count_below}
use Rattle.trails.specs.Repertoires.{Repertoire, link_at, link_count}
use Rattle.trails.specs.Paths.{IsPath}
use Rattle.trails.specs.Counts.{is_seen, ReachesNew, rows_from, same_row, times_listed, Enumerated}
use Rattle.trails.proofs.Below.{count_below_le, count_below_less}
use Rattle.trails.proofs.Rows.{other_first_differs, listed_behind_first, not_listed_behind_other}
use Rattle.trails.proofs.Rows.{listed_gathered, not_listed_gathered}

module _ {S : Type 0} (s : Ghosts S) (r : Repertoire S) where
  -- the motif that link k reaches
  abbrev reached : ℕ → ℕ
  reached k = (link_at s r k).to

  -- ---- one link

  -- link k leaves motif a and reaches one not seen
  abbrev leads_on : List ℕ → ℕ → ℕ → Bool
  leads_on seen a k = leaves a (link_at s r k) && not (is_seen (reached k) seen)

  -- the rows of at most n links that go on behind link k
  abbrev rows_behind : ℕ → List ℕ → ℕ → List (List ℕ)
  rows_behind n seen k = rows_from s r n (reached k ∷ seen) (reached k)

  -- the rows that begin with link k; rows_from gathers them over all links
  abbrev rows_by : ℕ → List ℕ → ℕ → ℕ → List (List ℕ)
  rows_by n seen a k = cond (leads_on seen a k) (map (λ ks. k ∷ ks) (rows_behind n seen k)) []

  -- they list no row that begins otherwise
  not_listed_by : (n : ℕ) (seen : List ℕ) (a j : ℕ) (row : List ℕ) → ((x : List ℕ) → same_row row (j ∷ x) ≡ false)
      → times_listed row (rows_by n seen a j) ≡ 0
  not_listed_by n seen a j row differs =
      let behind = not_listed_behind_other j row differs (rows_behind n seen j) in
      cond_both (leads_on seen a j) _ [] (λ x. times_listed row x ≡ 0) (λ _. behind) (λ _. refl)

  -- the row of no link is listed once
  none_listed : (n : ℕ) (seen : List ℕ) (a : ℕ) → times_listed [] (rows_from s r n seen a) ≡ 1
  none_listed zero seen a = refl
  none_listed (suc n) seen a =
      let others = λ (j : ℕ). not_listed_by n seen a j [] (λ x. refl) in
      omega (arith, not_listed_gathered [] (rows_by n seen a) others (link_count r))

  -- any other row is listed as often as what is behind its first link, if that is a link that leads on, and else never
  first_listed : (n : ℕ) (seen : List ℕ) (a k : ℕ) (ks : List ℕ)
      → times_listed (k ∷ ks) (rows_from s r (suc n) seen a)
      ≡ cond (ltb k (link_count r) && leads_on seen a k) (times_listed ks (rows_behind n seen k)) 0
  first_listed n seen a k ks =
      let others = λ (j : ℕ) (ne : j ≡ k → ⊥). not_listed_by n seen a j (k ∷ ks) (other_first_differs j k ne ks) in
      let all = listed_gathered (k ∷ ks) (rows_by n seen a) k others (link_count r) in
      let behind = listed_behind_first k ks (rows_behind n seen k) in
      grind (arith, nat_tests)

  -- ---- nothing but such paths is listed

  listed_only : (n : ℕ) (seen : List ℕ) (a : ℕ) (ks : List ℕ) → 0 < times_listed ks (rows_from s r n seen a)
      → (b : ℕ) × IsPath s r a b ks × ReachesNew s r seen ks
  listed_only n seen a [] listed = (a, refl, tt)
  listed_only zero seen a (k ∷ ks) listed = absurd (omega arith)
  listed_only (suc n) seen a (k ∷ ks) listed =
      let times = first_listed n seen a k ks in
      let link : (k < link_count r) × ((link_at s r k).from ≡ a) × (is_seen (reached k) seen ≡ false) =
      grind (arith, nat_tests) in
      let behind : 0 < times_listed ks (rows_behind n seen k) = grind (arith, nat_tests) in
      let rest = listed_only n (reached k ∷ seen) (reached k) ks behind in
      (rest.0, (link.0, link.1, rest.1), (link.2, rest.2))

  -- ---- each such path is listed once

  -- how many links reach a motif not seen; at the start no more than there are links
  abbrev links_to_new : List ℕ → ℕ
  links_to_new seen = count_below (link_count r) (λ k. not (is_seen (reached k) seen))

  -- with each link of such a path they are fewer, so that it has no more links than they were at the start
  fewer_to_new : (seen : List ℕ) (k : ℕ) → k < link_count r → is_seen (reached k) seen ≡ false
      → links_to_new (reached k ∷ seen) < links_to_new seen
  fewer_to_new seen k within new =
      let was = λ (j : ℕ). not (is_seen (reached j) seen) in
      let is = λ (j : ℕ). not (is_seen (reached j) (reached k ∷ seen)) in
      let k_seen : is k ≡ false = grind (arith, nat_tests) in
      let unseen : (j : ℕ) → is j ≡ true → was j ≡ true = λ j e. grind (arith, nat_tests) in
      count_below_less was is k (not_from_false _ new) k_seen (link_count r) (λ j l. unseen j) within

  listed_once : (n : ℕ) (seen : List ℕ) (a b : ℕ) (ks : List ℕ) → links_to_new seen ≤ n → IsPath s r a b ks
      → ReachesNew s r seen ks → times_listed ks (rows_from s r n seen a) ≡ 1
  listed_once n seen a b [] enough path new = none_listed n seen a
  listed_once zero seen a b (k ∷ ks) enough path new =
      let fewer = fewer_to_new seen k path.0 new.0 in
      absurd (omega arith)
  listed_once (suc n) seen a b (k ∷ ks) enough path new =
      let fewer = fewer_to_new seen k path.0 new.0 in
      let rest = listed_once n (reached k ∷ seen) (reached k) b ks (omega arith) path.2 new.1 in
      let first = first_listed n seen a k ks in
      grind (arith, nat_tests)

  pub enumerated : Enumerated s r
  enumerated =
      let start = r.header.start in
      record {
        once = λ b ks. listed_once (link_count r) (start ∷ []) start b ks (count_below_le (link_count r) _);
        only = listed_only (link_count r) (start ∷ []) start;
      }
