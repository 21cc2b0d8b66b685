-- S, the number of paths from the start that repeat no motif, by an enumeration that lists each of them once.
use Rattle.std.specs.Prelude.{◌≡◌, ℕ, zero, suc, ◌<◌, Bool, true, false, cond, not, ◌&&◌, ◌||◌, List, [], ◌∷◌, ◌++◌, map, length, ◌==◌}
use Rattle.scale.specs.declared.scales.Scale.{Ghosts}
use Rattle.repertoire.specs.Links.{leaves}
use Rattle.trails.specs.Repertoires.{Repertoire, link_at, link_count}
use Rattle.trails.specs.Paths.{IsPath}

-- whether the motif m is among those seen
abbrev pub is_seen : ℕ → List ℕ → Bool
is_seen m [] = false
is_seen m (v ∷ vs) = m == v || is_seen m vs

-- what f gives for each number below n, one behind the other
abbrev pub gathered : ℕ → (ℕ → List (List ℕ)) → List (List ℕ)
gathered zero f = []
gathered (suc n) f = gathered n f ++ f n

module _ {S : Type 0} (s : Ghosts S) (r : Repertoire S) where
  -- each link reaches a motif that is not among those seen, and has it seen for the links behind it
  abbrev pub ReachesNew : List ℕ → List ℕ → Type 0
  ReachesNew seen [] = Unit {0}
  ReachesNew seen (k ∷ ks) = (is_seen (link_at s r k).to seen ≡ false) × ReachesNew ((link_at s r k).to ∷ seen) ks

  -- the path from the start by these links repeats no motif
  abbrev pub RepeatsNone : List ℕ → Type 0
  RepeatsNone ks = ReachesNew (r.header.start ∷ []) ks

  -- the row of no link, and for each link that leaves motif a and reaches one not seen: that link, and behind it each row
  -- that goes on from its end; rows of at most n links
  abbrev pub rows_from : ℕ → List ℕ → ℕ → List (List ℕ)
  rows_from zero seen a = [] ∷ []
  rows_from (suc n) seen a =
      [] ∷ gathered (link_count r) (λ k. cond (leaves a (link_at s r k) && not (is_seen (link_at s r k).to seen))
      (map (λ ks. k ∷ ks) (rows_from n ((link_at s r k).to ∷ seen) (link_at s r k).to)) [])

  -- the paths from the start that repeat no motif; none of them has more links than there are
  abbrev pub simple_paths : List (List ℕ)
  simple_paths = rows_from (link_count r) (r.header.start ∷ []) r.header.start

  -- S
  abbrev pub simple_path_count : ℕ
  simple_path_count = length simple_paths

-- ---- that the enumeration is right

abbrev pub same_row : List ℕ → List ℕ → Bool
same_row [] [] = true
same_row [] (y ∷ ys) = false
same_row (x ∷ xs) [] = false
same_row (x ∷ xs) (y ∷ ys) = x == y && same_row xs ys

-- how many times a row is listed
abbrev pub times_listed : List ℕ → List (List ℕ) → ℕ
times_listed row [] = 0
times_listed row (x ∷ xs) = cond (same_row row x) (suc (times_listed row xs)) (times_listed row xs)

-- Each path from the start that repeats no motif is listed once, and nothing else is listed.
pub record Enumerated {S : Type 0} (s : Ghosts S) (r : Repertoire S) : Type 0 where
  pub once : (b : ℕ) (ks : List ℕ) → IsPath s r r.header.start b ks → RepeatsNone s r ks → times_listed ks (simple_paths s r) ≡ 1
  pub only : (ks : List ℕ) → 0 < times_listed ks (simple_paths s r) → (b : ℕ) × IsPath s r r.header.start b ks × RepeatsNone s r ks
