-- What a check answers, and the tests of whole rows under names of their own.
use Rattle.std.specs.Prelude.{ℕ, Bool, cond, ◌&&◌, List, Some, None, Ok, Err, Option, Result, ◌==◌, nat_le, nat_lt}
use Rattle.scale.specs.declared.scales.Scale.{Ghosts}
use Rattle.repertoire.specs.declared.refusals.Refusal.{Refusal}
use Rattle.trails.specs.declared.trails.Trail.{Trail}
use Rattle.trails.specs.Below.{all_below}
use Rattle.trails.specs.Checks.{is_motif, is_between_motifs, guide_suits, is_place_right}
use Rattle.trails.specs.Repertoires.{Repertoire, link_at, link_count}

-- the answer to a list of checks, by the first that fails
abbrev pub checked : Option Refusal → Result (Unit {0}) Refusal
checked None = Ok tt
checked (Some why) = Err why

-- a number is above 0 and at most the greatest
abbrev pub is_count : ℕ → ℕ → Bool
is_count most n = nat_lt 0 n && nat_le n most

module _ {S : Type 0} (s : Ghosts S) (r : Repertoire S) where
  -- all links are between motifs
  abbrev pub all_between : Bool
  all_between = all_below (link_count r) (λ k. is_between_motifs s r (link_at s r k))

  -- the guide suits all links
  abbrev pub all_suited : Bool
  all_suited = all_below (link_count r) (λ k. guide_suits s r (link_at s r k))

  -- a trail is right at that place
  abbrev pub is_right : Trail S → ℕ → Bool
  is_right t i = is_motif s r t.motif && cond (i == 0) (t.parent == 0) (nat_lt t.link (link_count r) && nat_lt t.parent i)

  -- the first places, so many of them, are right
  abbrev pub all_right : List (Trail S) → ℕ → Bool
  all_right trails used = all_below used (is_place_right s r trails)
