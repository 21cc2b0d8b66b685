-- What the calls check before they do anything: each refusal with its test, in their order.
use Rattle.std.specs.Prelude.{ℕ, zero, suc, Bool, cond, ◌&&◌, List, [], ◌∷◌, ◌++◌, length, Some, None, Option, ◌==◌, nat_le, nat_lt}
use Rattle.scale.specs.declared.scales.Scale.{Ghosts}
use Rattle.scale.specs.Shapes.{parts_of}
use Rattle.repertoire.specs.declared.links.Link.{Link}
use Rattle.repertoire.specs.declared.refusals.Refusal.{Refusal}
use Rattle.repertoire.specs.declared.refusals.Refusal.TheVariants.{WrongMotifCount, UnknownEnd, TooManyLinks, UnknownMotif, WrongGuideCount, GuideOverstates, TooManyScales, WrongTableLength, AnotherRepertoire, AnotherTable}
use Rattle.trails.specs.declared.standings.Standing.{Standing}
use Rattle.trails.specs.declared.trails.Trail.{Trail}
use Rattle.trails.specs.Below.{all_below}
use Rattle.trails.specs.Repertoires.{Repertoire, link_at, link_count, guide_at}
use Rattle.trails.specs.Tables.{trail_at}

-- the refusal whose test is the first to fail
abbrev pub first_failing : List (Refusal × Bool) → Option Refusal
first_failing [] = None
first_failing (check ∷ checks) = cond check.1 (first_failing checks) (Some check.0)

-- the greatest numbers that the planner takes
abbrev pub most_motifs : ℕ
most_motifs = 1024

abbrev pub most_links : ℕ
most_links = 8192

abbrev pub most_scales : ℕ
most_scales = 8

abbrev pub most_places : ℕ
most_places = 4096

module _ {S : Type 0} (s : Ghosts S) (r : Repertoire S) where
  -- a motif of the repertoire
  abbrev pub is_motif : ℕ → Bool
  is_motif m = nat_lt m r.header.motifs

  abbrev pub is_between_motifs : Link S → Bool
  is_between_motifs l = is_motif l.from && is_motif l.to

  -- the guide of the goal says that nothing remains
  abbrev pub guide_ends : Bool
  guide_ends = s.no_worse (guide_at s r r.header.goal) s.neutral

  -- the guide of the link's from says no more than the link and then the guide of its to
  abbrev pub guide_suits : Link S → Bool
  guide_suits l = s.no_worse (guide_at s r l.from) (s.joined l.cost (guide_at s r l.to))

  -- of the repertoire and the pile
  abbrev pub repertoire_checks : List (Refusal × Bool)
  repertoire_checks =
      (WrongMotifCount, nat_lt 0 r.header.motifs && nat_le r.header.motifs most_motifs)
      ∷ (UnknownEnd, is_motif r.header.start && is_motif r.header.goal)
      ∷ (TooManyLinks, nat_le (link_count r) most_links)
      ∷ (UnknownMotif, all_below (link_count r) (λ k. is_between_motifs (link_at s r k)))
      ∷ (WrongGuideCount, (length r.guides == r.header.motifs))
      ∷ (GuideOverstates, guide_ends && all_below (link_count r) (λ k. guide_suits (link_at s r k)))
      ∷ (TooManyScales, nat_le (parts_of s.shape) most_scales)
      ∷ []

  -- of a table to begin with
  abbrev pub length_checks : List (Trail S) → List (Refusal × Bool)
  length_checks trails = (WrongTableLength, nat_lt 0 (length trails) && nat_le (length trails) most_places) ∷ []

  -- of what begin is given
  abbrev pub begin_checks : List (Trail S) → List (Refusal × Bool)
  begin_checks trails = repertoire_checks ++ length_checks trails

  -- the repertoire has the counts and ends that were begun with
  abbrev pub is_same_repertoire : {R : Type 0} → Standing S R → Bool
  is_same_repertoire x = r.header.motifs == x.header.motifs && (r.header.start == x.header.start && (r.header.goal == x.header.goal && link_count r == x.links))

  -- a used place is right: its motif and its link are in range and its parent is a lower place; place 0 has parent 0 and
  -- any link
  abbrev pub is_place_right : List (Trail S) → ℕ → Bool
  is_place_right trails zero = is_motif (trail_at s trails 0).motif && (trail_at s trails 0).parent == 0
  is_place_right trails (suc i) = is_motif (trail_at s trails (suc i)).motif && (nat_lt (trail_at s trails (suc i)).link (link_count r) && nat_lt (trail_at s trails (suc i)).parent (suc i))

  -- the table has the length that was begun with, and its used places are there and right
  abbrev pub is_same_table : {R : Type 0} → Standing S R → List (Trail S) → Bool
  is_same_table x trails = length trails == x.places && (nat_le x.used (length trails) && all_below x.used (is_place_right trails))

  -- of a repertoire and a table to go on with
  abbrev pub standing_checks : {R : Type 0} → Standing S R → List (Trail S) → List (Refusal × Bool)
  standing_checks x trails = (AnotherRepertoire, is_same_repertoire x) ∷ (AnotherTable, is_same_table x trails) ∷ []

  -- of what step, run, settle and route are given
  abbrev pub call_checks : {R : Type 0} → Standing S R → List (Trail S) → List (Refusal × Bool)
  call_checks x trails = repertoire_checks ++ standing_checks x trails
