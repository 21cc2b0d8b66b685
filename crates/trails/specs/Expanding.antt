-- Trying a link, and expanding a trail by all links that leave its motif.
use Rattle.std.specs.Prelude.{ℕ, zero, suc, Bool, cond, ◌&&◌, List, ◌++◌, map, take, drop, ◌==◌, slice_set}
use Rattle.scale.specs.declared.scales.Scale.{Ghosts}
use Rattle.repertoire.specs.Links.{leaves}
use Rattle.trails.specs.declared.states.State.TheVariants.{Open, Done, Dropped}
use Rattle.trails.specs.declared.trails.Trail.{Trail}
use Rattle.trails.specs.Below.{some_below}
use Rattle.trails.specs.Repertoires.{Repertoire, link_at, link_count}
use Rattle.trails.specs.Tables.{is_live, Table, trail_at, restated}

-- ---- a new trail comes to a table

-- a trail that the new one is compared with: a live one at its motif
abbrev pub rivals : {S : Type 0} → Trail S → Trail S → Bool
rivals new t = is_live t.state && t.motif == new.motif

module _ {S : Type 0} (s : Ghosts S) (new : Trail S) where
  -- a rival that is no worse, equal costs included
  abbrev pub withstands : Trail S → Bool
  withstands t = rivals new t && s.no_worse t.cost new.cost

  -- a rival than which the new one is no worse
  abbrev pub yields : Trail S → Bool
  yields t = rivals new t && s.no_worse new.cost t.cost

  -- what becomes of a trail beside the new one
  abbrev pub beside : Trail S → Trail S
  beside t = restated t (cond (yields t) Dropped t.state)

  -- some used trail withstands the new one, which is then discarded
  unfoldable pub withstood : Table S → Bool
  withstood t = some_below t.used (λ i. withstands (trail_at s t.trails i))

  -- the trails, with those dropped that yield to the new one
  unfoldable pub dropped : Table S → List (Trail S)
  dropped t = map beside (take t.used t.trails) ++ drop t.used t.trails

  -- the new trail takes the next place
  unfoldable pub added : Table S → Table S
  added t = record { trails = slice_set (dropped t) t.used new; used = suc t.used }

  unfoldable pub tried : Table S → Table S
  tried t = cond (withstood t) t (added t)

-- ---- the links of one trail

module _ {S : Type 0} (s : Ghosts S) (r : Repertoire S) (place : ℕ) (from : Trail S) where
  -- the open trail that goes on by link k from the trail at the place
  abbrev pub grown_by : ℕ → Trail S
  grown_by k = record { motif = (link_at s r k).to; parent = place; link = k; cost = s.joined from.cost (link_at s r k).cost; state = Open }

  -- those of the first k links that leave the trail's motif have been tried, in row order
  unfoldable pub tried_below : ℕ → Table S → Table S
  tried_below zero t = t
  tried_below (suc k) t = cond (leaves from.motif (link_at s r k)) (tried s (grown_by k) (tried_below k t)) (tried_below k t)

-- the trail at the place is done
unfoldable pub closed : {S : Type 0} → Ghosts S → ℕ → Table S → Table S
closed s place t = record { trails = slice_set t.trails place (restated (trail_at s t.trails place) Done); used = t.used }

-- the trail at the place becomes done, and each link that leaves its motif is tried
unfoldable pub expanded : {S : Type 0} → Ghosts S → Repertoire S → ℕ → Table S → Table S
expanded s r place t = tried_below s r place (trail_at s t.trails place) (link_count r) (closed s place t)
