-- Paths, which are rows of link numbers, and what they cost.
use Rattle.std.specs.Prelude.{◌≡◌, ℕ, ◌<◌, List, [], ◌∷◌}
use Rattle.scale.specs.declared.scales.Scale.{Ghosts}
use Rattle.trails.specs.Repertoires.{Repertoire, link_at, link_count}

module _ {S : Type 0} (s : Ghosts S) (r : Repertoire S) where
  -- the links lead from motif a to motif b, each starting where the one before ended; no link leads from a motif to itself
  abbrev pub IsPath : ℕ → ℕ → List ℕ → Type 0
  IsPath a b [] = a ≡ b
  IsPath a b (k ∷ ks) = (k < link_count r) × ((link_at s r k).from ≡ a) × IsPath (link_at s r k).to b ks

  -- a cost, then the costs of the links from first to last
  abbrev pub cost_after : S → List ℕ → S
  cost_after c [] = c
  cost_after c (k ∷ ks) = cost_after (s.joined c (link_at s r k).cost) ks

  abbrev pub path_cost : List ℕ → S
  path_cost ks = cost_after s.neutral ks

  -- a path from start to goal
  abbrev pub IsChain : List ℕ → Type 0
  IsChain ks = IsPath r.header.start r.header.goal ks
