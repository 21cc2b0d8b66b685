-- A repertoire as a value: header, links and guides.
use Rattle.std.specs.Prelude.{ℕ, List, length, count_by, slice_index_or}
use Rattle.scale.specs.declared.scales.Scale.{Ghosts}
use Rattle.repertoire.specs.declared.headers.Header.{Header}
use Rattle.repertoire.specs.declared.links.Link.{Link}
use Rattle.repertoire.specs.declared.repertoires.Repertoire as lent
use Rattle.repertoire.specs.Links.{leaves}
use Rattle.trails.specs.Below.{most_below}

-- Two repertoires with the same values are the same, wherever their rows lie.
pub record Repertoire (S : Type 0) : Type 0 where
  pub header : Header
  pub links : List (Link S)
  pub guides : List S

-- what a lent repertoire holds
abbrev pub held_by : {S : Type 0} → lent.Repertoire S → Repertoire S
held_by r = record { header = r.header; links = r.links.now; guides = r.guides.now }

-- the link of that number; what stands for one past the row's end is never asked for
abbrev pub link_at : {S : Type 0} → Ghosts S → Repertoire S → ℕ → Link S
link_at s r k = slice_index_or r.links k (record { from = 0; to = 0; cost = s.neutral })

abbrev pub link_count : {S : Type 0} → Repertoire S → ℕ
link_count r = length r.links

-- the guide of that motif
abbrev pub guide_at : {S : Type 0} → Ghosts S → Repertoire S → ℕ → S
guide_at s r m = slice_index_or r.guides m s.neutral

-- how many links leave a motif
abbrev pub leaving_count : {S : Type 0} → Repertoire S → ℕ → ℕ
leaving_count r m = count_by (leaves m) r.links

-- D: the most links that leave one motif
abbrev pub most_leaving : {S : Type 0} → Repertoire S → ℕ
most_leaving r = most_below r.header.motifs (leaving_count r)
