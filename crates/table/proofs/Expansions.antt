-- The loop over the links that leave an expanded trail's motif: one link more, and the places that the links take.
use Rattle.std.proofs.Common.{◌≡◌, ℕ, ◌+◌, ◌<◌, ◌≤◌, true, false, cond, List, length, get_or, set, take, count_by, sym, ap, ◌∙◌, add-one, arith}
use Rattle.std.proofs.lemmas.List.{get_or_read}
use Rattle.std.proofs.lemmas.List.Sums.{count_by_more_yes, count_by_more_no, sum_by-take-le}
use Rattle.std.proofs.lemmas.Bool.{cond-true, cond-false, eq-eqb, ne_eqb}
use Rattle.scale.specs.declared.scales.Scale.{Ghosts}
use Rattle.repertoire.specs.declared.links.Link.{Link}
use Rattle.repertoire.specs.Links.{leaves}
use Rattle.trails.specs.declared.states.State.TheVariants.{Open, Done}
use Rattle.trails.specs.declared.trails.Trail.{Trail}
use Rattle.trails.specs.Repertoires.{Repertoire, link_at, link_count, leaving_count}
use Rattle.trails.specs.Tables.{Table, tabled, trail_at, restated}
use Rattle.trails.specs.Expanding.{tried, grown_by, tried_below, closed, expanded}
use Rattle.trails.proofs.ReadTrails.{read_at}

-- how many of the first k links leave a motif
abbrev pub leaving_of : {S : Type 0} → Repertoire S → ℕ → ℕ → ℕ
leaving_of r m k = count_by (leaves m) (take k r.links)

-- they are no more than all that leave the motif of the trail that was read at a place
pub leaving_all : {S : Type 0} (s : Ghosts S) (r : Repertoire S) (trails : List (Trail S)) (place : ℕ) (from : Trail S) → place < length trails → from ≡ get_or trails place from
    → (k : ℕ) → leaving_of r from.motif k ≤ leaving_count r (trail_at s trails place).motif
leaving_all s r trails place from lt read k =
    let here = ap (λ t. leaving_count r t.motif) (read_at s trails place from lt read) in omega (arith, here, sum_by-take-le (λ x. cond (leaves from.motif x) 1 0) r.links k)

-- ---- the link that was read under the number k, and a motif m

module _ {S : Type 0} (r : Repertoire S) (k : ℕ) (l : Link S) (lt : k < link_count r) (read : l ≡ get_or r.links k l) (m : ℕ) where
  -- whether it leaves the motif
  leaves_there : l.from ≡ m → leaves m (get_or r.links k l) ≡ true
  leaves_there e = eq-eqb _ _ (ap (λ x. x.from) (sym read) ∙ e)

  stays_there : (l.from ≡ m → ⊥) → leaves m (get_or r.links k l) ≡ false
  stays_there other = ne_eqb _ _ (λ e. other (ap (λ x. x.from) read ∙ e))

  -- where it does, it is one more that leaves
  pub leaving_more : l.from ≡ m → leaving_of r m (k + 1) ≡ leaving_of r m k + 1
  leaving_more e = count_by_more_yes (leaves m) r.links k l lt (leaves_there e)

  -- and else there are as many
  pub leaving_same : (l.from ≡ m → ⊥) → leaving_of r m (k + 1) ≡ leaving_of r m k
  leaving_same other = count_by_more_no (leaves m) r.links k l lt (stays_there other)

module _ {S : Type 0} (s : Ghosts S) (r : Repertoire S) (k : ℕ) (l : Link S) (lt : k < link_count r) (read : l ≡ get_or r.links k l) where
  -- the link as it was read is the link of its number
  link_here : l ≡ link_at s r k
  link_here = get_or_read r.links k l lt read (record { from = 0; to = 0; cost = s.neutral })

  module _ (place : ℕ) (from : Trail S) (start t : Table S) (so_far : t ≡ tried_below s r place from k start) where
    -- the new trail that it makes
    abbrev pub grown : S → Trail S
    grown cost = record { motif = l.to; parent = place; link = k; cost = cost; state = Open }

    grown_is : (cost : S) → cost ≡ s.joined from.cost l.cost → grown cost ≡ grown_by s r place from k
    grown_is cost join = λ i. record { motif = (link_here i).to; parent = place; link = k; cost = (join ∙ ap (λ x. s.joined from.cost x.cost) link_here) i; state = Open }

    -- the link leaves, and the new trail was tried
    pub tried_link : l.from ≡ from.motif → (cost : S) → cost ≡ s.joined from.cost l.cost → (after : Table S) → after ≡ tried s (grown cost) t → after ≡ tried_below s r place from (k + 1) start
    unfolding tried_below
    tried_link e cost join after step =
        step ∙ ap (λ (x : Trail S). tried s x t) (grown_is cost join) ∙ ap (tried s (grown_by s r place from k)) so_far
        ∙ sym (cond-true _ _ _ (eq-eqb _ _ (ap (λ x. x.from) (sym link_here) ∙ e))) ∙ ap (λ (n : ℕ). tried_below s r place from n start) (sym (add-one k))

    -- the link does not leave, and was passed over
    pub passed_link : (l.from ≡ from.motif → ⊥) → t ≡ tried_below s r place from (k + 1) start
    unfolding tried_below
    passed_link other = so_far ∙ sym (cond-false _ _ _ (ne_eqb _ _ (λ e. other (ap (λ x. x.from) link_here ∙ e)))) ∙ ap (λ (n : ℕ). tried_below s r place from n start) (sym (add-one k))

-- ---- the expanded trail, as it was read at its place

pub expanded_is : {S : Type 0} (s : Ghosts S) (r : Repertoire S) (trails : List (Trail S)) (used place : ℕ) (from : Trail S) → place < length trails → from ≡ get_or trails place from
    → (k : ℕ) → k ≡ link_count r → (after : Table S) → after ≡ tried_below s r place from k (tabled (set trails place (restated from Done)) used) → after ≡ expanded s r place (tabled trails used)
unfolding expanded closed
expanded_is {S} s r trails used place from lt read k e after so_far =
    so_far ∙ ap (λ (n : ℕ). tried_below s r place from n (tabled (set trails place (restated from Done)) used)) e
    ∙ ap (λ (x : Trail S). tried_below s r place x (link_count r) (tabled (set trails place (restated x Done)) used)) (read_at s trails place from lt read)
