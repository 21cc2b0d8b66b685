-- Nothing is forgotten: from the start's live trail a path is followed link by link, through done trails, to an open one.
use Rattle.std.proofs.Common.{◌≡◌, ℕ, ◌<◌, true, false, List, [], ◌∷◌, sym, refl, ◌∙◌, subst}
use Rattle.std.proofs.lemmas.Bool.{both_ways}
use Rattle.scale.specs.declared.scales.Scale.{Ghosts}
use Rattle.trails.specs.declared.states.State.{State}
use Rattle.trails.specs.declared.states.State.TheVariants.{Open, Done, Dropped}
use Rattle.trails.specs.declared.trails.Trail.{Trail}
use Rattle.trails.specs.Repertoires.{Repertoire}
use Rattle.trails.specs.Paths.{IsPath, IsChain, cost_after, path_cost}
use Rattle.trails.specs.Tables.{is_live, trail_at}
use Rattle.trails.specs.Promise.{Remembered}
use Rattle.trails.proofs.Invariant.{Fair, Whole}
use Rattle.trails.proofs.Paths.{path_append, cost_append, cost_monotone}
use Rattle.trails.proofs.TrailPaths.{trail_leads, trail_costs}

module _ {S : Type 0} (s : Ghosts S) (laws : Fair s) (r : Repertoire S) (trails : List (Trail S)) (used : ℕ) (whole : Whole s r trails used) where
  -- an open trail from whose motif the rest leads to the goal, at a cost no worse than c
  pub record Continued (c : S) : Type 0 where
    pub place : ℕ
    pub rest : List ℕ
    pub within : place < used
    pub opened : (trail_at s trails place).state ≡ Open
    pub leads : IsPath s r (trail_at s trails place).motif r.header.goal rest
    pub no_worse : s.no_worse (cost_after s r (trail_at s trails place).cost rest) c ≡ true

  follow : (ks : List ℕ) (i : ℕ) → i < used → (state : State) → (trail_at s trails i).state ≡ state → is_live state ≡ true → IsPath s r (trail_at s trails i).motif r.header.goal ks
      → Continued (cost_after s r (trail_at s trails i).cost ks)
  follow ks i u Open e live p = record { place = i; rest = ks; within = u; opened = e; leads = p; no_worse = laws.reflexive _ }
  follow [] i u Done e live p = absurd (whole.goal_ahead i u e p)
  follow (k ∷ ks) i u Done e live p =
      let next = whole.followed i k u e p.0 p.1 in
      let at = next.1 in
      let q : IsPath s r (trail_at s trails next.0).motif r.header.goal ks = subst (λ m. IsPath s r m r.header.goal ks) (sym at.there) p.2 in
      let f = follow ks next.0 at.within (trail_at s trails next.0).state refl at.live q in
      record {
        place = f.place;
        rest = f.rest;
        within = f.within;
        opened = f.opened;
        leads = f.leads;
        no_worse = laws.transitive _ _ _ f.no_worse (cost_monotone s r laws _ _ ks at.no_worse);
      }
  follow [] i u Dropped e live p = absurd (both_ways false refl live)
  follow (k ∷ ks) i u Dropped e live p = absurd (both_ways false refl live)

  -- the start has a live trail at no cost, so every path from start to goal is continued from some open trail
  pub continued : (ks : List ℕ) → IsChain s r ks → Continued (path_cost s r ks)
  continued ks p =
      let start = whole.outdone.by_live 0 whole.grown.some in
      let a = start.1 in
      let q : IsPath s r (trail_at s trails start.0).motif r.header.goal ks = subst (λ m. IsPath s r m r.header.goal ks) (sym (a.there ∙ whole.grown.first.motif_is)) p in
      let f = follow ks start.0 a.within _ refl a.live q in
      let free : s.no_worse (trail_at s trails start.0).cost s.neutral ≡ true = rw whole.grown.first.cost_is at a.no_worse in
      record {
        place = f.place;
        rest = f.rest;
        within = f.within;
        opened = f.opened;
        leads = f.leads;
        no_worse = laws.transitive _ _ _ f.no_worse (cost_monotone s r laws _ _ ks free);
      }

  -- the same, told by the open trail's path from the start
  pub remembered : (ks : List ℕ) → IsChain s r ks → Remembered s r used trails (path_cost s r ks)
  remembered ks p =
      let c = continued ks p in
      record {
        place = c.place;
        rest = c.rest;
        within = c.within;
        is_open = c.opened;
        leads = path_append s r r.header.start _ r.header.goal _ _ (trail_leads s r trails used whole.grown c.place c.within) c.leads;
        no_worse = rw (cost_append s r, trail_costs s r trails used whole.grown c.place c.within) c.no_worse;
      }
