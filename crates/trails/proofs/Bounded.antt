-- No more places are ever used than there are paths from the start that repeat no motif: a used trail's path repeats none,
-- since a motif seen before would have had a trail there that is no worse, and different places have different paths.
use Rattle.std.proofs.Common.{◌≡◌, ℕ, ◌<◌, ◌≤◌, true, false, eqb, List, [], ◌∷◌, ◌++◌, sym, refl, ◌∙◌, ⊎_elim, arith}
use Rattle.std.proofs.lemmas.Bool.{eqb-true, cases_Bool, cases_eq, or_cases, false≢true}
use Rattle.scale.specs.declared.scales.Scale.{Ghosts}
use Rattle.trails.specs.declared.trails.Trail.{Trail}
use Rattle.trails.specs.Repertoires.{Repertoire, link_at, link_count, leaving_count, most_leaving}
use Rattle.trails.specs.Counts.{is_seen, ReachesNew, RepeatsNone, simple_paths, simple_path_count}
use Rattle.trails.specs.Tables.{trail_at, trail_path}
use Rattle.trails.proofs.Below.{most_below_ge}
use Rattle.trails.proofs.Rows.{pigeonhole}
use Rattle.trails.proofs.Listing.{enumerated}
use Rattle.trails.proofs.Invariant.{Fair, Whole}
use Rattle.trails.proofs.Paths.{grows_worse}
use Rattle.trails.proofs.TrailPaths.{Lower, by_parent, path_grows, grown_lower, trail_leads, paths_differ}

module _ {S : Type 0} (s : Ghosts S) (r : Repertoire S) where
  -- the motifs seen behind a row of links
  abbrev seen_behind : List ℕ → List ℕ → List ℕ
  seen_behind seen [] = seen
  seen_behind seen (k ∷ ks) = seen_behind ((link_at s r k).to ∷ seen) ks

  seen_last : (seen ks : List ℕ) (k : ℕ) → seen_behind seen (ks ++ (k ∷ [])) ≡ (link_at s r k).to ∷ seen_behind seen ks
  seen_last seen [] k = refl
  seen_last seen (j ∷ ks) k = seen_last ((link_at s r j).to ∷ seen) ks k

  -- a row goes on reaching new motifs by a last link that reaches one
  new_last : (seen ks : List ℕ) (k : ℕ) → ReachesNew s r seen ks → is_seen (link_at s r k).to (seen_behind seen ks) ≡ false → ReachesNew s r seen (ks ++ (k ∷ []))
  new_last seen [] k u h = (h, tt)
  new_last seen (j ∷ ks) k u h = (u.0, new_last ((link_at s r j).to ∷ seen) ks k u.1 h)

module _ {S : Type 0} (s : Ghosts S) (laws : Fair s) (r : Repertoire S) (trails : List (Trail S)) (used : ℕ) (whole : Whole s r trails used) where
  lower : Lower s trails used
  lower = grown_lower s r trails used whole.grown

  -- a trail is no better than its parent
  worse_than_parent : (i : ℕ) → 0 < i → i < used → s.no_worse (trail_at s trails (trail_at s trails i).parent).cost (trail_at s trails i).cost ≡ true
  worse_than_parent i z u = rw (whole.grown.on i z u).costs (grows_worse s r laws _ _)

  abbrev seen_at : ℕ → List ℕ
  seen_at i = seen_behind s r (r.header.start ∷ []) (trail_path s trails i)

  -- a trail at motif m, at place i or before, that is no worse than the one at i
  pub record Met (m i : ℕ) : Type 0 where
    pub place : ℕ
    pub not_behind : place ≤ i
    pub there : (trail_at s trails place).motif ≡ m
    pub no_worse : s.no_worse (trail_at s trails place).cost (trail_at s trails i).cost ≡ true

  -- each motif on the path of a used trail has been met so
  met : (i : ℕ) → i < used → (m : ℕ) → is_seen m (seen_at i) ≡ true → Met m i
  met = by_parent s trails used lower (λ i. (m : ℕ) → is_seen m (seen_at i) ≡ true → Met m i)
      (λ m h. ⊎_elim
      (λ (e : eqb m r.header.start ≡ true). record { place = 0; not_behind = omega arith; there = whole.grown.first.motif_is ∙ sym (eqb-true m r.header.start e); no_worse = laws.reflexive _ })
      (λ (e : false ≡ true). absurd (false≢true e)) (or_cases _ _ h))
      (λ i z u ih m h.
      let p : ℕ = (trail_at s trails i).parent in
      let t : ℕ = (link_at s r (trail_at s trails i).link).to in
      let h2 : is_seen m (t ∷ seen_at p) ≡ true = rw (path_grows s trails used lower i z u, seen_last s r) at h in
      ⊎_elim (λ (e : eqb m t ≡ true). record { place = i; not_behind = omega arith; there = sym (eqb-true _ _ e ∙ (whole.grown.on i z u).reaches); no_worse = laws.reflexive _ })
      (λ (e : is_seen m (seen_at p) ≡ true). let before : Met m p = ih m e in
      record {
        place = before.place;
        not_behind = omega (arith, before.not_behind, (whole.grown.on i z u).lower);
        there = before.there;
        no_worse = laws.transitive _ _ _ before.no_worse (worse_than_parent i z u);
      })
      (or_cases _ _ h2))

  repeats_none : (i : ℕ) → i < used → RepeatsNone s r (trail_path s trails i)
  repeats_none = by_parent s trails used lower (λ i. RepeatsNone s r (trail_path s trails i)) tt
      (λ i z u ih. rw (path_grows s trails used lower i z u) (new_last s r (r.header.start ∷ []) _ (trail_at s trails i).link ih
      (⊎_elim
      (λ (e : is_seen (link_at s r (trail_at s trails i).link).to (seen_at (trail_at s trails i).parent) ≡ true).
      let g = whole.grown.on i z u in
      let lo = g.lower in
      let m = met (trail_at s trails i).parent (omega arith) _ e in
      absurd (whole.gained.over i m.place (omega (arith, m.not_behind)) u (m.there ∙ g.reaches) (laws.transitive _ _ _ m.no_worse (worse_than_parent i z u))))
      (λ e. e) (cases_Bool _))))

  pub used_within : used ≤ simple_path_count s r
  used_within = pigeonhole used (trail_path s trails) (simple_paths s r) (λ i j u v e. paths_differ s r trails used whole.grown whole.single i u j v e)
      (λ i u. let e = (enumerated s r).once _ _ (trail_leads s r trails used whole.grown i u) (repeats_none i u) in omega arith)

  -- where the start and the end of every link are motifs of the repertoire, so is that of every used trail
  module _ (starts : r.header.start < r.header.motifs) (reaches : (k : ℕ) → k < link_count r → (link_at s r k).to < r.header.motifs) where
    pub motif_known : (i : ℕ) → i < used → (trail_at s trails i).motif < r.header.motifs
    motif_known i u = ⊎_elim (λ (e : i ≡ 0). rw (e, whole.grown.first.motif_is) starts)
        (λ (n : i ≡ 0 → ⊥). let z : 0 < i = omega arith in let g = whole.grown.on i z u in rw (← g.reaches) (reaches _ g.real)) (cases_eq i 0)

    -- so no more links leave it than leave any
    pub leaving_within : (i : ℕ) → i < used → leaving_count r (trail_at s trails i).motif ≤ most_leaving r
    leaving_within i u = most_below_ge r.header.motifs (leaving_count r) _ (motif_known i u)
