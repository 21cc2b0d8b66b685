-- Paths one behind another, and what costs do along them.
use Rattle.std.proofs.Common.{◌≡◌, ℕ, ◌<◌, true, List, [], ◌∷◌, ◌++◌, sym, refl, subst}
use Rattle.scale.specs.declared.scales.Scale.{Ghosts}
use Rattle.repertoire.specs.declared.links.Link.{Link}
use Rattle.trails.specs.Repertoires.{Repertoire, link_at, link_count, guide_at}
use Rattle.trails.specs.Paths.{IsPath, cost_after}
use Rattle.trails.specs.Checks.{guide_ends, guide_suits}
use Rattle.trails.proofs.Invariant.{Fair}

-- what the checks of the guide tell
pub record Guided {S : Type 0} (s : Ghosts S) (r : Repertoire S) : Type 0 where
  pub at_goal : guide_ends s r ≡ true
  pub along : (k : ℕ) → k < link_count r → guide_suits s r (link_at s r k) ≡ true

module _ {S : Type 0} (s : Ghosts S) (r : Repertoire S) where
  pub path_append : (a b c : ℕ) (ks js : List ℕ) → IsPath s r a b ks → IsPath s r b c js → IsPath s r a c (ks ++ js)
  path_append a b c [] js p q = rw p q
  path_append a b c (k ∷ ks) js p q = (p.0, p.1, path_append (link_at s r k).to b c ks js p.2 q)

  pub cost_append : (c : S) (ks js : List ℕ) → cost_after s r c (ks ++ js) ≡ cost_after s r (cost_after s r c ks) js
  cost_append c [] js = refl
  cost_append c (k ∷ ks) js = cost_append (s.joined c (link_at s r k).cost) ks js

  module _ (laws : Fair s) where
    -- a cost only grows
    pub grows_worse : (a b : S) → s.no_worse a (s.joined a b) ≡ true
    grows_worse a b = rw (laws.right a) at (laws.before s.neutral b a (laws.least b))

    pub cost_monotone : (c d : S) (ks : List ℕ) → s.no_worse c d ≡ true → s.no_worse (cost_after s r c ks) (cost_after s r d ks) ≡ true
    cost_monotone c d [] h = h
    cost_monotone c d (k ∷ ks) h = cost_monotone (s.joined c (link_at s r k).cost) (s.joined d (link_at s r k).cost) ks (laws.behind c d (link_at s r k).cost h)

    -- the guide never overstates what remains: a cost and then the guide is no worse than that cost and then any path to
    -- the goal
    pub guide_admits : Guided s r → (a : ℕ) (c : S) (ks : List ℕ) → IsPath s r a r.header.goal ks → s.no_worse (s.joined c (guide_at s r a)) (cost_after s r c ks) ≡ true
    guide_admits guided a c [] p =
        let here : s.no_worse (guide_at s r a) s.neutral ≡ true = subst (λ m. s.no_worse (guide_at s r m) s.neutral ≡ true) (sym p) guided.at_goal in
        subst (λ x. s.no_worse (s.joined c (guide_at s r a)) x ≡ true) (laws.right c) (laws.before _ _ c here)
    guide_admits guided a c (k ∷ ks) p =
        let l : Link S = link_at s r k in
        let here : s.no_worse (guide_at s r a) (s.joined l.cost (guide_at s r l.to)) ≡ true =
        subst (λ m. s.no_worse (guide_at s r m) (s.joined l.cost (guide_at s r l.to)) ≡ true) p.1 (guided.along k p.0) in
        let on : s.no_worse (s.joined c (guide_at s r a)) (s.joined (s.joined c l.cost) (guide_at s r l.to)) ≡ true =
        subst (λ x. s.no_worse (s.joined c (guide_at s r a)) x ≡ true) (sym (laws.assoc c l.cost _)) (laws.before _ _ c here) in
        laws.transitive _ _ _ on (guide_admits guided l.to (s.joined c l.cost) ks p.2)
