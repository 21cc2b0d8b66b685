-- What becomes of each trail when a new one comes: the same but for its state, and dropped only where the new one is no
-- worse at the same motif.
use Rattle.std.proofs.Common.{◌≡◌, ℕ, suc, ◌<◌, ◌≤◌, Bool, true, false, cond, ◌⊎◌, map, length, take, drop, Decides, sym, refl, ap, ◌∙◌, subst, inl, inr, arith, length-append, length-drop, length-take}
use lib.ListN.{length-map}
use Rattle.std.proofs.lemmas.List.{get_or_append_left, get_or-map, get_or-take}
use Rattle.std.proofs.lemmas.Bool.{and_parts, and_from, eqb-true, eq-eqb, cases_eq, both_ways}
use Rattle.std.proofs.lemmas.Bool.Decides.{Decides-below_or, not_from_Decides}
use Rattle.scale.specs.declared.scales.Scale.{Ghosts}
use Rattle.trails.specs.declared.states.State.{State}
use Rattle.trails.specs.declared.states.State.TheVariants.{Open, Done, Dropped}
use Rattle.trails.specs.declared.trails.Trail.{Trail}
use Rattle.trails.specs.Below.{some_below}
use Rattle.trails.specs.Tables.{is_live, is_open, Table, trail_at, restated}
use Rattle.trails.specs.Expanding.{withstands, yields, beside, withstood, dropped}
use Rattle.trails.proofs.Invariant.{Same, LiveAt}

pub below_or_last : (i u : ℕ) → i < suc u → (i < u) ⊎ (i ≡ u)
below_or_last i u h = elim (cases_eq i u) [ inl e ↦ inr e | inr n ↦ inl (omega arith) ]

-- ---- states

pub open_if : (state : State) → is_open state ≡ true → state ≡ Open
open_if Open e = refl
open_if Done e = absurd (both_ways false refl e)
open_if Dropped e = absurd (both_ways false refl e)

pub open_not_done : Open ≡ Done → ⊥
open_not_done e = cc

-- a trail that is live is not dropped
pub live_not_dropped : (state : State) → is_live state ≡ true → state ≡ Dropped → ⊥
live_not_dropped state live e = both_ways false refl (rw e at live)

-- ---- one trail

pub same_refl : {S : Type 0} (a : Trail S) → Same a a
same_refl a = record { motif_is = refl; parent_is = refl; link_is = refl; cost_is = refl }

pub same_trans : {S : Type 0} {a b c : Trail S} → Same a b → Same b c → Same a c
same_trans f g = record { motif_is = g.motif_is ∙ f.motif_is; parent_is = g.parent_is ∙ f.parent_is; link_is = g.link_is ∙ f.link_is; cost_is = g.cost_is ∙ f.cost_is }

pub same_restated : {S : Type 0} (a b : Trail S) (state : State) → b ≡ restated a state → Same a b
same_restated a b state e = record { motif_is = ap (λ t. t.motif) e; parent_is = ap (λ t. t.parent) e; link_is = ap (λ t. t.link) e; cost_is = ap (λ t. t.cost) e }

-- a trail before and after the new one came
pub record Fate {S : Type 0} (s : Ghosts S) (new before after : Trail S) : Type 0 where
  pub same : Same before after
  pub fell : (after.state ≡ before.state) ⊎ ((after.state ≡ Dropped) × (before.motif ≡ new.motif) × (s.no_worse new.cost before.cost ≡ true))

module _ {S : Type 0} (s : Ghosts S) (new : Trail S) where
  fate_beside : (a : Trail S) → Fate s new a (beside s new a)
  fate_beside a = record { same = same_restated a _ _ refl; fell = go (yields s new a) refl }
    where
      go : (b : Bool) → yields s new a ≡ b → (cond b Dropped a.state ≡ a.state) ⊎ ((cond b Dropped a.state ≡ Dropped) × (a.motif ≡ new.motif) × (s.no_worse new.cost a.cost ≡ true))
      go true e = let h = and_parts _ _ e in inr (refl, eqb-true _ _ (and_parts _ _ h.0).1, h.1)
      go false e = inl refl

  -- ---- all trails of a table

  module _ (t : Table S) (fits : t.used ≤ length t.trails) where
    front_length : length (map (beside s new) (take t.used t.trails)) ≡ t.used
    front_length = length-map (take t.used t.trails) (beside s new) ∙ simp length-take (omega arith)

    pub length-dropped : length (dropped s new t) ≡ length t.trails
    unfolding dropped
    length-dropped = simp length-append (omega (arith, front_length, length-drop t.used t.trails))

    -- each used trail as it stands beside the new one
    dropped_at : (i : ℕ) → i < t.used → trail_at s (dropped s new t) i ≡ beside s new (trail_at s t.trails i)
    unfolding dropped
    dropped_at i u =
        let blank : Trail S = record { motif = 0; parent = 0; link = 0; cost = s.neutral; state = Dropped } in
        let short : i < length (take t.used t.trails) = simp length-take (omega arith) in
        get_or_append_left (map (beside s new) (take t.used t.trails)) (drop t.used t.trails) blank i (omega (arith, front_length))
        ∙ get_or-map (beside s new) (take t.used t.trails) i blank blank short ∙ ap (beside s new) (get_or-take t.used t.trails i blank u)

    pub dropped_fate : (i : ℕ) → i < t.used → Fate s new (trail_at s t.trails i) (trail_at s (dropped s new t) i)
    dropped_fate i u = subst (Fate s new (trail_at s t.trails i)) (sym (dropped_at i u)) (fate_beside (trail_at s t.trails i))

  -- ---- whether a live trail is no worse than the new one

  withstood_decides : (t : Table S) → Decides (withstood s new t) ((j : ℕ) × (j < t.used) × (withstands s new (trail_at s t.trails j) ≡ true))
  unfolding withstood
  withstood_decides t = Decides-below_or (λ j. withstands s new (trail_at s t.trails j)) (λ j. withstands s new (trail_at s t.trails j) ≡ true)
      (λ n. some_below n (λ j. withstands s new (trail_at s t.trails j))) (λ j. (λ e. e, λ e. e)) refl (λ n. refl) t.used

  pub withstood_by : (t : Table S) → withstood s new t ≡ true → (j : ℕ) × LiveAt s t.trails t.used new.motif new.cost j
  withstood_by t e =
      let w = (withstood_decides t).0 e in
      let h = and_parts _ _ w.2 in
      let rival = and_parts _ _ h.0 in
      (w.0, record { within = w.1; live = rival.0; there = eqb-true _ _ rival.1; no_worse = h.1 })

  pub not_withstood : (t : Table S) → withstood s new t ≡ false → (j : ℕ) → LiveAt s t.trails t.used new.motif new.cost j → ⊥
  not_withstood t e j a =
      not_from_Decides _ (withstood_decides t) e (j, a.within, and_from _ _ (and_from _ _ a.live (eq-eqb _ _ a.there)) a.no_worse)
