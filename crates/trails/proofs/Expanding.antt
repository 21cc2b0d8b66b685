-- Expanding an open trail away from the goal keeps what holds between two calls, whichever trail it is.
use Rattle.std.proofs.Common.{◌≡◌, ℕ, zero, suc, ◌+◌, ◌<◌, ◌≤◌, true, false, List, length, set, sym, refl, ap, ◌∙◌, inl, inr, arith, length-set}
use Rattle.std.proofs.lemmas.List.{get_or-set_same, get_or-set_other}
use Rattle.std.proofs.lemmas.Bool.{cases_eq, eqb-true, eqb-false, cond_both}
use Rattle.scale.specs.declared.scales.Scale.{Ghosts}
use Rattle.repertoire.specs.Links.{leaves}
use Rattle.trails.specs.declared.states.State.{State}
use Rattle.trails.specs.declared.states.State.TheVariants.{Open, Done, Dropped}
use Rattle.trails.specs.declared.trails.Trail.{Trail}
use Rattle.trails.specs.Below.{count_below}
use Rattle.trails.specs.Repertoires.{Repertoire, link_at, link_count, leaving_count}
use Rattle.trails.specs.Tables.{is_open, Table, trail_at, restated}
use Rattle.trails.specs.Expanding.{withstood, dropped, added, tried, grown_by, tried_below, closed, expanded}
use Rattle.trails.proofs.Below.{count_below_next, count_below_grows, count_below_stricter, count_below_less, count_below-count_by}
use Rattle.trails.proofs.Invariant.{Fair, Same, LiveAt, Whole, Between, open_count}
use Rattle.trails.proofs.Places.{open_if, open_not_done, same_restated, Fate, length-dropped, dropped_fate, withstood_by, not_withstood}
use Rattle.trails.proofs.Trying.{grown_same, gained_same, apart_same, skip_between, add_between}

-- an open trail is one that may be chosen, and a trail that is not open is none
open_is : {S : Type 0} (s : Ghosts S) (trails : List (Trail S)) (i : ℕ) → (trail_at s trails i).state ≡ Open → is_open (trail_at s trails i).state ≡ true
open_is s trails i e = rw e refl

not_open : (state : State) → (state ≡ Open → ⊥) → is_open state ≡ false
not_open Open n = absurd (n refl)
not_open Done n = refl
not_open Dropped n = refl

-- ---- the trail at p becomes done, and no other changes

module _ {S : Type 0} (s : Ghosts S) (r : Repertoire S) (p : ℕ) (old : List (Trail S)) (used : ℕ) (whole : Whole s r old used)
    (within : p < used) (opened : (trail_at s old p).state ≡ Open) (away : (trail_at s old p).motif ≡ r.header.goal → ⊥)
    (now : List (Trail S)) (len : length now ≡ length old) (here : trail_at s now p ≡ restated (trail_at s old p) Done)
    (other : (i : ℕ) → (i ≡ p → ⊥) → trail_at s now i ≡ trail_at s old i) where
  same : (i : ℕ) → i < used → Same (trail_at s old i) (trail_at s now i)
  same i l = elim (cases_eq i p) [ inl e ↦ same_restated _ _ Done (rw e here) | inr n ↦ same_restated _ _ (trail_at s old i).state (other i n) ]

  closed_shut : (trail_at s now p).state ≡ Open → ⊥
  closed_shut e = open_not_done (sym e ∙ ap (λ t. t.state) here)

  was_open : (i : ℕ) → (trail_at s now i).state ≡ Open → (trail_at s old i).state ≡ Open
  was_open i e = elim (cases_eq i p) [ inl x ↦ absurd (closed_shut (rw x at e)) | inr n ↦ rw (other i n) at e ]

  still_live : {m : ℕ} {c : S} {j : ℕ} → LiveAt s old used m c j → LiveAt s now used m c j
  still_live {j} a =
      let f = same j a.within in
      record {
        within = a.within;
        there = f.motif_is ∙ a.there;
        no_worse = rw f.cost_is a.no_worse;
        live = elim (cases_eq j p) [ inl e ↦ rw (e, here) refl | inr n ↦ rw (other j n) a.live ];
      }

  closed_between : Between s r now p (trail_at s old p) 0 used
  closed_between = record {
    grown = grown_same s old now used same r len whole.grown;
    outdone = record { by_live = λ i l. let o = whole.outdone.by_live i l in rw ((same i l).motif_is, (same i l).cost_is) (o.0, still_live o.1) };
    single = record {
      apart = apart_same s old now used same whole.single.apart;
      shut = λ i h l e. whole.single.shut i h l (was_open _ (rw (same i l).parent_is at e));
    };
    gained = gained_same s old now used same whole.gained;
    within = within;
    source = same p within;
    shut = closed_shut;
    young = λ i h l e. absurd (whole.single.shut i h l (rw (sym (same i l).parent_is ∙ e) opened));
    followed = λ i j l d w jl f. elim (cases_eq i p) [
      | inl e ↦ absurd (omega (arith, w e))
      | inr n ↦ let o = whole.followed i j l (rw (other i n) at d) jl (f ∙ (same i l).motif_is) in rw (same i l).cost_is (o.0, still_live o.1)
    ];
    goal_ahead = λ i l d g. elim (cases_eq i p) [
      | inl e ↦ away (rw e at (sym (same i l).motif_is ∙ g))
      | inr n ↦ whole.goal_ahead i l (rw (other i n) at d) (sym (same i l).motif_is ∙ g)
    ];
  }

  -- one trail less is open
  closed_counted : open_count s now used < open_count s old used
  closed_counted = count_below_less (λ i. is_open (trail_at s old i).state) (λ i. is_open (trail_at s now i).state) p (open_is s old p opened) (not_open _ closed_shut) used
      (λ i l e. open_is s old i (was_open i (open_if _ e))) within

-- ---- the links below k have been tried from place p

-- how many of the first k links leave a motif
abbrev leaving_below : {S : Type 0} → Ghosts S → Repertoire S → ℕ → ℕ → ℕ
leaving_below s r m k = count_below k (λ j. leaves m (link_at s r j))

-- how far an expansion of the trail `from` at place p has come, from the table `start` on
pub record Going {S : Type 0} (s : Ghosts S) (r : Repertoire S) (p : ℕ) (from : Trail S) (start : Table S) (k : ℕ) (t : Table S) : Type 0 where
  pub between : Between s r t.trails p from k t.used
  pub length_is : length t.trails ≡ length start.trails
  -- no more places are taken than links leave
  pub taken : t.used ≤ start.used + leaving_below s r from.motif k
  -- at most as many trails have become open as places were taken, and one is open no more
  pub counted : open_count s t.trails t.used + suc start.used ≤ open_count s start.trails start.used + t.used

module _ {S : Type 0} (s : Ghosts S) (laws : Fair s) (r : Repertoire S) (p : ℕ) (start : Table S) where
  abbrev from : Trail S
  from = trail_at s start.trails p

  going_closed : Whole s r start.trails start.used → p < start.used → from.state ≡ Open → (from.motif ≡ r.header.goal → ⊥) → Going s r p from start 0 (closed s p start)
  unfolding closed
  going_closed whole within opened away =
      let old : List (Trail S) = start.trails in
      let blank : Trail S = record { motif = 0; parent = 0; link = 0; cost = s.neutral; state = Dropped } in
      let x : Trail S = restated from Done in
      let now : List (Trail S) = set old p x in
      let len : length now ≡ length old = length-set old p x in
      let here : trail_at s now p ≡ x = get_or-set_same old p x blank (omega (arith, whole.grown.within)) in
      let other : (i : ℕ) → (i ≡ p → ⊥) → trail_at s now i ≡ trail_at s old i = λ i n. get_or-set_other old p i x blank n in
      record {
        between = closed_between s r p old start.used whole within opened away now len here other;
        length_is = len;
        taken = omega arith;
        counted = omega (arith, closed_counted s r p old start.used whole within opened away now len here other);
      }

  module _ (k : ℕ) (kl : k < link_count r) (t : Table S) (g : Going s r p from start k t) where
    abbrev new : Trail S
    new = grown_by s r p from k

    going_skip : ((link_at s r k).from ≡ from.motif → (j : ℕ) × LiveAt s t.trails t.used new.motif new.cost j) → Going s r p from start (suc k) t
    going_skip have = record {
      between = skip_between s laws r p from k t.trails t.used g.between have;
      length_is = g.length_is;
      counted = g.counted;
      taken = omega (arith, g.taken, count_below_grows (λ j. leaves from.motif (link_at s r j)) k (suc k) (omega arith));
    }

    going_added : leaves from.motif (link_at s r k) ≡ true → t.used < length t.trails → withstood s new t ≡ false → Going s r p from start (suc k) (added s new t)
    unfolding added
    going_added leaving room none =
        let old : List (Trail S) = t.trails in
        let blank : Trail S = record { motif = 0; parent = 0; link = 0; cost = s.neutral; state = Dropped } in
        let d : List (Trail S) = dropped s new t in
        let now : List (Trail S) = set d t.used new in
        let dl : length d ≡ length old = length-dropped s new t (omega arith) in
        let fate : (i : ℕ) → i < t.used → Fate s new (trail_at s old i) (trail_at s now i)
        = λ i l. rw (get_or-set_other d t.used i new blank (omega arith)) (dropped_fate s new t (omega arith) i l) in
        let last : trail_at s now t.used ≡ new = get_or-set_same d t.used new blank (omega arith) in
        let fewer : open_count s now t.used ≤ open_count s old t.used = count_below_stricter (λ i. is_open (trail_at s old i).state) (λ i. is_open (trail_at s now i).state) t.used
        (λ i l e. elim (fate i l).fell [ inl f ↦ rw f at e | inr y ↦ open_is s old i (cc (y.0, open_if _ e)) ]) in
        let one : open_count s now (suc t.used) ≡ suc (open_count s now t.used) = rw last (omega arith) in
        let more : leaving_below s r from.motif (suc k) ≡ suc (leaving_below s r from.motif k) = rw leaving (omega arith) in
        record {
          between = add_between s laws r p from k old t.used g.between kl (eqb-true _ _ leaving) room (not_withstood s new t none) now (length-set d t.used new ∙ dl) fate last;
          length_is = length-set d t.used new ∙ dl ∙ g.length_is;
          taken = omega (arith, g.taken);
          counted = omega (arith, g.counted, fewer, one);
        }

  -- where the places suffice for all links that leave
  module _ (room : start.used + leaving_below s r from.motif (link_count r) ≤ length start.trails) where
    going_tried : (k : ℕ) → k < link_count r → (t : Table S) → Going s r p from start k t → leaves from.motif (link_at s r k) ≡ true → Going s r p from start (suc k) (tried s (grown_by s r p from k) t)
    unfolding tried
    going_tried k kl t g leaving =
        let next : leaving_below s r from.motif (suc k) ≤ leaving_below s r from.motif (link_count r) = count_below_next (λ j. leaves from.motif (link_at s r j)) k (link_count r) kl in
        let more : leaving_below s r from.motif (suc k) ≡ suc (leaving_below s r from.motif k) = rw leaving (omega arith) in
        cond_both (withstood s (grown_by s r p from k) t) t (added s (grown_by s r p from k) t) (Going s r p from start (suc k))
        (λ e. going_skip k kl t g (λ _. withstood_by s _ t e))
        (λ e. going_added k kl t g leaving (omega (arith, g.taken, g.length_is)) e)

    going_below : Going s r p from start 0 (closed s p start) → (k : ℕ) → k ≤ link_count r → Going s r p from start k (tried_below s r p from k (closed s p start))
    unfolding tried_below
    going_below h zero l = h
    going_below h (suc k) l =
        let t : Table S = tried_below s r p from k (closed s p start) in
        let g = going_below h k (omega arith) in
        cond_both (leaves from.motif (link_at s r k)) (tried s (grown_by s r p from k) t) t (Going s r p from start (suc k))
        (λ e. going_tried k l t g e)
        (λ e. going_skip k l t g (λ f. absurd (eqb-false _ _ e f)))

-- what an expansion of the open trail at p leaves
pub record Expanded {S : Type 0} (s : Ghosts S) (r : Repertoire S) (before after : Table S) : Type 0 where
  pub whole : Whole s r after.trails after.used
  pub length_is : length after.trails ≡ length before.trails
  -- one expansion more, and as many open trails and expansions as used places at most
  pub counted : (e : ℕ) → e + open_count s before.trails before.used ≤ before.used → suc e + open_count s after.trails after.used ≤ after.used

pub expanded_keeps : {S : Type 0} (s : Ghosts S) (laws : Fair s) (r : Repertoire S) (p : ℕ) (t : Table S) → Whole s r t.trails t.used
    → p < t.used → (trail_at s t.trails p).state ≡ Open → ((trail_at s t.trails p).motif ≡ r.header.goal → ⊥)
    → t.used + leaving_count r (trail_at s t.trails p).motif ≤ length t.trails → Expanded s r t (expanded s r p t)
unfolding expanded
expanded_keeps {S} s laws r p t whole within opened away room =
    let m : ℕ = (trail_at s t.trails p).motif in
    let all : leaving_below s r m (link_count r) ≡ leaving_count r m = count_below-count_by (leaves m) r.links (record { from = 0; to = 0; cost = s.neutral }) in
    let g = going_below s laws r p t (omega (arith, all)) (going_closed s laws r p t whole within opened away) (link_count r) (omega arith) in
    let b = g.between in
    record {
      whole = record {
        grown = b.grown;
        outdone = b.outdone;
        single = b.single;
        gained = b.gained;
        goal_ahead = b.goal_ahead;
        followed = λ i k l d kl f. b.followed i k l d (λ e. kl) kl f;
      };
      length_is = g.length_is;
      counted = λ e h. omega (arith, g.counted);
    }
