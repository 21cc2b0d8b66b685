-- Trying one link keeps what holds between two links of an expansion.
use Rattle.std.proofs.Common.{◌≡◌, ℕ, suc, ◌<◌, true, List, length, sym, refl, ap, ◌∙◌, inl, inr, arith}
use Rattle.std.proofs.lemmas.Bool.{cases_eq}
use Rattle.scale.specs.declared.scales.Scale.{Ghosts}
use Rattle.trails.specs.declared.states.State.{State}
use Rattle.trails.specs.declared.states.State.TheVariants.{Open, Done}
use Rattle.trails.specs.declared.trails.Trail.{Trail}
use Rattle.trails.specs.Repertoires.{Repertoire, link_at, link_count}
use Rattle.trails.specs.Tables.{is_live, trail_at}
use Rattle.trails.specs.Expanding.{grown_by}
use Rattle.trails.proofs.Invariant.{Fair, Same, LiveAt, Outdone, Single, Gained, GrownAt, Grown, Between}
use Rattle.trails.proofs.Places.{below_or_last, open_not_done, live_not_dropped, same_trans, Fate}

-- ---- what speaks of no state outlasts a change of states

module _ {S : Type 0} (s : Ghosts S) (old now : List (Trail S)) (used : ℕ) (same : (i : ℕ) → i < used → Same (trail_at s old i) (trail_at s now i)) where
  pub grown_same : (r : Repertoire S) → length now ≡ length old → Grown s r old used → Grown s r now used
  grown_same r len g = record {
    some = g.some;
    within = rw len g.within;
    first = same_trans g.first (same 0 g.some);
    on = λ i h l.
        let a = g.on i h l in
        let here = same i l in
        let parent = same (trail_at s old i).parent (omega (arith, a.lower)) in
        record {
          lower = rw here.parent_is a.lower;
          real = rw here.link_is a.real;
          leaves = cc (here.link_is, here.parent_is, parent.motif_is, a.leaves);
          reaches = cc (here.link_is, here.motif_is, a.reaches);
          costs = cc (here.cost_is, here.link_is, here.parent_is, parent.cost_is, a.costs);
        };
  }

  pub gained_same : Gained s old used → Gained s now used
  gained_same g = record {
    over = λ i j h l e w.
        let here = same i l in
        let there = same j (omega arith) in
        g.over i j h l (cc) (rw here.cost_is at (rw there.cost_is at w));
  }

  abbrev Apart : List (Trail S) → Type 0
  Apart trails = (i j : ℕ) → 0 < i → i < used → 0 < j → j < used → (trail_at s trails i).parent ≡ (trail_at s trails j).parent → (trail_at s trails i).link ≡ (trail_at s trails j).link → i ≡ j

  pub apart_same : Apart old → Apart now
  apart_same a i j hi li hj lj e f = let here = same i li in let there = same j lj in a i j hi li hj lj (cc) (cc)

-- ---- link k is tried from place p

module _ {S : Type 0} (s : Ghosts S) (laws : Fair s) (r : Repertoire S) (p : ℕ) (from : Trail S) (k : ℕ) (old : List (Trail S)) (used : ℕ) (b : Between s r old p from k used) where
  abbrev new : Trail S
  new = grown_by s r p from k

  -- it does not leave, or its trail is discarded
  pub skip_between : ((link_at s r k).from ≡ from.motif → (j : ℕ) × LiveAt s old used new.motif new.cost j) → Between s r old p from (suc k) used
  skip_between have = record {
    grown = b.grown;
    outdone = b.outdone;
    single = b.single;
    gained = b.gained;
    within = b.within;
    source = b.source;
    shut = b.shut;
    goal_ahead = b.goal_ahead;
    young = λ i h l e. omega (arith, b.young i h l e);
    followed = λ i j l d w jl f. elim (cases_eq j k) [
      | inr n ↦ b.followed i j l d (λ e. omega (arith, w e)) jl f
      | inl n ↦ elim (cases_eq i p) [
        | inr m ↦ b.followed i j l d (λ e. absurd (m e)) jl f
        | inl m ↦ rw (n, m, b.source.cost_is) (have (cc (b.source.motif_is, f, n, m)))
      ]
    ];
  }

  -- its trail is added at the next place, and each other trail has its fate
  module _ (kl : k < link_count r) (leaves : (link_at s r k).from ≡ from.motif) (room : used < length old)
      (none : (j : ℕ) → LiveAt s old used new.motif new.cost j → ⊥)
      (now : List (Trail S)) (len : length now ≡ length old)
      (fate : (i : ℕ) → i < used → Fate s new (trail_at s old i) (trail_at s now i))
      (last : trail_at s now used ≡ new) where
    same : (i : ℕ) → i < used → Same (trail_at s old i) (trail_at s now i)
    same i l = (fate i l).same

    new_live : LiveAt s now (suc used) new.motif new.cost used
    new_live = record { within = omega arith; live = rw last refl; there = rw last refl; no_worse = rw last (laws.reflexive _) }

    -- what a live trail served, it still serves, or the new one does that dropped it
    still_live : (m : ℕ) (c : S) (j : ℕ) → LiveAt s old used m c j → (i : ℕ) × LiveAt s now (suc used) m c i
    still_live m c j a =
        let f = fate j a.within in
        elim f.fell [
          | inl e ↦ (j, record { within = omega (arith, a.within); live = rw e a.live; there = f.same.motif_is ∙ a.there; no_worse = rw f.same.cost_is a.no_worse })
          | inr x ↦ (used, record { within = omega arith; live = rw last refl; there = rw last (sym x.1 ∙ a.there); no_worse = rw last (laws.transitive _ _ _ x.2 a.no_worse) })
        ]

    was : (i : ℕ) → i < used → (state : State) → is_live state ≡ true → (trail_at s now i).state ≡ state → (trail_at s old i).state ≡ state
    was i l state live e = elim (fate i l).fell [ inl f ↦ sym f ∙ e | inr x ↦ absurd (live_not_dropped state live (sym e ∙ x.0)) ]

    not_done : {A : Type 0} (i : ℕ) → i ≡ used → (trail_at s now i).state ≡ Done → A
    not_done i e d = absurd (open_not_done (sym (rw e (ap (λ t. t.state) last)) ∙ d))

    source_now : Same from (trail_at s now p)
    source_now = same_trans b.source (same p b.within)

    grown_last : GrownAt s r now used
    grown_last = record {
      lower = rw last b.within;
      real = rw last kl;
      leaves = rw last (leaves ∙ sym source_now.motif_is);
      reaches = rw last refl;
      costs = rw last (ap (λ c. s.joined c (link_at s r k).cost) (sym source_now.cost_is));
    }

    grown_more : Grown s r now (suc used)
    grown_more = let g = grown_same s old now used same r len b.grown in
        record { some = omega arith; within = rw len room; first = g.first; on = λ i h l. elim (below_or_last i used l) [ inl v ↦ g.on i h v | inr e ↦ rw e grown_last ] }

    outdone_more : Outdone s now (suc used)
    outdone_more = record {
      by_live = λ i l. elim (below_or_last i used l) [
        | inl v ↦ let o = b.outdone.by_live i v in rw ((same i v).motif_is, (same i v).cost_is) (still_live _ _ _ o.1)
        | inr e ↦ (i, record { within = l; live = rw (e, last) refl; there = refl; no_worse = laws.reflexive _ })
      ];
    }

    -- the failed test says that no earlier trail, live or outdone by a live one, is no worse than the new one
    gained_more : Gained s now (suc used)
    gained_more = record {
      over = λ i j h l e w. elim (below_or_last i used l) [
        | inl v ↦ (gained_same s old now used same b.gained).over i j h v e w
        | inr x ↦
            let ju : j < used = omega arith in
            let o = b.outdone.by_live j ju in
            let a = o.1 in
            let m : (trail_at s now i).motif ≡ new.motif = rw (x, last) refl in
            let c : (trail_at s now i).cost ≡ new.cost = rw (x, last) refl in
            none o.0 (record {
              within = a.within;
              live = a.live;
              there = a.there ∙ sym (same j ju).motif_is ∙ e ∙ m;
              no_worse = laws.transitive _ _ _ a.no_worse (rw c at (rw (same j ju).cost_is at w));
            })
      ];
    }

    single_more : Single s now (suc used)
    single_more = record {
      apart = λ i j hi li hj lj e f. elim (below_or_last i used li) [
        | inl vi ↦ elim (below_or_last j used lj) [
          | inl vj ↦ apart_same s old now used same b.single.apart i j hi vi hj vj e f
          | inr ej ↦ absurd (older i hi vi (e ∙ rw (ej, last) refl) (f ∙ rw (ej, last) refl))
        ]
        | inr ei ↦ elim (below_or_last j used lj) [
          | inl vj ↦ absurd (older j hj vj (sym e ∙ rw (ei, last) refl) (sym f ∙ rw (ei, last) refl))
          | inr ej ↦ ei ∙ sym ej
        ]
      ];
      shut = λ i h l e. elim (below_or_last i used l) [
        | inl v ↦
            let lo : (trail_at s old i).parent < i = (b.grown.on i h v).lower in
            b.single.shut i h v (was (trail_at s old i).parent (omega arith) Open refl (rw (same i v).parent_is at e))
        | inr x ↦ b.shut (was p b.within Open refl (rw (x, last) at e))
      ];
    }
      where
        older : (i : ℕ) → 0 < i → i < used → (trail_at s now i).parent ≡ p → (trail_at s now i).link ≡ k → ⊥
        older i h l e f = omega (arith, b.young i h l (sym (same i l).parent_is ∙ e), (same i l).link_is, f)

    pub add_between : Between s r now p from (suc k) (suc used)
    add_between = record {
      grown = grown_more;
      outdone = outdone_more;
      single = single_more;
      gained = gained_more;
      within = omega (arith, b.within);
      source = source_now;
      shut = λ e. b.shut (was p b.within Open refl e);
      young = λ i h l e. elim (below_or_last i used l) [
        | inl v ↦ omega (arith, b.young i h v (sym (same i v).parent_is ∙ e), (same i v).link_is)
        | inr x ↦ rw (x, last) (omega arith)
      ];
      followed = λ i j l d w jl f. elim (below_or_last i used l) [
        | inr x ↦ not_done i x d
        | inl v ↦ rw (same i v).cost_is
            (let d' = was i v Done refl d in
            let f' : (link_at s r j).from ≡ (trail_at s old i).motif = f ∙ (same i v).motif_is in
            let before : (i ≡ p → j < k) → (q : ℕ) × LiveAt s now (suc used) (link_at s r j).to (s.joined (trail_at s old i).cost (link_at s r j).cost) q
            = λ z. still_live _ _ _ (b.followed i j v d' z jl f').1 in
            elim (cases_eq j k) [
              | inr n ↦ before (λ e. omega (arith, w e))
              | inl n ↦ elim (cases_eq i p) [ inr m ↦ before (λ e. absurd (m e)) | inl m ↦ rw (n, m, b.source.cost_is) (used, new_live) ]
            ])
      ];
      goal_ahead = λ i l d g. elim (below_or_last i used l) [
        | inl v ↦ b.goal_ahead i v (was i v Done refl d) (sym (same i v).motif_is ∙ g)
        | inr x ↦ not_done i x d
      ];
    }
