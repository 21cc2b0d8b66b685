-- The best open trail is what its other words say.
use Rattle.std.proofs.Common.{◌≡◌, ℕ, zero, suc, ◌<◌, Bool, true, false, ◌&&◌, Some, None, Option, refl, inl, inr, arith}
use Rattle.std.proofs.lemmas.Bool.{and_parts, both_ways, cases_Bool, cond_both}
use Rattle.scale.specs.declared.scales.Scale.{Ghosts}
use Rattle.scale.specs.Shapes.{Shaped}
use Rattle.rule.specs.declared.rules.Rule as rules
use Rattle.rule.specs.Soundness as soundness
use Rattle.rule.proofs.Ordering.{ordered}
use Rattle.trails.specs.declared.standings.Standing.{Standing}
use Rattle.trails.specs.declared.states.State.TheVariants.{Open}
use Rattle.trails.specs.Repertoires.{Repertoire}
use Rattle.trails.specs.Tables.{is_open, Table, trail_at}
use Rattle.trails.specs.Choosing.{goes_first, estimate_at, best_below, best, IsBest, Chosen}
use Rattle.trails.specs.Calls.{prefers_by}
use Rattle.trails.proofs.Invariant.{Fair}
use Rattle.trails.proofs.Places.{below_or_last, open_if}

-- what a test must keep to choose by: it is a strict order, and no cost goes before one that is no worse than it
pub record Chooses {S : Type 0} (s : Ghosts S) (prefers : S → S → Bool) : Type 0 where
  pub asymmetric : (x y : S) → prefers x y ≡ true → prefers y x ≡ false
  pub transitive : (x y z : S) → prefers x y ≡ true → prefers y z ≡ true → prefers x z ≡ true
  pub carries : (x y z : S) → prefers x y ≡ false → prefers y z ≡ false → prefers x z ≡ false
  pub no_worse : (x y : S) → s.no_worse x y ≡ true → prefers y x ≡ false

-- preferred under any limits, by any rule that keeps its laws
pub prefers_chooses : {S R : Type 0} (s : Ghosts S) → Fair s → Shaped s.no_worse s.shape → (q : rules.Ghosts R) → ((rule : R) → soundness.Sound (q.better rule)) → (x : Standing S R) → Chooses s (prefers_by s q x)
prefers_chooses s laws shaped q sound x =
    let o = ordered s (q.better x.preference.rule) x.preference.limits laws shaped (sound x.preference.rule) in
    record { asymmetric = o.asymmetric; transitive = o.transitive; carries = λ a b c h k. o.carries c b a k h; no_worse = o.no_worse }

module _ {S : Type 0} (s : Ghosts S) (r : Repertoire S) (prefers : S → S → Bool) (chooses : Chooses s prefers) (reflexive : (x : S) → s.no_worse x x ≡ true) (t : Table S) where
  -- what goes before something that nothing goes before, does so before all
  before_all : (x y z : S) → prefers x y ≡ true → prefers z y ≡ false → prefers x z ≡ true
  before_all x y z h k = elim (cases_Bool (prefers x z)) [ inl e ↦ e | inr e ↦ absurd (both_ways (prefers x y) (chooses.carries x z y e k) h) ]

  -- place n goes first
  taken_first : (n : ℕ) (o : Option (ℕ × S)) → Chosen s r prefers t n o → goes_first prefers (estimate_at s r t n) o ≡ true
      → (i : ℕ) → i < n → (trail_at s t.trails i).state ≡ Open → prefers (estimate_at s r t n) (estimate_at s r t i) ≡ true
  taken_first n None none g i l oi = absurd (none i l oi)
  taken_first n (Some b) is g i l oi = before_all _ b.1 _ g (is.none_preferred i l oi)

  taken : (n : ℕ) (o : Option (ℕ × S)) → Chosen s r prefers t n o → is_open (trail_at s t.trails n).state ≡ true → goes_first prefers (estimate_at s r t n) o ≡ true
      → IsBest s r prefers t (suc n) n (estimate_at s r t n)
  taken n o is here g = record {
    within = omega arith;
    opened = open_if _ here;
    estimated = refl;
    none_preferred = λ i l oi. elim (below_or_last i n l) [
      | inl v ↦ chooses.asymmetric _ _ (taken_first n o is g i v oi)
      | inr e ↦ rw e (chooses.no_worse _ _ (reflexive _))
    ];
    lowest = taken_first n o is g;
  }

  -- the best so far stays
  kept : (n : ℕ) (o : Option (ℕ × S)) → Chosen s r prefers t n o → (is_open (trail_at s t.trails n).state && goes_first prefers (estimate_at s r t n) o) ≡ false → Chosen s r prefers t (suc n) o
  kept n None none e = λ i l oi. elim (below_or_last i n l) [
    | inl v ↦ none i v oi
    | inr x ↦ let here : (trail_at s t.trails n).state ≡ Open = rw x at oi in both_ways _ (rw here at e) refl
  ]
  kept n (Some b) is e = record {
    within = omega (arith, is.within);
    opened = is.opened;
    estimated = is.estimated;
    lowest = is.lowest;
    none_preferred = λ i l oi. elim (below_or_last i n l) [
      | inl v ↦ is.none_preferred i v oi
      | inr x ↦ let here : (trail_at s t.trails n).state ≡ Open = rw x at oi in rw x (rw here at e)
    ];
  }

  chosen_below : (n : ℕ) → Chosen s r prefers t n (best_below s r prefers t n)
  unfolding best_below
  chosen_below zero = λ i l o. omega arith
  chosen_below (suc n) =
      let o : Option (ℕ × S) = best_below s r prefers t n in
      let is : Chosen s r prefers t n o = chosen_below n in
      cond_both (is_open (trail_at s t.trails n).state && goes_first prefers (estimate_at s r t n) o) (Some (n, estimate_at s r t n)) o (Chosen s r prefers t (suc n))
      (λ e. let h = and_parts _ _ e in taken n o is h.0 h.1)
      (λ e. kept n o is e)

  pub chosen : Chosen s r prefers t t.used (best s r prefers t)
  unfolding best
  chosen = chosen_below t.used
