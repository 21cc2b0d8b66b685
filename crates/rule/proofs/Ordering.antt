-- Preferred is an order, whatever the scale and the rule.
use Rattle.std.proofs.Common.{◌≡◌, ℕ, Bool, true, false, cond, not, ◌⊎◌, refl, inl, inr, ⊎_elim, arith}
use Rattle.std.proofs.lemmas.Bool.{both_ways, cases_Bool}
use Rattle.scale.specs.declared.scales.Scale.{Ghosts}
use Rattle.scale.specs.Laws.{Laws}
use Rattle.scale.specs.Shapes.{held_set, HoldsAll, Shaped}
use Rattle.scale.proofs.Held.{holds_all}
use Rattle.rule.specs.Preferred.{preferred, Orders}
use Rattle.rule.specs.Soundness.{IsSet, AsGood, Sound}

-- ---- over truth values: better, better the other way round, liked the other way round

-- not chosen: the other is at least as good, and strictly so or liked as well
unchosen : (b w l : Bool) → cond b true (cond w false (not l)) ≡ false → (b ≡ false) × ((w ≡ false) → l ≡ true)
unchosen true w l h = absurd (both_ways true h refl)
unchosen false true l h = (refl, λ e. absurd (both_ways true e refl))
unchosen false false true h = (refl, λ e. refl)
unchosen false false false h = absurd (both_ways true h refl)

not_chosen : (b w l : Bool) → b ≡ false → ((w ≡ false) → l ≡ true) → cond b true (cond w false (not l)) ≡ false
not_chosen true w l h k = h
not_chosen false true l h k = refl
not_chosen false false true h k = refl
not_chosen false false false h k = absurd (both_ways false refl (k refl))

-- of two, one is not chosen: b and w tell which is better, l and l' which is liked as well
one_unchosen : (b w l l' : Bool) → (w ≡ false) ⊎ (b ≡ false) → (l ≡ true) ⊎ (l' ≡ true) → (cond b true (cond w false (not l')) ≡ false) ⊎ (cond w true (cond b false (not l)) ≡ false)
one_unchosen true true l l' h k = absurd (⊎_elim (λ e. both_ways true e refl) (λ e. both_ways true e refl) h)
one_unchosen true false l l' h k = inr refl
one_unchosen false true l l' h k = inl refl
one_unchosen false false true l' h k = inr refl
one_unchosen false false false true h k = inl refl
one_unchosen false false false false h k = absurd (⊎_elim (λ e. both_ways false refl e) (λ e. both_ways false refl e) k)

module _ {S : Type 0} (s : Ghosts S) (better : ℕ → ℕ → Bool) (limits : S) (laws : Laws s.neutral s.joined s.no_worse s.liked) (grows : HoldsAll s.no_worse s.shape) (sound : Sound better) where
  is_set : (x : S) → IsSet (held_set s.shape limits x)
  is_set x = omega arith

  not_preferred : (x y : S) → preferred s better limits y x ≡ false → AsGood better (held_set s.shape limits x) (held_set s.shape limits y) × (AsGood better (held_set s.shape limits y) (held_set s.shape limits x) → s.liked x y ≡ true)
  not_preferred x y h = unchosen (better (held_set s.shape limits y) (held_set s.shape limits x)) (better (held_set s.shape limits x) (held_set s.shape limits y)) (s.liked x y) h

  unpreferred : (x y : S) → AsGood better (held_set s.shape limits x) (held_set s.shape limits y) → (AsGood better (held_set s.shape limits y) (held_set s.shape limits x) → s.liked x y ≡ true) → preferred s better limits y x ≡ false
  unpreferred x y h k = not_chosen (better (held_set s.shape limits y) (held_set s.shape limits x)) (better (held_set s.shape limits x) (held_set s.shape limits y)) (s.liked x y) h k

  carries : (x y z : S) → preferred s better limits y x ≡ false → preferred s better limits z y ≡ false → preferred s better limits z x ≡ false
  carries x y z h k =
      let p = not_preferred x y h in
      let q = not_preferred y z k in
      let X = is_set x in
      let Y = is_set y in
      let Z = is_set z in
      unpreferred x z (sound.carries _ _ _ X Y Z p.0 q.0)
      (λ back. laws.carries x y z (p.1 (sound.carries _ _ _ Y Z X q.0 back)) (q.1 (sound.carries _ _ _ Z X Y back p.0)))

  total : (x y : S) → (preferred s better limits x y ≡ false) ⊎ (preferred s better limits y x ≡ false)
  total x y =
      one_unchosen (better (held_set s.shape limits x) (held_set s.shape limits y)) (better (held_set s.shape limits y) (held_set s.shape limits x)) (s.liked x y) (s.liked y x)
      (sound.total _ _ (is_set x) (is_set y)) (laws.total x y)

  asymmetric : (x y : S) → preferred s better limits x y ≡ true → preferred s better limits y x ≡ false
  asymmetric x y h = ⊎_elim (λ no'. absurd (both_ways (preferred s better limits x y) no' h)) (λ e. e) (total x y)

  transitive : (x y z : S) → preferred s better limits x y ≡ true → preferred s better limits y z ≡ true → preferred s better limits x z ≡ true
  transitive x y z h k =
      ⊎_elim (λ e. e) (λ no'. absurd (both_ways (preferred s better limits y z) (carries z x y no' (asymmetric x y h)) k)) (cases_Bool (preferred s better limits x z))

  pub orders : Orders s better limits
  orders = record {
    asymmetric = asymmetric;
    transitive = transitive;
    total = total;
    carries = carries;
    no_worse = λ x y h. unpreferred x y (sound.contains _ _ (is_set x) (is_set y) (grows limits x y h)) (λ _. laws.agrees x y h);
  }

-- it is an order by the laws of the scale and the rule
pub ordered : {S : Type 0} (s : Ghosts S) (better : ℕ → ℕ → Bool) (limits : S) → Laws s.neutral s.joined s.no_worse s.liked → Shaped s.no_worse s.shape → Sound better → Orders s better limits
ordered s better limits laws shaped sound = orders s better limits laws (holds_all s.no_worse s.shape shaped) sound
