-- How a scale is made of simple scales, and which of their limits a cost holds.
use Rattle.std.specs.Prelude.{◌≡◌, ℕ, ◌+◌, ◌*◌, ◌%◌, min, Bool, true, cond, ◌&&◌, List, [], ◌∷◌, ◌++◌, bit_or}
use Rattle.scale.specs.declared.pairs.Pair.{Pair}

-- A scale is simple, with its own "no worse", or a pair of two scales. No other type has the shape of a pair.
pub data Shape : Type 0 → Type 1 where
  simple : {S : Type 0} → (S → S → Bool) → Shape S
  paired : {A B : Type 0} → Shape A → Shape B → Shape (Pair A B)

-- the number of simple scales, or 9 where there are more than 8
abbrev pub parts_of : {S : Type 0} → Shape S → ℕ
parts_of (simple no_worse) = 1
parts_of (paired a b) = min 9 (parts_of a + parts_of b)

-- of each simple scale, from the front: whether its part of the cost is no worse than its limit
abbrev pub holds : {S : Type 0} → Shape S → S → S → List Bool
holds (simple no_worse) limits cost = no_worse cost limits ∷ []
holds (paired a b) limits cost = holds a limits.first cost.first ++ holds b limits.second cost.second

-- the number whose bit i is set where the i-th of the list is true
abbrev pub bits : List Bool → ℕ
bits [] = 0
bits (b ∷ bs) = cond b 1 0 + 2 * bits bs

-- the held set of a cost: bit i for each limit i that it holds, out of the first eight
abbrev pub held_set : {S : Type 0} → Shape S → S → S → ℕ
held_set shape limits cost = bits (holds shape limits cost) % 256

-- a set of bits contains another
abbrev pub Contains : ℕ → ℕ → Type 0
Contains a b = bit_or b a ≡ a

-- a cost that is no worse than another holds every limit that the other holds
abbrev pub HoldsAll : {S : Type 0} → (S → S → Bool) → Shape S → Type 0
HoldsAll {S} no_worse shape = (limits x y : S) → no_worse x y ≡ true → Contains (held_set shape limits x) (held_set shape limits y)

-- ---- the law that ties a shape to its scale

-- "no worse" carries on
abbrev pub Carries : {S : Type 0} → (S → S → Bool) → Type 0
Carries {S} no_worse = (x y z : S) → no_worse x y ≡ true → no_worse y z ≡ true → no_worse x z ≡ true

-- "no worse" of a scale is that of its parts: of a simple scale its own, of a pair that of both
abbrev pub Shaped : {S : Type 0} → (S → S → Bool) → Shape S → Type 0
Shaped {S} no_worse (simple own) = ((x y : S) → no_worse x y ≡ own x y) × Carries own
Shaped no_worse (paired {A} {B} a b) = (p : A → A → Bool) × ((q : B → B → Bool) × (((x y : Pair A B) → no_worse x y ≡ (p x.first y.first && q x.second y.second)) × Shaped p a × Shaped q b))
