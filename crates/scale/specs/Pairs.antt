-- A pair of two scales is again a scale.
use Rattle.std.specs.Prelude.{Bool, true, cond, ◌&&◌}
use Rattle.scale.specs.declared.pairs.Pair.{Pair}
use Rattle.scale.specs.declared.scales.Scale.{Ghosts}
use Rattle.scale.specs.Shapes.{Shape}
use Rattle.scale.specs.Shapes.Shape.{paired}

module _ {A B : Type 0} (a : Ghosts A) (b : Ghosts B) where
  abbrev pub both_neutral : Pair A B
  both_neutral = record { first = a.neutral; second = b.neutral }

  -- part by part
  abbrev pub both_joined : Pair A B → Pair A B → Pair A B
  both_joined x y = record { first = a.joined x.first y.first; second = b.joined x.second y.second }

  -- no worse when both parts are
  abbrev pub both_no_worse : Pair A B → Pair A B → Bool
  both_no_worse x y = a.no_worse x.first y.first && b.no_worse x.second y.second

  -- liked first by the first part and, if that is equally liked, by the second
  abbrev pub both_liked : Pair A B → Pair A B → Bool
  both_liked x y = a.liked x.first y.first && cond (a.liked y.first x.first) (b.liked x.second y.second) true

  abbrev pub both_shape : Shape (Pair A B)
  both_shape = paired a.shape b.shape
