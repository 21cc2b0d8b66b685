-- The order of the frames: one header, the links, the guides, one frame of limits, one end.
use Rattle.std.specs.Prelude.{ℕ, ◌+◌, Bool, true, false, cond, ◌&&◌, List, [], ◌∷◌, Some, None, Option, ◌==◌, nat_le}
use Rattle.frames.specs.declared.kinds.Kind.{Kind}
use Rattle.frames.specs.declared.kinds.Kind.TheVariants as kind
use Rattle.frames.specs.Frames.{code, kind_of}

-- whether a frame of a kind may come first, or behind one of the last kind
abbrev pub may_follow : Option Kind → Kind → Bool
may_follow None k = code k == 1
may_follow (Some kind.Header) k = nat_le 2 (code k) && nat_le (code k) 4
may_follow (Some kind.Link) k = nat_le 2 (code k) && nat_le (code k) 4
may_follow (Some kind.Guide) k = nat_le 3 (code k) && nat_le (code k) 4
may_follow (Some kind.Limits) k = code k == 5
may_follow (Some kind.End) k = false

-- whether nothing may be missing behind a frame of the last kind
abbrev pub may_end : Option Kind → Bool
may_end None = false
may_end (Some k) = code k == 5

-- the same of a line whose kind may be unknown, which keeps no order
abbrev pub comes : Option Kind → Option Kind → Bool
comes last None = true
comes last (Some k) = may_follow last k

abbrev pub behind : Option Kind → Option Kind → Option Kind
behind last None = last
behind last (Some k) = Some k

-- the number of the first line that fails a test, the first line being number n
abbrev pub first_not : ℕ → (List ℕ → Bool) → List (List ℕ) → Option ℕ
first_not n p [] = None
first_not n p (l ∷ ls) = cond (p l) (first_not (n + 1) p ls) (Some n)

-- the number of the first line out of order, or of the line that is missing at the end
abbrev pub misplaced : ℕ → Option Kind → List (List ℕ) → Option ℕ
misplaced n last [] = cond (may_end last) None (Some n)
misplaced n last (l ∷ ls) = cond (comes last (kind_of l)) (misplaced (n + 1) (behind last (kind_of l)) ls) (Some n)
