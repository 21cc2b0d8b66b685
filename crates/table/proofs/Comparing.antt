-- The used trails beside a new one: which withstand it, and what becomes of each.
use Rattle.std.proofs.Common.{◌≡◌, ℕ, zero, suc, ◌+◌, ◌<◌, ◌≤◌, Bool, true, cond, ◌||◌, List, ◌++◌, length, get_or, set, map, take, drop, sym, refl, ap, ◌∙◌, inl, inr, add-one, arith}
use Rattle.std.specs.List.{list_any}
use Rattle.std.proofs.Math.Bool.{or_comm}
use Rattle.std.proofs.lemmas.Bool.{cases_eq, or_left, or_right}
use Rattle.std.proofs.lemmas.List.{get_or_default}
use Rattle.std.proofs.lemmas.List.Edits.{map_over_more}
use Rattle.std.proofs.lemmas.List.Folds.{list_any_more}
use Rattle.scale.specs.declared.scales.Scale.{Ghosts}
use Rattle.trails.specs.declared.states.State.TheVariants.{Dropped}
use Rattle.trails.specs.declared.trails.Trail.{Trail}
use Rattle.trails.specs.Below.{some_below}
use Rattle.trails.specs.Tables.{tabled, restated}
use Rattle.trails.specs.Expanding.{withstands, yields, beside, withstood}

-- a number below n that passes is one of some
pub some_below_at : (p : ℕ → Bool) (i n : ℕ) → i < n → p i ≡ true → some_below n p ≡ true
some_below_at p i zero lt hit = absurd (omega arith)
some_below_at p i (suc n) lt hit = elim (cases_eq i n) [
  | inl e ↦ or_left (p n) _ (rw e at hit)
  | inr other ↦ or_right (p n) _ (some_below_at p i n (omega arith) hit)
]

-- ---- which withstand it

-- some number below n passes where some of the first n elements does
some_below_any : {X : Type 0} (p : X → Bool) (xs : List X) (d : X) (n : ℕ) → n ≤ length xs → some_below n (λ k. p (get_or xs k d)) ≡ list_any p (take n xs)
some_below_any p xs d zero h = refl
some_below_any p xs d (suc n) h =
    let here = p (get_or xs n d) in
    ap (λ b. here || b) (some_below_any p xs d n (omega arith)) ∙ or_comm here (list_any p (take n xs)) ∙ sym (list_any_more p xs n d h) ∙ ap (λ m. list_any p (take m xs)) (add-one n)

-- a table withstands the new one where some trail of its used front does
pub withstood_is : {S : Type 0} (s : Ghosts S) (new : Trail S) (trails : List (Trail S)) (used : ℕ) → used ≤ length trails → withstood s new (tabled trails used) ≡ list_any (withstands s new) (take used trails)
unfolding withstood
withstood_is s new trails used fits = some_below_any (withstands s new) trails _ used fits

-- ---- what becomes of each, as far as place i

module _ {S : Type 0} (s : Ghosts S) (new : Trail S) (before now : List (Trail S)) (i : ℕ) (t : Trail S)
    (lt : i < length before) (here : i < length now) (so_far : now ≡ map (beside s new) (take i before) ++ drop i before) where
  -- the trail that lies there
  abbrev lies : Trail S
  lies = get_or now i t

  -- one place more, where y says whether it yields
  pub beside_more : (y : Bool) → y ≡ yields s new lies → set now i (restated lies (cond y Dropped lies.state)) ≡ map (beside s new) (take (i + 1) before) ++ drop (i + 1) before
  beside_more y e = ap (λ b. set now i (restated lies (cond b Dropped lies.state))) e ∙ map_over_more (beside s new) before now i lies lt so_far (get_or_default now i t lies here)
