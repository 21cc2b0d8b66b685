-- What holds of a table between two calls, and what holds of it between two links of one expansion. Each record says one
-- thing of the first used places of a row of trails.
use Rattle.std.proofs.Common.{◌≡◌, ℕ, ◌<◌, ◌≤◌, true, List, length}
use Rattle.scale.specs.declared.scales.Scale.{Ghosts}
use Rattle.scale.specs.Laws.{Laws}
use Rattle.trails.specs.declared.states.State.TheVariants.{Open, Done}
use Rattle.trails.specs.declared.trails.Trail.{Trail}
use Rattle.trails.specs.Below.{count_below}
use Rattle.trails.specs.Repertoires.{Repertoire, link_at, link_count}
use Rattle.trails.specs.Tables.{is_live, is_open, trail_at}
use Rattle.trails.specs.Calls.{first_trail}

-- the laws of a scale
abbrev pub Fair : {S : Type 0} → Ghosts S → Type 0
Fair s = Laws s.neutral s.joined s.no_worse s.liked

-- two trails that differ in their state at most
pub record Same {S : Type 0} (a b : Trail S) : Type 0 where
  pub motif_is : b.motif ≡ a.motif
  pub parent_is : b.parent ≡ a.parent
  pub link_is : b.link ≡ a.link
  pub cost_is : b.cost ≡ a.cost

module _ {S : Type 0} (s : Ghosts S) (trails : List (Trail S)) where
  -- a live trail at motif m that is no worse than c
  pub record LiveAt (used m : ℕ) (c : S) (i : ℕ) : Type 0 where
    pub within : i < used
    pub live : is_live (trail_at s trails i).state ≡ true
    pub there : (trail_at s trails i).motif ≡ m
    pub no_worse : s.no_worse (trail_at s trails i).cost c ≡ true

  -- every used trail has a live one at its motif that is no worse
  pub record Outdone (used : ℕ) : Type 0 where
    pub by_live : (i : ℕ) → i < used → (j : ℕ) × LiveAt used (trail_at s trails i).motif (trail_at s trails i).cost j

  -- of the used places after place 0 no two have the same parent and link, and the parent of none is open
  pub record Single (used : ℕ) : Type 0 where
    pub apart : (i j : ℕ) → 0 < i → i < used → 0 < j → j < used → (trail_at s trails i).parent ≡ (trail_at s trails j).parent → (trail_at s trails i).link ≡ (trail_at s trails j).link → i ≡ j
    pub shut : (i : ℕ) → 0 < i → i < used → (trail_at s trails (trail_at s trails i).parent).state ≡ Open → ⊥

  -- no used trail has an earlier one at its motif that is no worse, whatever their states
  pub record Gained (used : ℕ) : Type 0 where
    pub over : (i j : ℕ) → j < i → i < used → (trail_at s trails j).motif ≡ (trail_at s trails i).motif → s.no_worse (trail_at s trails j).cost (trail_at s trails i).cost ≡ true → ⊥

  -- how many of the first n trails are open
  abbrev pub open_count : ℕ → ℕ
  open_count n = count_below n (λ i. is_open (trail_at s trails i).state)

module _ {S : Type 0} (s : Ghosts S) (r : Repertoire S) (trails : List (Trail S)) where
  -- place i goes on from a lower place by a link that leaves there and reaches here
  pub record GrownAt (i : ℕ) : Type 0 where
    pub lower : (trail_at s trails i).parent < i
    pub real : (trail_at s trails i).link < link_count r
    pub leaves : (link_at s r (trail_at s trails i).link).from ≡ (trail_at s trails (trail_at s trails i).parent).motif
    pub reaches : (link_at s r (trail_at s trails i).link).to ≡ (trail_at s trails i).motif
    pub costs : (trail_at s trails i).cost ≡ s.joined (trail_at s trails (trail_at s trails i).parent).cost (link_at s r (trail_at s trails i).link).cost

  -- place 0 has the trail that begin made, and every other used place goes on from a lower one
  pub record Grown (used : ℕ) : Type 0 where
    pub some : 0 < used
    pub within : used ≤ length trails
    pub first : Same (first_trail s r) (trail_at s trails 0)
    pub on : (i : ℕ) → 0 < i → i < used → GrownAt i

  -- each link that leaves the motif of a done trail leads to a live trail that is no worse than going on by it
  abbrev pub Followed : (used i k : ℕ) → Type 0
  Followed used i k = k < link_count r → (link_at s r k).from ≡ (trail_at s trails i).motif
      → (j : ℕ) × LiveAt s trails used (link_at s r k).to (s.joined (trail_at s trails i).cost (link_at s r k).cost) j

  -- what holds between two calls
  pub record Whole (used : ℕ) : Type 0 where
    pub grown : Grown used
    pub outdone : Outdone s trails used
    pub single : Single s trails used
    pub gained : Gained s trails used
    pub followed : (i k : ℕ) → i < used → (trail_at s trails i).state ≡ Done → Followed used i k
    -- no done trail is at the goal
    pub goal_ahead : (i : ℕ) → i < used → (trail_at s trails i).state ≡ Done → (trail_at s trails i).motif ≡ r.header.goal → ⊥

  -- what holds while the trail at place p, which was `from`, is expanded, when the links below k have been tried
  pub record Between (p : ℕ) (from : Trail S) (k used : ℕ) : Type 0 where
    pub grown : Grown used
    pub outdone : Outdone s trails used
    pub single : Single s trails used
    pub gained : Gained s trails used
    pub within : p < used
    pub source : Same from (trail_at s trails p)
    pub shut : (trail_at s trails p).state ≡ Open → ⊥
    -- what has grown from p has done so by links below k
    pub young : (i : ℕ) → 0 < i → i < used → (trail_at s trails i).parent ≡ p → (trail_at s trails i).link < k
    pub followed : (i j : ℕ) → i < used → (trail_at s trails i).state ≡ Done → (i ≡ p → j < k) → Followed used i j
    pub goal_ahead : (i : ℕ) → i < used → (trail_at s trails i).state ≡ Done → (trail_at s trails i).motif ≡ r.header.goal → ⊥
