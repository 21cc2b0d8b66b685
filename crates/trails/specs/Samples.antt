-- Samples, checked by evaluation: what the definitions say of given costs and repertoires, call by call.
use Rattle.std.specs.Prelude.{◌≡◌, ℕ, true, false, List, [], ◌∷◌, replicate, Ok}
use Rattle.scale.specs.declared.grades.Grade.TheVariants.{Tiny, Small, Medium, Large}
use Rattle.scale.specs.declared.scales.Scale.{Ghosts}
use Rattle.scale.specs.declared.yarns.YarnSet.{YarnSet}
use Rattle.scale.specs.Weave.{WeaveCost, woven, HarnessCost, harnessed}
use Rattle.rule.specs.declared.Count.{Count}
use Rattle.rule.specs.declared.Ladder.{Ladder}
use Rattle.rule.specs.declared.rules.Rule as rules
use Rattle.repertoire.specs.declared.links.Link.{Link}
use Rattle.trails.specs.declared.answers.Ending.{Ending}
use Rattle.trails.specs.declared.answers.Ending.TheVariants.{Plan, NoWay, Full, Spent}
use Rattle.trails.specs.declared.answers.Run.{Run}
use Rattle.trails.specs.declared.standings.Settled.{Settled}
use Rattle.trails.specs.declared.standings.Standing.{Standing}
use Rattle.trails.specs.declared.states.State.{State}
use Rattle.trails.specs.declared.states.State.TheVariants.{Open, Done}
use Rattle.trails.specs.declared.trails.Trail.{Trail}
use Rattle.trails.specs.Repertoires.{Repertoire, link_count, most_leaving}
use Rattle.trails.specs.Counts.{simple_path_count}
use Rattle.trails.specs.Calls.{Begun, After, Routed, begin, run, settle, reopen, route}

-- ---- rows, standings and plans

abbrev pub yarn_set : ℕ → YarnSet
yarn_set n = record { bits = n }

abbrev pub by_ladder : Ladder
by_ladder = record {}

abbrev pub by_count : Count
by_count = record {}

-- ---- records written short

abbrev pub link : {S : Type 0} → (from to : ℕ) → S → Link S
link from to cost = record { from = from; to = to; cost = cost }

abbrev pub trail : {S : Type 0} → (motif parent link : ℕ) → S → State → Trail S
trail motif parent link cost state = record { motif = motif; parent = parent; link = link; cost = cost; state = state }

-- what a place holds until it is used: an open trail at motif 2 that costs nothing, with a parent and a link that are not
-- there; no call reads it
abbrev pub left_over : {S : Type 0} → Ghosts S → Trail S
left_over s = trail 2 9 9 s.neutral Open

-- a table that was begun at motif 0
abbrev pub new_table : {S : Type 0} → Ghosts S → (unused : ℕ) → List (Trail S)
new_table s unused = trail 0 0 0 s.neutral Open ∷ replicate unused (left_over s)

-- a standing of what was begun with this repertoire and so many places
abbrev pub standing : {S R : Type 0} → Repertoire S → R → (places used : ℕ) → S → Standing S R
standing r rule places used limits = record { header = r.header; links = link_count r; places = places; used = used; preference = record { limits = limits; rule = rule } }

abbrev pub plan : {S R : Type 0} → Standing S R → (place : ℕ) → S → (held : ℕ) → Settled S R
plan x place cost held = record { standing = x; place = place; cost = cost; held = held }

abbrev pub began : {S R : Type 0} → Standing S R → List (Trail S) → Begun S R
began x trails = record { answer = Ok x; trails = trails }

abbrev pub ran : {S R : Type 0} → (expansions : ℕ) → Ending → Standing S R → List (Trail S) → After Run S R
ran expansions ending x trails = record { answer = Ok (record { expansions = expansions; ending = ending }); standing = x; trails = trails }

abbrev pub routed : (links : ℕ) → List ℕ → Routed
routed links buffer = record { answer = Ok links; buffer = buffer }

-- ---- the sample sheet

-- three motifs, four links, guides that say nothing
abbrev pub sheet : Repertoire WeaveCost
sheet = record {
  header = record { motifs = 3; start = 0; goal = 2 };
  links = link 0 1 (woven 4 1 30) ∷ link 0 1 (woven 6 1 10) ∷ link 1 2 (woven 3 2 15) ∷ link 1 0 (woven 0 0 0) ∷ [];
  guides = replicate 3 (woven 0 0 0);
}

-- the limits, with this one for the float: yarns {0, 1} and 40 picks
abbrev pub float : (most : ℕ) → WeaveCost
float most = woven most 3 40

abbrev pub sheet_at : (places used : ℕ) → WeaveCost → Standing WeaveCost Ladder
sheet_at = standing sheet by_ladder

abbrev pub sheet_plan : Settled WeaveCost Ladder
sheet_plan = plan (sheet_at 8 4 (float 5)) 3 (woven 4 3 45) 3

abbrev pub sheet_other_plan : Settled WeaveCost Ladder
sheet_other_plan = plan (sheet_at 8 5 (float 6)) 4 (woven 6 3 25) 7

-- ---- a change of harness

-- three motifs, three links, guides that say nothing
abbrev pub change : Repertoire HarnessCost
change = record {
  header = record { motifs = 3; start = 0; goal = 2 };
  links = link 0 2 (harnessed Large 10) ∷ link 0 1 (harnessed Small 40) ∷ link 1 2 (harnessed Medium 40) ∷ [];
  guides = replicate 3 (harnessed Tiny 0);
}

abbrev pub change_at : (used : ℕ) → Standing HarnessCost Count
change_at used = standing change by_count 8 used (harnessed Medium 60)

abbrev pub change_plan : Settled HarnessCost Count
change_plan = plan (change_at 4) 3 (harnessed Medium 80) 1

-- ---- nothing to link

-- one motif, which is both start and goal
abbrev pub same : Repertoire WeaveCost
same = record { header = record { motifs = 1; start = 0; goal = 0 }; links = []; guides = woven 0 0 0 ∷ [] }

abbrev pub same_at : Standing WeaveCost Ladder
same_at = standing same by_ladder 2 1 (float 5)

abbrev pub same_plan : Settled WeaveCost Ladder
same_plan = plan same_at 0 (woven 0 0 0) 7

-- two motifs without a link
abbrev pub apart : Repertoire WeaveCost
apart = record { header = record { motifs = 2; start = 0; goal = 1 }; links = []; guides = replicate 2 (woven 0 0 0) }

abbrev pub apart_at : Standing WeaveCost Ladder
apart_at = standing apart by_ladder 2 1 (float 5)

-- ---- the samples

-- Of the scales of yarn sets, weave costs and harness costs, and of the two rules, as their impls mean them:
module _ (yarns : Ghosts YarnSet) (weave : Ghosts WeaveCost) (harness : Ghosts HarnessCost) (ladder_rule : rules.Ghosts Ladder) (count_rule : rules.Ghosts Count) where
  -- Yarns {0} are liked over {1, 2}, and neither is no worse. After joining {1, 2} to each, {1, 2} is liked over {0, 1, 2}:
  -- liking need not last when costs grow, and no worse does.
  pub record YarnSample : Type 0 where
    pub liked : yarns.liked (yarn_set 1) (yarn_set 6) ≡ true
    pub not_liked : yarns.liked (yarn_set 6) (yarn_set 1) ≡ false
    pub not_within : yarns.no_worse (yarn_set 1) (yarn_set 6) ≡ false
    pub not_around : yarns.no_worse (yarn_set 6) (yarn_set 1) ≡ false
    pub one : yarns.joined (yarn_set 1) (yarn_set 6) ≡ yarn_set 7
    pub two : yarns.joined (yarn_set 6) (yarn_set 6) ≡ yarn_set 6
    pub liked_then : yarns.liked (yarn_set 6) (yarn_set 7) ≡ true
    pub not_liked_then : yarns.liked (yarn_set 7) (yarn_set 6) ≡ false

  -- Of held sets 3 and 6 the ladder takes 3, and count finds them equal.
  pub record RuleSample : Type 0 where
    pub ladder_takes : ladder_rule.better by_ladder 3 6 ≡ true
    pub ladder_leaves : ladder_rule.better by_ladder 6 3 ≡ false
    pub count_takes : count_rule.better by_count 3 6 ≡ false
    pub count_leaves : count_rule.better by_count 6 3 ≡ false

  abbrev pub sheet_ran : List (Trail WeaveCost)
  sheet_ran =
      trail 0 0 0 (woven 0 0 0) Done
      ∷ trail 1 0 0 (woven 4 1 30) Done
      ∷ trail 1 0 1 (woven 6 1 10) Open
      ∷ trail 2 1 2 (woven 4 3 45) Open
      ∷ replicate 4 (left_over weave)

  -- With float limit 5, in a table of 8 places, a run makes 2 expansions and ends in a plan, with 4 places used: links 0
  -- and 2, with float 4, yarns {0, 1}, 45 picks and held set 3. The route takes two numbers of its buffer and leaves the
  -- third as it was.
  pub record SheetSample : Type 0 where
    pub begins : begin weave sheet (float 5) by_ladder (replicate 8 (left_over weave)) ≡ began (sheet_at 8 1 (float 5)) (new_table weave 7)
    pub runs : run weave ladder_rule sheet 65535 (sheet_at 8 1 (float 5)) (new_table weave 7) ≡ ran 2 Plan (sheet_at 8 4 (float 5)) sheet_ran
    pub settles : settle weave ladder_rule sheet (sheet_at 8 4 (float 5)) sheet_ran ≡ Ok sheet_plan
    pub routes : route weave sheet sheet_plan sheet_ran (9 ∷ 9 ∷ 9 ∷ []) ≡ routed 2 (0 ∷ 2 ∷ 9 ∷ [])

  abbrev pub sheet_ran_on : List (Trail WeaveCost)
  sheet_ran_on =
      trail 0 0 0 (woven 0 0 0) Done
      ∷ trail 1 0 0 (woven 4 1 30) Done
      ∷ trail 1 0 1 (woven 6 1 10) Done
      ∷ trail 2 1 2 (woven 4 3 45) Open
      ∷ trail 2 2 2 (woven 6 3 25) Open
      ∷ replicate 3 (left_over weave)

  -- Reopened there with float limit 6, a run makes 1 more expansion and ends in a plan, with 5 places used: links 1 and 2,
  -- with float 6, yarns {0, 1}, 25 picks and held set 7.
  pub record ReopenedSample : Type 0 where
    pub reopens : reopen sheet_plan (float 6) ≡ sheet_at 8 4 (float 6)
    pub runs : run weave ladder_rule sheet 65535 (sheet_at 8 4 (float 6)) sheet_ran ≡ ran 1 Plan (sheet_at 8 5 (float 6)) sheet_ran_on
    pub settles : settle weave ladder_rule sheet (sheet_at 8 5 (float 6)) sheet_ran_on ≡ Ok sheet_other_plan
    pub routes : route weave sheet sheet_other_plan sheet_ran_on (9 ∷ 9 ∷ 9 ∷ []) ≡ routed 2 (1 ∷ 2 ∷ 9 ∷ [])

  abbrev pub sheet_full : List (Trail WeaveCost)
  sheet_full =
      trail 0 0 0 (woven 0 0 0) Done
      ∷ trail 1 0 0 (woven 4 1 30) Open
      ∷ trail 1 0 1 (woven 6 1 10) Open
      ∷ left_over weave
      ∷ []

  -- In a table of 4 places a run ends full after 1 expansion.
  pub record FullSample : Type 0 where
    pub begins : begin weave sheet (float 5) by_ladder (replicate 4 (left_over weave)) ≡ began (sheet_at 4 1 (float 5)) (new_table weave 3)
    pub runs : run weave ladder_rule sheet 65535 (sheet_at 4 1 (float 5)) (new_table weave 3) ≡ ran 1 Full (sheet_at 4 3 (float 5)) sheet_full

  -- Its S, the number of paths from the start that repeat no motif, is 5, and its D, the most links that leave one motif,
  -- is 2.
  pub record CountSample : Type 0 where
    pub paths : simple_path_count weave sheet ≡ 5
    pub leaving : most_leaving sheet ≡ 2

  abbrev pub change_ran : List (Trail HarnessCost)
  change_ran =
      trail 0 0 0 (harnessed Tiny 0) Done
      ∷ trail 2 0 0 (harnessed Large 10) Open
      ∷ trail 1 0 1 (harnessed Small 40) Done
      ∷ trail 2 2 2 (harnessed Medium 80) Open
      ∷ replicate 4 (left_over harness)

  -- By count, with limits medium and 60 hooks, a run makes 2 expansions and ends in a plan: links 1 and 2. They hold one
  -- limit, as link 0 does, and are liked over it.
  pub record HarnessSample : Type 0 where
    pub begins : begin harness change (harnessed Medium 60) by_count (replicate 8 (left_over harness)) ≡ began (change_at 1) (new_table harness 7)
    pub runs : run harness count_rule change 65535 (change_at 1) (new_table harness 7) ≡ ran 2 Plan (change_at 4) change_ran
    pub settles : settle harness count_rule change (change_at 4) change_ran ≡ Ok change_plan
    pub routes : route harness change change_plan change_ran (9 ∷ 9 ∷ []) ≡ routed 2 (1 ∷ 2 ∷ [])

  -- Where the start is the goal, a run ends in a plan at once, and its route is empty.
  pub record SameSample : Type 0 where
    pub begins : begin weave same (float 5) by_ladder (replicate 2 (left_over weave)) ≡ began same_at (new_table weave 1)
    pub runs : run weave ladder_rule same 65535 same_at (new_table weave 1) ≡ ran 0 Plan same_at (new_table weave 1)
    pub settles : settle weave ladder_rule same same_at (new_table weave 1) ≡ Ok same_plan
    pub routes : route weave same same_plan (new_table weave 1) (9 ∷ []) ≡ routed 0 (9 ∷ [])

  abbrev pub apart_ran : List (Trail WeaveCost)
  apart_ran = trail 0 0 0 (woven 0 0 0) Done ∷ left_over weave ∷ []

  -- A run answers "no way" after 1 expansion. With budget 1 it is spent after that expansion, and with budget 0 before it.
  pub record ApartSample : Type 0 where
    pub begins : begin weave apart (float 5) by_ladder (replicate 2 (left_over weave)) ≡ began apart_at (new_table weave 1)
    pub runs : run weave ladder_rule apart 65535 apart_at (new_table weave 1) ≡ ran 1 NoWay apart_at apart_ran
    pub runs_by_one : run weave ladder_rule apart 1 apart_at (new_table weave 1) ≡ ran 1 Spent apart_at apart_ran
    pub runs_by_none : run weave ladder_rule apart 0 apart_at (new_table weave 1) ≡ ran 0 Spent apart_at (new_table weave 1)

  pub record Samples : Type 0 where
    pub of_yarns : YarnSample
    pub of_rules : RuleSample
    pub of_sheet : SheetSample
    pub of_reopened : ReopenedSample
    pub of_full : FullSample
    pub of_counts : CountSample
    pub of_harness : HarnessSample
    pub of_same : SameSample
    pub of_apart : ApartSample
