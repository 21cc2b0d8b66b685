use Rattle.std.proofs.Common.{◌≡◌, false, sym, ap, ◌∙◌, arith}
use lib.Bits.{xor_lt}
use Rattle.std.proofs.lemmas.Bool.{eq-eqb, ne_eqb}
use Rattle.rule.specs.Rules.{ladder}
use Rattle.rule.specs.Soundness.{verdict}
use Rattle.rule.specs.Ladders.{trailing_below, lowest_decides, one_is_better, ladder_level, same_from_xor}
use Rattle.rule.proofs.LadderRule.compare.Goals as goal

pub returns-then-apart-eq0 : goal.returns-then-apart-eq0
returns-then-apart-eq0 c =
    let same = same_from_xor c.args.first c.args.second c.if-apart-eq0.true in
    let first = ladder_level 8 c.args.first c.args.second same in
    let second = ladder_level 8 c.args.second c.args.first (sym same) in
    sym (λ i. verdict (first i) (second i))

pub overflow_shr-first : goal.overflow_shr-first
overflow_shr-first c = trailing_below 8 _ (omega arith) (xor_lt 8 c.args.first c.args.second (omega arith) (omega arith))

pub returns-then-first-apart-eq1 : goal.returns-then-first-apart-eq1
returns-then-first-apart-eq1 c =
    let few = xor_lt 8 c.args.first c.args.second (omega arith) (omega arith) in
    let decides = lowest_decides 8 c.args.first c.args.second (omega arith) few in
    sym (ap (λ x. verdict x (ladder 8 c.args.second c.args.first)) (sym decides ∙ eq-eqb _ _ c.if-first-apart-eq1.true))

pub returns-else-first-apart-eq1 : goal.returns-else-first-apart-eq1
returns-else-first-apart-eq1 c =
    let few = xor_lt 8 c.args.first c.args.second (omega arith) (omega arith) in
    let decides = lowest_decides 8 c.args.first c.args.second (omega arith) few in
    let first : ladder 8 c.args.first c.args.second ≡ false = sym decides ∙ ne_eqb _ _ c.if-first-apart-eq1.false in
    let second = one_is_better 8 c.args.first c.args.second (omega arith) few first in
    sym (λ i. verdict (first i) (second i))
