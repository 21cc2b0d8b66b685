use Rattle.std.proofs.Common.{ap, ◌∙◌, sym, rules, tests, ◌&&◌}
use Rattle.std.proofs.lemmas.Bool.{eq-eqb}
use Rattle.std.proofs.lemmas.Iterator.{YieldsList-from_slice}
use Rattle.std.proofs.lemmas.Iterator.Search.{all_from_yields_List}
use Rattle.frames.specs.Digits.{is_digit, all_digits}
use Rattle.frames.proofs.parsing.are_paired_digits.Goals as goal

pub returns-then-bytes-eq0 : goal.returns-then-bytes-eq0
returns-then-bytes-eq0 c =
    all_from_yields_List is_digit _ _ c.all.result c.all.ensures.ran (YieldsList-from_slice c.args.bytes.now cc) (λ x b q k. search (rules, tests))
    ∙ sym (ap (λ t. t && all_digits c.args.bytes.now) (eq-eqb _ _ c.if-bytes-eq0.true))
