use Rattle.std.proofs.Common.{subst, rules, arith}
use Rattle.std.proofs.lemmas.Bool.Decides.{nat_tests}
use Rattle.frames.specs.Frames.{Parted}
use Rattle.frames.proofs.Reading.{body_is, opened}
use Rattle.frames.proofs.parsing.parse.Goals as goal

pub returns-then-body-body_length : goal.returns-then-body-body_length
returns-then-body-body_length c =
    let p = opened c.args.text.now (search rules) _ _ _ c.digit_value.ensures.value c.digit_value-2.ensures.value c.in_ok-kind.ensures c.if-not-are_paired_digits.ensures (search rules) in
    (p.0, grind (arith, nat_tests, p.1, c.if-body-body_length.true, c.body_length.ensures))

pub returns : goal.returns
returns c =
    let p = opened c.args.text.now (search rules) _ _ _ c.digit_value.ensures.value c.digit_value-2.ensures.value c.in_ok-kind.ensures c.if-not-are_paired_digits.ensures (search rules) in (
      p.0,
      grind (arith, nat_tests, p.1, c.if-body-body_length.false, c.body_length.ensures, c.frame_of.ensures.kind),
      subst (λ b. Parted b c.args.line c.frame_of.result) (body_is c.args.text.now (search rules)) c.frame_of.ensures.parts,
    )
