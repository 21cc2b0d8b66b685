-- Ladder and count keep the laws of a rule.
use Rattle.std.proofs.Common.{arith}
use Rattle.std.proofs.lemmas.Bool.{le-ltb}
use Rattle.std.proofs.lemmas.Bool.Decides.{nat_tests}
use Rattle.scale.specs.Unions.{ones_within}
use Rattle.rule.specs.Rules.{ladder, more}
use Rattle.rule.specs.Soundness.{Sound}
use Rattle.rule.specs.Ladders.{ladder_total, ladder_carries, ladder_contains}

pub ladder_sound : Sound (ladder 8)
ladder_sound = record {
  total = λ a b p q. ladder_total 8 a b;
  carries = λ a b c p q r h k. ladder_carries 8 a b c h k;
  contains = λ a b p q h. ladder_contains 8 a b h;
}

pub more_sound : Sound more
more_sound = record {
  total = λ a b p q. grind (arith, nat_tests);
  carries = λ a b c p q r h k. grind (arith, nat_tests);
  contains = λ a b p q h. le-ltb _ _ (ones_within b a h);
}
