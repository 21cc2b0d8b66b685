-- Yarn sets keep the laws of a scale.
use Rattle.std.specs.Prelude.{ℕ, refl}
use Rattle.std.proofs.Common.{ap, arith}
use Rattle.std.specs.Int.Bits.{or_self, or_zero_r}
use Rattle.std.proofs.lemmas.Bool.{eqb-true, eq-eqb, le-leb}
use Rattle.std.proofs.lemmas.Bool.Decides.{nat_tests}
use Rattle.scale.specs.declared.yarns.YarnSet.{YarnSet}
use Rattle.scale.specs.Laws.{Laws}
use Rattle.scale.specs.Measures.{no_yarns, together, within, no_more_yarns}
use Rattle.scale.specs.Unions.{or_assoc, ones_within, within_carries, within_before, within_behind}

set : ℕ → YarnSet
set n = record { bits = n }

pub yarns_fair : Laws no_yarns together within no_more_yarns
unfolding set
yarns_fair = record {
  assoc = λ x y z. ap set (or_assoc x.bits y.bits z.bits);
  left = λ x. refl;
  right = λ x. ap set (or_zero_r x.bits);
  reflexive = λ x. eq-eqb _ _ (or_self x.bits);
  transitive = λ x y z h k. eq-eqb _ _ (within_carries x.bits y.bits z.bits (eqb-true _ _ h) (eqb-true _ _ k));
  least = λ x. eq-eqb _ _ refl;
  before = λ x y z h. eq-eqb _ _ (within_before x.bits y.bits z.bits (eqb-true _ _ h));
  behind = λ x y z h. eq-eqb _ _ (within_behind x.bits y.bits z.bits (eqb-true _ _ h));
  total = λ x y. grind (arith, nat_tests);
  carries = λ x y z h k. grind (arith, nat_tests);
  agrees = λ x y h. le-leb _ _ (ones_within x.bits y.bits (eqb-true _ _ h));
}
