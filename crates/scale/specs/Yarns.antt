-- A set of yarns as a number.
use Rattle.std.specs.Prelude.{ℕ, ◌/◌, ◌%◌, ◌^◌, Bool, ◌&&◌, ◌==◌, nat_lt}
use Rattle.scale.specs.declared.yarns.YarnSet.{YarnSet}

-- yarn i is in the set where bit i is set; there are yarns 0 to 31
abbrev pub has_yarn : YarnSet → ℕ → Bool
has_yarn s i = nat_lt i 32 && s.bits / 2 ^ i % 2 == 1
