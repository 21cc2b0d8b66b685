-- Which links leave a motif, and which reach it.
use Rattle.std.specs.Prelude.{ℕ, Bool, ◌==◌}
use Rattle.repertoire.specs.declared.links.Link.{Link}

abbrev pub leaves : {S : Type 0} → ℕ → Link S → Bool
leaves motif l = l.from == motif

abbrev pub reaches : {S : Type 0} → ℕ → Link S → Bool
reaches motif l = l.to == motif
