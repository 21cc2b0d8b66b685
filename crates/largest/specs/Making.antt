-- What the largest repertoire and its table are made of.
use Rattle.std.specs.Prelude.{ℕ, ◌+◌, ◌*◌, ◌/◌, ◌%◌}
use Rattle.repertoire.specs.declared.links.Link.{Link}
use Rattle.scale.specs.Weave.{WeaveCost, woven}
use Rattle.trails.specs.declared.states.State.TheVariants.{Dropped}
use Rattle.trails.specs.declared.trails.Trail.{Trail}

-- the link of that number: eight leave each motif
abbrev pub link_of : ℕ → Link WeaveCost
link_of n = record { from = n / 8; to = (n / 8 * 7 + n % 8 * 3 + 13) % 1024; cost = woven (n % 11) (n % 61) (n % 17 + 5) }

-- what stands at a place that is not used yet
abbrev pub unused : Trail WeaveCost
unused = record { motif = 0; parent = 0; link = 0; cost = woven 0 0 0; state = Dropped }
