-- Where the walk of names leads, and which directories it looks in.
use Rattle.std.specs.Prelude.{◌≡◌, ℕ, Bool, Result, Ok, Err, List, ◌++◌}
use Rattle.disk_definitions.specs.Held.{Segments}
use Rattle.disk_definitions.specs.Walks.{walk_from}
use Rattle.disk_definitions.specs.Written.{Cached}
use Rattle.dir_lookup.specs.Reading.{Gives, Lacks, reading}
use Rattle.dir_lookup.specs.Spots.{has_inode, spot_of}
use Rattle.dir_lookup.specs.declared.need.Need.{Need}
use Rattle.dir_lookup.specs.declared.spot.Spot.{Spot as CodeSpot}

-- the walk of these names from an inode on leads to this spot, through more directories that have this inode or not
abbrev pub PassesFrom : Cached → Segments → ℕ → List (List ℕ) → ℕ → List ℕ → Result (CodeSpot × Bool) Need → Type 0
PassesFrom cached held from names inode dirs (Ok p) =
    (more : List ℕ) × (p.1 ≡ has_inode inode more) × (reading (walk_from dirs from names) cached held ≡ Gives (record { spot = spot_of p.0; dirs = dirs ++ more }))
PassesFrom cached held from names inode dirs (Err need) = reading (walk_from dirs from names) cached held ≡ Lacks need.0.0
