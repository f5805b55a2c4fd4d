-- Where a path leads, as every plan of a name goes on with it.
use Rattle.std.specs.Prelude.{◌≡◌, ◌<◌, ◌*◌, ℕ, Bool, Result, Ok, Err, List}
use Rattle.frang_base.specs.declared.limits.TheConstants.{BLOCK_ENTRIES}
use Rattle.disk_definitions.specs.Held.{Segments}
use Rattle.disk_definitions.specs.Ask.{Ask, bind}
use Rattle.disk_definitions.specs.Walks.{Spot, walk}
use Rattle.disk_definitions.specs.Plans.{Plan}
use Rattle.disk_definitions.specs.Written.{Cached}
use Rattle.dir_lookup.specs.Reading.{Lacks, reading}
use Rattle.dir_lookup.specs.Spots.{has_inode, spot_of}
use Rattle.dir_lookup.specs.declared.need.Need.{Need}
use Rattle.dir_lookup.specs.declared.spot.Spot.{Spot as CodeSpot}
use Rattle.dir_lookup.specs.declared.spot.Spot.TheVariants as spot
use Rattle.plan_steps.specs.declared.stop.Stop.{Stop}
use Rattle.plan_steps.specs.declared.stop.Stop.TheVariants as stop
use Rattle.plan_steps.specs.Nodes.{IsDirectory}

-- a directory with a name in one of its places, or a directory without the name
abbrev pub IsStanding : CodeSpot → Type 0
IsStanding spot.AtRoot = Unit {0}
IsStanding (spot.AtName directory name found) = IsDirectory directory.inode × (found.place < BLOCK_ENTRIES * directory.inode.blocks)
IsStanding (spot.AtGap directory name) = IsDirectory directory.inode
IsStanding (spot.Lost r) = Unit {0}

-- each plan that walks the path goes on at this spot, or needs the sector
abbrev pub FindsSpot : Cached → Segments → List (List ℕ) → Result CodeSpot Stop → Type 0
FindsSpot cached held path (Ok s) =
    (dirs : List ℕ) × ((next : List ℕ → Spot → Ask Plan) → reading (bind (walk path) (λ w. next w.dirs w.spot)) cached held ≡ reading (next dirs (spot_of s)) cached held)
FindsSpot cached held path (Err (stop.Need s)) = (next : List ℕ → Spot → Ask Plan) → reading (bind (walk path) (λ w. next w.dirs w.spot)) cached held ≡ Lacks s.0
FindsSpot cached held path (Err stop.Segments) = ⊥
FindsSpot cached held path (Err (stop.Clear k)) = ⊥
FindsSpot cached held path (Err (stop.Refused r)) = ⊥
FindsSpot cached held path (Err stop.NoMemory) = ⊥

-- each plan that walks the path goes on at this spot, with directories that have this inode or not, or needs the sector
abbrev pub FindsPassing : Cached → Segments → List (List ℕ) → ℕ → Result (CodeSpot × Bool) Need → Type 0
FindsPassing cached held path inode (Ok p) = (dirs : List ℕ) × (p.1 ≡ has_inode inode dirs)
    × ((next : List ℕ → Spot → Ask Plan) → reading (bind (walk path) (λ w. next w.dirs w.spot)) cached held ≡ reading (next dirs (spot_of p.0)) cached held)
FindsPassing cached held path inode (Err need) = (next : List ℕ → Spot → Ask Plan) → reading (bind (walk path) (λ w. next w.dirs w.spot)) cached held ≡ Lacks need.0.0
