-- What leads to the file that a path names, as plans examine it.
use Rattle.std.specs.Prelude.{ℕ, Option, Result, Ok, Err, List}
use Rattle.disk_definitions.specs.Store.{StoredNode, stored}
use Rattle.disk_definitions.specs.Ask.{Ask}
use Rattle.disk_definitions.specs.Plans.{Plan}
use Rattle.disk_definitions.specs.FilePlans.{plan_of_file}
use Rattle.dir_lookup.specs.declared.hand.Hand.{Hand}
use Rattle.dir_lookup.specs.declared.spot.NumberedInode.{NumberedInode}
use Rattle.plan_steps.specs.Looking.{Looks, LooksTo}
use Rattle.plan_steps.specs.declared.stop.Stop.{Stop}

-- each plan of the file that the path names has examined what leads to it
abbrev pub LooksAtFile : Hand → Option (List ℕ) → Option (List ℕ) → List (List ℕ) → Result NumberedInode Stop → Type 0
LooksAtFile hand old new path (Ok file) =
    (touched : List ℕ) × ((next : ℕ → List ℕ → StoredNode → Ask Plan) →
    LooksTo hand.sectors.now.entries hand.held.now old new (plan_of_file path next) (next file.number touched (stored file.inode)))
LooksAtFile hand old new path (Err e) = (next : ℕ → List ℕ → StoredNode → Ask Plan) → Looks hand.sectors.now.entries hand.held.now old new (plan_of_file path next)
