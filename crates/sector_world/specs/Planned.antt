-- Runs whose operations are planned over what their servers have cached.
use Rattle.std.specs.Prelude.{ℕ, ◌≡◌, ◌≢◌, List, [], ◌∷◌, Some, IsTrue}
use Rattle.sector_bytes.specs.Blocks.{Block}
use Rattle.sector_world.specs.Histories.{Commit, settled, touches}
use Rattle.sector_world.specs.Plans.{Plan, outcome_of, Legal}
use Rattle.sector_world.specs.World.{World, Slot}
use Rattle.sector_world.specs.World.Slot.{Absent, Clean, Dirty}
use Rattle.sector_world.specs.Steps.{Event, after}
use Rattle.sector_world.specs.Steps.Event.{Do}
use Rattle.sector_world.specs.Claims.{left}

-- the sector that is cached, or another where none is
abbrev pub cached : Block → Slot → Block
cached other Absent = other
cached other (Clean block) = block
cached other (Dirty block mark) = block

-- the operation is what the plan says over the cached sectors, and looks at no other
pub record IsPlanned (plan : Plan) (w : World) (c : Commit) : Type 0 where
  pub outcome : plan c.hint c.op c.asked (λ s. cached (w.opening s) (w.slot c.by s)) ≡ Some (outcome_of c)
  pub there : (s : ℕ) → IsTrue (touches c s) → w.slot c.by s ≢ Absent

-- if the event is an operation, it is planned
abbrev pub PlannedIf : Plan → World → Event → Type 0
PlannedIf plan w (Do c) = IsPlanned plan w c
PlannedIf plan w e = Unit {0}

-- so are all operations of a run
abbrev pub ArePlanned : Plan → World → List Event → Type 0
ArePlanned plan w [] = Unit {0}
ArePlanned plan w (e ∷ es) = PlannedIf plan w e × ArePlanned plan (after w e) es

-- the settled history is legal, and so is what recoveries of all logs would leave
pub record IsLegal (plan : Plan) (w : World) : Type 0 where
  pub live : Legal plan w.opening (settled w.history)
  pub left : Legal plan w.opening (left w w.servers)
