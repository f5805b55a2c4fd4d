-- Two servers that meet what the laws of rest ask: over a fresh disk before anything happened, and at the end of a run in which one of them, which is off, counts as mounted.
use Rattle.std.specs.Prelude.{ℕ, ◌≡◌, nat_lt, Bool, []}
use Rattle.tree_definitions.specs.Tree.{fresh}
use Rattle.sector_world.specs.Claims.{IsQuiet}
use Rattle.sector_world.specs.Steps.{Run}
use Rattle.sector_world.specs.World.{World}
use Rattle.sector_world.specs.World.Phase.{Off}
use Rattle.stop_laws.specs.Beginning.{fresh_world}
use Rattle.stop_laws.specs.TwoServers.{at_zero}
use Rattle.stop_examples.specs.Looks.{events, happened, none_recorded, numbers}
use Rattle.rest_laws.specs.AtRest.{AreOff}
use Rattle.rest_laws.specs.ClosedServers.{AreMounted}
use Rattle.rest_laws.specs.Done.{AreLinesOf}
use Rattle.rest_laws.specs.LaidOver.{NoneIsDead}

-- before anything happened: servers over a fresh disk of one segment, all off, with an empty history
pub record IsFreshRest (w : World) : Type 0 where
  pub lines : AreLinesOf 1 at_zero (fresh 1) numbers w []
  pub off : AreOff w
  pub alive : NoneIsDead w
  pub quiet : IsQuiet w

abbrev pub FreshWorldsRest : Type 0
FreshWorldsRest = IsFreshRest (fresh_world 2 1)

-- both servers count as mounted
abbrev pub both : ℕ → Bool
both server = nat_lt server 2

-- after looks, a sync, a death and a recovery: the first server is off, and counts as mounted like the other
pub record IsMounted (w : World) : Type 0 where
  pub run : Run (fresh_world 2 1) events w
  pub lines : AreLinesOf 1 at_zero (fresh 1) numbers w happened
  pub off : w.phase 0 ≡ Off
  pub mounted : AreMounted (fresh 1) w none_recorded happened both

abbrev pub RunsMeetRest : Type 0
RunsMeetRest = (w : World) × IsMounted w
