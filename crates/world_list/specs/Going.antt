-- Of which worlds and parties the list is.
use Rattle.std.specs.Prelude.{◌≡◌, ◌<◌, ℕ, ◌==◌, ◌||◌, false, IsTrue, Option, None, List, length, slice_index_or}
use Rattle.frang_base.specs.declared.limits.TheConstants.{SERVERS}
use Rattle.core_definitions.specs.LineGuards.{is_server}
use Rattle.core_definitions.specs.Scripts.{host_party}
use Rattle.host_tree.specs.Reading.{HostReading}
use Rattle.line_stages.specs.declared.stage.Stage.{Stage}
use Rattle.world_asks.specs.Asking.{IsStageAt}
use Rattle.world_asks.specs.Fresh.{AreAllFresh}
use Rattle.world_list.specs.Fresh.{IsLineFresh}
use Rattle.world_state.specs.States.{State}

-- a server or the host
abbrev pub IsParty : ℕ → Type 0
IsParty a = IsTrue (is_server a || a == host_party)

-- it isn't over, and what is kept beside its parties is up to date
pub record IsGoing (s : State) : Type 0 where
  pub going : s.over ≡ false
  pub fresh : AreAllFresh s

-- these are, by their numbers, how far the lines of the sixteen servers have come
pub record AreStages (s : State) (stages : List (Option Stage)) : Type 0 where
  pub long : length stages ≡ SERVERS
  pub each : (a : ℕ) → a < SERVERS → IsStageAt s a (slice_index_or stages a None)

-- the tree is of the world's disk, and what is kept of it is up to date
pub record IsTreeOf (s : State) (tree : HostReading) : Type 0 where
  pub disk : tree.segments ≡ s.parties.segments
  pub line : IsLineFresh s tree
