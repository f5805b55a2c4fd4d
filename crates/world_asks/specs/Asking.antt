-- Who is asked: a server of a world, with its stage, and what is known of its party.
use Rattle.std.specs.Prelude.{◌≡◌, ◌<◌, ℕ, true, false, is_some, IfSome, IsSomeAnd, IsTrue, Option}
use Rattle.frang_base.specs.Functions.{member}
use Rattle.frang_base.specs.declared.limits.TheConstants.{SERVERS}
use Rattle.sector_bytes.specs.SectorMaps.{value_at}
use Rattle.log_slots.specs.Reading.{log_rules}
use Rattle.core_definitions.specs.Cores.{Core, stage}
use Rattle.core_definitions.specs.Flights.{is_flying}
use Rattle.core_definitions.specs.Lines.{Stage}
use Rattle.core_definitions.specs.Writes.{lacks_room}
use Rattle.line_stages.specs.Oldest.{AreOldest}
use Rattle.line_stages.specs.Stages.{IsStage}
use Rattle.line_stages.specs.declared.stage.Stage.{Stage as CodeStage}
use Rattle.world_parties.specs.States.{IsRecovery, issued_in, oldest_of, server_of}
use Rattle.world_parties.specs.declared.party.Party.{Party}
use Rattle.world_state.specs.Rooms.{OfParty}
use Rattle.world_state.specs.States.{IsKept, State, core_at}
use Rattle.world_asks.specs.Fresh.{IsFreshAt}

-- a world, the number of one of its servers, and the stage that was read of it
pub record Asked : Type 0 where
  pub world : State
  pub number : ℕ
  pub stage : Option CodeStage

abbrev pub core_of : Asked → Core
core_of asked = core_at asked.world

-- how far the line of the server has come, in the words of the core
abbrev pub stage_in : Asked → Option Stage
stage_in asked = stage (core_of asked) asked.number

-- this is, in code, how far the line of a server has come
abbrev pub IsStageAt : State → ℕ → Option CodeStage → Type 0
IsStageAt s a code = OfParty s a (λ party. IsStage party.plan party.server.server code (stage (core_at s) a))

-- it is a server of a world that isn't over, what is kept beside it is up to date, and its stage is the one that was read
pub record IsAsked (asked : Asked) : Type 0 where
  pub small : asked.number < SERVERS
  pub going : asked.world.over ≡ false
  pub kept : IsKept asked.world
  pub fresh : IsFreshAt asked.world asked.number
  pub stage : IsStageAt asked.world asked.number asked.stage

-- ---- its party

-- a flag of a sector, and an issued write of its recovery, is of a write in flight
pub record FliesAsSaid (c : Core) (party : Party) : Type 0 where
  pub flagged : (sector : ℕ) → member sector party.server.flying ≡ true → is_flying c.flights sector ≡ true
  pub issued : (sector : ℕ) → is_some (value_at (issued_in party.recovery) sector) ≡ true → is_flying c.flights sector ≡ true

-- it is the server's, and what is kept in it is so
pub record IsPartyOf (asked : Asked) (party : Party) : Type 0 where
  pub small : asked.number < SERVERS
  pub number : party.server.id ≡ asked.number
  pub server : (core_of asked).servers asked.number ≡ server_of party
  pub stage : IsStage party.plan party.server.server asked.stage (stage_in asked)
  pub oldest : lacks_room log_rules party.server.server.ring (stage_in asked) ≡ true → IsSomeAnd (oldest_of party) (AreOldest party.server.server.ring)
  pub fresh : IfSome party.recovery (λ r. IsTrue r.is_fresh)
  pub fits : IsRecovery asked.world.parties.segments asked.number party.recovery
  pub flies : FliesAsSaid (core_of asked) party
