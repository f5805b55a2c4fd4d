-- When each event may happen. All but Tick by what they are of; Tick is the only one that speaks of the others.
use Rattle.std.specs.Prelude.{ℕ, Bool, true, false, not, ◌&&◌, ◌||◌, IsTrue, Option, Some, None, nat_lt}
use Rattle.std.specs.List.{list_any}
use Rattle.frang_base.specs.declared.limits.TheConstants.{LAST_TICK}
use Rattle.sector_bytes.specs.SectorMaps.{value_at}
use Rattle.core_definitions.specs.Flights.{Flight}
use Rattle.core_definitions.specs.Servers.{is_dead, is_still}
use Rattle.core_definitions.specs.Cores.{Core, server_numbers}
use Rattle.core_definitions.specs.Events.{Event, Begin, Ask, Fetch, Again, Clear, Commit, Answer, Give, Issue, Doom, Resume, Arrive, Lose, Die, Renew, Tick, Recover, Load, Look, Finish, HostLine, Close, Read, Show, End}
use Rattle.core_definitions.specs.LineGuards.{CanBegin, CanAsk, CanFetch, CanAgain, CanClear, CanCommit, CanAnswer, is_at_gate, is_server}
use Rattle.core_definitions.specs.WriteGuards.{CanGive, CanIssue, CanDoom, CanResume, CanArrive, CanLose, CanDie, CanRenew, is_flight}
use Rattle.core_definitions.specs.EndGuards.{CanRecover, CanLoad, CanLook, CanFinish, CanHost, CanClose, CanRead, CanShow, CanEnd}

-- all but Tick
abbrev pub CanOther : Core → Event → Type 0
CanOther c (Begin a) = CanBegin c a
CanOther c (Ask a lock mode) = CanAsk c a lock mode
CanOther c (Fetch a sector) = CanFetch c a sector
CanOther c (Again a) = CanAgain c a
CanOther c (Clear a block) = CanClear c a block
CanOther c (Commit a) = CanCommit c a
CanOther c (Answer a) = CanAnswer c a
CanOther c (Give a lock) = CanGive c a lock
CanOther c (Issue a sector) = CanIssue c a sector
CanOther c (Doom a) = CanDoom c a
CanOther c (Resume a) = CanResume c a
CanOther c (Arrive ticket) = CanArrive c ticket
CanOther c (Lose ticket) = CanLose c ticket
CanOther c (Die a) = CanDie c a
CanOther c (Renew a) = CanRenew c a
CanOther c Tick = ⊥
CanOther c (Recover dead by) = CanRecover c dead by
CanOther c (Load by slot) = CanLoad c by slot
CanOther c (Look by sector) = CanLook c by sector
CanOther c (Finish by) = CanFinish c by
CanOther c (HostLine number) = CanHost c number
CanOther c (Close a) = CanClose c a
CanOther c (Read sector) = CanRead c sector
CanOther c (Show place) = CanShow c place
CanOther c End = CanEnd c

-- ---- Tick

-- a write whose server is Still or Dead at this moment
abbrev pub is_by_gone : Core → Flight → Bool
is_by_gone c flight = is_server flight.server && (is_still (c.servers flight.server).phase || is_dead (c.servers flight.server).phase)

-- an Arrive or Lose of such a write
abbrev pub is_stale : Core → Event → Bool
is_stale c (Arrive ticket) = is_flight (is_by_gone c) (value_at c.flights ticket)
is_stale c (Lose ticket) = is_flight (is_by_gone c) (value_at c.flights ticket)
is_stale c event = false

-- a line is kept by the gate alone
abbrev pub has_line_at_gate : Core → Bool
has_line_at_gate c = list_any (is_at_gate c) server_numbers

-- no other event enabled but Arrive and Lose of writes whose server is Still or Dead, no line at the gate, not ended, now below 2^64 - 31
pub record CanTick (c : Core) : Type 0 where
  pub quiet : (event : Event) → CanOther c event → IsTrue (is_stale c event)
  pub gate : IsTrue (not (has_line_at_gate c))
  pub clock : IsTrue (nat_lt c.now LAST_TICK)

-- ---- all events

abbrev pub CanGoing : Core → Event → Type 0
CanGoing c Tick = CanTick c
CanGoing c event = CanOther c event

-- once it is over nothing may happen
pub record Can (c : Core) (event : Event) : Type 0 where
  pub going : IsTrue (not c.over)
  pub can : CanGoing c event
