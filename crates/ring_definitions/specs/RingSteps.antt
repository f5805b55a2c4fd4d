-- Rings behind a log, a step at a time: what is good stays good at each call and each arrival, and reads back. So who keeps a ring need carry no list of
-- what happened to it.
use Rattle.std.specs.Prelude.{◌-◌, ◌≡◌, ◌≤◌, ◌<◌, ℕ, ◌^◌, List, IsTrue}
use Rattle.frang_base.specs.declared.limits.TheConstants.{LOG_SECTORS}
use Rattle.disk_definitions.specs.Logs.{Slots, log_end, is_sealed}
use Rattle.ring_definitions.specs.RingRuns.{LogState, LogEvent, log_at, is_flying, may_happen, may_all_happen, after_log_event, after_log_events, ReadsBack, EndsWithin}
use Rattle.ring_definitions.specs.RingRuns.LogEvent.{Arrive}

-- the same ring, sectors on their way, records and slots
pub record IsSameState (v w : LogState) : Type 0 where
  pub ring : v.ring ≡ w.ring
  pub flying : v.flying ≡ w.flying
  pub placed : v.placed ≡ w.placed
  pub slots : (slot : ℕ) → slot < LOG_SECTORS → v.slots slot ≡ w.slots slot

-- a ring and its log behind these slots, as some run leaves them. Cite the laws below and not what it is made of.
pub record IsGoodLog (slots : Slots) (w : LogState) : Type 0 where
  pub low : LOG_SECTORS - 1 ≤ log_end slots
  pub high : log_end slots < 2 ^ 62
  pub sealed : IsTrue (is_sealed slots)
  pub events : List LogEvent
  pub happened : IsTrue (may_all_happen (log_at slots) events)
  pub left : IsSameState w (after_log_events (log_at slots) events)

-- a ring behind a sealed log with an end is good
abbrev pub RingsBegin : Type 0
RingsBegin = (slots : Slots) → LOG_SECTORS - 1 ≤ log_end slots → log_end slots < 2 ^ 62 → IsTrue (is_sealed slots) → IsGoodLog slots (log_at slots)

-- it stays so at each event that may happen
abbrev pub RingsStep : Type 0
RingsStep = (slots : Slots) (w : LogState) (e : LogEvent) → IsGoodLog slots w → IsTrue (may_happen w e) → IsGoodLog slots (after_log_event w e)

-- and it is so whatever else has the same ring, sectors on their way, records and slots
abbrev pub RingsAreSame : Type 0
RingsAreSame = (slots : Slots) (v w : LogState) → IsSameState v w → IsGoodLog slots w → IsGoodLog slots v

-- what a good log reads as, and where it ends
abbrev pub GoodLogsReadBack : Type 0
GoodLogsReadBack = (slots : Slots) (w : LogState) → IsGoodLog slots w → ReadsBack slots w

abbrev pub GoodLogsEndWithin : Type 0
GoodLogsEndWithin = (slots : Slots) (w : LogState) → IsGoodLog slots w → EndsWithin w

-- and its end goes no way back where a sector on its way arrives; no other event changes the slots
abbrev pub ArrivalsRaiseTheEnd : Type 0
ArrivalsRaiseTheEnd = (slots : Slots) (w : LogState) (number : ℕ) → IsGoodLog slots w → IsTrue (is_flying w number) → log_end w.slots ≤ log_end (after_log_event w (Arrive number)).slots
