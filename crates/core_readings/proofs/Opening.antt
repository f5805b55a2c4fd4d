-- The log of a dead server whose lease isn't over has nothing of a seal.
use Rattle.std.proofs.Common.{◌≡◌, ℕ, ◌<◌, ◌≤◌, arith}
use Rattle.disk_definitions.specs.Logs.{Slots}
use Rattle.disk_definitions.specs.Replay.{slots_of}
use Rattle.core_journals.specs.Journals.{IsSealing, Open, Partly, Wholly}
use Rattle.core_readings.specs.Logs.{LogsAreOpen}

pub open_log : (now expiry : ℕ) (base slots : Slots) → now ≤ expiry → IsSealing now expiry base slots → (slot : ℕ) → slot < 256 → slots slot ≡ base slot
open_log now expiry base slots early (Open same) slot low = same slot low
open_log now expiry base slots early (Partly over numbers all same) slot low = absurd (omega (arith, early, over))
open_log now expiry base slots early (Wholly over numbers all each same) slot low = absurd (omega (arith, early, over))

pub logs_are_open : LogsAreOpen
logs_are_open s journal logs a server dead early slot low =
    open_log s.core.now (s.core.servers a).expiry (journal a).log.slots (slots_of s.disk a) early ((logs.stand a server).left dead).stands slot low
