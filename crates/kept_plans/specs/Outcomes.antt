-- Which outcome of the core an outcome in code is, whatever is cached.
use Rattle.std.specs.Prelude.{◌≡◌, ℕ, map}
use Rattle.std.specs.Option.{unwrap_or}
use Rattle.frang_base.specs.declared.lock.LockId.{LockId}
use Rattle.cache_definitions.specs.Caches.{Cache}
use Rattle.cache_laws.specs.Steps.{cover_after}
use Rattle.clerk_cache.specs.Dropping.{numbers_of}
use Rattle.core_definitions.specs.Flights.{each_of_server}
use Rattle.core_definitions.specs.LineEffects.{flight_after}
use Rattle.core_definitions.specs.Plans as core
use Rattle.flight_laws.specs.Flights.{flights_of, moved_all}
use Rattle.petal_disk.specs.Flying.{InFlight}
use Rattle.server_core.specs.Outcomes.{IsOutcome, bytes_of, moves_of}
use Rattle.server_core.specs.declared.outcome.Outcome.{Outcome}

-- the same reply, record, file bytes and freed sectors; and each sector comes under the same lock, or stays
pub record IsOutcomeOf (outcome : Outcome) (of_core : core.Outcome) : Type 0 where
  pub reply : of_core.reply ≡ outcome.reply
  pub redo : of_core.redo ≡ outcome.redo
  pub bytes : of_core.bytes ≡ map bytes_of outcome.bytes.items
  pub freed : of_core.freed ≡ numbers_of outcome.freed
  pub moved : (sector : ℕ) (cover : LockId) → cover_after (moves_of outcome.moves.items) sector cover ≡ unwrap_or (of_core.moves sector) cover

-- ---- what it is for

-- it is the outcome that a server's commit takes, whatever is cached
abbrev pub AnOutcomeIsCommitted : Type 0
AnOutcomeIsCommitted = (cache : Cache) (outcome : Outcome) (of_core : core.Outcome) → IsOutcomeOf outcome of_core → IsOutcome cache outcome of_core

-- and its moves make of the writes in flight what the core's commit makes of them
abbrev pub ItsMovesAreMade : Type 0
ItsMovesAreMade = (flights : InFlight) (server : ℕ) (outcome : Outcome) (of_core : core.Outcome) → IsOutcomeOf outcome of_core
    → flights_of (moved_all server (moves_of outcome.moves.items) flights) ≡ each_of_server server (flight_after of_core) (flights_of flights)
