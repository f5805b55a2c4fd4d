-- What the issue of a write asks of its party.
use Rattle.std.specs.Prelude.{◌≡◌, ◌<◌, ℕ, IsSome, IsSomeAnd}
use Rattle.frang_base.specs.declared.limits.TheConstants.{SERVERS}
use Rattle.ring_definitions.specs.Rings.{next_sector}
use Rattle.sector_bytes.specs.SectorMaps.{value_at}
use Rattle.petal_disk.specs.declared.flying.Purpose.{Purpose}
use Rattle.petal_disk.specs.declared.flying.Purpose.TheVariants.{OfLog, InPlace, OfRecovery}
use Rattle.recovery_demon.specs.Recovering.{writes_wanted}
use Rattle.world_parties.specs.States.{State as Parties, recovering_by, servers_at}

-- of a log it is the next of a server, in place it is a server's, and of a recovery that of its party wants it and hasn't issued it
abbrev pub MayIssue : Parties → ℕ → ℕ → Purpose → Type 0
MayIssue parties by sector (OfLog number) = (by < SERVERS) × IsSomeAnd (next_sector (servers_at parties by).ring) (λ next. next.0 ≡ number)
MayIssue parties by sector (InPlace cover) = by < SERVERS
MayIssue parties by sector OfRecovery = IsSomeAnd (recovering_by parties by) (λ r. IsSome (value_at (writes_wanted r.segments r.recovery r.issued) sector))
