-- Who recovers a log at work.
use Rattle.std.specs.Prelude.{ℕ, Option, None, if◌then◌else◌}
use Rattle.core_definitions.specs.Cores.{Core}
use Rattle.core_definitions.specs.Recoveries.{Recovery}
use Rattle.core_definitions.specs.WriteGuards.{is_worker}

-- the recovery that a party carries out, where the party is a server that is up, or the host
abbrev pub recovery_at : Core → ℕ → Option Recovery
recovery_at c by = if is_worker c by then (c.servers by).recovery else None
