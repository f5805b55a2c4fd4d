-- Without a recovery there is none that a write is acknowledged for.
use Rattle.std.proofs.Common.{◌≡◌, ℕ, None, sym, ap, ◌∙◌}
use Rattle.std.specs.Option.{option_map}
use Rattle.sector_bytes.specs.Blocks.{Block}
use Rattle.core_definitions.specs.Flights.{OfRecovery}
use Rattle.core_definitions.specs.Servers.{Server}
use Rattle.core_definitions.specs.WriteEffects.{acknowledged, acknowledged_for}
use Rattle.flight_laws.specs.Flights.{purpose_of}
use Rattle.server_core.proofs.server.Server.acknowledged.Goals as goal

without_one : (sector : ℕ) (block : Block) (server : Server) → server.recovery ≡ None → server ≡ acknowledged sector block OfRecovery server
without_one sector block server none = ap (λ recovery. record server { recovery = recovery }) (none ∙ sym (ap (option_map (acknowledged_for sector)) none))

pub returns-in-OfRecovery-clause-server : goal.returns-in-OfRecovery-clause-server
returns-in-OfRecovery-clause-server c = without_one c.args.sector.0 c.args.block.now c.args.self.now.server c.has_no_recovery.ensures
    ∙ ap (λ purpose. acknowledged c.args.sector.0 c.args.block.now (purpose_of purpose) c.args.self.now.server) (sym c.in-OfRecovery.is)
