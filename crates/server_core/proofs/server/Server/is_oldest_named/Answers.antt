-- The oldest records are those of the log's quarter.
use Rattle.std.proofs.Common.{sym, ap, ◌∙◌}
use Rattle.core_definitions.specs.Rings.{is_oldest_named}
use Rattle.log_slots.specs.Reading.{log_rules}
use Rattle.server_core.specs.States.{ring_in}
use Rattle.server_core.proofs.server.Server.is_oldest_named.Goals as goal

pub returns-in-Some : goal.returns-in-Some
unfolding log_rules
returns-in-Some c =
    c.is_oldest_named.ensures ∙ ap (λ ring. is_oldest_named log_rules (ring_in ring) c.args.sector.0) (sym c.in-Some.is) ∙ ap (λ s. is_oldest_named log_rules s.server.ring c.args.sector.0) c.self.view_is
