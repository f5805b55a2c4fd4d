-- A number is among the keys of a map exactly where the map has a value at it.
use Rattle.std.proofs.Common.{is_some, sym, ap, ◌∙◌}
use Rattle.frang_base.specs.Functions.{member}
use Rattle.frang_base.proofs.Tests.{is_some-option_map}
use Rattle.log_slots.proofs.Maps.{keys_member}
use Rattle.server_core.proofs.server.Server.is_pending.Goals as goal

pub returns : goal.returns
returns c = c.is_some.ensures ∙ sym (is_some-option_map (λ x. x.now) c.get.result) ∙ ap is_some c.get.ensures ∙ sym (keys_member c.self.inside.pending.entries c.args.sector.0) ∙ ap (λ s. member c.args.sector.0 s.server.pending) c.self.view_is
