-- The sector is looked at.
use Rattle.std.proofs.Common.{sym, ap, ◌∙◌}
use Rattle.core_definitions.specs.Effects.{after}
use Rattle.core_definitions.specs.Events as core
use Rattle.hall_runs.specs.Asking.{heard_of}
use Rattle.hall_runs.specs.declared.event.Heard.{Heard as Told}
use Rattle.world_state.specs.States.{core_at}
use Rattle.frang_world.proofs.recovering.look.Goals as goal

pub returns-in-Got : goal.returns-in-Got
returns-in-Got c = c.look.ensures ∙ ap (λ (h : Told). after (core_at c.args.world.now) (core.Look c.args.by.0 c.args.sector.0) (heard_of h)) (sym c.in-Got.is)
