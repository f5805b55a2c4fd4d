-- It is cached under its cover; a get that failed counts for the server, which isn't off.
use Rattle.std.proofs.Common.{sym, ap, ◌∙◌}
use Rattle.core_definitions.specs.Effects.{after}
use Rattle.core_definitions.specs.Events as core
use Rattle.hall_runs.specs.Asking.{heard_of}
use Rattle.hall_runs.specs.declared.event.Heard.{Heard as Told}
use Rattle.world_state.specs.States.{core_at}
use Rattle.frang_world.proofs.Getting.{caches, fails}
use Rattle.frang_world.proofs.fetching.fetch_sector.Goals as goal

pub returns-in-Got : goal.returns-in-Got
returns-in-Got c =
    c.fetched.ensures ∙ caches (core_at c.args.world.now) c.args.a.0 c.args.sector.0 c.in-Got.block c.args.cover c.requires.on c.requires.cover
    ∙ ap (λ (h : Told). after (core_at c.args.world.now) (core.Fetch c.args.a.0 c.args.sector.0) (heard_of h)) (sym c.in-Got.is)

pub returns-in-GetFailed : goal.returns-in-GetFailed
returns-in-GetFailed c =
    c.server_failed.ensures ∙ fails (core_at c.args.world.now) c.args.a.0 c.requires.on
    ∙ ap (λ (h : Told). after (core_at c.args.world.now) (core.Fetch c.args.a.0 c.args.sector.0) (heard_of h)) (sym c.in-GetFailed.is)

pub returns-in-Nothing : goal.returns-in-Nothing
returns-in-Nothing c =
    c.server_failed-in-Nothing.ensures ∙ fails (core_at c.args.world.now) c.args.a.0 c.requires.on
    ∙ ap (λ (h : Told). after (core_at c.args.world.now) (core.Fetch c.args.a.0 c.args.sector.0) (heard_of h)) (sym c.in-Nothing.is)
