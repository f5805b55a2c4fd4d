-- The sector is read, or the core is over.
use Rattle.std.proofs.Common.{refl, sym, subst}
use Rattle.core_definitions.specs.Events as core
use Rattle.hall_runs.specs.Asking.{heard_of}
use Rattle.hall_runs.specs.declared.event.Heard.{Heard as Told}
use Rattle.hall_runs.specs.declared.event.Heard.TheVariants as told
use Rattle.frang_world.specs.Steps.{IsStep}
use Rattle.frang_world.proofs.TreeSteps.{needs_it, read_fails, reads}
use Rattle.frang_world.proofs.reading.read.Goals as goal

pub read-requires-clause-needed : goal.read-requires-clause-needed
read-requires-clause-needed c = needs_it c.args.world.now c.args.tree.now c.requires.disk c.args.sector.0 c.requires.fits.can.can

pub returns-in-Got : goal.returns-in-Got
returns-in-Got c =
    let s = c.args.world.now in
    let was = c.args.tree.now in
    subst (λ (h : Told). IsStep s was s c.read.new.self (core.Read c.args.sector.0) (heard_of h)) (sym c.in-Got.is)
    (reads s was c.read.new.self c.args.sector.0 c.in-Got.block c.requires.disk c.requires.said (needs_it s was c.requires.disk c.args.sector.0 c.requires.fits.can.can) c.read.ensures.segments c.read.ensures.read c.read.ensures.shown)

pub returns-in-GetFailed : goal.returns-in-GetFailed
returns-in-GetFailed c =
    let s = c.args.world.now in
    let tree = c.args.tree.now in
    let t = c.host_failed.new.self in
    subst (λ (h : Told). IsStep s tree t tree (core.Read c.args.sector.0) (heard_of h)) (sym c.in-GetFailed.is)
    (read_fails s t tree c.args.sector.0 (heard_of told.GetFailed) c.requires.disk c.requires.said c.host_failed.ensures refl)

pub returns-in-Nothing : goal.returns-in-Nothing
returns-in-Nothing c =
    let s = c.args.world.now in
    let tree = c.args.tree.now in
    let t = c.host_failed-in-Nothing.new.self in
    subst (λ (h : Told). IsStep s tree t tree (core.Read c.args.sector.0) (heard_of h)) (sym c.in-Nothing.is)
    (read_fails s t tree c.args.sector.0 (heard_of told.Nothing) c.requires.disk c.requires.said c.host_failed-in-Nothing.ensures refl)
