-- By where the walk leads.
use Rattle.std.proofs.Common.{◌∙◌}
use Rattle.disk_definitions.specs.Ask.{Got, bind}
use Rattle.disk_definitions.specs.Walks as walks
use Rattle.dir_lookup.specs.Reading.{Gives, Lacks, reading}
use Rattle.dir_lookup.specs.Spots.{spot_of}
use Rattle.dir_lookup.proofs.Readings.{reading_bind}
use Rattle.dir_lookup.proofs.Steps.{said_ok, said_err}
use Rattle.namei.proofs.WalkAnswers.{by_spot}
use Rattle.namei.proofs.walking.walked_step.Goals as goal

pub returns-in-Ok : goal.returns-in-Ok
returns-in-Ok c held =
    let cached = c.args.sectors.now.entries in
    let h = c.spot_at.ensures held in
    c.step_at.ensures
    ∙ by_spot (reading (walks.walk c.args.path.now) cached held) (Gives (spot_of c.in-Ok.spot))
    (said_ok spot_of c.spot_at.result c.in-Ok.spot _ c.in-Ok.is h ∙ reading_bind (walks.walk c.args.path.now) (λ w. Got w.spot) cached held)

pub returns-in-Err : goal.returns-in-Err
returns-in-Err c held =
    let cached = c.args.sectors.now.entries in
    let h = c.spot_at.ensures held in
    by_spot (reading (walks.walk c.args.path.now) cached held) (Lacks c.in-Err.need.0.0)
    (said_err spot_of c.spot_at.result c.in-Err.need _ c.in-Err.is h ∙ reading_bind (walks.walk c.args.path.now) (λ w. Got w.spot) cached held)
