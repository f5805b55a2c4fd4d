-- By what was read.
use Rattle.std.proofs.Common.{Err, sym, subst}
use Rattle.run_commands.specs.Steps.{OpensImage}
use Rattle.run_commands.proofs.Opened.{image_opened, not_opened}
use Rattle.run_commands.proofs.images.disk_of_image.Goals as goal

pub returns-in-Ok-clause-outcome : goal.returns-in-Ok-clause-outcome
returns-in-Ok-clause-outcome g c =
    image_opened (g.F.Files.state c.args.files.now) (g.F.Files.state c.read_disk.new.files) c.args.name.now c.in-Ok.disk c.replayed_disk.result c.in-Ok.ensures.read c.in-Ok.ensures.outcome c.replayed_disk.ensures

pub returns-in-Err-clause-outcome : goal.returns-in-Err-clause-outcome
returns-in-Err-clause-outcome g c =
    let old = g.F.Files.state c.args.files.now in
    let new = g.F.Files.state c.read_disk.new.files in
    subst (λ e. OpensImage old new c.args.name.now (Err e)) (sym c.image_end.ensures) (not_opened old new c.args.name.now c.in-Err.end c.in-Err.ensures.outcome)
