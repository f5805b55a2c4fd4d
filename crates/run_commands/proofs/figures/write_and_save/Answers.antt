-- By whether the figures were written.
use Rattle.std.proofs.Common.{refl}
use Rattle.run_commands.specs.Steps.{Unwritten, Wrote}
use Rattle.run_commands.proofs.figures.write_and_save.Goals as goal

pub returns-in-Ok : goal.returns-in-Ok
returns-in-Ok g c = Wrote (g.F.Files.state c.write_figures.new.files) c.in-Ok.ensures.writes c.in-Ok.ensures.counts c.save_asked.ensures

pub returns-in-Err : goal.returns-in-Err
returns-in-Err g c = Unwritten c.in-Err.ensures.writes refl
