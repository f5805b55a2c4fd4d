-- By the disk.
use Rattle.std.proofs.Common.{sym, subst}
use Rattle.hall_scripts.specs.Runs.{IsOpened}
use Rattle.hall_scripts.proofs.run.open_disk.Goals as goal

pub returns-in-Fresh : goal.returns-in-Fresh
returns-in-Fresh g c = subst (λ disk. IsOpened disk (g.O.Outside.state c.args.out.now) (g.O.Outside.state c.open_fresh.new.out) c.open_fresh.result) (sym c.in-Fresh.is) c.open_fresh.ensures.puts
