-- By what was read and what was said.
use Rattle.image_commands.specs.Lines.{IsTree}
use Rattle.image_commands.proofs.EndLaws.{ended_reading, ended_telling}
use Rattle.image_commands.proofs.commands.tree.Goals as goal

pub returns-in-Ok-clause-ends : goal.returns-in-Ok-clause-ends
returns-in-Ok-clause-ends g c =
    ended_telling c.args.image.now (g.F.Files.state c.args.files.now) (g.F.Files.state c.read_disk.new.files) (g.O.Outside.state c.args.out.now) (g.O.Outside.state c.tell_disk.new.out)
    c.in-Ok.disk c.tell_disk.result c.in-Ok.ensures.outcome c.tell_disk.ensures

pub returns-in-Err-clause-ends : goal.returns-in-Err-clause-ends
returns-in-Err-clause-ends g c =
    ended_reading IsTree c.args.image.now (g.F.Files.state c.args.files.now) (g.F.Files.state c.read_disk.new.files) (g.O.Outside.state c.args.out.now) (g.O.Outside.state c.args.out.now)
    c.in-Err.end c.in-Err.ensures.outcome c.requires
