-- By what was read and what was said.
use Rattle.image_commands.specs.Lines.{IsCheck}
use Rattle.image_commands.proofs.EndLaws.{told_reading, told_lines}
use Rattle.image_commands.proofs.commands.fsck.Goals as goal

pub returns-in-Ok-clause-ends : goal.returns-in-Ok-clause-ends
returns-in-Ok-clause-ends g c =
    told_lines IsCheck c.args.image.now (g.F.Files.state c.args.files.now) (g.F.Files.state c.read_disk.new.files) (g.O.Outside.state c.args.out.now) (g.O.Outside.state c.say_told.new.out)
    c.in-Ok.disk c.check_said.result c.say_told.result c.in-Ok.ensures.outcome c.check_said.ensures c.say_told.ensures

pub returns-in-Err-clause-ends : goal.returns-in-Err-clause-ends
returns-in-Err-clause-ends g c =
    told_reading IsCheck c.args.image.now (g.F.Files.state c.args.files.now) (g.F.Files.state c.read_disk.new.files) (g.O.Outside.state c.args.out.now) (g.O.Outside.state c.args.out.now)
    c.in-Err.end c.in-Err.ensures.outcome c.requires
