-- By what was read and what was said.
use Rattle.image_commands.specs.Lines.{IsLog}
use Rattle.image_commands.proofs.EndLaws.{told_reading, told_lines}
use Rattle.image_commands.proofs.commands.log.Goals as goal

pub returns-in-Ok-clause-ends : goal.returns-in-Ok-clause-ends
returns-in-Ok-clause-ends g c =
    told_lines (IsLog c.args.server) c.args.image.now (g.F.Files.state c.args.files.now) (g.F.Files.state c.read_disk.new.files) (g.O.Outside.state c.args.out.now) (g.O.Outside.state c.say_told.new.out)
    c.in-Ok.disk c.log_said.result c.say_told.result c.in-Ok.ensures.outcome c.log_said.ensures c.say_told.ensures

pub returns-in-Err-clause-ends : goal.returns-in-Err-clause-ends
returns-in-Err-clause-ends g c =
    told_reading (IsLog c.args.server) c.args.image.now (g.F.Files.state c.args.files.now) (g.F.Files.state c.read_disk.new.files) (g.O.Outside.state c.args.out.now) (g.O.Outside.state c.args.out.now)
    c.in-Err.end c.in-Err.ensures.outcome c.requires
