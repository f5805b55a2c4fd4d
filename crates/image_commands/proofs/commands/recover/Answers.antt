-- By what was read, said and saved.
use Rattle.std.specs.Option.{option_map}
use Rattle.image_commands.proofs.EndLaws.{only_saves, recovers_ends, recovers_saves, recovery_unread}
use Rattle.image_commands.proofs.commands.recover.Goals as goal

pub returns-in-Ok-clause-ends : goal.returns-in-Ok-clause-ends
returns-in-Ok-clause-ends g c =
    recovers_ends c.args.image.now (option_map (λ s. s.now) c.args.save) (g.F.Files.state c.args.files.now) (g.F.Files.state c.read_disk.new.files) (g.F.Files.state c.recover_disk.new.files)
    (g.O.Outside.state c.args.out.now) (g.O.Outside.state c.recover_disk.new.out) c.in-Ok.ensures.files
    c.in-Ok.disk c.recover_disk.result c.in-Ok.ensures.outcome c.in-Ok.ensures.counts.writes c.recover_disk.ensures

pub returns-in-Ok-clause-saves : goal.returns-in-Ok-clause-saves
returns-in-Ok-clause-saves g c =
    recovers_saves c.args.image.now (option_map (λ s. s.now) c.args.save) (g.F.Files.state c.args.files.now) (g.F.Files.state c.read_disk.new.files) (g.F.Files.state c.recover_disk.new.files)
    (g.O.Outside.state c.args.out.now) (g.O.Outside.state c.recover_disk.new.out) c.in-Ok.ensures.files
    c.in-Ok.disk c.recover_disk.result c.recover_disk.ensures

pub returns-in-Err-clause-ends : goal.returns-in-Err-clause-ends
returns-in-Err-clause-ends g c =
    recovery_unread c.args.image.now (option_map (λ s. s.now) c.args.save) (g.F.Files.state c.args.files.now) (g.F.Files.state c.read_disk.new.files) (g.O.Outside.state c.args.out.now) (g.O.Outside.state c.args.out.now)
    c.in-Err.end c.in-Err.ensures.outcome c.requires

pub returns-in-Err-clause-saves : goal.returns-in-Err-clause-saves
returns-in-Err-clause-saves g c =
    only_saves (option_map (λ s. s.now) c.args.save) c.in-Err.end (g.F.Files.state c.args.files.now).holds (g.F.Files.state c.read_disk.new.files).holds c.in-Err.ensures.files
