-- By why the command ended, and what it left of the files.
use Rattle.command_words.specs.Views.{image_asks_of}
use Rattle.image_commands.proofs.AskedLaws.{complete, only_writes}
use Rattle.image_commands.proofs.asked.do_command.Goals as goal

pub returns-clause-writes : goal.returns-clause-writes
returns-clause-writes g c = only_writes (image_asks_of c.args.command.now) c.do_named.result (g.F.Files.state c.args.files.now).holds (g.F.Files.state c.do_named.new.files).holds c.do_named.ensures.files

pub returns-clause-complete : goal.returns-clause-complete
returns-clause-complete g c = complete (image_asks_of c.args.command.now) (g.F.Files.state c.args.files.now) (g.F.Files.state c.do_named.new.files) (g.O.Outside.state c.args.out.now) (g.O.Outside.state c.do_named.new.out) c.do_named.result c.do_named.ensures.ends
