-- By what the run did.
use Rattle.command_words.specs.Views.{asks_of}
use Rattle.run_commands.proofs.Completeness.{complete}
use Rattle.run_commands.proofs.running.run.Goals as goal

pub returns-clause-complete : goal.returns-clause-complete
returns-clause-complete g c =
    complete (asks_of c.args.command.now) (g.F.Files.state c.args.files.now) (g.F.Files.state c.run_asked.new.files) (g.O.Outside.state c.args.out) (g.O.Outside.state c.run_asked.result.1) c.run_asked.result.0
    c.run_asked.ensures.run
