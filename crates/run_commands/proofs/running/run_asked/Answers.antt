-- By what the script's file is.
use Rattle.std.proofs.Common.{refl, sym, subst}
use Rattle.command_words.specs.Views.{asks_of}
use Rattle.run_commands.specs.Running.{IsScript, WasRefused}
use Rattle.run_commands.proofs.Runs.{nothing_saved, run_earlier, script_refused}
use Rattle.run_commands.proofs.running.run_asked.Goals as goal

pub run_on_disk-requires-clause-script : goal.run_on_disk-requires-clause-script
run_on_disk-requires-clause-script g c κs within = subst (λ holds. IsScript holds c.args.command.now.script.now c.in-Ok.script) (sym c.in-Ok.ensures.files) c.in-Ok.ensures.outcome

pub returns-in-Ok-clause-run : goal.returns-in-Ok-clause-run
returns-in-Ok-clause-run g c =
    run_earlier (g.F.Files.state c.args.files.now) (g.F.Files.state c.script_of_file.new.files) (g.F.Files.state c.run_on_disk.new.files) c.in-Ok.ensures.files c.in-Ok.ensures.counts
    (g.O.Outside.state c.args.out) (g.O.Outside.state c.run_on_disk.result.1) (asks_of c.args.command.now) c.run_on_disk.result.0 c.run_on_disk.ensures.run

pub returns-in-Err-clause-run : goal.returns-in-Err-clause-run
returns-in-Err-clause-run g c =
    WasRefused (script_refused (asks_of c.args.command.now) (g.F.Files.state c.args.files.now) (g.F.Files.state c.script_of_file.new.files) c.in-Err.end c.in-Err.ensures.outcome) refl

pub returns-in-Err-clause-files : goal.returns-in-Err-clause-files
returns-in-Err-clause-files g c =
    nothing_saved (asks_of c.args.command.now).board (asks_of c.args.command.now).save c.in-Err.end (g.F.Files.state c.args.files.now).holds (g.F.Files.state c.script_of_file.new.files).holds c.in-Err.ensures.files
