-- By the disk that is asked for.
use Rattle.std.proofs.Common.{ap, refl, sym, subst}
use Rattle.command_words.specs.Views.{asks_of, disk_of}
use Rattle.hall_scripts.specs.Runs.{on_fresh, on_image}
use Rattle.run_commands.specs.Running.{BeginsFrom, FromFresh, FromImage, WasBegun, WasRefused}
use Rattle.run_commands.proofs.Runs.{ends_earlier, image_refused, nothing_saved}
use Rattle.run_commands.proofs.running.run_on_disk.Goals as goal

pub run_and_save-requires-in-Ok-clause-disk : goal.run_and_save-requires-in-Ok-clause-disk
run_and_save-requires-in-Ok-clause-disk g c κs within = c.in-Ok.ensures.outcome.may_open.run

pub returns-in-Fresh-clause-run : goal.returns-in-Fresh-clause-run
returns-in-Fresh-clause-run g c =
    let told = (g.F.Files.state c.args.files.now).holds in
    let from = on_fresh c.in-Fresh.segments in
    WasBegun c.args.script from c.requires.script (subst (λ d. BeginsFrom told d from) (sym (ap disk_of c.in-Fresh.is)) (FromFresh c.in-Fresh.segments)) c.run_and_save.ensures.leaves
    c.run_and_save.ensures.ends

pub returns-in-Ok-clause-run : goal.returns-in-Ok-clause-run
returns-in-Ok-clause-run g c =
    let files = g.F.Files.state c.args.files.now in
    let mid = g.F.Files.state c.disk_of_image.new.files in
    let files_after = g.F.Files.state c.run_and_save-in-Ok.new.files in
    let out = g.O.Outside.state c.args.out in
    let after = g.O.Outside.state c.run_and_save-in-Ok.result.1 in
    let found = c.in-Ok.found in
    let from = on_image found.param found.disk in
    WasBegun c.args.script from c.requires.script
    (subst (λ d. BeginsFrom files.holds d from) (sym (ap disk_of c.in-Image.is)) (FromImage c.in-Image.image.now found.param found.disk c.in-Ok.ensures.outcome)) c.run_and_save-in-Ok.ensures.leaves
    (ends_earlier files mid files_after c.in-Ok.ensures.files c.in-Ok.ensures.counts out after (asks_of c.args.command.now).board (asks_of c.args.command.now).save c.args.script from c.run_and_save-in-Ok.result.0 c.run_and_save-in-Ok.ensures.ends)

pub returns-in-Err-clause-run : goal.returns-in-Err-clause-run
returns-in-Err-clause-run g c =
    WasRefused
    (image_refused (asks_of c.args.command.now) (g.F.Files.state c.args.files.now) (g.F.Files.state c.disk_of_image.new.files) (c.args.script, c.requires.script) c.in-Image.image.now (ap disk_of c.in-Image.is)
    c.in-Err.end c.in-Err.ensures.outcome)
    refl

pub returns-in-Err-clause-files : goal.returns-in-Err-clause-files
returns-in-Err-clause-files g c =
    nothing_saved (asks_of c.args.command.now).board (asks_of c.args.command.now).save c.in-Err.end (g.F.Files.state c.args.files.now).holds (g.F.Files.state c.disk_of_image.new.files).holds c.in-Err.ensures.files
