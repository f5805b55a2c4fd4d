-- By the run, by its figures, and by what is written behind it.
use Rattle.std.proofs.Common.{Some, refl, sym, subst}
use Rattle.command_words.specs.Views.{board_of, text_of}
use Rattle.hall_scripts.specs.Runs.{beginning_of}
use Rattle.hall_scripts.specs.Watched.{EndsWatched}
use Rattle.run_commands.specs.Running.{EndsRun}
use Rattle.run_commands.specs.Steps.{WritesAndSaves}
use Rattle.run_commands.proofs.FiguresRead.{read_and_saved, read_files, read_leaves}
use Rattle.run_commands.proofs.Runs.{nothing_saved, stop_ends}
use Rattle.run_commands.proofs.running.run_read.Goals as goal

pub returns-in-Ok-clause-ends : goal.returns-in-Ok-clause-ends
returns-in-Ok-clause-ends g c =
    let files = g.F.Files.state c.args.files.now in
    let files_after = g.F.Files.state c.write_and_save.new.files in
    let out = g.O.Outside.state c.args.out in
    let mid = g.O.Outside.state c.run_script_watched-ended.result.1 in
    let after = g.O.Outside.state c.write_and_save.result.1 in
    let from = beginning_of c.args.disk in
    let save = text_of c.args.save in
    let board = board_of c.args.board in
    read_and_saved board files files_after c.args.script from out mid c.in-Ok.list.items (subst (EndsWatched c.args.script from out mid c.args.board.reads) c.in-Ok.is c.run_script_watched-ended.ensures.ends) save
    after c.write_and_save.result.0 c.requires.other
    (subst (λ xs. WritesAndSaves board.file xs save from.segments files files_after mid after c.write_and_save.result.0) c.deref.ensures.value
    (subst (λ n. WritesAndSaves board.file c.deref.result.now save n files files_after mid after c.write_and_save.result.0) c.segments-segments.ensures c.write_and_save.ensures))

pub returns-in-Ok-clause-leaves : goal.returns-in-Ok-clause-leaves
returns-in-Ok-clause-leaves g c =
    let files = g.F.Files.state c.args.files.now in
    let files_after = g.F.Files.state c.write_and_save.new.files in
    let out = g.O.Outside.state c.args.out in
    let mid = g.O.Outside.state c.run_script_watched-ended.result.1 in
    let after = g.O.Outside.state c.write_and_save.result.1 in
    let from = beginning_of c.args.disk in
    let save = text_of c.args.save in
    let board = board_of c.args.board in
    read_leaves board files files_after c.args.script from out mid c.in-Ok.list.items (subst (EndsWatched c.args.script from out mid c.args.board.reads) c.in-Ok.is c.run_script_watched-ended.ensures.ends) save
    after c.write_and_save.result.0
    (subst (λ xs. WritesAndSaves board.file xs save from.segments files files_after mid after c.write_and_save.result.0) c.deref.ensures.value
    (subst (λ n. WritesAndSaves board.file c.deref.result.now save n files files_after mid after c.write_and_save.result.0) c.segments-segments.ensures c.write_and_save.ensures))

pub returns-in-Ok-clause-files : goal.returns-in-Ok-clause-files
returns-in-Ok-clause-files g c =
    let files = g.F.Files.state c.args.files.now in
    let files_after = g.F.Files.state c.write_and_save.new.files in
    let out = g.O.Outside.state c.args.out in
    let mid = g.O.Outside.state c.run_script_watched-ended.result.1 in
    let after = g.O.Outside.state c.write_and_save.result.1 in
    let from = beginning_of c.args.disk in
    let save = text_of c.args.save in
    let board = board_of c.args.board in
    read_files board files files_after c.args.script from out mid c.in-Ok.list.items (subst (EndsWatched c.args.script from out mid c.args.board.reads) c.in-Ok.is c.run_script_watched-ended.ensures.ends) save
    after c.write_and_save.result.0
    (subst (λ xs. WritesAndSaves board.file xs save from.segments files files_after mid after c.write_and_save.result.0) c.deref.ensures.value
    (subst (λ n. WritesAndSaves board.file c.deref.result.now save n files files_after mid after c.write_and_save.result.0) c.segments-segments.ensures c.write_and_save.ensures))

pub returns-in-Err-clause-ends : goal.returns-in-Err-clause-ends
returns-in-Err-clause-ends g c =
    let files = g.F.Files.state c.args.files.now in
    let out = g.O.Outside.state c.args.out in
    let after = g.O.Outside.state c.run_script_watched-ended.result.1 in
    let from = beginning_of c.args.disk in
    let save = text_of c.args.save in
    let board = board_of c.args.board in
    subst (EndsRun (Some board) save files files out after c.args.script from) (sym c.run_end.ensures)
    (stop_ends (Some board) save files files out after c.args.script from c.in-Err.fault (subst (EndsWatched c.args.script from out after c.args.board.reads) c.in-Err.is c.run_script_watched-ended.ensures.ends))

pub returns-in-Err-clause-files : goal.returns-in-Err-clause-files
returns-in-Err-clause-files g c =
    nothing_saved (Some (board_of c.args.board)) (text_of c.args.save) c.run_end.result (g.F.Files.state c.args.files.now).holds (g.F.Files.state c.args.files.now).holds refl
