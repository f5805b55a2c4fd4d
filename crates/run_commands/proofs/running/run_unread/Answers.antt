-- By the run, and by the save behind it.
use Rattle.std.proofs.Common.{◌∙◌, None, ap, sym, subst}
use Rattle.command_words.specs.Views.{text_of}
use Rattle.hall_scripts.specs.Runs.{Ends, beginning_of}
use Rattle.run_commands.specs.Running.{EndsRun, run_end}
use Rattle.run_commands.specs.Steps.{SavesAsked}
use Rattle.run_commands.proofs.Runs.{save_ends, save_leaves, stop_ends}
use Rattle.run_commands.proofs.running.run_unread.Goals as goal

pub returns-in-Ok-clause-ends : goal.returns-in-Ok-clause-ends
returns-in-Ok-clause-ends g c =
    let files = g.F.Files.state c.args.files.now in
    let files_after = g.F.Files.state c.save_asked.new.files in
    let out = g.O.Outside.state c.args.out in
    let mid = g.O.Outside.state c.run_script-ended.result.1 in
    let after = g.O.Outside.state c.save_asked.result.1 in
    let from = beginning_of c.args.disk in
    let save = text_of c.args.save in
    save_ends files files_after c.args.script from out mid (subst (λ r. Ends c.args.script from out mid r) c.in-Ok.is c.run_script-ended.ensures.ends) save after c.save_asked.result.0
    (subst (λ n. SavesAsked save n files files_after mid after c.save_asked.result.0) c.segments-segments.ensures c.save_asked.ensures)

pub returns-in-Ok-clause-leaves : goal.returns-in-Ok-clause-leaves
returns-in-Ok-clause-leaves g c =
    let files = g.F.Files.state c.args.files.now in
    let files_after = g.F.Files.state c.save_asked.new.files in
    let out = g.O.Outside.state c.args.out in
    let mid = g.O.Outside.state c.run_script-ended.result.1 in
    let after = g.O.Outside.state c.save_asked.result.1 in
    let from = beginning_of c.args.disk in
    let save = text_of c.args.save in
    save_leaves files files_after c.args.script from out mid (subst (λ r. Ends c.args.script from out mid r) c.in-Ok.is c.run_script-ended.ensures.ends) save after c.save_asked.result.0
    (subst (λ n. SavesAsked save n files files_after mid after c.save_asked.result.0) c.segments-segments.ensures c.save_asked.ensures)

pub returns-in-Err-clause-ends : goal.returns-in-Err-clause-ends
returns-in-Err-clause-ends g c =
    let files = g.F.Files.state c.args.files.now in
    let out = g.O.Outside.state c.args.out in
    let after = g.O.Outside.state c.run_script-ended.result.1 in
    let from = beginning_of c.args.disk in
    let save = text_of c.args.save in
    subst (EndsRun None save files files out after c.args.script from) (sym (c.run_end.ensures ∙ ap run_end c.in-Err.is))
    (stop_ends None save files files out after c.args.script from c.in-Err.field-0 (subst (λ r. Ends c.args.script from out after r) c.in-Err.is c.run_script-ended.ensures.ends))
