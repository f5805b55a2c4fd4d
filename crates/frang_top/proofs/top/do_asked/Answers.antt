-- What a run may write is what it saves.
use Rattle.std.proofs.Common.{Some, ap, sym, subst}
use Rattle.command_words.specs.Views.{asked_of, asks_of}
use Rattle.frang_top.specs.declared.outcome.Outcome.TheVariants as ends
use Rattle.frang_top.specs.Top.{HasDone, LeavesOthers}
use Rattle.frang_top.proofs.Wanting.{run_writes}
use Rattle.frang_top.proofs.top.do_asked.Goals as goal

pub returns-in-Run-clause-done : goal.returns-in-Run-clause-done
returns-in-Run-clause-done g c =
    let files = g.F.Files.state c.args.files.now in
    let files_after = g.F.Files.state c.run-ended.new.files in
    subst (λ asked. HasDone (Some asked) files files_after (g.O.Outside.state c.args.out) (g.O.Outside.state c.run-ended.result.1) (ends.Ran c.run-ended.result.0)) (sym (ap asked_of c.in-Run.is))
    c.run-ended.ensures.run

pub returns-in-Run-clause-files : goal.returns-in-Run-clause-files
returns-in-Run-clause-files g c =
    let before = (g.F.Files.state c.args.files.now).holds in
    let after = (g.F.Files.state c.run-ended.new.files).holds in
    subst (λ asked. LeavesOthers (Some asked) before after) (sym (ap asked_of c.in-Run.is))
    (run_writes (asks_of c.in-Run.asked).board (asks_of c.in-Run.asked).save c.run-ended.result.0 before after c.run-ended.ensures.files)
