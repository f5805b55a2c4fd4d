-- By what the words ask.
use Rattle.std.proofs.Common.{◌≡◌, ◌∙◌, Some, None, ap, refl, sym, subst, option_map, rules}
use Rattle.frang_top.specs.declared.outcome.Outcome.TheVariants as ends
use Rattle.frang_top.specs.Top.{HasDone, LeavesOthers}
use Rattle.std.specs.Prelude.{map, string_bytes}
use Rattle.command_words.specs.Commands.{asked_by}
use Rattle.command_words.specs.Views.{asked_of}
use Rattle.frang_top.proofs.Wanting.{nothing_written, wants}
use Rattle.frang_top.proofs.top.answer.Goals as goal

pub returns-in-Ok-Some-clause-done : goal.returns-in-Ok-Some-clause-done
returns-in-Ok-Some-clause-done g c =
    let some : c.in-Ok-Some.field-0 ≡ Some c.in-Ok-Some.command = search rules in
    subst (λ asked. HasDone asked (g.F.Files.state c.args.files.now) (g.F.Files.state c.do_asked.new.files) (g.O.Outside.state c.args.out) (g.O.Outside.state c.do_asked.result.1) c.do_asked.result.0)
    (ap (option_map asked_of) (sym some) ∙ c.in-Ok-Some.ensures.is) c.do_asked.ensures.done

pub returns-in-Ok-Some-clause-files : goal.returns-in-Ok-Some-clause-files
returns-in-Ok-Some-clause-files g c =
    let some : c.in-Ok-Some.field-0 ≡ Some c.in-Ok-Some.command = search rules in
    subst (λ asked. LeavesOthers asked (g.F.Files.state c.args.files.now).holds (g.F.Files.state c.do_asked.new.files).holds) (ap (option_map asked_of) (sym some) ∙ c.in-Ok-Some.ensures.is) c.do_asked.ensures.files

pub returns-in-Ok-None-clause-done : goal.returns-in-Ok-None-clause-done
returns-in-Ok-None-clause-done g c =
    let none : c.in-Ok-None.field-0 ≡ None = search rules in
    subst (λ asked. HasDone asked (g.F.Files.state c.args.files.now) (g.F.Files.state c.args.files.now) (g.O.Outside.state c.args.out) (g.O.Outside.state c.args.out) ends.BadWords)
    (ap (option_map asked_of) (sym none) ∙ c.in-Ok-None.ensures.is) (tt, refl)

pub returns-in-Ok-None-clause-files : goal.returns-in-Ok-None-clause-files
returns-in-Ok-None-clause-files g c = nothing_written (asked_by (map string_bytes c.args.words.now)) (g.F.Files.state c.args.files.now).holds

pub returns-in-Err-clause-done : goal.returns-in-Err-clause-done
returns-in-Err-clause-done g c = wants (asked_by (map string_bytes c.args.words.now)) (g.F.Files.state c.args.files.now) (g.O.Outside.state c.args.out) c.requires.fresh

pub returns-in-Err-clause-files : goal.returns-in-Err-clause-files
returns-in-Err-clause-files g c = nothing_written (asked_by (map string_bytes c.args.words.now)) (g.F.Files.state c.args.files.now).holds
