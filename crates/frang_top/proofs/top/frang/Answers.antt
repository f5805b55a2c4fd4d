-- By what was done, whatever the words ask.
use Rattle.std.proofs.Common.{map, sym, subst}
use Rattle.std.specs.Prelude.{string_bytes}
use Rattle.frang_soak.specs.Scripts.{soak_script}
use Rattle.quiet_outside.specs.KeptLines.{first_over}
use Rattle.run_commands.specs.Soaking.{soak_beginning}
use Rattle.frang_top.specs.Top.{IsComplete, IsCompleteOnImage, IsCompleteSoak}
use Rattle.frang_top.proofs.Completeness.{complete, complete_on_image, complete_soak}
use Rattle.frang_top.proofs.top.frang.Goals as goal

pub returns-clause-complete : goal.returns-clause-complete
returns-clause-complete g c =
    subst (IsComplete (map string_bytes c.args.words.now) (g.F.Files.state c.args.files.now) (g.F.Files.state c.answer-outcome.new.files) (g.O.Outside.state c.args.out) (g.O.Outside.state c.answer-outcome.result.1)) (sym c.status_of.ensures)
    (complete (map string_bytes c.args.words.now) (g.F.Files.state c.args.files.now) (g.F.Files.state c.answer-outcome.new.files) (g.O.Outside.state c.args.out) (g.O.Outside.state c.answer-outcome.result.1) c.answer-outcome.result.0 c.answer-outcome.ensures.done)

pub returns-clause-whole : goal.returns-clause-whole
returns-clause-whole g c =
    subst (IsCompleteOnImage (map string_bytes c.args.words.now) (g.F.Files.state c.args.files.now) (g.F.Files.state c.answer-outcome.new.files) (g.O.Outside.state c.args.out) (g.O.Outside.state c.answer-outcome.result.1)) (sym c.status_of.ensures)
    (complete_on_image (map string_bytes c.args.words.now) (g.F.Files.state c.args.files.now) (g.F.Files.state c.answer-outcome.new.files) (g.O.Outside.state c.args.out) (g.O.Outside.state c.answer-outcome.result.1) c.answer-outcome.result.0 c.answer-outcome.ensures.done)

pub returns-clause-soaked : goal.returns-clause-soaked
returns-clause-soaked g c =
    subst (IsCompleteSoak (map string_bytes c.args.words.now) (g.F.Files.state c.args.files.now) (g.F.Files.state c.answer-outcome.new.files) (g.O.Outside.state c.args.out) (g.O.Outside.state c.answer-outcome.result.1)) (sym c.status_of.ensures)
    (complete_soak (map string_bytes c.args.words.now) (g.F.Files.state c.args.files.now) (g.F.Files.state c.answer-outcome.new.files) (g.O.Outside.state c.args.out) (g.O.Outside.state c.answer-outcome.result.1) c.answer-outcome.result.0 c.answer-outcome.ensures.done)

pub returns-clause-lawful : goal.returns-clause-lawful
returns-clause-lawful g c =
    let out = g.O.Outside.state c.args.out in
    record {
      runs = λ bytes script from is. c.what_is_left_is_lawful.ensures script from out (g.O.Outside.state c.answer-outcome.result.1) (c.read_scripts_are_numbered.ensures.numbered bytes script is);
      soaks = λ number quiet. c.what_is_left_is_lawful.ensures (soak_script number) soak_beginning (first_over out 0) quiet (c.soak_scripts_are_numbered.ensures.numbered number);
    }
