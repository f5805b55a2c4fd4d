-- By the name and the rows of the command that was met.
use Rattle.std.proofs.Common.{◌∙◌, sym, ap}
use Rattle.clap.specs.Words.{found_of, rows_of}
use Rattle.command_words.specs.Commands.{asked_with}
use Rattle.command_line.specs.Line.{asked_entered}
use Rattle.command_line.proofs.Whole.{pair_entered}
use Rattle.command_line.proofs.matches.asked_in.Goals as goal

pub returns-clause-is : goal.returns-clause-is
returns-clause-is c =
    let name = c.in_ok-name.name.now in
    c.asked_with.ensures.is ∙ ap (asked_with name) c.given_in.ensures
    ∙ sym (ap asked_entered (pair_entered c.args.matches.now name (rows_of (found_of c.in_ok-name.behind.now)) c.in_ok-name.ensures.name c.in_ok-name.ensures.rows))
