-- A line feed ends the line that stands before it, or shows that it is none.
use Rattle.std.proofs.Common.{◌≡◌, ◌==◌, ◌+◌, true, ◌∙◌, ap, subst, arith}
use Rattle.std.proofs.lemmas.Bool.Decides.{nat_tests}
use Rattle.script_definitions.specs.SaidReading.{said_of}
use Rattle.said_files.specs.Reading.{Shows, behind, saids_from}
use Rattle.said_files.proofs.Lines.{line_ends}
use Rattle.said_files.proofs.reading.take_byte.Goals as goal

pub returns-clause-takes : goal.returns-clause-takes
returns-clause-takes c = λ bytes.
    let old = c.args.saids.now.items in
    let new = c.push_line.new.saids.items in
    let feed : (c.args.byte == 10) ≡ true = grind (arith, nat_tests) in
    let shows = subst (λ t. Shows (said_of t) old new) (c.deref.ensures.value ∙ c.in_ok-push.ensures.items) c.in_ok-push_line.ensures in
    ap (λ t. behind new (saids_from (c.args.line + 1) t bytes)) c.clear.ensures.items
    ∙ line_ends old new c.args.line c.args.text.now.items c.args.byte bytes feed shows
