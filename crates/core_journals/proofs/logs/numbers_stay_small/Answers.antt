-- By the lines that aren't answered yet.
use Rattle.core_journals.proofs.Bounding.{numbers_stay_small}
use Rattle.core_journals.proofs.Standing.{opened_low, opened_rests}
use Rattle.core_journals.proofs.logs.numbers_stay_small.Goals as goal

pub returns : goal.returns
returns c =
    let ends = c.leases_last.ensures.end in
    let next = c.each_line_is_answered_once.ensures.next in
    let zero = c.the_opening_puts_the_disk.ensures.logs in
    record {
      small = λ script segments run disk a server own few rest small. numbers_stay_small ends next script segments run disk own few a server rest small;
      opening = λ start is own few a server.
          numbers_stay_small ends next start.script start.opening.tree.segments start.opening.run start.disk own few a server (opened_rests zero start is a server) (opened_low zero start is a server);
    }
