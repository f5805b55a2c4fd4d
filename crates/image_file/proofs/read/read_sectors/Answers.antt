use Rattle.std.proofs.Common.{sym, arith}
use Rattle.image_file.specs.Entries.{entry_of}
use Rattle.image_file.proofs.ReadingEntries.{first_flaw_turn}
use Rattle.image_file.proofs.read.read_sectors.Goals as goal

pub returns-in-Err : goal.returns-in-Err
returns-in-Err c =
    rw c.refusal-in-Err.ensures
    (first_flaw_turn c.args.count c.args.bytes.now (entry_of c.in-Some.first) c.in-Some.rest.now c.in-Err.flaw (omega arith) (sym c.in-Some.ensures) c.in-Err.ensures.found)
