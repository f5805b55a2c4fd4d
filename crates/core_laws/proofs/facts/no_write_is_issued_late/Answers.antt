-- By the guard of Issue.
use Rattle.std.proofs.lemmas.Bool.{leb-true}
use Rattle.core_definitions.specs.Cores.{stamp_of}
use Rattle.core_laws.proofs.facts.no_write_is_issued_late.Goals as goal

pub returns : goal.returns
returns u = record { early = λ c a sector write can. leb-true c.now (stamp_of c a) can.can.issuable.early }
