-- At the end all lines were looked at.
use Rattle.std.proofs.Common.{arith}
use Rattle.script_places.proofs.Placing.{first_whole}
use Rattle.script_places.proofs.scan.first_places.Goals as goal

pub returns-clause-first : goal.returns-clause-first
returns-clause-first c = first_whole c.loop-at.places.items c.loop-at.at c.args.lines.now (omega (arith, c.loop-at-test.false)) c.loop-at.invariant.first
