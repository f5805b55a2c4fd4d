use Rattle.std.proofs.Common.{take}
use Rattle.frang_outside.specs.Outside.{Follows}
use Rattle.image_commands.specs.Saying.{Says}
use Rattle.image_commands.proofs.say.say_all.Given as goal

abbrev pub invariant-loop-i : goal.invariant-loop-i
invariant-loop-i g l = record {
  counts : Follows (g.O.Outside.state l.fn.out) (g.O.Outside.state l.out);
  says : Says (g.O.Outside.state l.out).acts (take l.i l.lines);
}
