use Rattle.std.proofs.Common.{◌≡◌, ◌++◌, ◌∷◌, []}
use Rattle.frang_base.specs.declared.said.Said.TheVariants as said
use Rattle.frang_outside.specs.Outside.{Follows}
use Rattle.image_commands.proofs.SayLaws.{Reached}
use Rattle.image_commands.proofs.say.say_left.Given as goal

abbrev pub invariant-loop-count : goal.invariant-loop-count
invariant-loop-count g l = record {
  counts : Follows (g.O.Outside.state l.fn.out) (g.O.Outside.state l.out);
  reached : Reached (g.O.Outside.state l.out).acts (l.before ++ l.fn.lines ++ said.End ∷ []) l.count l.lines;
}
