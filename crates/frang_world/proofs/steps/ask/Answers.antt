-- Where there is room it doesn't want memory.
use Rattle.std.proofs.lemmas.Bool.{false≢true}
use Rattle.frang_world.proofs.steps.ask.Goals as goal

pub unreachable-requires : goal.unreachable-requires
unreachable-requires c = false≢true (c.in-Err.ensures.sure c.requires.room)
