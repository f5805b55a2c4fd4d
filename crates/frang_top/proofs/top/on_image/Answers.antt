-- By the end of the command.
use Rattle.std.proofs.Common.{refl}
use Rattle.frang_top.proofs.top.on_image.Goals as goal

pub returns-clause-done : goal.returns-clause-done
returns-clause-done g c = record {
  ended = c.do_command-ended.result;
  status_is = refl;
  cause = c.do_command-ended.ensures.ends;
  leaves = c.do_command-ended.ensures.files;
}
