-- Parameters have 1 to 64 segments.
use Rattle.std.proofs.Common.{sym, ◌∙◌}
use Rattle.image_file.proofs.Bounds.{has_segments}
use Rattle.image_file.proofs.entry.first_param.Goals as goal

pub returns-in-Some-clause-segments : goal.returns-in-Some-clause-segments
returns-in-Some-clause-segments c = has_segments c.args.first.now.block.now c.in-Some.param (sym c.decode.ensures ∙ c.in-Some.is)
