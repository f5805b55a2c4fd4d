-- All from the body's place on.
use Rattle.std.proofs.Common.{arith, ◌∙◌}
use Rattle.std.proofs.lemmas.Slice.{between_to_end}
use Rattle.log_record.proofs.sector.body_of.Goals as goal

pub returns : goal.returns
returns c = c.copy_from_slice.ensures.after ∙ between_to_end c.args.b.now 24 512 (omega arith)
