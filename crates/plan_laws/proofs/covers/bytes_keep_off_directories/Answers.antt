-- By the edits of each plan.
use Rattle.plan_laws.proofs.AllFine.{bytes_keep_off}
use Rattle.plan_laws.proofs.covers.bytes_keep_off_directories.Goals as goal

pub returns : goal.returns
returns c = record { off = bytes_keep_off }
