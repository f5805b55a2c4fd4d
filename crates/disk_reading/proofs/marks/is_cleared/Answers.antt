-- By the state of the block.
use Rattle.std.proofs.Common.{sym, ◌∙◌, ap}
use Rattle.standing_laws.specs.Soundness.{is_cleared}
use Rattle.disk_reading.specs.Seen.{store_in, use_of_state}
use Rattle.disk_reading.proofs.marks.is_cleared.Goals as goal

pub returns-in-FormerDirectory : goal.returns-in-FormerDirectory
returns-in-FormerDirectory c = c.has_no_entries.ensures ∙ sym (ap (λ u. is_cleared (store_in c.args.segments c.args.disk.now) c.args.block (use_of_state u)) c.in-FormerDirectory.is)
