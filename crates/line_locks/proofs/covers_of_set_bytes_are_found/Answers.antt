-- Edit by edit.
use Rattle.line_locks.proofs.SetCovers.{set_covers_are_true}
use Rattle.line_locks.proofs.covers_of_set_bytes_are_found.Goals as goal

pub returns : goal.returns
returns c = record { covers = set_covers_are_true }
