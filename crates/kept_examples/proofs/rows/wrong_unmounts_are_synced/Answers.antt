-- The row.
use Rattle.kept_examples.proofs.WrongRules.{unmount_wrong}
use Rattle.kept_examples.proofs.rows.wrong_unmounts_are_synced.Goals as goal

pub returns : goal.returns
returns c = record { unmount = unmount_wrong }
