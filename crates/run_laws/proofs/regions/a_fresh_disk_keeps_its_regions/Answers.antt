-- By the three puts, and by the law on runs.
use Rattle.run_laws.proofs.Elsewhere.{fresh_on_disk, others_zero}
use Rattle.run_laws.proofs.regions.a_fresh_disk_keeps_its_regions.Goals as goal

pub returns : goal.returns
returns c = record { puts = fresh_on_disk; others = others_zero }
