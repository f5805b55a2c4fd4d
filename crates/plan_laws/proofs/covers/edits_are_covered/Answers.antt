-- Plan by plan.
use Rattle.plan_laws.proofs.AllFine.{edits_are_covered}
use Rattle.plan_laws.proofs.covers.edits_are_covered.Goals as goal

pub returns : goal.returns
returns c = record { covered = edits_are_covered }
