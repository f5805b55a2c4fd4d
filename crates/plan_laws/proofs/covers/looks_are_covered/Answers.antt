-- Plan by plan.
use Rattle.plan_laws.proofs.AllFine.{looks_are_covered}
use Rattle.plan_laws.proofs.covers.looks_are_covered.Goals as goal

pub returns : goal.returns
returns c = record { covered = looks_are_covered }
