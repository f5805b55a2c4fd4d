-- Plan by plan.
use Rattle.plan_laws.proofs.AllLooked.{edits_are_looked_at}
use Rattle.plan_laws.proofs.looks.edits_are_looked_at.Goals as goal

pub returns : goal.returns
returns c = record { looked = edits_are_looked_at }
