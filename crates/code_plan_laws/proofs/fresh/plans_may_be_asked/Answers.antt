-- A fresh disk.
use Rattle.code_plan_laws.proofs.FreshStanding.{fresh_stands}
use Rattle.code_plan_laws.proofs.Asked.{fresh_is_asked, fresh_is_at_hand}
use Rattle.code_plan_laws.proofs.fresh.plans_may_be_asked.Goals as goal

pub returns-clause-stands : goal.returns-clause-stands
returns-clause-stands c = fresh_stands

pub returns-clause-asked : goal.returns-clause-asked
returns-clause-asked c = fresh_is_asked

pub returns-clause-at_hand : goal.returns-clause-at_hand
returns-clause-at_hand c = fresh_is_at_hand
