-- By induction on the sectors, and on the path.
use Rattle.plan_laws.proofs.Searching.{search_finds_the_least}
use Rattle.plan_laws.proofs.Walking.{walks_lead}
use Rattle.plan_laws.proofs.meeting.walks_lead_as_the_tree_does.Goals as goal

pub returns-clause-search : goal.returns-clause-search
returns-clause-search c = search_finds_the_least

pub returns-clause-walks : goal.returns-clause-walks
returns-clause-walks c = walks_lead
