-- Fetch.
use Rattle.core_commits.proofs.Fetching.{fetches_are_events}
use Rattle.core_commits.proofs.fetches.fetches_are_events.Goals as goal

pub returns : goal.returns
returns c = record { fetch = fetches_are_events }
