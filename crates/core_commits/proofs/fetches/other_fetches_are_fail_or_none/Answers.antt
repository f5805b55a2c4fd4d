-- Failures and mounts.
use Rattle.core_commits.proofs.Fetching.{failed_fetches_are_events, mounts_fetch_none}
use Rattle.core_commits.proofs.fetches.other_fetches_are_fail_or_none.Goals as goal

pub returns : goal.returns
returns c = record { fail = failed_fetches_are_events; mount = mounts_fetch_none }
