-- Zeros in the cache.
use Rattle.core_commits.proofs.Zeroing.{starts_have_no_pages, events_keep_zeros, runs_keep_zeros, free_sectors_are_zeros}
use Rattle.core_commits.proofs.zeros.free_sectors_stay_zeros.Goals as goal

pub returns : goal.returns
returns c = record { start = starts_have_no_pages; events = events_keep_zeros; runs = runs_keep_zeros; cached = free_sectors_are_zeros }
