-- One of the sectors that are left is this one where one of all is.
use Rattle.std.proofs.Common.{◌≡◌, drop}
use Rattle.set_definitions.specs.Seen.{is_seen}
use Rattle.lock_sets.specs.Seen.{seen_as}
use Rattle.lock_sets.proofs.seen.is_among.Given as goal

abbrev pub invariant-loop-one : goal.invariant-loop-one
invariant-loop-one l = is_seen (seen_as (drop l.one-index l.seen)) l.sector.0 ≡ is_seen (seen_as l.seen) l.sector.0
