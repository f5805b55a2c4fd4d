-- Lists of events that are quiet, and what each quiet event is beside.
use Rattle.std.proofs.Common.{ℕ, List, [], ◌∷◌}
use Rattle.sector_world.specs.Steps.{Event, after, stays, goes}
use Rattle.sector_world.specs.Steps.Event.{Ack, Issue, IssueBytes, Replay}
use Rattle.sector_world.specs.World.{World}
use Rattle.core_world.specs.Beside.{IsOutOfLogs, KnowsMore}
use Rattle.core_world.specs.Quiet.{IsQuiet, QuietEventsLeaveLogs, QuietRunsGoOn}

-- one list behind another
pub quiet_both : QuietRunsGoOn
quiet_both segments w u [] fs stays q r = r
quiet_both segments w u (e ∷ es) fs (goes can run) q r = (q.0, quiet_both segments (after w e) u es fs run q.1 r)

-- what a quiet event issues lies in no log
pub quiet_out : (segments : ℕ) (w : World) (e : Event) → IsQuiet segments w e → IsOutOfLogs segments e
quiet_out segments w (Issue a s block mark) q = q
quiet_out segments w (IssueBytes a s block mark) q = q
quiet_out segments w (Replay r s block) q = q
quiet_out segments w e q = tt

-- and by none a log is known less
pub quiet_knows : (segments : ℕ) (w : World) (e : Event) → IsQuiet segments w e → KnowsMore w e
quiet_knows segments w (Ack a k) q = q
quiet_knows segments w e q = tt

pub quiet_leaves : QuietEventsLeaveLogs
quiet_leaves segments w e q = (quiet_out segments w e q, quiet_knows segments w e q)
