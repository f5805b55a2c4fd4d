-- Events that do nothing and clear nothing: what stands beside a world along runs stays by these with no word more.
use Rattle.std.specs.Prelude.{◌≡◌, ◌≤◌, ℕ, false, List, [], ◌∷◌, ◌++◌}
use Rattle.sector_world.specs.Steps.{Event, Run, after}
use Rattle.sector_world.specs.Steps.Event.{Ack, Clear, Do, Issue, IssueBytes, Replay}
use Rattle.sector_world.specs.World.{World}
use Rattle.core_world.specs.Beside.{IsOutOfLogs, KnowsMore}
use Rattle.core_world.specs.Ties.{is_log_sector}

-- no operation is done and nothing is cleared; what is issued lies in no log; and no log is known less
abbrev pub IsQuiet : ℕ → World → Event → Type 0
IsQuiet segments w (Do c) = ⊥
IsQuiet segments w (Clear a s) = ⊥
IsQuiet segments w (Issue a s block mark) = is_log_sector segments s ≡ false
IsQuiet segments w (IssueBytes a s block mark) = is_log_sector segments s ≡ false
IsQuiet segments w (Replay r s block) = is_log_sector segments s ≡ false
IsQuiet segments w (Ack a k) = w.acked a ≤ k
IsQuiet segments w event = Unit {0}

-- each of these where it happens, one after the other from this world on
abbrev pub AllQuiet : ℕ → World → List Event → Type 0
AllQuiet segments w [] = Unit {0}
AllQuiet segments w (event ∷ events) = IsQuiet segments w event × AllQuiet segments (after w event) events

-- so what one of them issues lies in no log, and by it no log is known less
abbrev pub QuietEventsLeaveLogs : Type 0
QuietEventsLeaveLogs = (segments : ℕ) (w : World) (event : Event) → IsQuiet segments w event → IsOutOfLogs segments event × KnowsMore w event

-- and one quiet run behind another is quiet
abbrev pub QuietRunsGoOn : Type 0
QuietRunsGoOn =
    (segments : ℕ) (w u : World) (events others : List Event) → Run w events u → AllQuiet segments w events → AllQuiet segments u others → AllQuiet segments w (events ++ others)
