-- What a stop leaves, by what stands of the logs.
use Rattle.core_world.specs.Steps.{IsReached}
use Rattle.headline_histories.specs.Left.{MomentsKeepWhatIsLeft}
use Rattle.headline_histories.specs.Replays.{MomentsKeepWhatLogsLeave, OthersStayEmpty, ReplaysAreAsTheWorlds}

pub logs_leave : MomentsKeepWhatIsLeft → ReplaysAreAsTheWorlds → OthersStayEmpty → MomentsKeepWhatLogsLeave
logs_leave left same others b s w journal when numbers m world logs behind regions keep =
    left b s w when numbers m keep (same s w journal reached world m.good m.sixteen logs behind (others b s m.begins m.run) regions)
  where
    reached : IsReached s
    reached = record { bytes = m.begins.bytes; script = b.script; read = m.begins.script; segments = b.opening.tree.segments; number = b.opening.run; disk = b.disk; run = m.run }
