-- Law by law.
use Rattle.stop_laws.proofs.Framed.{replies_framed}
use Rattle.stop_laws.proofs.Replying.{replies_stay, replies_stay_at_stops}
use Rattle.stop_laws.proofs.at_stops.replies_stay_after_removals.Goals as goal

pub returns : goal.returns
returns c = record { looked = replies_framed; settled = replies_stay; stopped = replies_stay_at_stops }
