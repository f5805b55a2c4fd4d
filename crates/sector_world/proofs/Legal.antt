-- The history stays legal, through all removals.
use Rattle.std.proofs.Common.{◌≡◌, ◌≢◌, List, [], ◌∷◌, refl, ◌∙◌}
use Rattle.sector_bytes.specs.Blocks.{Block}
use Rattle.sector_world.specs.Histories.{Commit, settled, survives}
use Rattle.sector_world.specs.Histories.Item.{Done}
use Rattle.sector_world.specs.Plans.{Plan, outcome_of, IsFramed, Legal}
use Rattle.sector_world.proofs.Plans.{legal_kept}
use Rattle.sector_world.proofs.Seen.{clear_survives}
use Rattle.sector_world.specs.World.{World, Slot}
use Rattle.sector_world.specs.World.Slot.{Absent, Clean, Dirty}
use Rattle.sector_world.specs.Steps.{Event, after, Run}
use Rattle.sector_world.specs.Steps.Event.{Tick, Leave, Fail, Renew, Mount, Unmount, Take, Give, Lower, Do, Reach, Ack, Sync, Reclaim, Crash, Begin, Look, Finish, Fetch, Issue, Replay, Land, Fade, Break, BreakNew, FetchBytes, Clear, IssueBytes, LandBytes, FadeBytes, BreakBytes, BreakBytesNew, Settle}
use Rattle.sector_world.specs.Steps.Run.{stays, goes}
use Rattle.sector_world.specs.Logged.{now_of, IsCopy}
use Rattle.sector_world.specs.Kinds.{Good}
use Rattle.sector_world.specs.Planned.{cached, IsPlanned, PlannedIf, ArePlanned, IsLegal}
use Rattle.sector_world.proofs.Every.{good_step}
use Rattle.sector_world.proofs.Left.{legal_left}

copy_block : (x : Slot) (other block : Block) → x ≢ Absent → IsCopy x block → cached other x ≡ block
copy_block Absent other block n i = absurd (n refl)
copy_block (Clean z) other block n i = i
copy_block (Dirty z mark) other block n i = i

legal_do : (plan : Plan) → IsFramed plan → (w : World) (c : Commit) → IsPlanned plan w c → Good w → Legal plan w.opening (settled w.history) → Legal plan w.opening (Done c ∷ settled w.history)
legal_do plan frame w c p g l = (
  frame c.hint c.op c.asked (λ s. cached (w.opening s) (w.slot c.by s)) (now_of w) (outcome_of c) p.outcome
      (λ s t. copy_block (w.slot c.by s) (w.opening s) (now_of w s) (p.there s t) (g.logged.copies c.by s)),
  l,
)

pub legal_step : (plan : Plan) → IsFramed plan → (w : World) (e : Event) → PlannedIf plan w e → Good w → Legal plan w.opening (settled w.history) → Legal plan (after w e).opening (settled (after w e).history)
legal_step plan frame w (Do c) p g l = legal_do plan frame w c p g l
legal_step plan frame w (Finish r) p g l = legal_kept plan w.opening (survives r.dead (w.durable r.dead)) frame (settled w.history) (clear_survives r.dead (w.durable r.dead) (settled w.history) g.logged.ops (g.logged.unseen r.dead)) l
legal_step plan frame w Tick p g l = l
legal_step plan frame w Leave p g l = l
legal_step plan frame w (Fail a) p g l = l
legal_step plan frame w (Renew a) p g l = l
legal_step plan frame w (Mount a) p g l = l
legal_step plan frame w (Unmount a) p g l = l
legal_step plan frame w (Take a l' mode) p g l = l
legal_step plan frame w (Give a l') p g l = l
legal_step plan frame w (Lower a l') p g l = l
legal_step plan frame w (Reach d k) p g l = l
legal_step plan frame w (Ack a k) p g l = l
legal_step plan frame w (Sync a) p g l = l
legal_step plan frame w (Reclaim a k) p g l = l
legal_step plan frame w (Crash a) p g l = l
legal_step plan frame w (Begin d b) p g l = l
legal_step plan frame w (Look r s) p g l = l
legal_step plan frame w (Fetch a s) p g l = l
legal_step plan frame w (Issue a s block mark) p g l = l
legal_step plan frame w (Replay r s block) p g l = l
legal_step plan frame w (Land s f) p g l = l
legal_step plan frame w (Fade s f) p g l = l
legal_step plan frame w (Break s f) p g l = l
legal_step plan frame w (BreakNew s f) p g l = l
legal_step plan frame w (FetchBytes a s) p g l = l
legal_step plan frame w (Clear a s) p g l = l
legal_step plan frame w (IssueBytes a s block mark) p g l = l
legal_step plan frame w (LandBytes s f) p g l = l
legal_step plan frame w (FadeBytes s f) p g l = l
legal_step plan frame w (BreakBytes s f) p g l = l
legal_step plan frame w (BreakBytesNew s f) p g l = l
legal_step plan frame w (Settle a s block mark) p g l = l

pub legal_run : (plan : Plan) → IsFramed plan → (w : World) (events : List Event) (v : World) → Run w events v → ArePlanned plan w events → Good w → Legal plan w.opening (settled w.history) → Legal plan v.opening (settled v.history)
legal_run plan frame w [] v stays p g l = l
legal_run plan frame w (e ∷ es) v (goes can r) p g l = legal_run plan frame (after w e) es v r p.1 (good_step w e can g) (legal_step plan frame w e p.0 g l)

pub legal_good : (plan : Plan) → IsFramed plan → (w : World) → Good w → Legal plan w.opening (settled w.history) → IsLegal plan w
legal_good plan frame w g l = record { live = l; left = legal_left plan frame w g l w.servers }

opening_step : (w : World) (e : Event) → (after w e).opening ≡ w.opening
opening_step w Tick = refl
opening_step w Leave = refl
opening_step w (Fail a) = refl
opening_step w (Renew a) = refl
opening_step w (Mount a) = refl
opening_step w (Unmount a) = refl
opening_step w (Take a l mode) = refl
opening_step w (Give a l) = refl
opening_step w (Lower a l) = refl
opening_step w (Do c) = refl
opening_step w (Reach d k) = refl
opening_step w (Ack a k) = refl
opening_step w (Sync a) = refl
opening_step w (Reclaim a k) = refl
opening_step w (Crash a) = refl
opening_step w (Begin d b) = refl
opening_step w (Look r s) = refl
opening_step w (Finish r) = refl
opening_step w (Fetch a s) = refl
opening_step w (Issue a s block mark) = refl
opening_step w (Replay r s block) = refl
opening_step w (Land s f) = refl
opening_step w (Fade s f) = refl
opening_step w (Break s f) = refl
opening_step w (BreakNew s f) = refl
opening_step w (FetchBytes a s) = refl
opening_step w (Clear a s) = refl
opening_step w (IssueBytes a s block mark) = refl
opening_step w (LandBytes s f) = refl
opening_step w (FadeBytes s f) = refl
opening_step w (BreakBytes s f) = refl
opening_step w (BreakBytesNew s f) = refl
opening_step w (Settle a s block mark) = refl

-- no event changes what the opening was
pub opening_run : (w : World) (events : List Event) (v : World) → Run w events v → v.opening ≡ w.opening
opening_run w [] v stays = refl
opening_run w (e ∷ es) v (goes can r) = opening_run (after w e) es v r ∙ opening_step w e
