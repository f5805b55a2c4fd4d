-- The sectors stand for the tree of the history, and the replayed disk for the tree that is left.
use Rattle.std.proofs.Common.{ℕ, zero, suc, ◌≢◌, Bool, List, [], ◌∷◌, sym, subst}
use Rattle.std.proofs.Math.Path.{fun_ext}
use Rattle.sector_bytes.specs.Blocks.{Block}
use Rattle.sector_world.specs.Histories.{Commit, Item, settled, survives, kept, logical, Each}
use Rattle.sector_world.specs.Histories.Item.{Done, Doubt}
use Rattle.sector_world.specs.Plans.{Plan, outcome_of, Legal}
use Rattle.frang_base.proofs.Basics.{by_keep}
use Rattle.sector_world.proofs.HistoryLaws.{each_kept}
use Rattle.sector_world.specs.World.{World}
use Rattle.sector_world.specs.Steps.{Event, after, Run}
use Rattle.sector_world.specs.Steps.Event.{Tick, Leave, Fail, Renew, Mount, Unmount, Take, Give, Lower, Do, Reach, Ack, Sync, Reclaim, Crash, Begin, Look, Finish, Fetch, Issue, Replay, Land, Fade, Break, BreakNew, FetchBytes, Clear, IssueBytes, LandBytes, FadeBytes, BreakBytes, BreakBytesNew, Settle}
use Rattle.sector_world.specs.Steps.Run.{stays, goes}
use Rattle.sector_world.specs.Kinds.{Good}
use Rattle.sector_world.specs.Claims.{left}
use Rattle.sector_world.specs.Planned.{IsLegal}
use Rattle.sector_world.specs.Trees.{Apply, MeetsTree, Meets, NewIf, AreNew, Distinct, tree_of, Answers, Stand}
use Rattle.sector_world.proofs.Left.{by_phase}
use Rattle.sector_world.proofs.Holding.{with_versions_is}

distinct_kept : {Tree : Type 0} (fresh : ℕ → Tree → Type 0) (first : Tree) (keep : Commit → Bool) (h : List Item) → Distinct fresh first h → Distinct fresh first (kept keep h)
distinct_kept fresh first keep [] d = tt
distinct_kept fresh first keep (Done c ∷ h) d =
    by_keep (Distinct fresh first) (keep c) (Done c) (kept keep h)
    (λ e. (d.0, each_kept (λ x. x.op ≢ c.op) keep h d.1, distinct_kept fresh first keep h d.2))
    (λ e. distinct_kept fresh first keep h d.2)
distinct_kept fresh first keep (Doubt m ∷ h) d = distinct_kept fresh first keep h d

distinct_left : {Tree : Type 0} (fresh : ℕ → Tree → Type 0) (first : Tree) (w : World) → Distinct fresh first (settled w.history) → (n : ℕ) → Distinct fresh first (left w n)
distinct_left fresh first w d zero = d
distinct_left fresh first w d (suc n) =
    by_phase (Distinct fresh first) (w.phase n) n (w.durable n) (w.synced n) (left w n)
    (λ off. distinct_left fresh first w d n) (distinct_kept fresh first (survives n (w.durable n)) (left w n) (distinct_left fresh first w d n))

pub distinct_step : {Tree : Type 0} (fresh : ℕ → Tree → Type 0) (first : Tree) (w : World) (e : Event) → NewIf Tree fresh first w e → Distinct fresh first (settled w.history) → Distinct fresh first (settled (after w e).history)
distinct_step fresh first w (Do c) n d = (n.unused, n.others, d)
distinct_step fresh first w (Finish r) n d = distinct_kept fresh first (survives r.dead (w.durable r.dead)) (settled w.history) d
distinct_step fresh first w Tick n d = d
distinct_step fresh first w Leave n d = d
distinct_step fresh first w (Fail a) n d = d
distinct_step fresh first w (Renew a) n d = d
distinct_step fresh first w (Mount a) n d = d
distinct_step fresh first w (Unmount a) n d = d
distinct_step fresh first w (Take a l mode) n d = d
distinct_step fresh first w (Give a l) n d = d
distinct_step fresh first w (Lower a l) n d = d
distinct_step fresh first w (Reach e k) n d = d
distinct_step fresh first w (Ack a k) n d = d
distinct_step fresh first w (Sync a) n d = d
distinct_step fresh first w (Reclaim a k) n d = d
distinct_step fresh first w (Crash a) n d = d
distinct_step fresh first w (Begin e b) n d = d
distinct_step fresh first w (Look r s) n d = d
distinct_step fresh first w (Fetch a s) n d = d
distinct_step fresh first w (Issue a s block mark) n d = d
distinct_step fresh first w (Replay r s block) n d = d
distinct_step fresh first w (Land s f) n d = d
distinct_step fresh first w (Fade s f) n d = d
distinct_step fresh first w (Break s f) n d = d
distinct_step fresh first w (BreakNew s f) n d = d
distinct_step fresh first w (FetchBytes a s) n d = d
distinct_step fresh first w (Clear a s) n d = d
distinct_step fresh first w (IssueBytes a s block mark) n d = d
distinct_step fresh first w (LandBytes s f) n d = d
distinct_step fresh first w (FadeBytes s f) n d = d
distinct_step fresh first w (BreakBytes s f) n d = d
distinct_step fresh first w (BreakBytesNew s f) n d = d
distinct_step fresh first w (Settle a s block mark) n d = d

pub distinct_run : {Tree : Type 0} (fresh : ℕ → Tree → Type 0) (first : Tree) (w : World) (events : List Event) (v : World) → Run w events v → AreNew Tree fresh first w events → Distinct fresh first (settled w.history) → Distinct fresh first (settled v.history)
distinct_run fresh first w [] v stays n d = d
distinct_run fresh first w (e ∷ es) v (goes can r) n d = distinct_run fresh first (after w e) es v r n.1 (distinct_step fresh first w e n.0 d)

module _ {Tree : Type 0} (plan : Plan) (stands : (ℕ → Block) → Tree → Type 0) (apply : Apply Tree) (fresh : ℕ → Tree → Type 0) (meets : MeetsTree Tree plan stands apply fresh)
    (opening : ℕ → Block) (first : Tree) (begins : stands opening first) where
  -- a number that no operation has is new to the tree of the history, and the sectors stand for that tree
  both : (h : List Item) → Legal plan opening h → Distinct fresh first h
      → stands (logical opening h) (tree_of apply first h) × ((m : ℕ) → Each (λ e. e.op ≢ m) h → fresh m first → fresh m (tree_of apply first h))
  both [] l d = (begins, (λ m e f. f))
  both (Doubt m ∷ h) l d = both h l d
  both (Done c ∷ h) l d =
      let r = both h l.1 d.2 in
      let new : fresh c.op (tree_of apply first h) = r.1 c.op d.1 d.0 in
      let q : Meets Tree stands apply fresh c.op c.asked (tree_of apply first h) (logical opening h) (outcome_of c) = meets c.hint c.op c.asked (tree_of apply first h) (logical opening h) (outcome_of c) r.0 new l.0 in
      (q.next, (λ m e f. q.others m (λ i. e.0 (sym i)) (r.1 m e.1 f)))

  answers : (h : List Item) → Legal plan opening h → Distinct fresh first h → Answers apply first h
  answers [] l d = tt
  answers (Doubt m ∷ h) l d = answers h l d
  answers (Done c ∷ h) l d =
      let r = both h l.1 d.2 in
      let q : Meets Tree stands apply fresh c.op c.asked (tree_of apply first h) (logical opening h) (outcome_of c) = meets c.hint c.op c.asked (tree_of apply first h) (logical opening h) (outcome_of c) r.0 (r.1 c.op d.1 d.0) l.0 in
      (q.answer, answers h l.1 d.2)

pub stand_good : {Tree : Type 0} (plan : Plan) (stands : (ℕ → Block) → Tree → Type 0) (apply : Apply Tree) (fresh : ℕ → Tree → Type 0) → MeetsTree Tree plan stands apply fresh
    → (first : Tree) (w : World) → stands w.opening first → IsLegal plan w → Distinct fresh first (settled w.history) → Good w → Stand Tree stands apply first w
stand_good plan stands apply fresh meets first w begins l d g = record {
  answers = answers plan stands apply fresh meets w.opening first begins (settled w.history) l.live d;
  left_answers = answers plan stands apply fresh meets w.opening first begins (left w w.servers) l.left (distinct_left fresh first w d w.servers);
  now = (both plan stands apply fresh meets w.opening first begins (settled w.history) l.live d).0;
  replay = subst (λ x. stands x (tree_of apply first (left w w.servers))) (sym (fun_ext (with_versions_is w g)))
      (both plan stands apply fresh meets w.opening first begins (left w w.servers) l.left (distinct_left fresh first w d w.servers)).0;
}
