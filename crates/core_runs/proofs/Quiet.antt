-- What quiet events of the theorem on sectors keep of a world, one after the other.
use Rattle.std.proofs.Common.{◌≡◌, ◌≤◌, ℕ, ◌⊎◌, inl, inr, Bool, true, false, IsTrue, List, [], ◌∷◌, None, nat_le, nat_lt, sym, subst, arith}
use Rattle.frang_base.specs.Functions.{keep_if, put}
use Rattle.frang_base.specs.declared.change.Redo.{Redo}
use Rattle.frang_base.proofs.Basics.{at_put}
use Rattle.sector_bytes.specs.Replays.{above, change_at, up_to}
use Rattle.tree_definitions.specs.Tree.{FileTree}
use Rattle.disk_definitions.specs.Regions.{region_of}
use Rattle.disk_definitions.specs.Replay.{is_replayed}
use Rattle.line_histories.specs.Guards.{LinePlansAreFramed}
use Rattle.line_histories.specs.LinePlans.{sector_plan}
use Rattle.line_histories.specs.Trees.{MayNumber}
use Rattle.sector_world.specs.Guards.{NoneNames}
use Rattle.sector_world.specs.Histories.{Commit, Each, settled, survives}
use Rattle.sector_world.specs.Kinds.{Good}
use Rattle.sector_world.specs.Planned.{PlannedIf}
use Rattle.sector_world.specs.Plans.{IsFramed, Legal, Plan}
use Rattle.sector_world.specs.Steps.{Can, Event, Run, after}
use Rattle.sector_world.specs.Steps.Event.{Tick, Leave, Fail, Renew, Mount, Unmount, Take, Give, Lower, Do, Reach, Ack, Sync, Reclaim, Crash, Begin, Look, Finish, Fetch, Issue, Replay, Land, Fade, Break, BreakNew, FetchBytes, Clear, IssueBytes, LandBytes, FadeBytes, BreakBytes, BreakBytesNew, Settle}
use Rattle.sector_world.specs.Steps.Run.{stays, goes}
use Rattle.sector_world.specs.Trees.{Distinct, NewIf}
use Rattle.sector_world.specs.World.{World}
use Rattle.sector_world.proofs.HistoryLaws.{each_kept}
use Rattle.sector_world.proofs.Trees.{distinct_step}
use Rattle.core_commits.specs.Zeros.{EventsKeepZeros, FreePagesAreZeros}
use Rattle.core_recoveries.specs.Reads.{AreReplayed}
use Rattle.core_recoveries.specs.Seals.{NoneInLogsStay}
use Rattle.core_world.specs.Beside.{NoneInLogs}
use Rattle.core_world.specs.Quiet.{AllQuiet, IsQuiet, QuietEventsLeaveLogs}
use Rattle.core_writes.specs.Acknowledged.{AcknowledgedStay}
use Rattle.core_writes.specs.Arrivals.{AreAcknowledged}
use Rattle.stop_laws.specs.Events.{EventsKeepSight, IsInSight}
use Rattle.core_runs.specs.Kept.{NameRegions}

-- ---- the laws of one event

-- every event keeps what is good, and planned ones keep a history legal
abbrev pub EventsStayGood : Type 0
EventsStayGood = (w : World) (e : Event) → Can w e → Good w → Good (after w e)

abbrev pub EventsStayLegal : Type 0
EventsStayLegal =
    (plan : Plan) → IsFramed plan → (w : World) (e : Event) → PlannedIf plan w e → Good w → Legal plan w.opening (settled w.history) → Legal plan (after w e).opening (settled (after w e).history)

pub record Laws : Type 0 where
  pub good : EventsStayGood
  pub legal : EventsStayLegal
  pub framed : LinePlansAreFramed
  pub zeros : EventsKeepZeros
  pub sight : EventsKeepSight
  pub leave : QuietEventsLeaveLogs
  pub none : NoneInLogsStay
  pub acknowledged : AcknowledgedStay

-- ---- what is kept

pub record IsSound (segments : ℕ) (when : ℕ → ℕ) (first_tree : FileTree) (numbers : List ℕ) (w : World) : Type 0 where
  pub good : Good w
  pub legal : Legal (sector_plan segments when) w.opening (settled w.history)
  pub distinct : Distinct (MayNumber numbers) first_tree (settled w.history)
  pub zeros : FreePagesAreZeros w
  pub sight : IsInSight w
  pub none : NoneInLogs segments w
  pub acknowledged : AreAcknowledged w
  pub regions : NameRegions segments w

-- no last number rises, and this goes on to hold of each operation that is settled
pub record IsBehind (P : Commit → Type 0) (w u : World) : Type 0 where
  pub last : (a : ℕ) → u.last a ≤ w.last a
  pub each : Each P (settled w.history) → Each P (settled u.history)

-- ---- records

none_kept : (b : Bool) (r : Redo) (rs : List Redo) (s : ℕ) → change_at r.changes s ≡ None → NoneNames rs s → NoneNames (keep_if b r rs) s
none_kept true r rs s e n = (e, n)
none_kept false r rs s e n = n

none_above : (k s : ℕ) (rs : List Redo) → NoneNames rs s → NoneNames (above k rs) s
none_above k s [] n = tt
none_above k s (r ∷ rs) n = none_kept (nat_lt k r.op.0) r (above k rs) s n.0 (none_above k s rs n.1)

none_up_to : (k s : ℕ) (rs : List Redo) → NoneNames rs s → NoneNames (up_to k rs) s
none_up_to k s [] n = tt
none_up_to k s (r ∷ rs) n = none_kept (nat_le r.op.0 k) r (up_to k rs) s n.0 (none_up_to k s rs n.1)

either : (segments s : ℕ) (rs qs : List Redo) → (NoneNames rs s → NoneNames qs s) → NoneNames rs s ⊎ IsTrue (is_replayed (region_of segments s)) →
    NoneNames qs s ⊎ IsTrue (is_replayed (region_of segments s))
either segments s rs qs f (inl n) = inl (f n)
either segments s rs qs f (inr r) = inr r

-- so what is to be replayed is of such regions
pub are_replayed : (segments : ℕ) (w : World) → NameRegions segments w → (d : ℕ) → AreReplayed segments w d
are_replayed segments w h d s = either segments s (w.log d) (up_to (w.durable d) (w.log d)) (none_up_to (w.durable d) s (w.log d)) (h d s)

module _ (segments : ℕ) (w : World) (h : NameRegions segments w) where
  at_log : (a : ℕ) (rs : List Redo) → ((s : ℕ) → NoneNames (w.log a) s → NoneNames rs s) → (d s : ℕ) → NoneNames (put w.log a rs d) s ⊎ IsTrue (is_replayed (region_of segments s))
  at_log a rs f d s =
      at_put (λ qs. NoneNames qs s ⊎ IsTrue (is_replayed (region_of segments s))) w.log a rs d (λ e. either segments s (w.log a) rs (f s) (h a s)) (λ n. h d s)

  regions_step : (e : Event) → IsQuiet segments w e → NameRegions segments (after w e)
  regions_step (Do c) q = absurd q
  regions_step (Reclaim a k) q = at_log a (above k (w.log a)) (λ s. none_above k s (w.log a))
  regions_step (Finish r) q = at_log r.dead [] (λ s n. tt)
  regions_step Tick q = h
  regions_step Leave q = h
  regions_step (Fail a) q = h
  regions_step (Renew a) q = h
  regions_step (Mount a) q = h
  regions_step (Unmount a) q = h
  regions_step (Take a l mode) q = h
  regions_step (Give a l) q = h
  regions_step (Lower a l) q = h
  regions_step (Reach e k) q = h
  regions_step (Ack a k) q = h
  regions_step (Sync a) q = h
  regions_step (Crash a) q = h
  regions_step (Begin e b) q = h
  regions_step (Look r s) q = h
  regions_step (Fetch a s) q = h
  regions_step (Issue a s block mark) q = h
  regions_step (Replay r s block) q = h
  regions_step (Land s f) q = h
  regions_step (Fade s f) q = h
  regions_step (Break s f) q = h
  regions_step (BreakNew s f) q = h
  regions_step (FetchBytes a s) q = h
  regions_step (Clear a s) q = h
  regions_step (IssueBytes a s block mark) q = h
  regions_step (LandBytes s f) q = h
  regions_step (FadeBytes s f) q = h
  regions_step (BreakBytes s f) q = h
  regions_step (BreakBytesNew s f) q = h
  regions_step (Settle a s block mark) q = h

-- ---- plans and numbers ask nothing of quiet events

planned_if : (segments : ℕ) (plan : Plan) (w : World) (e : Event) → IsQuiet segments w e → PlannedIf plan w e
planned_if segments plan w (Do c) q = absurd q
planned_if segments plan w e q = tt

new_if : (segments : ℕ) (fresh : ℕ → FileTree → Type 0) (first : FileTree) (w : World) (e : Event) → IsQuiet segments w e → NewIf FileTree fresh first w e
new_if segments fresh first w (Do c) q = absurd q
new_if segments fresh first w e q = tt

same_last : (n : ℕ) → n ≤ n
same_last n = omega arith

behind_same : (P : Commit → Type 0) (w : World) → IsBehind P w w
behind_same P w = record { last = λ a. same_last (w.last a); each = λ h. h }

at_finish : (w : World) → Good w → (d : ℕ) → (a : ℕ) → put w.last d (w.durable d) a ≤ w.last a
at_finish w g d a = at_put (λ n. n ≤ w.last a) w.last d (w.durable d) a (λ e. subst (λ k. w.durable d ≤ w.last k) (sym e) (g.logged.reached d)) (λ n. same_last (w.last a))

behind_step : (P : Commit → Type 0) (segments : ℕ) (w : World) (e : Event) → Good w → IsQuiet segments w e → IsBehind P w (after w e)
behind_step P segments w (Do c) g q = absurd q
behind_step P segments w (Finish r) g q = record { last = at_finish w g r.dead; each = λ h. each_kept P (survives r.dead (w.durable r.dead)) (settled w.history) h }
behind_step P segments w e g q = record { last = λ a. same_last (w.last a); each = λ h. h }

-- ---- one after the other

below_both : (n m k : ℕ) → k ≤ m → m ≤ n → k ≤ n
below_both n m k h i = omega (arith, h, i)

both_behind : (P : Commit → Type 0) (w v u : World) → IsBehind P w v → IsBehind P v u → IsBehind P w u
both_behind P w v u a b = record { last = λ i. below_both (w.last i) (v.last i) (u.last i) (b.last i) (a.last i); each = λ h. b.each (a.each h) }

module _ (laws : Laws) (segments : ℕ) (when : ℕ → ℕ) (first_tree : FileTree) (numbers : List ℕ) where
  sound_step : (w : World) (e : Event) → Can w e → IsQuiet segments w e → IsSound segments when first_tree numbers w → IsSound segments when first_tree numbers (after w e)
  sound_step w e can quiet h = record {
    good = laws.good w e can h.good;
    legal = laws.legal (sector_plan segments when) (laws.framed segments when) w e (planned_if segments (sector_plan segments when) w e quiet) h.good h.legal;
    distinct = distinct_step (MayNumber numbers) first_tree w e (new_if segments (MayNumber numbers) first_tree w e quiet) h.distinct;
    zeros = laws.zeros w e can h.good h.zeros;
    sight = laws.sight w e can h.good h.sight;
    none = laws.none segments w e (laws.leave segments w e quiet).0 h.none;
    acknowledged = laws.acknowledged w e can (laws.leave segments w e quiet).1 h.good h.acknowledged;
    regions = regions_step segments w h.regions e quiet;
  }

  pub sound_run : (P : Commit → Type 0) (w : World) (events : List Event) (u : World) → Run w events u → AllQuiet segments w events → IsSound segments when first_tree numbers w →
      IsSound segments when first_tree numbers u × IsBehind P w u
  sound_run P w [] u stays quiet h = (h, behind_same P w)
  sound_run P w (e ∷ events) u (goes can run) quiet h =
      let rest : IsSound segments when first_tree numbers u × IsBehind P (after w e) u = sound_run P (after w e) events u run quiet.1 (sound_step w e can quiet.0 h) in
      (rest.0, both_behind P w (after w e) u (behind_step P segments w e h.good quiet.0) rest.1)
