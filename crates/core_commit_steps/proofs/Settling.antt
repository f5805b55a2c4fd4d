-- The last operation ends at the last number, so a log is acknowledged to its end where that operation is; and only an operation makes another the last.
use Rattle.std.proofs.Common.{◌≡◌, ◌↔◌, ◌+◌, ◌≤◌, ◌==◌, ℕ, IsTrue, List, [], ◌∷◌, refl, sym, ◌∙◌, subst, inl, inr, ⊎_elim, arith, le_refl, le_trans}
use Rattle.std.proofs.lemmas.Bool.Decides.{nat_tests}
use Rattle.ring_definitions.specs.Rings.{Ring, last}
use Rattle.core_definitions.specs.Rings.{is_all_reached}
use Rattle.core_definitions.specs.Servers as life
use Rattle.sector_world.specs.Histories.{Item, settled}
use Rattle.sector_world.specs.Steps.{Event, Run, after}
use Rattle.sector_world.specs.Steps.Event.{Tick, Leave, Fail, Renew, Mount, Unmount, Take, Give, Lower, Do, Reach, Ack, Sync, Reclaim, Crash, Begin, Look, Finish, Fetch, Issue, Replay, Land, Fade, Break, BreakNew, FetchBytes, Clear, IssueBytes, LandBytes, FadeBytes, BreakBytes, BreakBytesNew, Settle}
use Rattle.sector_world.specs.Steps.Run.{goes, stays}
use Rattle.sector_world.specs.World.{World}
use Rattle.core_world.specs.Journals.{IsJournal, IsOwn, IsUpTo, sector_log}
use Rattle.core_world.specs.Quiet.{AllQuiet, IsQuiet}
use Rattle.core_lives.proofs.Alike.{mounted_journal}
use Rattle.core_log_writes.proofs.Furthest.{own_up_to}
use Rattle.core_commit_steps.specs.Lasts.{LastsStaySettled, SettledLastsAreReached, recoveries_in}

both_ways : (n m : ℕ) → n ≤ m → m ≤ n → IsTrue (n == m)
both_ways n m l k = grind (arith, nat_tests)

below_last : (r : Ring) → r.reached ≤ last r
below_last r = omega arith

one_more : (n : ℕ) → n ≤ n + 1
one_more n = omega arith

not_more : (n : ℕ) → n + 1 ≤ n → ⊥
not_more n l = omega (arith, l)

-- an operation that is acknowledged ends up to the number that is
own_reached : (ends : ℕ → ℕ) (r : Ring) (a n k : ℕ) (h : List Item) → IsOwn a n h → IsUpTo ends r.reached a k h → ends n ≡ last r → n ≤ k → IsTrue (is_all_reached r)
own_reached ends r a n k h own up at l = both_ways r.reached (last r) (below_last r) (subst (λ m. m ≤ r.reached) at (test.0 l))
  where
    test : (n ≤ k) ↔ (ends n ≤ r.reached)
    test = own_up_to ends r.reached a k n h own up

pub settled_reached : SettledLastsAreReached
settled_reached s w journal a is server mounted lasts l =
    let j : IsJournal life.Up (s.core.servers a).ring s.core.now s.core.flights s.disk (sector_log w a) a (journal a) =
    mounted_journal (s.core.servers a).phase mounted (s.core.servers a).ring s.core.now s.core.flights s.disk (sector_log w a) a (journal a) (is.journals a server) in
    ⊎_elim (λ own. own_reached (journal a).ends (s.core.servers a).ring a (w.last a) (w.acked a) (settled w.history) own j.counted.acked j.counted.ends_at l) (λ all. all) (lasts a server mounted)

-- ---- quiet events

-- no recovery is untold
more_ended : (w : World) (e : Event) → recoveries_in w.history ≤ recoveries_in (after w e).history
more_ended w Tick = le_refl (recoveries_in w.history)
more_ended w Leave = le_refl (recoveries_in w.history)
more_ended w (Fail b) = le_refl (recoveries_in w.history)
more_ended w (Renew b) = le_refl (recoveries_in w.history)
more_ended w (Mount b) = le_refl (recoveries_in w.history)
more_ended w (Unmount b) = le_refl (recoveries_in w.history)
more_ended w (Take b l mode) = le_refl (recoveries_in w.history)
more_ended w (Give b l) = le_refl (recoveries_in w.history)
more_ended w (Lower b l) = le_refl (recoveries_in w.history)
more_ended w (Do c) = le_refl (recoveries_in w.history)
more_ended w (Reach d k) = le_refl (recoveries_in w.history)
more_ended w (Ack b k) = le_refl (recoveries_in w.history)
more_ended w (Sync b) = le_refl (recoveries_in w.history)
more_ended w (Reclaim b k) = le_refl (recoveries_in w.history)
more_ended w (Crash b) = le_refl (recoveries_in w.history)
more_ended w (Begin d b) = le_refl (recoveries_in w.history)
more_ended w (Look r s) = le_refl (recoveries_in w.history)
more_ended w (Finish r) = one_more (recoveries_in w.history)
more_ended w (Fetch b s) = le_refl (recoveries_in w.history)
more_ended w (Issue b s block mark) = le_refl (recoveries_in w.history)
more_ended w (Replay r s block) = le_refl (recoveries_in w.history)
more_ended w (Land s f) = le_refl (recoveries_in w.history)
more_ended w (Fade s f) = le_refl (recoveries_in w.history)
more_ended w (Break s f) = le_refl (recoveries_in w.history)
more_ended w (BreakNew s f) = le_refl (recoveries_in w.history)
more_ended w (FetchBytes b s) = le_refl (recoveries_in w.history)
more_ended w (Clear b s) = le_refl (recoveries_in w.history)
more_ended w (IssueBytes b s block mark) = le_refl (recoveries_in w.history)
more_ended w (LandBytes s f) = le_refl (recoveries_in w.history)
more_ended w (FadeBytes s f) = le_refl (recoveries_in w.history)
more_ended w (BreakBytes s f) = le_refl (recoveries_in w.history)
more_ended w (BreakBytesNew s f) = le_refl (recoveries_in w.history)
more_ended w (Settle b s block mark) = le_refl (recoveries_in w.history)

run_ended : (w : World) (events : List Event) (u : World) → Run w events u → recoveries_in w.history ≤ recoveries_in u.history
run_ended w [] u stays = le_refl (recoveries_in w.history)
run_ended w (e ∷ es) u (goes can rest) = le_trans (more_ended w e) (run_ended (after w e) es u rest)

quiet_last : (segments : ℕ) (w : World) (e : Event) → IsQuiet segments w e → recoveries_in (after w e).history ≤ recoveries_in w.history → (a : ℕ) → (after w e).last a ≡ w.last a
quiet_last segments w Tick q none a = refl
quiet_last segments w Leave q none a = refl
quiet_last segments w (Fail b) q none a = refl
quiet_last segments w (Renew b) q none a = refl
quiet_last segments w (Mount b) q none a = refl
quiet_last segments w (Unmount b) q none a = refl
quiet_last segments w (Take b l mode) q none a = refl
quiet_last segments w (Give b l) q none a = refl
quiet_last segments w (Lower b l) q none a = refl
quiet_last segments w (Do c) q none a = absurd q
quiet_last segments w (Reach d k) q none a = refl
quiet_last segments w (Ack b k) q none a = refl
quiet_last segments w (Sync b) q none a = refl
quiet_last segments w (Reclaim b k) q none a = refl
quiet_last segments w (Crash b) q none a = refl
quiet_last segments w (Begin d b) q none a = refl
quiet_last segments w (Look r s) q none a = refl
quiet_last segments w (Finish r) q none a = absurd (not_more (recoveries_in w.history) none)
quiet_last segments w (Fetch b s) q none a = refl
quiet_last segments w (Issue b s block mark) q none a = refl
quiet_last segments w (Replay r s block) q none a = refl
quiet_last segments w (Land s f) q none a = refl
quiet_last segments w (Fade s f) q none a = refl
quiet_last segments w (Break s f) q none a = refl
quiet_last segments w (BreakNew s f) q none a = refl
quiet_last segments w (FetchBytes b s) q none a = refl
quiet_last segments w (Clear b s) q none a = refl
quiet_last segments w (IssueBytes b s block mark) q none a = refl
quiet_last segments w (LandBytes s f) q none a = refl
quiet_last segments w (FadeBytes s f) q none a = refl
quiet_last segments w (BreakBytes s f) q none a = refl
quiet_last segments w (BreakBytesNew s f) q none a = refl
quiet_last segments w (Settle b s block mark) q none a = refl

pub run_last : (segments : ℕ) (w : World) (events : List Event) (u : World) → Run w events u → AllQuiet segments w events → recoveries_in u.history ≤ recoveries_in w.history → (a : ℕ) → u.last a ≡ w.last a
run_last segments w [] u stays quiet none a = refl
run_last segments w (e ∷ es) u (goes can rest) quiet none a =
    run_last segments (after w e) es u rest quiet.1 (le_trans none (more_ended w e)) a ∙ quiet_last segments w e quiet.0 (le_trans (run_ended (after w e) es u rest) none) a

pub lasts_stay : LastsStaySettled
lasts_stay segments servers next w u events run quiet same none keeps lasts a server mounted = ⊎_elim
    (λ before. ⊎_elim (λ own. inl (subst (λ n. IsOwn a n (settled u.history)) (sym (run_last segments w events u run quiet none a)) (subst (IsOwn a (w.last a)) (sym same) own))) (λ all. inr (before.1 all))
    (lasts a server before.0)) (λ all. inr all) (keeps a server mounted)
