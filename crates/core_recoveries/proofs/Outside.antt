-- No event brings a write into a log but an issue there.
use Rattle.std.proofs.Common.{◌≡◌, ◌-◌, ℕ, true, false, Option, Some, None, refl, sym, ap, ◌∙◌}
use Rattle.std.proofs.lemmas.Bool.{false≢true}
use Rattle.frang_base.specs.Functions.{put}
use Rattle.frang_base.specs.declared.limits.TheConstants.{MARGIN_TICKS}
use Rattle.frang_base.proofs.Basics.{at_put}
use Rattle.sector_world.specs.Steps.Event.{Tick, Leave, Fail, Renew, Mount, Unmount, Take, Give, Lower, Do, Reach, Ack, Sync, Reclaim, Crash, Begin, Look, Finish, Fetch, Issue, Replay, Land, Fade, Break, BreakNew, FetchBytes, Clear, IssueBytes, LandBytes, FadeBytes, BreakBytes, BreakBytesNew, Settle}
use Rattle.core_world.specs.Ties.{is_log_sector}
use Rattle.core_recoveries.specs.Seals.{NoneInLogsFirst, NoneInLogsStay}

-- one that goes
gone : {X : Type 0} (at : ℕ → Option X) (s x : ℕ) → at x ≡ None → put at s None x ≡ None
gone at s x e = at_put (λ o. o ≡ None) at s None x (λ i. refl) (λ n. e)

-- one that comes elsewhere
come : {X : Type 0} (segments : ℕ) (at : ℕ → Option X) (s : ℕ) (f : X) (x : ℕ) → is_log_sector segments s ≡ false → is_log_sector segments x ≡ true → at x ≡ None → put at s (Some f) x ≡ None
come segments at s f x out log e = at_put (λ o. o ≡ None) at s (Some f) x (λ i. absurd (false≢true (sym out ∙ ap (is_log_sector segments) (sym i) ∙ log))) (λ n. e)

pub none_stay : NoneInLogsStay
none_stay segments w Tick out none = none
none_stay segments w Leave out none = none
none_stay segments w (Fail a) out none = none
none_stay segments w (Renew a) out none = none
none_stay segments w (Mount a) out none = none
none_stay segments w (Unmount a) out none = none
none_stay segments w (Take a l mode) out none = none
none_stay segments w (Give a l) out none = none
none_stay segments w (Lower a l) out none = none
none_stay segments w (Do c) out none = none
none_stay segments w (Reach d k) out none = none
none_stay segments w (Ack a k) out none = none
none_stay segments w (Sync a) out none = none
none_stay segments w (Reclaim a k) out none = none
none_stay segments w (Crash a) out none = none
none_stay segments w (Begin d b) out none = none
none_stay segments w (Look r s) out none = none
none_stay segments w (Finish r) out none = none
none_stay segments w (Fetch a s) out none = none
none_stay segments w (Issue a s block mark) out none = λ x l. (come segments w.flight s (record { by = a; behalf = a; stamp = w.expiry a - MARGIN_TICKS; block = block }) x out l (none x l).0, (none x l).1)
none_stay segments w (Replay r s block) out none = λ x l. (come segments w.flight s (record { by = r.by; behalf = r.dead; stamp = w.expiry r.by - MARGIN_TICKS; block = block }) x out l (none x l).0, (none x l).1)
none_stay segments w (Land s f) out none = λ x l. (gone w.flight s x (none x l).0, (none x l).1)
none_stay segments w (Fade s f) out none = λ x l. (gone w.flight s x (none x l).0, (none x l).1)
none_stay segments w (Break s f) out none = λ x l. (gone w.flight s x (none x l).0, (none x l).1)
none_stay segments w (BreakNew s f) out none = λ x l. (gone w.flight s x (none x l).0, (none x l).1)
none_stay segments w (FetchBytes a s) out none = none
none_stay segments w (Clear a s) out none = none
none_stay segments w (IssueBytes a s block mark) out none = λ x l. ((none x l).0, come segments w.byte_flight s (record { by = a; stamp = w.expiry a - MARGIN_TICKS; block = block }) x out l (none x l).1)
none_stay segments w (LandBytes s f) out none = λ x l. ((none x l).0, gone w.byte_flight s x (none x l).1)
none_stay segments w (FadeBytes s f) out none = λ x l. ((none x l).0, gone w.byte_flight s x (none x l).1)
none_stay segments w (BreakBytes s f) out none = λ x l. ((none x l).0, gone w.byte_flight s x (none x l).1)
none_stay segments w (BreakBytesNew s f) out none = λ x l. ((none x l).0, gone w.byte_flight s x (none x l).1)
none_stay segments w (Settle a s block mark) out none = none

pub none_first : NoneInLogsFirst
none_first segments disk logged of_files home x l = (refl, refl)
