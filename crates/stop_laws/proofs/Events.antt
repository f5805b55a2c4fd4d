-- Every event keeps sights and the order of recoveries.
use Rattle.std.proofs.Common.{ℕ, ◌≡◌, ◌≢◌, ◌≤◌, ◌&&◌, ◌||◌, not, Bool, true, false, if◌then◌else◌, nat_eq, refl, sym, ◌∙◌, ap, subst, arith, le_refl}
use Rattle.std.proofs.lemmas.Bool.{eq-eqb, eqb-true, ne_eqb}
use mathlib.Core.Bool.{or-true}
use Rattle.frang_base.specs.Functions.{put}
use Rattle.frang_base.proofs.Basics.{at_put}
use Rattle.sector_world.specs.Histories.{synced_of}
use Rattle.sector_world.specs.Kinds.{Good}
use Rattle.sector_world.specs.Steps.Event.{Tick, Leave, Fail, Renew, Mount, Unmount, Take, Give, Lower, Do, Reach, Ack, Sync, Reclaim, Crash, Begin, Look, Finish, Fetch, Issue, Replay, Land, Fade, Break, BreakNew, FetchBytes, Clear, IssueBytes, LandBytes, FadeBytes, BreakBytes, BreakBytesNew, Settle}
use Rattle.sector_world.specs.World.{World, Phase}
use Rattle.sector_world.specs.World.Phase.{Off, Up, Dead}
use Rattle.sector_world.proofs.Every.{good_step}
use Rattle.stop_laws.specs.Coverage.{recovered_to}
use Rattle.stop_laws.specs.Events.{EventsKeepSight, StartsAreInSight}
use Rattle.stop_laws.specs.Sure.{has_mounted}

pub starts_in_sight : StartsAreInSight
starts_in_sight servers disk logged of_files home = record { saw = tt; showed = tt; rise = tt; below = λ server. omega arith; syncs = tt; mounted = tt; active = λ server on. absurd (on refl) }

-- what is synced of a server is not above its last number
synced_low : (w : World) → Good w → (a : ℕ) → synced_of a w.history ≤ w.last a
synced_low w good a = subst (λ n. n ≤ w.last a) (good.bytes.counted a) (good.bytes.synced a)

pub events_keep_sight : EventsKeepSight
events_keep_sight w (Do c) can good s = record {
  saw = ((λ sector used. can.sees sector ∙ used), record { shown = can.reads; noticed = can.noticed; made = can.makes }, s.saw);
  showed = ((good_step w (Do c) can good).bytes.live.0, s.showed);
  rise = s.rise;
  below = s.below;
  syncs = s.syncs;
  mounted = s.mounted;
  active = s.active;
}
events_keep_sight w (Reach d k) can good s = record {
  saw = s.saw;
  showed = s.showed;
  rise = s.rise;
  below = λ server. at_put (λ n. recovered_to w.history server ≤ n) w.durable d k server
      (λ e. let l : recovered_to w.history d ≤ w.durable d = s.below d in let m : w.durable d ≤ k = can.more in let n : recovered_to w.history d ≤ k = omega arith in
      subst (λ x. recovered_to w.history x ≤ k) (sym e) n)
      (λ far. s.below server);
  syncs = s.syncs;
  mounted = s.mounted;
  active = s.active;
}
events_keep_sight w (Finish r) can good s = record { saw = s.saw; showed = s.showed; rise = (s.below r.dead, s.rise); below = λ server. go server (nat_eq r.dead server) refl; syncs = s.syncs; mounted = (s.active r.dead (is_on (w.phase r.dead) (good.logged.rescued r can.going).dead), s.mounted); active = ended }
  where
    go : (server : ℕ) (b : Bool) → nat_eq r.dead server ≡ b → (if b then w.durable r.dead else recovered_to w.history server) ≤ w.durable server
    go server true is = subst (λ x. w.durable r.dead ≤ w.durable x) (eqb-true r.dead server is) (le_refl (w.durable r.dead))
    go server false is = s.below server

    is_on : (p : Phase) → p ≡ Dead → p ≢ Off
    is_on p is off = let z : Dead ≡ Off = sym is ∙ off in cc

    ended : (server : ℕ) → put w.phase r.dead Off server ≢ Off → not (nat_eq r.dead server) && has_mounted server w.history ≡ true
    ended server = at_put (λ x. x ≢ Off → not (nat_eq r.dead server) && has_mounted server w.history ≡ true) w.phase r.dead Off server (λ same on. absurd (on refl))
        (λ far on. ap (λ b. not b && has_mounted server w.history) (ne_eqb r.dead server (λ e. far (sym e))) ∙ s.active server on)
events_keep_sight w Tick can good s = record { saw = s.saw; showed = s.showed; rise = s.rise; below = s.below; syncs = s.syncs; mounted = s.mounted; active = s.active }
events_keep_sight w Leave can good s = record { saw = s.saw; showed = s.showed; rise = s.rise; below = s.below; syncs = s.syncs; mounted = s.mounted; active = s.active }
events_keep_sight w (Fail a) can good s = record { saw = s.saw; showed = s.showed; rise = s.rise; below = s.below; syncs = s.syncs; mounted = s.mounted; active = s.active }
events_keep_sight w (Renew a) can good s = record { saw = s.saw; showed = s.showed; rise = s.rise; below = s.below; syncs = s.syncs; mounted = s.mounted; active = s.active }
events_keep_sight w (Mount a) can good s = record {
  saw = s.saw;
  showed = s.showed;
  rise = s.rise;
  below = s.below;
  syncs = (synced_low w good a, s.syncs);
  mounted = s.mounted;
  active = λ server. at_put (λ p. p ≢ Off → nat_eq a server || has_mounted server w.history ≡ true) w.phase a Up server
      (λ same on. ap (λ b. b || has_mounted server w.history) (eq-eqb a server (sym same)))
      (λ far on. ap (λ b. nat_eq a server || b) (s.active server on) ∙ or-true (nat_eq a server));
}
events_keep_sight w (Unmount a) can good s = record {
  saw = s.saw;
  showed = s.showed;
  rise = s.rise;
  below = s.below;
  syncs = (synced_low w good a, s.syncs);
  mounted = s.mounted;
  active = λ server. at_put (λ p. p ≢ Off → has_mounted server w.history ≡ true) w.phase a Off server (λ same on. absurd (on refl)) (λ far on. s.active server on);
}
events_keep_sight w (Take a k mode) can good s = record { saw = s.saw; showed = s.showed; rise = s.rise; below = s.below; syncs = s.syncs; mounted = s.mounted; active = s.active }
events_keep_sight w (Give a k) can good s = record { saw = s.saw; showed = s.showed; rise = s.rise; below = s.below; syncs = s.syncs; mounted = s.mounted; active = s.active }
events_keep_sight w (Lower a k) can good s = record { saw = s.saw; showed = s.showed; rise = s.rise; below = s.below; syncs = s.syncs; mounted = s.mounted; active = s.active }
events_keep_sight w (Ack a k) can good s = record { saw = s.saw; showed = s.showed; rise = s.rise; below = s.below; syncs = s.syncs; mounted = s.mounted; active = s.active }
events_keep_sight w (Sync a) can good s = record { saw = s.saw; showed = s.showed; rise = s.rise; below = s.below; syncs = (synced_low w good a, s.syncs); mounted = s.mounted; active = s.active }
events_keep_sight w (Reclaim a k) can good s = record { saw = s.saw; showed = s.showed; rise = s.rise; below = s.below; syncs = s.syncs; mounted = s.mounted; active = s.active }
events_keep_sight w (Crash a) can good s = record {
  saw = s.saw;
  showed = s.showed;
  rise = s.rise;
  below = s.below;
  syncs = s.syncs;
  mounted = s.mounted;
  active = λ server. at_put (λ p. p ≢ Off → has_mounted server w.history ≡ true) w.phase a Dead server
      (λ same on. subst (λ x. has_mounted x w.history ≡ true) (sym same) (s.active a (λ off. let z : Up ≡ Off = sym can ∙ off in cc))) (λ far on. s.active server on);
}
events_keep_sight w (Begin d b) can good s = record { saw = s.saw; showed = s.showed; rise = s.rise; below = s.below; syncs = s.syncs; mounted = s.mounted; active = s.active }
events_keep_sight w (Look r t) can good s = record { saw = s.saw; showed = s.showed; rise = s.rise; below = s.below; syncs = s.syncs; mounted = s.mounted; active = s.active }
events_keep_sight w (Fetch a t) can good s = record { saw = s.saw; showed = s.showed; rise = s.rise; below = s.below; syncs = s.syncs; mounted = s.mounted; active = s.active }
events_keep_sight w (Issue a t block mark) can good s = record { saw = s.saw; showed = s.showed; rise = s.rise; below = s.below; syncs = s.syncs; mounted = s.mounted; active = s.active }
events_keep_sight w (Replay r t block) can good s = record { saw = s.saw; showed = s.showed; rise = s.rise; below = s.below; syncs = s.syncs; mounted = s.mounted; active = s.active }
events_keep_sight w (Land t f) can good s = record { saw = s.saw; showed = s.showed; rise = s.rise; below = s.below; syncs = s.syncs; mounted = s.mounted; active = s.active }
events_keep_sight w (Fade t f) can good s = record { saw = s.saw; showed = s.showed; rise = s.rise; below = s.below; syncs = s.syncs; mounted = s.mounted; active = s.active }
events_keep_sight w (Break t f) can good s = record { saw = s.saw; showed = s.showed; rise = s.rise; below = s.below; syncs = s.syncs; mounted = s.mounted; active = s.active }
events_keep_sight w (BreakNew t f) can good s = record { saw = s.saw; showed = s.showed; rise = s.rise; below = s.below; syncs = s.syncs; mounted = s.mounted; active = s.active }
events_keep_sight w (FetchBytes a t) can good s = record { saw = s.saw; showed = s.showed; rise = s.rise; below = s.below; syncs = s.syncs; mounted = s.mounted; active = s.active }
events_keep_sight w (Clear a t) can good s = record { saw = s.saw; showed = s.showed; rise = s.rise; below = s.below; syncs = s.syncs; mounted = s.mounted; active = s.active }
events_keep_sight w (IssueBytes a t block mark) can good s = record { saw = s.saw; showed = s.showed; rise = s.rise; below = s.below; syncs = s.syncs; mounted = s.mounted; active = s.active }
events_keep_sight w (LandBytes t f) can good s = record { saw = s.saw; showed = s.showed; rise = s.rise; below = s.below; syncs = s.syncs; mounted = s.mounted; active = s.active }
events_keep_sight w (FadeBytes t f) can good s = record { saw = s.saw; showed = s.showed; rise = s.rise; below = s.below; syncs = s.syncs; mounted = s.mounted; active = s.active }
events_keep_sight w (BreakBytes t f) can good s = record { saw = s.saw; showed = s.showed; rise = s.rise; below = s.below; syncs = s.syncs; mounted = s.mounted; active = s.active }
events_keep_sight w (BreakBytesNew t f) can good s = record { saw = s.saw; showed = s.showed; rise = s.rise; below = s.below; syncs = s.syncs; mounted = s.mounted; active = s.active }
events_keep_sight w (Settle a t block mark) can good s = record { saw = s.saw; showed = s.showed; rise = s.rise; below = s.below; syncs = s.syncs; mounted = s.mounted; active = s.active }
