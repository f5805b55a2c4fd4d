-- Over every run: who has taken a log recovers it, and has taken it until its lease ends; who recovers one has taken it. Step by step.
use Rattle.std.proofs.Common.{◌≡◌, ◌≢◌, ℕ, ◌<◌, ◌≤◌, ◌⊎◌, inl, inr, Bool, true, false, ◌&&◌, ◌||◌, ◌==◌, ◌+◌, ◌%◌, length, replicate, if◌then◌else◌, IsTrue, Option, Some, None, nat_lt, refl, sym, ap, ◌∙◌, subst, arith}
use Rattle.std.proofs.lemmas.Bool.{cases_eq, cases_lt, false≢true, and_parts, both_ways, ltb-true, or_left, or_right}
use Rattle.std.proofs.lemmas.Bool.Decides.{nat_tests}
use Rattle.std.proofs.lemmas.List.{get_or-replicate, get_or_past, length-replicate}
use Rattle.std.proofs.lemmas.Option.{same_Some, none-some}
use Rattle.frang_base.specs.Functions.{put}
use Rattle.frang_base.proofs.Basics.{at_put}
use Rattle.lock_definitions.specs.declared.claim.LogHold.{LogHold}
use Rattle.lock_definitions.specs.Calls.{cleared, extended, hold_of, taken}
use Rattle.lock_definitions.specs.Locks.{AreLocks, Locks, log_hold, no_clerks, no_locks, no_logs}
use Rattle.lock_definitions.proofs.Wants.{no_logs_left}
use Rattle.sector_bytes.specs.Sectors.{Sectors}
use Rattle.core_definitions.specs.Recoveries.{Recovery, recovery_of}
use Rattle.core_definitions.specs.Scripts.{host_party}
use Rattle.core_definitions.specs.Servers.{Doomed, Fate, Server, is_dead, is_in_mount, is_still, is_up, wanting_all, wanting_all_up}
use Rattle.core_definitions.specs.Settings.{Setting, lease_to}
use Rattle.core_definitions.specs.Cores.{expiry_of}
use Rattle.core_definitions.specs.LineGuards.{is_server}
use Rattle.core_definitions.specs.LineEffects.{failed_by, off_after, up_after}
use Rattle.core_definitions.specs.WriteEffects.{died_with, up_again}
use Rattle.core_definitions.specs.WriteGuards.{is_worker}
use Rattle.core_definitions.specs.EndGuards.{CanRecover, is_hold_over}
use Rattle.core_definitions.specs.EndEffects.{recovered}
use Rattle.core_definitions.specs.Runs.{State, Run, first_state}
use Rattle.core_facts.proofs.LogHolds.{Extended, extended_from, hold_after_clear, hold_after_extension, hold_elsewhere, hold_taken, not_by_kept, takes_extended, takes_kept}
use Rattle.core_facts.proofs.Phases.{doomed_mounted, host_works, mounted_dead_not, none_recovers, off_dead_not, recover_waits, taker_works, up_mounted}
use Rattle.core_facts.proofs.Staling.{acknowledged_dead, acknowledged_expiry}
use Rattle.core_facts.proofs.Turns.{Work, work_of, failed_at, Turn, Rests, Stays, Lines, Caches, Reclaims, Clears, Commits, Mounts, Leaves, Arms, Stalls, Settles, Asks, Lowers, Releases, Relocks, Wants, Issues, Fades, Lands, Drifts, Breaks, Fails, Dooms, Resumes, Dies, Renews, Ticks, Recovers, Loads, Looks, Finishes, Halts, step_turn}
use Rattle.core_laws.proofs.Along.{along}
use Rattle.core_laws.proofs.Ashore.{acknowledged_phase}
use Rattle.core_laws.proofs.Guarding.{Of4}
use Rattle.core_laws.proofs.Keeping.{locks_of_run}
use Rattle.core_laws.proofs.Memory.{Safe, dead_of, still_dead_not, up_dead_not, works}
use Rattle.core_laws.proofs.Resting.{good_of_run, server_no_host}
use Rattle.core_laws.proofs.Unheld.{Unheld, bare_of_run, takes}

-- ---- what is kept

-- in a mount, or the host
abbrev pub mounted : ℕ → Server → Bool
mounted i server = is_in_mount server.phase || i == host_party

abbrev pub expiry_at : Setting → ℕ → (ℕ → Server) → ℕ → ℕ
expiry_at setting now servers b = if b == host_party then lease_to setting now else (servers b).expiry

pub record HoldOf (setting : Setting) (now : ℕ) (servers : ℕ → Server) (d : ℕ) (h : LogHold) : Type 0 where
  pub dead : IsTrue (is_dead (servers d).phase)
  pub own : IsTrue (mounted h.by.0 (servers h.by.0)) → dead_of (servers h.by.0).recovery ≡ Some d
  pub expiry : h.expiry ≡ expiry_at setting now servers h.by.0

pub record Holding (setting : Setting) (now : ℕ) (servers : ℕ → Server) (locks : Locks) : Type 0 where
  pub holds : (d : ℕ) (h : LogHold) → log_hold locks d ≡ Some h → HoldOf setting now servers d h
  pub held : (by d : ℕ) → IsTrue (works by (servers by)) → dead_of (servers by).recovery ≡ Some d → takes by (log_hold locks d) ≡ true

-- ---- servers

-- who is Dead stays so, who is in a mount was and recovers what it did, and no lease changes
record Keeps (i : ℕ) (old new : Server) : Type 0 where
  dead : IsTrue (is_dead old.phase) → IsTrue (is_dead new.phase)
  own : IsTrue (mounted i new) → IsTrue (mounted i old) × (dead_of new.recovery ≡ dead_of old.recovery)
  expiry : new.expiry ≡ old.expiry
  saves : (d : ℕ) → IsTrue (works i new) → dead_of new.recovery ≡ Some d → IsTrue (works i old) × (dead_of old.recovery ≡ Some d)

steady : (i : ℕ) (old new : Server) → new.phase ≡ old.phase → new.expiry ≡ old.expiry → dead_of new.recovery ≡ dead_of old.recovery → Keeps i old new
steady i old new p e r = record {
  dead = λ h. ap is_dead p ∙ h;
  own = λ t. (ap (λ q. is_in_mount q || i == host_party) (sym p) ∙ t, r);
  expiry = e;
  saves = λ d w f. (ap (λ q. (is_server i && is_up q) || i == host_party) (sym p) ∙ w, sym r ∙ f);
}

self : (i : ℕ) (server : Server) → Keeps i server server
self i server = steady i server server refl refl refl

-- it is in a mount, and isn't Up then
halted : (i : ℕ) (old new : Server) → IsTrue (is_in_mount old.phase) → is_up new.phase ≡ false → new.expiry ≡ old.expiry → new.recovery ≡ old.recovery → Keeps i old new
halted i old new t u e r = record {
  dead = λ h. absurd (both_ways (is_dead old.phase) (mounted_dead_not old.phase t) h);
  own = λ h. (or_left (is_in_mount old.phase) (i == host_party) t, ap dead_of r);
  expiry = e;
  saves = λ d w f. (host_works (is_server i) (is_up new.phase) (is_up old.phase) (i == host_party) u w, sym (ap dead_of r) ∙ f);
}

one_server : (servers : ℕ → Server) (a : ℕ) (new : Server) → Keeps a (servers a) new → (i : ℕ) → Keeps i (servers i) (put servers a new i)
one_server servers a new h i = at_put (λ x. Keeps i (servers i) x) servers a new i (λ e. subst (λ k. Keeps k (servers k) new) (sym e) h) (λ n. self i (servers i))

failed_servers : (servers : ℕ → Server) (a i : ℕ) → Keeps i (servers i) (failed_at servers a i)
failed_servers servers a i = go (a == host_party)
  where
    go : (b : Bool) → Keeps i (servers i) ((if b then servers else put servers a (failed_by (servers a))) i)
    go true = self i (servers i)
    go false = one_server servers a _ (steady a (servers a) (failed_by (servers a)) refl refl refl) i

-- what is known of the state before a step
record Known (s : State) : Type 0 where
  safe : Safe s.core.servers
  are : AreLocks s.core.locks
  bare : Unheld s.core

apart_number : (x y : ℕ) → (x == y) ≡ false → x ≡ y → ⊥
apart_number x y e f = absurd (grind (arith, nat_tests, e, f))

differ_number : (x y : ℕ) → (x ≡ y → ⊥) → (x == y) ≡ false
differ_number x y n = grind (arith, nat_tests, n)

same_number : (x y : ℕ) → x ≡ y → (x == y) ≡ true
same_number x y e = grind (arith, nat_tests, e)

module _ (setting : Setting) (now : ℕ) (servers : ℕ → Server) (locks : Locks) (safe : Safe servers) (m : Holding setting now servers locks) where
  -- the holds are the same
  goes_on : (after : ℕ → Server) (table : Locks) → ((i : ℕ) → Keeps i (servers i) (after i)) → ((d : ℕ) → log_hold table d ≡ log_hold locks d) → Holding setting now after table
  goes_on after table on same = record {
    holds = λ d h e. let o : HoldOf setting now servers d h = m.holds d h (sym (same d) ∙ e) in
        record {
          dead = (on d).dead o.dead;
          own = λ t. ((on h.by.0).own t).1 ∙ o.own ((on h.by.0).own t).0;
          expiry = o.expiry ∙ ap (λ n. if h.by.0 == host_party then lease_to setting now else n) (sym (on h.by.0).expiry);
        };
    held = λ by d w e. let o : IsTrue (works by (servers by)) × (dead_of (servers by).recovery ≡ Some d) = (on by).saves d w e in ap (takes by) (same d) ∙ m.held by d o.0 o.1;
  }

  one_goes_on : (a : ℕ) (new : Server) (table : Locks) → Keeps a (servers a) new → ((d : ℕ) → log_hold table d ≡ log_hold locks d) → Holding setting now (put servers a new) table
  one_goes_on a new table keeps same = goes_on (put servers a new) table (one_server servers a new keeps) same

  -- one that has taken no log and isn't Dead begins anew
  one_begins : (a : ℕ) (new : Server) → is_dead (servers a).phase ≡ false → ((d : ℕ) → takes a (log_hold locks d) ≡ false) → new.recovery ≡ None → Holding setting now (put servers a new) locks
  one_begins a new alive bare none = record {
    holds = λ d h e. let o : HoldOf setting now servers d h = m.holds d h e in
        let other : h.by.0 ≢ a = apart_number h.by.0 a (sym (ap (takes a) e) ∙ bare d) in
        record {
          dead = at_put (λ x. IsTrue (is_dead x.phase)) servers a new d (λ f. absurd (both_ways (is_dead (servers a).phase) alive (subst (λ n. IsTrue (is_dead (servers n).phase)) f o.dead))) (λ n. o.dead);
          own = at_put (λ x. IsTrue (mounted h.by.0 x) → dead_of x.recovery ≡ Some d) servers a new h.by.0 (λ f. absurd (other f)) (λ n. o.own);
          expiry = at_put (λ x. h.expiry ≡ (if h.by.0 == host_party then lease_to setting now else x.expiry)) servers a new h.by.0 (λ f. absurd (other f)) (λ n. o.expiry);
        };
    held = λ by d. at_put (λ x. IsTrue (works by x) → dead_of x.recovery ≡ Some d → takes by (log_hold locks d) ≡ true) servers a new by
        (λ f w e. absurd (none-some d (sym (ap dead_of none) ∙ e))) (λ n w e. m.held by d w e);
  }

  -- who isn't Dead and has no recovery then gives all back
  one_clears : (a : ℕ) (new : Server) → is_dead (servers a).phase ≡ false → new.recovery ≡ None → Holding setting now (put servers a new) (cleared locks a)
  one_clears a new alive none = record {
    holds = λ d h e. let left : (h.by.0 ≡ a → ⊥) × (d ≡ a → ⊥) = no_logs_left locks a d h e in
        let o : HoldOf setting now servers d h = m.holds d h (not_by_kept a (log_hold locks d) h (sym (hold_after_clear locks a d left.1) ∙ e)) in
        record {
          dead = at_put (λ x. IsTrue (is_dead x.phase)) servers a new d (λ f. absurd (left.1 f)) (λ n. o.dead);
          own = at_put (λ x. IsTrue (mounted h.by.0 x) → dead_of x.recovery ≡ Some d) servers a new h.by.0 (λ f. absurd (left.0 f)) (λ n. o.own);
          expiry = at_put (λ x. h.expiry ≡ (if h.by.0 == host_party then lease_to setting now else x.expiry)) servers a new h.by.0 (λ f. absurd (left.0 f)) (λ n. o.expiry);
        };
    held = λ by d. at_put (λ x. IsTrue (works by x) → dead_of x.recovery ≡ Some d → takes by (log_hold (cleared locks a) d) ≡ true) servers a new by
        (λ f w e. absurd (none-some d (sym (ap dead_of none) ∙ e)))
        (λ n w e. ap (takes by) (hold_after_clear locks a d (lives d (safe.saved by d w e).0)) ∙ takes_kept a by (log_hold locks d) n (m.held by d w e));
  }
    where
      lives : (d : ℕ) → IsTrue (is_dead (servers d).phase) → d ≡ a → ⊥
      lives d dead same = both_ways (is_dead (servers a).phase) alive (subst (λ n. IsTrue (is_dead (servers n).phase)) same dead)

  -- a lease is renewed, and with it what its server has taken
  one_renews : (a until : ℕ) → (a == host_party) ≡ false → Holding setting now (put servers a (record (servers a) { expiry = until })) (extended locks a until)
  one_renews a until away = record {
    holds = λ d h e. from d h (extended_from a until (log_hold locks d) h (sym (hold_after_extension locks a until d) ∙ e));
    held = λ by d. at_put (λ x. IsTrue (works by x) → dead_of x.recovery ≡ Some d → takes by (log_hold (extended locks a until) d) ≡ true) servers a new by
        (λ f w e. taken by d (subst (λ n. IsTrue ((is_server by && is_up (servers n).phase) || by == host_party)) (sym f) w) (subst (λ n. dead_of (servers n).recovery ≡ Some d) (sym f) e))
        (λ n w e. taken by d w e);
  }
    where
      new : Server
      new = record (servers a) { expiry = until }

      taken : (by d : ℕ) → IsTrue (works by (servers by)) → dead_of (servers by).recovery ≡ Some d → takes by (log_hold (extended locks a until) d) ≡ true
      taken by d w e = ap (takes by) (hold_after_extension locks a until d) ∙ takes_extended a until by (log_hold locks d) ∙ m.held by d w e

      from : (d : ℕ) (h : LogHold) → Extended a until (log_hold locks d) h → HoldOf setting now (put servers a new) d h
      from d h x = record {
        dead = at_put (λ y. IsTrue (is_dead y.phase)) servers a new d (λ f. subst (λ n. IsTrue (is_dead (servers n).phase)) f o.dead) (λ n. o.dead);
        own = at_put (λ y. IsTrue (mounted h.by.0 y) → dead_of y.recovery ≡ Some d) servers a new h.by.0
            (λ f. subst (λ n. IsTrue (is_in_mount (servers n).phase || h.by.0 == host_party) → dead_of (servers n).recovery ≡ Some d) f own) (λ n. own);
        expiry = at_put (λ y. h.expiry ≡ (if h.by.0 == host_party then lease_to setting now else y.expiry)) servers a new h.by.0 renewed others;
      }
        where
          o : HoldOf setting now servers d x.before
          o = m.holds d x.before x.is

          own : IsTrue (mounted h.by.0 (servers h.by.0)) → dead_of (servers h.by.0).recovery ≡ Some d
          own = subst (λ n. IsTrue (mounted n (servers n)) → dead_of (servers n).recovery ≡ Some d) (sym x.same_by) o.own

          renewed : h.by.0 ≡ a → h.expiry ≡ (if h.by.0 == host_party then lease_to setting now else until)
          renewed f =
              x.expiry_is ∙ ap (λ b. if b then until else x.before.expiry) (same_number h.by.0 a f)
              ∙ sym (ap (λ b. if b then lease_to setting now else until) (ap (λ n. n == host_party) f ∙ away))

          others : h.by.0 ≢ a → h.expiry ≡ (if h.by.0 == host_party then lease_to setting now else (servers h.by.0).expiry)
          others n =
              x.expiry_is ∙ ap (λ b. if b then until else x.before.expiry) (differ_number h.by.0 a n) ∙ o.expiry
              ∙ ap (λ b. if b == host_party then lease_to setting now else (servers b).expiry) (sym x.same_by)

  -- a tick: the host counts as renewed
  all_tick : (later : ℕ) (after : ℕ → Server) → ((i : ℕ) → Keeps i (servers i) (after i)) → Holding setting later after (extended locks host_party (lease_to setting later))
  all_tick later after on = record {
    holds = λ d h e. from d h (extended_from host_party (lease_to setting later) (log_hold locks d) h (sym (hold_after_extension locks host_party (lease_to setting later) d) ∙ e));
    held = λ by d w e. let o : IsTrue (works by (servers by)) × (dead_of (servers by).recovery ≡ Some d) = (on by).saves d w e in
        ap (takes by) (hold_after_extension locks host_party (lease_to setting later) d) ∙ takes_extended host_party (lease_to setting later) by (log_hold locks d) ∙ m.held by d o.0 o.1;
  }
    where
      from : (d : ℕ) (h : LogHold) → Extended host_party (lease_to setting later) (log_hold locks d) h → HoldOf setting later after d h
      from d h x = record {
        dead = (on d).dead o.dead;
        own = λ t. ((on h.by.0).own t).1 ∙ own ((on h.by.0).own t).0;
        expiry = x.expiry_is ∙ go (h.by.0 == host_party) refl;
      }
        where
          o : HoldOf setting now servers d x.before
          o = m.holds d x.before x.is

          own : IsTrue (mounted h.by.0 (servers h.by.0)) → dead_of (servers h.by.0).recovery ≡ Some d
          own = subst (λ n. IsTrue (mounted n (servers n)) → dead_of (servers n).recovery ≡ Some d) (sym x.same_by) o.own

          go : (b : Bool) → (h.by.0 == host_party) ≡ b → (if b then lease_to setting later else x.before.expiry) ≡ (if b then lease_to setting later else (after h.by.0).expiry)
          go true f = refl
          go false f =
              o.expiry ∙ ap (λ b. if b then lease_to setting now else (servers x.before.by.0).expiry) (ap (λ n. n == host_party) (sym x.same_by) ∙ f)
              ∙ ap (λ n. (servers n).expiry) (sym x.same_by) ∙ sym (on h.by.0).expiry

-- ---- a log is taken

module _ (s : State) (dead by : ℕ) (can : CanRecover s.core dead by) (k : Known s) (m : Holding s.core.setting s.core.now s.core.servers s.core.locks) where
  abbrev taker : Server
  taker = record (s.core.servers by) { recovery = Some (recovery_of dead) }

  abbrev with_taker : ℕ → Server
  with_taker = put s.core.servers by taker

  abbrev table : Locks
  table = taken s.core.locks dead by s.core.now (expiry_of s.core by)

  waits : Of4 (is_server dead) (is_dead (s.core.servers dead).phase) (nat_lt (s.core.servers dead).expiry s.core.now) (is_hold_over s.core.now (log_hold s.core.locks dead))
  waits = recover_waits s.core dead by can

  inside : dead < length s.core.locks.logs
  inside = within dead (length s.core.locks.logs) waits.p0 k.are.logs
    where
      within : (n l : ℕ) → IsTrue (is_server n) → l ≡ 256 → n < l
      within n l server e = small n l (ltb-true n 16 server) e
        where
          small : (n l : ℕ) → n < 16 → l ≡ 256 → n < l
          small n l h e = omega (arith, h, e)

  works_mounted : (i : ℕ) → IsTrue (works i (s.core.servers i)) → IsTrue (mounted i (s.core.servers i))
  works_mounted i w = go (is_server i) (is_up (s.core.servers i).phase) (i == host_party) (up_mounted (s.core.servers i).phase) w
    where
      go : (number u h : Bool) → (IsTrue u → IsTrue (is_in_mount (s.core.servers i).phase)) → IsTrue ((number && u) || h) → IsTrue (is_in_mount (s.core.servers i).phase || h)
      go true true h up t = or_left (is_in_mount (s.core.servers i).phase) h (up refl)
      go true false h up t = or_right (is_in_mount (s.core.servers i).phase) h t
      go false u h up t = or_right (is_in_mount (s.core.servers i).phase) h t

  taker_dead : (i : ℕ) → IsTrue (is_dead (s.core.servers i).phase) → IsTrue (is_dead (with_taker i).phase)
  taker_dead i d = at_put (λ x. IsTrue (is_dead x.phase)) s.core.servers by taker i (λ e. subst (λ n. IsTrue (is_dead (s.core.servers n).phase)) e d) (λ n. d)

  taker_expiry : (i : ℕ) → (s.core.servers i).expiry ≡ (with_taker i).expiry
  taker_expiry i = at_put (λ x. (s.core.servers i).expiry ≡ x.expiry) s.core.servers by taker i (λ e. ap (λ n. (s.core.servers n).expiry) e) (λ n. refl)

  expiry_then : (b : ℕ) → expiry_at s.core.setting s.core.now s.core.servers b ≡ expiry_at s.core.setting s.core.now with_taker b
  expiry_then b = ap (λ n. if b == host_party then lease_to s.core.setting s.core.now else n) (taker_expiry b)

  new_hold : HoldOf s.core.setting s.core.now with_taker dead (hold_of by (expiry_of s.core by))
  new_hold = record {
    dead = taker_dead dead waits.p1;
    own = at_put (λ x. IsTrue (mounted by x) → dead_of x.recovery ≡ Some dead) s.core.servers by taker by (λ e t. refl) (λ n. absurd (n refl));
    expiry = expiry_then by;
  }

  old_hold : (d : ℕ) (h : LogHold) → log_hold s.core.locks d ≡ Some h → HoldOf s.core.setting s.core.now with_taker d h
  old_hold d h e = let o : HoldOf s.core.setting s.core.now s.core.servers d h = m.holds d h e in
      record {
        dead = taker_dead d o.dead;
        own = at_put (λ x. IsTrue (mounted h.by.0 x) → dead_of x.recovery ≡ Some d) s.core.servers by taker h.by.0
            (λ f t. absurd (none_recovers s.core dead by can by d (taker_works s.core dead by can) (subst (λ n. dead_of (s.core.servers n).recovery ≡ Some d) f (o.own (subst (λ n. IsTrue (mounted n (s.core.servers n))) (sym f) (works_mounted by (taker_works s.core dead by can)))))))
            (λ n. o.own);
        expiry = o.expiry ∙ expiry_then h.by.0;
      }

  recover_holding : Holding s.core.setting s.core.now with_taker table
  recover_holding = record {
    holds = λ d h e. go d h e (cases_eq d dead);
    held = λ i d. at_put (λ x. IsTrue (works i x) → dead_of x.recovery ≡ Some d → takes i (log_hold table d) ≡ true) s.core.servers by taker i
        (λ f w e. subst (λ n. takes i (log_hold table n) ≡ true) (same_Some dead d e) (ap (takes i) there ∙ same_number by i (sym f)))
        (λ n w e. absurd (none_recovers s.core dead by can i d w e));
  }
    where
      there : log_hold table dead ≡ Some (hold_of by (expiry_of s.core by))
      there = hold_taken s.core.locks dead by s.core.now (expiry_of s.core by) waits.p3 inside

      go : (d : ℕ) (h : LogHold) → log_hold table d ≡ Some h → (d ≡ dead) ⊎ (d ≡ dead → ⊥) → HoldOf s.core.setting s.core.now with_taker d h
      go d h e (inl same) =
          subst (λ n. HoldOf s.core.setting s.core.now with_taker n h) (sym same)
          (subst (HoldOf s.core.setting s.core.now with_taker dead) (same_Some (hold_of by (expiry_of s.core by)) h (sym there ∙ ap (log_hold table) (sym same) ∙ e)) new_hold)
      go d h e (inr apart) = old_hold d h (sym (hold_elsewhere s.core.locks dead by s.core.now (expiry_of s.core by) waits.p3 d apart) ∙ e)

-- ---- and cleared

module _ (s : State) (by : ℕ) (recovery : Recovery) (who : IsTrue (is_worker s.core by)) (has : (s.core.servers by).recovery ≡ Some recovery) (k : Known s)
    (m : Holding s.core.setting s.core.now s.core.servers s.core.locks) where
  abbrev idle : Server
  idle = record (s.core.servers by) { recovery = None }

  abbrev rid : ℕ → Server
  rid = put s.core.servers by idle

  abbrev settled : ℕ → Server
  settled = put rid recovery.dead (recovered (s.core.servers recovery.dead))

  was : IsTrue (is_dead (s.core.servers recovery.dead).phase) × IsTrue (is_server recovery.dead)
  was = k.safe.saved by recovery.dead who (ap dead_of has)

  -- elsewhere
  settled_at : (P : Server → Type 0) (i : ℕ) → (i ≡ recovery.dead → ⊥) → (i ≡ by → P idle) → ((i ≡ by → ⊥) → P (s.core.servers i)) → P (settled i)
  settled_at P i apart own other = at_put P rid recovery.dead (recovered (s.core.servers recovery.dead)) i (λ e. absurd (apart e)) (λ n. at_put P s.core.servers by idle i own other)

  left_hold : (d : ℕ) (h : LogHold) → (h.by.0 ≡ recovery.dead → ⊥) → (d ≡ recovery.dead → ⊥) → HoldOf s.core.setting s.core.now s.core.servers d h → HoldOf s.core.setting s.core.now settled d h
  left_hold d h by_apart apart o = record {
    dead = settled_at (λ x. IsTrue (is_dead x.phase)) d apart (λ e. subst (λ n. IsTrue (is_dead (s.core.servers n).phase)) e o.dead) (λ n. o.dead);
    own = settled_at (λ x. IsTrue (mounted h.by.0 x) → dead_of x.recovery ≡ Some d) h.by.0 by_apart
        (λ e t. absurd (apart (same_Some d recovery.dead
        (sym (o.own (subst (λ n. IsTrue (is_in_mount (s.core.servers n).phase || h.by.0 == host_party)) (sym e) t)) ∙ ap (λ n. dead_of (s.core.servers n).recovery) e ∙ ap dead_of has))))
        (λ n. o.own);
    expiry = settled_at (λ x. h.expiry ≡ (if h.by.0 == host_party then lease_to s.core.setting s.core.now else x.expiry)) h.by.0 by_apart
        (λ e. o.expiry ∙ ap (λ n. if h.by.0 == host_party then lease_to s.core.setting s.core.now else (s.core.servers n).expiry) e)
        (λ n. o.expiry);
  }

  dead_has_none : dead_of (s.core.servers recovery.dead).recovery ≡ None
  dead_has_none = ap dead_of (k.safe.bare recovery.dead (server_no_host recovery.dead was.1) (or_right _ (is_dead (s.core.servers recovery.dead).phase) was.0)).recovery

  none_left : (i d : ℕ) → IsTrue (works i (settled i)) → dead_of (settled i).recovery ≡ Some d → ⊥
  none_left i d =
      at_put (λ x. IsTrue (works i x) → dead_of x.recovery ≡ Some d → ⊥) rid recovery.dead (recovered (s.core.servers recovery.dead)) i
      (λ e w f. none-some d (sym dead_has_none ∙ f))
      (λ n. at_put (λ x. IsTrue (works i x) → dead_of x.recovery ≡ Some d → ⊥) s.core.servers by idle i (λ e w f. none-some d f)
      (λ other w f. other (k.safe.one i by d recovery.dead w who f (ap dead_of has))))

  finish_holding : Holding s.core.setting s.core.now settled (cleared s.core.locks recovery.dead)
  finish_holding = record {
    holds = λ d h e. let left : (h.by.0 ≡ recovery.dead → ⊥) × (d ≡ recovery.dead → ⊥) = no_logs_left s.core.locks recovery.dead d h e in
        left_hold d h left.0 left.1 (m.holds d h (not_by_kept recovery.dead (log_hold s.core.locks d) h (sym (hold_after_clear s.core.locks recovery.dead d left.1) ∙ e)));
    held = λ i d w e. absurd (none_left i d w e);
  }

-- ---- each step

flushed_keeps : (i : ℕ) (test : Bool) (server : Server) → Keeps i server (if test then wanting_all_up server else server)
flushed_keeps i false server = self i server
flushed_keeps i true server = go (is_up server.phase)
  where
    go : (b : Bool) → Keeps i server (if b then wanting_all server else server)
    go true = steady i server (wanting_all server) refl refl refl
    go false = self i server

dies_keeps : (a : ℕ) (fate : Fate) (server : Server) → IsTrue (is_server a) → server.phase ≡ Doomed fate → Keeps a server (died_with fate server)
dies_keeps a fate server number p = record {
  dead = λ h. refl;
  own = λ t. absurd (both_ways (a == host_party) (server_no_host a number) t);
  expiry = refl;
  saves = λ d w e. absurd (none-some d e);
}

holding_turn : (s : State) (w : Work) → Turn s w → Known s → Holding s.core.setting s.core.now s.core.servers s.core.locks → Holding w.setting w.now w.servers w.locks
holding_turn s w turn k m = go w turn
  where
    one : (a : ℕ) (new : Server) (table : Locks) → Keeps a (s.core.servers a) new → ((d : ℕ) → log_hold table d ≡ log_hold s.core.locks d) →
        Holding s.core.setting s.core.now (put s.core.servers a new) table
    one = one_goes_on s.core.setting s.core.now s.core.servers s.core.locks k.safe m

    all : (after : ℕ → Server) (table : Locks) → ((i : ℕ) → Keeps i (s.core.servers i) (after i)) → ((d : ℕ) → log_hold table d ≡ log_hold s.core.locks d) →
        Holding s.core.setting s.core.now after table
    all = goes_on s.core.setting s.core.now s.core.servers s.core.locks k.safe m

    go : (w : Work) → Turn s w → Holding w.setting w.now w.servers w.locks
    go w Rests = m
    go w (Stays a) = one a _ s.core.locks (self a (s.core.servers a)) (λ d. refl)
    go w (Lines a under server step) = one a _ s.core.locks (steady a _ _ refl refl refl) (λ d. refl)
    go w (Caches a sector block needs cover server e f got) = one a _ s.core.locks (steady a _ _ refl refl refl) (λ d. refl)
    go w (Reclaims a outcome server e) = one a _ s.core.locks (steady a _ _ refl refl refl) (λ d. refl)
    go w (Clears a block server e) = one a _ s.core.locks (steady a _ _ refl refl refl) (λ d. refl)
    go w (Commits a outcome server e cleared) = one a _ s.core.locks (steady a _ _ refl refl refl) (λ d. refl)
    go w (Mounts a under server off u read) =
        one_begins s.core.setting s.core.now s.core.servers s.core.locks k.safe m a (up_after s.core under) (off_dead_not (s.core.servers a).phase off) (k.bare a server off).logs refl
    go w (Leaves a server up clean) =
        one_clears s.core.setting s.core.now s.core.servers s.core.locks k.safe m a (off_after (s.core.servers a)) (up_dead_not (s.core.servers a).phase up) refl
    go w (Arms a arming server up) = one a _ s.core.locks (steady a _ _ refl refl refl) (λ d. refl)
    go w (Stalls a server up) = one a _ s.core.locks (halted a _ _ (up_mounted (s.core.servers a).phase up) refl refl refl) (λ d. refl)
    go w (Settles a server) = one a _ s.core.locks (steady a _ _ refl refl refl) (λ d. refl)
    go w (Asks a lock mode server e) = all s.core.servers _ (λ i. self i (s.core.servers i)) (λ d. refl)
    go w (Lowers a lock can) = all s.core.servers _ (λ i. self i (s.core.servers i)) (λ d. refl)
    go w (Releases a lock can) = one a _ _ (steady a _ _ refl refl refl) (λ d. refl)
    go w (Relocks locks are same wait) = all s.core.servers locks (λ i. self i (s.core.servers i)) same.logs
    go w (Wants a up) = one a _ s.core.locks (steady a _ _ refl refl refl) (λ d. refl)
    go w (Issues a sector write can e) = one a _ s.core.locks (steady a _ _ refl refl refl) (λ d. refl)
    go w (Fades ticket flight e late) = m
    go w (Lands ticket flight e early present) =
        one flight.server _ s.core.locks
        (steady flight.server _ _ (acknowledged_phase flight.sector flight.block flight.purpose (s.core.servers flight.server))
        (acknowledged_expiry flight.sector flight.block flight.purpose (s.core.servers flight.server))
        (acknowledged_dead flight.sector flight.block flight.purpose (s.core.servers flight.server)))
        (λ d. refl)
    go w (Drifts ticket flight e early present) = m
    go w (Breaks ticket flight new e early) = all _ s.core.locks (failed_servers s.core.servers flight.server) (λ d. refl)
    go w (Fails a) = all _ s.core.locks (failed_servers s.core.servers a) (λ d. refl)
    go w (Dooms a fate can) = one a _ s.core.locks (halted a _ _ (doomed_mounted s.core a k.safe can) refl refl refl) (λ d. refl)
    go w (Resumes a can) =
        one_clears s.core.setting s.core.now s.core.servers s.core.locks k.safe m a (up_again s.core.setting s.core.now (s.core.servers a))
        (still_dead_not (s.core.servers a).phase (and_parts (is_still (s.core.servers a).phase) _ can.past).0) refl
    go w (Dies a fate server p) = one a _ s.core.locks (dies_keeps a fate (s.core.servers a) server p) (λ d. refl)
    go w (Renews a can) =
        one_renews s.core.setting s.core.now s.core.servers s.core.locks k.safe m a (lease_to s.core.setting s.core.now) (server_no_host a can.server)
    go w (Ticks can) =
        all_tick s.core.setting s.core.now s.core.servers s.core.locks k.safe m (s.core.now + 1) _
        (λ i. flushed_keeps i ((s.core.now + 1) % s.core.setting.flush_ticks == 0) (s.core.servers i))
    go w (Recovers dead by can) = recover_holding s dead by can k m
    go w (Loads by slot block recovery who has wants got) = one by _ s.core.locks (steady by _ _ refl refl (sym (ap dead_of has))) (λ d. refl)
    go w (Looks by sector block recovery who has wants got) = one by _ s.core.locks (steady by _ _ refl refl (sym (ap dead_of has))) (λ d. refl)
    go w (Finishes by recovery can has) = finish_holding s by recovery can.who has k m
    go w Halts = m

known_of_run : (setting : Setting) (disk : Sectors) (s : State) → Run (first_state setting disk) s → Known s
known_of_run setting disk s run = record { safe = good_of_run setting disk s run; are = locks_of_run setting disk s run; bare = bare_of_run setting disk s run }

-- at first no log is taken
none_taken : (d : ℕ) → log_hold no_locks d ≡ None
unfolding no_clerks no_logs
none_taken d = go (cases_lt d 256)
  where
    go : (d < 256) ⊎ (256 ≤ d) → log_hold no_locks d ≡ None
    go (inl below) = get_or-replicate 256 d None None below
    go (inr past) = get_or_past (replicate 256 None) d None (omega (arith, length-replicate {A = Option LogHold} 256 None, past))

pub holding_of_run : (setting : Setting) (disk : Sectors) (s : State) → Run (first_state setting disk) s → Holding s.core.setting s.core.now s.core.servers s.core.locks
holding_of_run setting disk =
    along setting disk (λ s. Holding s.core.setting s.core.now s.core.servers s.core.locks)
    (λ s v run step m. holding_turn s (work_of v) (step_turn s v step) (known_of_run setting disk s run) m)
    (record { holds = λ d h e. absurd (none-some h (sym (none_taken d) ∙ e)); held = λ by d w e. absurd (none-some d e) })

-- ---- in the words of the laws

module _ (setting : Setting) (disk : Sectors) (s : State) (run : Run (first_state setting disk) s) where
  holding : Holding s.core.setting s.core.now s.core.servers s.core.locks
  holding = holding_of_run setting disk s run

  pub on_the_dead : (dead : ℕ) (hold : LogHold) → log_hold s.core.locks dead ≡ Some hold → IsTrue (is_dead (s.core.servers dead).phase)
  on_the_dead dead hold e = (holding.holds dead hold e).dead

  recovery_at : (r : Option Recovery) (d : ℕ) → dead_of r ≡ Some d → (recovery : Recovery) × (r ≡ Some recovery) × (recovery.dead ≡ d)
  recovery_at None d e = absurd (none-some d e)
  recovery_at (Some r) d e = (r, refl, same_Some r.dead d e)

  pub holds_of_recoveries : (a dead : ℕ) (hold : LogHold) → log_hold s.core.locks dead ≡ Some hold → hold.by.0 ≡ a →
      IsTrue (is_in_mount (s.core.servers a).phase || a == host_party) → (recovery : Recovery) × ((s.core.servers a).recovery ≡ Some recovery) × (recovery.dead ≡ dead)
  holds_of_recoveries a dead hold e same t =
      recovery_at (s.core.servers a).recovery dead
      (subst (λ n. IsTrue (mounted n (s.core.servers n)) → dead_of (s.core.servers n).recovery ≡ Some dead) same (holding.holds dead hold e).own t)

  pub lasts_as_lease : (dead : ℕ) (hold : LogHold) → log_hold s.core.locks dead ≡ Some hold → hold.expiry ≡ expiry_of s.core hold.by.0
  lasts_as_lease dead hold e = (holding.holds dead hold e).expiry

  hold_at : (by : ℕ) (hold : Option LogHold) → takes by hold ≡ true → (h : LogHold) × (hold ≡ Some h) × (h.by.0 ≡ by)
  hold_at by None t = absurd (false≢true t)
  hold_at by (Some h) t = (h, refl, same h.by.0 by t)
    where
      same : (x y : ℕ) → (x == y) ≡ true → x ≡ y
      same x y e = grind (arith, nat_tests, e)

  pub recoverers_hold : (by : ℕ) (recovery : Recovery) → IsTrue (is_worker s.core by) → (s.core.servers by).recovery ≡ Some recovery →
      (hold : LogHold) × (log_hold s.core.locks recovery.dead ≡ Some hold) × (hold.by.0 ≡ by)
  recoverers_hold by recovery who has = hold_at by (log_hold s.core.locks recovery.dead) (holding.held by recovery.dead who (ap dead_of has))
