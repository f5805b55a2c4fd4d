-- What phases are to one another, that who is doomed is in a mount, and that nobody recovers where a log is taken.
use Rattle.std.proofs.Common.{◌≡◌, ℕ, inl, inr, List, [], ◌∷◌, is_some, Bool, true, false, not, ◌&&◌, ◌||◌, ◌==◌, IsTrue, Option, Some, None, nat_lt, refl, sym, subst}
use Rattle.std.proofs.lemmas.Bool.{and_from, false≢true, or_left, or_right}
use Rattle.std.proofs.lemmas.Option.{none-some}
use Rattle.std.specs.List.{list_any}
use Rattle.disk_definitions.proofs.Listed.{Among}
use Rattle.lock_definitions.specs.Locks.{log_hold}
use Rattle.tree_definitions.specs.Transcript.{is_crash}
use Rattle.core_definitions.specs.Recoveries.{Recovery}
use Rattle.core_definitions.specs.Scripts.{host_party}
use Rattle.core_definitions.specs.Servers.{Arming, Phase, Off, Up, Still, Doomed, Dead, asks, is_dead, is_in_mount, is_off, is_still, is_up}
use Rattle.core_definitions.specs.Cores.{Core, clean_at, parties, writes}
use Rattle.core_definitions.specs.LineGuards.{is_server}
use Rattle.core_definitions.specs.WriteGuards.{CanDoom, is_at_last, is_issuable}
use Rattle.core_definitions.specs.EndGuards.{CanRecover, is_hold_over, is_recovering, none_up}
use Rattle.core_laws.proofs.Guarding.{Of4, of_4}
use Rattle.core_laws.proofs.Memory.{Safe, dead_of, is_resting, works}
use Rattle.core_laws.proofs.Parties.{worker_in_parties}
use Rattle.core_laws.proofs.Resting.{negated, server_no_host}

pub off_dead_not : (p : Phase) → IsTrue (is_off p) → is_dead p ≡ false
off_dead_not Off h = refl
off_dead_not Up h = absurd (false≢true h)
off_dead_not Still h = absurd (false≢true h)
off_dead_not (Doomed fate) h = absurd (false≢true h)
off_dead_not Dead h = absurd (false≢true h)

pub up_mounted : (p : Phase) → IsTrue (is_up p) → IsTrue (is_in_mount p)
up_mounted Off h = absurd (false≢true h)
up_mounted Up h = refl
up_mounted Still h = absurd (false≢true h)
up_mounted (Doomed fate) h = absurd (false≢true h)
up_mounted Dead h = absurd (false≢true h)

pub mounted_dead_not : (p : Phase) → IsTrue (is_in_mount p) → is_dead p ≡ false
mounted_dead_not Off h = absurd (false≢true h)
mounted_dead_not Up h = refl
mounted_dead_not Still h = refl
mounted_dead_not (Doomed fate) h = refl
mounted_dead_not Dead h = absurd (false≢true h)

awake_mounted : (p : Phase) → is_resting p ≡ false → IsTrue (is_in_mount p)
awake_mounted Off h = absurd (false≢true (sym h))
awake_mounted Up h = refl
awake_mounted Still h = refl
awake_mounted (Doomed fate) h = refl
awake_mounted Dead h = absurd (false≢true (sym h))

-- who is at work then without being Up is the host, and was
pub host_works : (s v w h : Bool) → v ≡ false → IsTrue ((s && v) || h) → IsTrue ((s && w) || h)
host_works true true w h e t = absurd (false≢true (sym e))
host_works true false true h e t = refl
host_works true false false h e t = t
host_works false v w h e t = t

-- who rests has no arming, and nothing else dooms it
module _ (c : Core) (a : ℕ) (safe : Safe c.servers) (can : CanDoom c a) where
  no_cause : (p : Phase) (arming : Option Arming) (k x y z f : Bool) → IsTrue (is_resting p) → arming ≡ None →
      IsTrue ((is_up p && k) || (is_at_last arming && x) || ((is_still p && y) && z) || ((is_up p || is_still p) && f)) → ⊥
  no_cause Dead None k x y z f d n h = absurd (false≢true h)
  no_cause Dead (Some arming) k x y z f d n h = absurd (none-some arming (sym n))
  no_cause Off None k x y z f d n h = absurd (false≢true h)
  no_cause Off (Some arming) k x y z f d n h = absurd (none-some arming (sym n))
  no_cause Up arming k x y z f d n h = absurd (false≢true d)
  no_cause Still arming k x y z f d n h = absurd (false≢true d)
  no_cause (Doomed fate) arming k x y z f d n h = absurd (false≢true d)

  pub doomed_mounted : IsTrue (is_in_mount (c.servers a).phase)
  doomed_mounted = awake_mounted (c.servers a).phase (go (is_resting (c.servers a).phase) refl)
    where
      rests : IsTrue (is_resting (c.servers a).phase) → ⊥
      rests d =
          no_cause (c.servers a).phase (c.servers a).arming (asks is_crash (c.servers a)) (list_any (λ entry. is_issuable c a entry.0 (writes c a)) (writes c a)) (nat_lt (c.servers a).expiry c.now)
          (not (clean_at c a)) (c.servers a).failed d (safe.bare a (server_no_host a can.server) d).arming can.cause

      go : (b : Bool) → is_resting (c.servers a).phase ≡ b → b ≡ false
      go true e = absurd (rests e)
      go false e = refl

-- ---- who takes a log

some_any : (test : ℕ → Bool) (xs : List ℕ) (x : ℕ) → Among x xs → IsTrue (test x) → IsTrue (list_any test xs)
some_any test [] x i h = absurd i
some_any test (y ∷ ys) x (inl e) h = or_left (test y) (list_any test ys) (subst (λ k. IsTrue (test k)) e h)
some_any test (y ∷ ys) x (inr i) h = or_right (test y) (list_any test ys) (some_any test ys x i h)

some_dead : (r : Option Recovery) (d : ℕ) → dead_of r ≡ Some d → IsTrue (is_some r)
some_dead None d e = absurd (none-some d e)
some_dead (Some r) d e = refl

module _ (c : Core) (dead by : ℕ) (can : CanRecover c dead by) where
  pub recover_waits : Of4 (is_server dead) (is_dead (c.servers dead).phase) (nat_lt (c.servers dead).expiry c.now) (is_hold_over c.now (log_hold c.locks dead))
  recover_waits = of_4 (is_server dead) (is_dead (c.servers dead).phase) (nat_lt (c.servers dead).expiry c.now) (is_hold_over c.now (log_hold c.locks dead)) can.waits

  -- it works
  pub taker_works : IsTrue (works by (c.servers by))
  taker_works = go (is_server by) (is_up (c.servers by).phase) (by == host_party) (none_up c) can.taker
    where
      go : (number u h n : Bool) → IsTrue ((number && u) || (h && n)) → IsTrue ((number && u) || h)
      go true true h n t = refl
      go true false true n t = refl
      go true false false n t = t
      go false u true n t = refl
      go false u false n t = t

  -- nobody who works has a recovery
  pub none_recovers : (i d : ℕ) → IsTrue (works i (c.servers i)) → dead_of (c.servers i).recovery ≡ Some d → ⊥
  none_recovers i d w e =
      negated (list_any (is_recovering c) parties) can.none
      (some_any (is_recovering c) parties i (worker_in_parties c i w) (and_from (works i (c.servers i)) (is_some (c.servers i).recovery) w (some_dead (c.servers i).recovery d e)))
