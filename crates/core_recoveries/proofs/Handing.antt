-- The locks where a recovery has ended: the dead server holds none, its log is free again, and who has taken a log beside it keeps it.
use Rattle.std.proofs.Common.{◌≡◌, ℕ, ◌==◌, Bool, true, false, if◌then◌else◌, Option, Some, None, refl, sym, ap, ◌∙◌}
use Rattle.frang_base.specs.Functions.{put}
use Rattle.frang_base.specs.declared.lock.LockId.{LockId}
use Rattle.frang_base.specs.declared.lock.Mode.{Mode}
use Rattle.frang_base.proofs.Basics.{at_put}
use Rattle.lock_definitions.specs.declared.claim.LogHold.{LogHold}
use Rattle.lock_definitions.specs.Calls.{cleared, hold_not_by}
use Rattle.lock_definitions.specs.Locks.{AreLocks, Locks, held, log_hold}
use Rattle.lock_definitions.proofs.Wants.{no_logs_left}
use Rattle.sector_world.specs.Steps.{dropped, held_until}
use Rattle.sector_world.specs.World.{World}
use Rattle.core_recoveries.proofs.LogHolds.{hold_after_clear}
use Rattle.core_lives.proofs.Leaving.{held_cleared, held_elsewhere}
use Rattle.core_world.specs.Ties.{AreHeld, taker_of, until_of}

-- on either side a hold is dropped where it is the dead server's
taker_dropped : (dead : ℕ) (o : Option LogHold) → dropped dead (taker_of o) ≡ taker_of (hold_not_by dead o)
taker_dropped dead None = refl
taker_dropped dead (Some hold) = go (hold.by.0 == dead)
  where
    go : (b : Bool) → (if b then None else Some hold.by.0) ≡ taker_of (if b then None else Some hold)
    go true = refl
    go false = refl

until_dropped : (dead : ℕ) (o : Option LogHold) → held_until (dropped dead (taker_of o)) (until_of o) ≡ until_of (hold_not_by dead o)
until_dropped dead None = refl
until_dropped dead (Some hold) = go (hold.by.0 == dead)
  where
    go : (b : Bool) → held_until (if b then None else Some hold.by.0) hold.expiry ≡ until_of (if b then None else Some hold)
    go true = refl
    go false = refl

module _ (locks : Locks) (are : AreLocks locks) (w : World) (dead : ℕ) (t : AreHeld locks w) where
  free : (d : ℕ) → d ≡ dead → log_hold (cleared locks dead) d ≡ None
  free d e = go (log_hold (cleared locks dead) d) refl
    where
      go : (o : Option LogHold) → log_hold (cleared locks dead) d ≡ o → o ≡ None
      go None i = refl
      go (Some hold) i = absurd ((no_logs_left locks dead d hold i).1 e)

  abbrev taker_then : ℕ → Option ℕ
  taker_then d = dropped dead (put w.taker dead None d)

  taker : (d : ℕ) → taker_then d ≡ taker_of (log_hold (cleared locks dead) d)
  taker d = at_put (λ o. dropped dead o ≡ taker_of (log_hold (cleared locks dead) d)) w.taker dead None d
      (λ e. sym (ap taker_of (free d e)))
      (λ n. ap (dropped dead) (t.taker d) ∙ taker_dropped dead (log_hold locks d) ∙ sym (ap taker_of (hold_after_clear locks dead d n)))

  until : (d : ℕ) → held_until (taker_then d) (w.until d) ≡ until_of (log_hold (cleared locks dead) d)
  until d = at_put (λ o. held_until (dropped dead o) (w.until d) ≡ until_of (log_hold (cleared locks dead) d)) w.taker dead None d
      (λ e. sym (ap until_of (free d e)))
      (λ n. ap (λ o. held_until (dropped dead o) (w.until d)) (t.taker d) ∙ ap (held_until (dropped dead (taker_of (log_hold locks d)))) (t.until d)
      ∙ until_dropped dead (log_hold locks d) ∙ sym (ap until_of (hold_after_clear locks dead d n)))

  pub handed_back : (u : World) → u.holds ≡ put w.holds dead (λ l. None) → u.taker ≡ taker_then → u.until ≡ (λ d. held_until (taker_then d) (w.until d)) → AreHeld (cleared locks dead) u
  handed_back u holds takers untils = record {
    holds = λ a l. ap (λ f. f a l) holds ∙ at_put (λ (f : LockId → Option Mode). f l ≡ held (cleared locks dead) a l) w.holds dead (λ k. None) a
        (λ e. sym (ap (λ n. held (cleared locks dead) n l) e ∙ held_cleared locks are dead l)) (λ n. t.holds a l ∙ sym (held_elsewhere locks dead a l n));
    taker = λ d. ap (λ f. f d) takers ∙ taker d;
    until = λ d. ap (λ f. f d) untils ∙ until d;
  }
