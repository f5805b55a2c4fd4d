-- The first moment has a world: nothing is held, cached or in flight, and all logs are zero.
use Rattle.std.proofs.Common.{◌≡◌, ◌≢◌, ◌⊎◌, ℕ, ◌+◌, ◌<◌, ◌≤◌, ◌==◌, Bool, true, false, if◌then◌else◌, [], Option, None, is_some, refl, sym, ap, ◌∙◌, subst, inl, inr, arith, le_refl}
use Rattle.std.proofs.lemmas.Bool.{cases_lt}
use Rattle.std.proofs.lemmas.Bool.Decides.{nat_tests}
use Rattle.std.proofs.lemmas.List.{get_or_past, get_or-replicate, length-replicate}
use Rattle.frang_base.specs.Functions.{put}
use Rattle.frang_base.proofs.Basics.{at_put}
use Rattle.frang_base.specs.declared.limits.TheConstants.{LEASE_TICKS, LOG_SECTORS, SERVERS}
use Rattle.frang_base.specs.declared.lock.LockId.{LockId}
use Rattle.lock_definitions.specs.declared.claim.LogHold.{LogHold}
use Rattle.lock_definitions.specs.Locks.{Claims, claim_in, claims_of, held, log_hold, no_clerks, no_locks, no_logs}
use Rattle.lock_definitions.proofs.Changes.{claims_past}
use Rattle.sector_bytes.specs.Blocks.{zero_block}
use Rattle.sector_bytes.specs.Bytes.{zeros}
use Rattle.sector_bytes.specs.Sectors.{Sectors}
use Rattle.disk_definitions.specs.Logs.{Slots, is_sealed, log_end, numbers_in, window}
use Rattle.disk_definitions.specs.Replay.{slots_of}
use Rattle.disk_definitions.proofs.EndLaws.{sealed_from, sealed_numbers}
use Rattle.disk_definitions.proofs.SameLogs.{IsZeroLog, log_end_same, sector_same, zero_log_end, zero_log_records}
use Rattle.core_definitions.specs.Cores.{first_core}
use Rattle.core_laws.proofs.Membership.{contains_in}
use Rattle.core_definitions.specs.Scripts.{host_party}
use Rattle.core_definitions.specs.Settings.{Setting}
use Rattle.sector_world.proofs.Every.{good_run, good_start, good_step}
use Rattle.sector_world.specs.Steps.Event.{Renew}
use Rattle.sector_world.specs.World.{Off, Dead, World, Absent, NoPage, cover, has_version, start}
use Rattle.core_world.specs.Events.{FirstMomentsAreGood, FirstMomentsAreWorlds, LeadsStayGood, first_world}
use Rattle.core_world.specs.Journals.{IsAtRest, SectorLog, sector_log}
use Rattle.core_world.specs.Readings.{AllInPlace}
use Rattle.core_world.specs.Ties.{AreTied, IsCachedAs, expiry_at, taker_of, until_of}

-- ---- no locks

no_claims : (server : ℕ) → claims_of no_locks server ≡ []
unfolding no_clerks no_logs
no_claims server = go (cases_lt server 16)
  where
    go : (server < 16) ⊎ (16 ≤ server) → claims_of no_locks server ≡ []
    go (inl below) = get_or-replicate 16 server [] [] below
    go (inr above) = claims_past no_locks server (omega (arith, length-replicate {A = Claims} 16 []))

none_held : (a : ℕ) (lock : LockId) → held no_locks a lock ≡ None
none_held a lock = ap (λ claims. (claim_in claims lock).held) (no_claims a)

none_taken : (d : ℕ) → log_hold no_locks d ≡ None
unfolding no_clerks no_logs
none_taken d = go (cases_lt d 256)
  where
    go : (d < 256) ⊎ (256 ≤ d) → log_hold no_locks d ≡ None
    go (inl below) = get_or-replicate 256 d None None below
    go (inr above) = get_or_past no_locks.logs d None (omega (arith, length-replicate {A = Option LogHold} 256 None))

-- ---- zero logs

abbrev new_log : Slots
new_log slot = zeros 512

is_new : is_sealed new_log ≡ true
unfolding zeros window numbers_in log_end
is_new = refl

rests : (slots : Slots) (log : SectorLog) → IsZeroLog slots → IsAtRest slots log
rests slots log z = record {
  low = low (log_end slots) end;
  sealed = sealed_from slots (λ n e. subst (λ m. n ≤ m) (sym (log_end_same slots new_log z)) (sealed_numbers new_log is_new n (ap is_some (sym (sector_same slots new_log z n)) ∙ e)));
  old = λ s. subst (λ records. AllInPlace records s (log.versions s)) (sym (zero_log_records slots z)) tt;
}
  where
    end : log_end slots ≡ 255
    end = zero_log_end slots z

    low : (m : ℕ) → m ≡ 255 → LOG_SECTORS ≤ m + 1
    low m e = omega (arith, e)

-- ---- all

none_cached : (v : Bool) (k : LockId) → IsCachedAs v k None Absent NoPage
none_cached true k = refl
none_cached false k = (refl, inl refl)

module _ (setting : Setting) (disk : Sectors) (logged of_files : ℕ → Bool) (home : ℕ → LockId) where
  abbrev w : World
  w = first_world disk logged of_files home

  expires : (b : ℕ) → put (λ d. 0) host_party (0 + LEASE_TICKS) b ≡ expiry_at 0 b 0
  expires b = at_put (λ x. x ≡ expiry_at 0 b 0) (λ d. 0) host_party (0 + LEASE_TICKS) b
      (λ e. sym (ap (λ x. if x then 0 + LEASE_TICKS else 0) (ap (λ n. n == host_party) e)))
      (λ n. sym (ap (λ x. if x then 0 + LEASE_TICKS else 0) (apart n)))
    where
      apart : b ≢ host_party → (b == host_party) ≡ false
      apart n = grind (arith, nat_tests, n)

  stands : (s : ℕ) → (if logged s then (if logged s then disk s else zero_block) else (if logged s then zero_block else disk s)) ≡ disk s
  stands s = by (logged s)
    where
      by : (b : Bool) → (if b then (if b then disk s else zero_block) else (if b then zero_block else disk s)) ≡ disk s
      by true = refl
      by false = refl

  pub first_tied : AreTied (first_core setting) disk w
  first_tied = record {
    lives = record { now = refl; phase = λ a. refl; expiry = expires; well = λ a e up. absurd (cc) };
    locks = record {
      holds = λ a l. sym (none_held a l);
      taker = λ d. sym (ap (λ o. taker_of o) (none_taken d));
      until = λ d. sym (ap (λ o. until_of o) (none_taken d));
    };
    cached = λ a s. none_cached (has_version w s) (cover w s);
    marked = λ a s. tt;
    flying = λ e. record { flight = λ s f i. absurd (cc); bytes = λ s f i. absurd (cc); shown = λ one i. absurd (contains_in [] one i) };
    disk = λ s log. stands s;
    rescues = λ e. record { under_way = λ by r who i. absurd (cc); known = λ r i. absurd (cc) };
    logged = λ a i. le_refl 0;
  }

pub first_moments : FirstMomentsAreWorlds
first_moments setting disk logged of_files home journal zero = record {
  tied = first_tied setting disk logged of_files home;
  journals = λ a who. rests (slots_of disk a) (sector_log (first_world disk logged of_files home) a) (λ slot below. zero a slot who below);
  readings = λ by recovery who i. absurd (cc);
}

-- the host may renew at once
pub first_good : FirstMomentsAreGood
first_good disk logged of_files home = good_step (start SERVERS disk logged of_files home) (Renew host_party) (record { alive = λ e. absurd (off_dead e); later = omega arith }) (good_start SERVERS disk logged of_files home)
  where
    off_dead : Off ≢ Dead
    off_dead e = cc

pub stays_good : LeadsStayGood
stays_good w v journal good leads = good_run w leads.events leads.world leads.run good
