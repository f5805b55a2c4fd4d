-- What each call of a lock table answers, and the state that it leaves.
use Rattle.std.specs.Prelude.{ℕ, ◌==◌, nat_lt, Bool, true, false, not, ◌&&◌, ◌||◌, if◌then◌else◌, is_some, Option, Some, None, Result, Ok, Err, List, [], map, slice_set}
use Rattle.std.specs.List.{filter_map}
use Rattle.std.specs.Option.{option_map}
use Rattle.frang_base.specs.declared.lock.LockId.{LockId}
use Rattle.frang_base.specs.declared.lock.Mode.{Mode}
use Rattle.frang_base.specs.declared.lock.Mode.TheVariants.{Shared, Sole}
use Rattle.lock_definitions.specs.declared.claim.Claim.{Claim}
use Rattle.lock_definitions.specs.declared.claim.LogHold.{LogHold}
use Rattle.lock_definitions.specs.declared.claim.LogTaken.{LogTaken}
use Rattle.lock_definitions.specs.declared.claim.Wanted.{Wanted}
use Rattle.lock_definitions.specs.declared.claim.Wanted.TheVariants.{Granted, Wait}
use Rattle.lock_definitions.specs.declared.claim.AskedFor.{AskedFor}
use Rattle.lock_definitions.specs.declared.claim.AskedFor.TheVariants.{Release, Downgrade}
use Rattle.lock_definitions.specs.Locks.{Locks, claims_of, claim_of, with_claim, held, is_wished, log_hold}
use Rattle.lock_definitions.specs.Servers.{any_server, server_bits}

-- ---- who stands in the way

-- a lock held so serves one who wants it so
abbrev pub serves : Option Mode → Mode → Bool
serves None mode = false
serves (Some Sole) mode = true
serves (Some Shared) Shared = true
serves (Some Shared) Sole = false

-- one of the two modes, the wanted one and another server's, is sole
abbrev pub clashes : Mode → Option Mode → Bool
clashes mode None = false
clashes mode (Some Sole) = true
clashes Sole (Some Shared) = true
clashes Shared (Some Shared) = false

-- another server holds the lock in a mode that conflicts with the one that this server wants
abbrev pub conflicts : Locks → ℕ → LockId → Mode → ℕ → Bool
conflicts locks server lock mode other = not (other == server) && clashes mode (held locks other lock)

-- no holder conflicts
abbrev pub is_free : Locks → ℕ → LockId → Mode → Bool
is_free locks server lock mode = not (any_server (conflicts locks server lock mode))

-- a bit for each holder that conflicts
abbrev pub holders : Locks → ℕ → LockId → Mode → ℕ
holders locks server lock mode = server_bits (conflicts locks server lock mode)

-- ---- claims

-- a server's claim on a lock is changed
abbrev pub changed : Locks → ℕ → LockId → (Claim → Claim) → Locks
changed locks server lock change =
    record locks { clerks = slice_set locks.clerks server (with_claim (claims_of locks server) lock (change (claim_of locks server lock))) }

-- the lock is held in this mode; a wish that this serves has ended
abbrev pub holding : Mode → Claim → Claim
holding Shared claim = record claim { held = Some Shared; wishes_shared = false }
holding Sole claim = record { held = Some Sole; wishes_shared = false; wishes_sole = false }

-- the mode is granted; a sole hold stays sole
abbrev pub granted : Mode → Claim → Claim
granted mode claim = if serves claim.held Sole then holding Sole claim else holding mode claim

-- the wish is noted
abbrev pub wishing : Mode → Claim → Claim
wishing Shared claim = record claim { wishes_shared = true }
wishing Sole claim = record claim { wishes_sole = true }

-- nothing is held any more
abbrev pub given_up : Claim → Claim
given_up claim = record claim { held = None }

-- what was held is held shared
abbrev pub shared : Claim → Claim
shared claim = record claim { held = option_map (λ mode. Shared) claim.held }

-- ---- the calls on locks

-- `want`: granted exactly where no holder conflicts, else the wish is noted
abbrev pub want_answer : Locks → ℕ → LockId → Mode → Wanted
want_answer locks server lock mode = if is_free locks server lock mode then Granted else Wait (holders locks server lock mode)

-- what the answer makes of the claim
abbrev pub answered : Wanted → Mode → Claim → Claim
answered Granted mode claim = granted mode claim
answered (Wait holders) mode claim = wishing mode claim

-- the state after a want
abbrev pub wanted : Locks → ℕ → LockId → Mode → Locks
wanted locks server lock mode = changed locks server lock (answered (want_answer locks server lock mode) mode)

-- `release` and `downgrade`
abbrev pub released : Locks → ℕ → LockId → Locks
released locks server lock = changed locks server lock given_up

-- the state after a downgrade
abbrev pub downgraded : Locks → ℕ → LockId → Locks
downgraded locks server lock = changed locks server lock shared

-- another server's wish for the lock in this mode is noted
abbrev pub is_wished_by_other : Locks → ℕ → LockId → Mode → Bool
is_wished_by_other locks server lock mode = any_server (λ other. not (other == server) && is_wished locks other lock mode)

-- what a holder is asked for, by its mode and whether others wish the lock shared and sole
abbrev pub asked_of : Option Mode → Bool → Bool → Option AskedFor
asked_of None for_shared for_sole = None
asked_of (Some Sole) true for_sole = Some Downgrade
asked_of (Some Sole) false true = Some Release
asked_of (Some Sole) false false = None
asked_of (Some Shared) for_shared true = Some Release
asked_of (Some Shared) for_shared false = None

-- what the server is asked for, if a noted wish of another server conflicts with its hold
abbrev pub asked_for : Locks → ℕ → LockId → Option AskedFor
asked_for locks server lock =
    asked_of (held locks server lock) (is_wished_by_other locks server lock Shared) (is_wished_by_other locks server lock Sole)

-- `revokes`: the locks of the server that a noted wish conflicts with, ascending, each with what is asked for
abbrev pub revokes : Locks → ℕ → List (LockId × AskedFor)
revokes locks server = filter_map (λ entry. option_map (λ asked. (entry.0, asked)) (asked_for locks server entry.0)) (claims_of locks server)

-- ---- the calls on logs

-- the hold of another taker, where its expiry isn't below now
abbrev pub hold_against : ℕ → ℕ → Option LogHold → Option LogHold
hold_against by now None = None
hold_against by now (Some hold) = if hold.by.0 == by || nat_lt hold.expiry now then None else Some hold

-- `take_log`: refused exactly where another taker's hold stands
abbrev pub log_taken_by : Locks → ℕ → ℕ → ℕ → Option LogHold
log_taken_by locks dead by now = hold_against by now (log_hold locks dead)

-- the answer to who takes a log against this hold
abbrev pub log_answer : Option LogHold → Result (Unit {0}) LogTaken
log_answer None = Ok tt
log_answer (Some hold) = Err (record { by = hold.by; expiry = hold.expiry })

-- a hold of this taker with this expiry
abbrev pub hold_of : ℕ → ℕ → LogHold
hold_of by expiry = record { by = record { 0 = by }; expiry = expiry }

-- the state after a taking
abbrev pub taken : Locks → ℕ → ℕ → ℕ → ℕ → Locks
taken locks dead by now expiry =
    if is_some (log_taken_by locks dead by now) then locks
    else record locks { logs = slice_set locks.logs dead (Some (hold_of by expiry)) }

-- `extend`: the holds of this taker have this expiry
abbrev pub hold_extended : ℕ → ℕ → Option LogHold → Option LogHold
hold_extended by expiry None = None
hold_extended by expiry (Some hold) = if hold.by.0 == by then Some (hold_of by expiry) else Some hold

-- the state after an extension
abbrev pub extended : Locks → ℕ → ℕ → Locks
extended locks by expiry = record locks { logs = map (hold_extended by expiry) locks.logs }

-- `clear`: every lock, wish and log hold of the server is gone, and the hold on its log
abbrev pub hold_not_by : ℕ → Option LogHold → Option LogHold
hold_not_by by None = None
hold_not_by by (Some hold) = if hold.by.0 == by then None else Some hold

-- the state after a clearing
abbrev pub cleared : Locks → ℕ → Locks
cleared locks dead =
    record { clerks = slice_set locks.clerks dead []; logs = slice_set (map (hold_not_by dead) locks.logs) dead None }
