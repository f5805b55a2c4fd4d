-- Calls on one lock and one log, computed.
use Rattle.std.specs.Prelude.{◌≡◌, Ok, Err, [], ◌∷◌, refl}
use Rattle.frang_base.specs.declared.lock.LockId.TheVariants.{Node}
use Rattle.frang_base.specs.declared.lock.Mode.TheVariants.{Shared, Sole}
use Rattle.lock_definitions.specs.declared.claim.Wanted.TheVariants.{Granted, Wait}
use Rattle.lock_definitions.specs.declared.claim.AskedFor.TheVariants.{Downgrade}
use Rattle.lock_definitions.specs.Servers.{any_server, server_bits}
use Rattle.lock_definitions.specs.Locks.{Locks, no_clerks, no_logs, no_locks}
use Rattle.lock_definitions.specs.Calls.{want_answer, wanted, downgraded, revokes, log_answer, log_taken_by, taken}

-- server 0 holds the lock sole, and server 1 wants it shared
abbrev held_by_0 : Locks
held_by_0 = wanted no_locks 0 (Node 1) Sole

abbrev wished_by_1 : Locks
wished_by_1 = wanted held_by_0 1 (Node 1) Shared

sole_is_granted : want_answer no_locks 0 (Node 1) Sole ≡ Granted
unfolding no_clerks no_logs any_server
sole_is_granted = refl

shared_waits_for_sole : want_answer held_by_0 1 (Node 1) Shared ≡ Wait 1
unfolding no_clerks no_logs any_server server_bits
shared_waits_for_sole = refl

holder_is_asked_to_downgrade : revokes wished_by_1 0 ≡ (Node 1, Downgrade) ∷ []
unfolding no_clerks no_logs any_server
holder_is_asked_to_downgrade = refl

-- then server 0 downgrades
shared_is_granted_beside_shared : want_answer (downgraded wished_by_1 0 (Node 1)) 1 (Node 1) Shared ≡ Granted
unfolding no_clerks no_logs any_server
shared_is_granted_beside_shared = refl

sole_waits_for_shared : want_answer (wanted (downgraded wished_by_1 0 (Node 1)) 1 (Node 1) Shared) 1 (Node 1) Sole ≡ Wait 1
unfolding no_clerks no_logs any_server server_bits
sole_waits_for_shared = refl

-- a grant ends the wish, so nobody is asked for anything
wish_ends_when_granted : revokes (wanted (downgraded wished_by_1 0 (Node 1)) 1 (Node 1) Shared) 0 ≡ []
unfolding no_clerks no_logs any_server
wish_ends_when_granted = refl

-- server 2 takes the log of server 3 until tick 40; server 4 waits until 40 has passed
log_is_taken_until_its_expiry : log_answer (log_taken_by (taken no_locks 3 2 10 40) 3 4 40) ≡ Err (record { by = record { 0 = 2 }; expiry = 40 })
unfolding no_clerks no_logs
log_is_taken_until_its_expiry = refl

log_is_free_after_its_expiry : log_answer (log_taken_by (taken no_locks 3 2 10 40) 3 4 41) ≡ Ok tt
unfolding no_clerks no_logs
log_is_free_after_its_expiry = refl
