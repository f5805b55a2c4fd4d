-- What the servers are asked for, beside the claims on each lock.
use Rattle.std.specs.Prelude.{ℕ, ◌==◌, Bool, not, ◌&&◌, Option, Some, None, is_some, List, [], map, replicate, slice_index_or}
use Rattle.std.specs.List.{list_all, range_with_len}
use Rattle.std.specs.Map.{remove_entry}
use Rattle.std.specs.BTreeMap.{insert_entry}
use Rattle.frang_base.specs.declared.lock.LockId.{LockId}
use Rattle.frang_base.specs.declared.lock.Mode.{Mode}
use Rattle.frang_base.specs.declared.lock.Mode.TheVariants.{Shared, Sole}
use Rattle.frang_base.specs.declared.limits.TheConstants.{SERVERS}
use Rattle.lock_definitions.specs.declared.claim.Claim.{Claim}
use Rattle.lock_definitions.specs.declared.claim.AskedFor.{AskedFor}
use Rattle.lock_definitions.specs.Order.{lock_cmp, is_lock}
use Rattle.lock_definitions.specs.Servers.{any_server, server_bits}
use Rattle.lock_definitions.specs.Locks.{no_claim, is_no_claim, is_wished_in}
use Rattle.lock_definitions.specs.Calls.{clashes, asked_of}

-- the numbers of the servers
unfoldable pub servers : List ℕ
servers = range_with_len 0 SERVERS

-- what each server has and wishes of one lock, by server
abbrev pub Claimed : Type 0
Claimed = List Claim

-- what a server is asked for, by lock, ascending
abbrev pub Asked : Type 0
Asked = List (LockId × AskedFor)

-- nobody is asked for anything
unfoldable pub no_asked : List Asked
no_asked = replicate SERVERS []

-- what a server has and wishes
abbrev pub claim_by : ℕ → Claimed → Claim
claim_by server claims = slice_index_or claims server no_claim

-- nobody has or wishes the lock
abbrev pub is_unclaimed : Claimed → Bool
is_unclaimed claims = list_all is_no_claim claims

-- sixteen servers without claims
unfoldable pub unclaimed : Claimed
unclaimed = replicate SERVERS no_claim

-- no server holds the lock
abbrev pub is_held_by_none : Claimed → Bool
is_held_by_none claims = not (any_server (λ server. is_some (claim_by server claims).held))

-- a bit for each other server that holds the lock in a mode that conflicts
abbrev pub holders_beside : ℕ → Mode → Claimed → ℕ
holders_beside server mode claims = server_bits (λ other. not (other == server) && clashes mode (claim_by other claims).held)

-- another server's wish for the lock in this mode is noted
abbrev pub is_wished_beside : ℕ → Mode → Claimed → Bool
is_wished_beside server mode claims = any_server (λ other. not (other == server) && is_wished_in (claim_by other claims) mode)

-- what a server is asked for, if a noted wish of another server conflicts with its hold
abbrev pub asked_by : ℕ → Claimed → Option AskedFor
asked_by server claims = asked_of (claim_by server claims).held (is_wished_beside server Shared claims) (is_wished_beside server Sole claims)

-- the list with this at a lock, and without the lock where it is nothing
abbrev pub with_made : {V : Type 0} → List (LockId × V) → LockId → Option V → List (LockId × V)
with_made list lock None = remove_entry (is_lock lock) list
with_made list lock (Some made) = insert_entry lock_cmp list lock made

-- how many entries a list has more, where one lock had this and has that
abbrev pub growth : {V : Type 0} → Option V → Option V → ℕ
growth None (Some now) = 1
growth None None = 0
growth (Some before) now = 0

-- what a server is asked for, and how many more have room
pub record AskedRoom : Type 0 where
  pub asked : Asked
  pub room : ℕ

-- the same of all servers, by number
pub record AllAsked : Type 0 where
  pub asked : List Asked
  pub room : List ℕ

-- what one server is asked for
abbrev pub asked_kept : AskedRoom → Asked
asked_kept list = list.asked

-- for how many more it has room
abbrev pub room_kept : AskedRoom → ℕ
room_kept list = list.room

-- what all servers are asked for, and their room
abbrev pub all_asked : List AskedRoom → AllAsked
all_asked lists = record { asked = map asked_kept lists; room = map room_kept lists }
