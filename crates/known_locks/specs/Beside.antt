-- What is kept beside a lock table: what each server knows itself to have and wish, and who has taken which log.
use Rattle.std.specs.Prelude.{◌≡◌, ℕ, ◌+◌, if◌then◌else◌, Option, List, [], ◌++◌, length, take, drop, map, min, slice_index, slice_index_or}
use Rattle.std.specs.List.{filter_map}
use Rattle.std.specs.List.Sorted.{IsStrictlySortedBy}
use Rattle.std.specs.Map.{keys_of}
use Rattle.std.specs.Option.{option_map}
use Rattle.frang_base.specs.declared.lock.LockId.{LockId}
use Rattle.lock_definitions.specs.declared.claim.Claim.{Claim}
use Rattle.lock_definitions.specs.declared.claim.LogHold.{LogHold}
use Rattle.lock_definitions.specs.Order.{lock_cmp}
use Rattle.lock_definitions.specs.Locks.{Claims, Locks, claim_of, is_no_claim}
use Rattle.lock_table.specs.Asked.{servers}
use Rattle.lock_table.specs.Kept.{some_claim}
use Rattle.lock_table.specs.Table.{Table}

-- what one server has and wishes, and for how many more locks there is room
pub record ClerkRoom : Type 0 where
  pub claims : Claims
  pub room : ℕ

-- the same of all servers, by number
pub record AllClerks : Type 0 where
  pub claims : List Claims
  pub room : List ℕ

-- what one server has and wishes
abbrev pub claims_kept : ClerkRoom → Claims
claims_kept clerk = clerk.claims

-- for how many more locks it has room
abbrev pub room_kept : ClerkRoom → ℕ
room_kept clerk = clerk.room

-- what all servers have and wish, and their room
abbrev pub all_clerks : List ClerkRoom → AllClerks
all_clerks clerks = record { claims = map claims_kept clerks; room = map room_kept clerks }

-- the claim that a table has of a server's lock, where something is held or wished
abbrev pub again : Locks → ℕ → LockId → Option Claim
again locks server lock = some_claim (claim_of locks server lock)

-- the listed locks with the claims that something says of them now, and without those of which it says nothing
abbrev pub renewed : (LockId → Option Claim) → Claims → Claims
renewed now claims = filter_map (λ entry. option_map (λ claim. (entry.0, claim)) (now entry.0)) claims

-- the first so many locks of a list are made anew, and so many are left
pub record IsWalked (now : LockId → Option Claim) (all list : Claims) (i left : ℕ) : Type 0 where
  pub sorted : IsStrictlySortedBy lock_cmp (keys_of list)
  pub made : take i list ++ renewed now (drop i list) ≡ renewed now all
  pub long : length list ≡ i + left

-- the place behind one, where the lock there is still claimed, and else the same
abbrev pub place_behind : ℕ → Claim → ℕ
place_behind i claim = if is_no_claim claim then i else i + 1

-- for how many more locks each server has room both in the table and beside it
abbrev pub both : List ℕ → List ℕ → List ℕ
both table beside = map (λ server. min (slice_index table server) (slice_index beside server)) servers

-- a table beside which there is so much room
abbrev pub known_table : Table → List ℕ → Table
known_table table room = record table { room = both table.room room }

-- what is kept beside says the same as the table
pub record IsKnown (locks : Locks) (known : List Claims) (taken : List (Option LogHold)) : Type 0 where
  pub claims : known ≡ locks.clerks
  pub holds : taken ≡ locks.logs

-- the known locks of each server with the claims that a table says of them, and without those of which it says nothing
abbrev pub renewed_all : Locks → List Claims → List Claims
renewed_all locks claims = map (λ server. renewed (again locks server) (slice_index_or claims server [])) servers
