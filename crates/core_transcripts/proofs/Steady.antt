-- What doesn't count: effects that leave a server as it was but for its cache, its log, its wishes and how far its line or its recovery has come.
use Rattle.std.proofs.Common.{ℕ, ◌≡◌, Bool, true, false, if◌then◌else◌, Option, Some, None, is_some, refl, ap}
use Rattle.std.specs.Option.{option_map}
use Rattle.frang_base.specs.declared.lock.LockId.{LockId}
use Rattle.ring_definitions.specs.Rings.{Ring}
use Rattle.sector_bytes.specs.Blocks.{Block}
use Rattle.core_definitions.specs.Writes.{comes_clean}
use Rattle.core_definitions.specs.Settings.{LogRules}
use Rattle.core_definitions.specs.Lines.{Stage, Asking, Fetching, Moving, Stopping, Growing, Clearing, Finishing, Under}
use Rattle.core_definitions.specs.Flights.{InPlace, OfLog, OfRecovery, Purpose}
use Rattle.core_definitions.specs.Recoveries.{Recovery}
use Rattle.core_definitions.specs.Servers.{Arming, Server, is_off, is_up, wanting_all, wanting_all_up}
use Rattle.core_definitions.specs.LineEffects.{again_by, cached_under, cover_needed, fetched_by, set_anew, set_grown, slot_read, with_under}
use Rattle.core_definitions.specs.WriteEffects.{acknowledged, acknowledged_for, clean_now, counted}
use Rattle.core_transcripts.proofs.Fits.{asked_of, key_of}

-- another line, or another recovery, that is the same in what counts
asked_same : (change : Under → Under) → ((u : Under) → asked_of (change u) ≡ asked_of u) → (o : Option Under) → option_map asked_of (option_map change o) ≡ option_map asked_of o
asked_same change same None = refl
asked_same change same (Some u) = ap (λ x. Some x) (same u)

saves_same : (change : Recovery → Recovery) → ((r : Recovery) → (change r).dead ≡ r.dead) → (o : Option Recovery) →
    option_map (λ recovery. recovery.dead) (option_map change o) ≡ option_map (λ recovery. recovery.dead) o
saves_same change same None = refl
saves_same change same (Some r) = ap (λ x. Some x) (same r)

pub under_steady : (server : Server) (change : Under → Under) → ((u : Under) → asked_of (change u) ≡ asked_of u) → key_of (with_under server change) ≡ key_of server
under_steady server change same = ap (λ x. record (key_of server) { asked = x }) (asked_same change same server.under)

pub recovery_steady : (server : Server) (change : Recovery → Recovery) → ((r : Recovery) → (change r).dead ≡ r.dead) →
    key_of (record server { recovery = option_map change server.recovery }) ≡ key_of server
recovery_steady server change same = ap (λ x. record (key_of server) { saves = x }) (saves_same change same server.recovery)

pub again_steady : (logs : LogRules) (at : Option Stage) (server : Server) → key_of (again_by logs at server) ≡ key_of server
again_steady logs None server = refl
again_steady logs (Some (Asking need)) server = refl
again_steady logs (Some (Fetching needs)) server = refl
again_steady logs (Some Moving) server = under_steady server set_anew (λ u. refl)
again_steady logs (Some Stopping) server = refl
again_steady logs (Some (Growing needs seen)) server = under_steady server (set_grown needs seen) (λ u. refl)
again_steady logs (Some (Clearing block)) server = refl
again_steady logs (Some (Finishing outcome)) server = refl

cached_steady : (server : Server) (sector : ℕ) (block : Block) (cover : Option LockId) → key_of (cached_under server sector block cover) ≡ key_of server
cached_steady server sector block None = refl
cached_steady server sector block (Some cover) = refl

pub fetched_steady : (a : ℕ) (at : Option Stage) (sector : ℕ) (block : Block) (server : Server) → key_of (fetched_by a at sector block server) ≡ key_of server
fetched_steady a at sector block server = go (is_off server.phase)
  where
    go : (b : Bool) → key_of (if b then with_under server (slot_read a sector block) else cached_under server sector block (cover_needed at sector)) ≡ key_of server
    go true = under_steady server (slot_read a sector block) (λ u. refl)
    go false = cached_steady server sector block (cover_needed at sector)

armed_same : (o : Option Arming) → is_some (counted o) ≡ is_some o
armed_same None = refl
armed_same (Some arming) = refl

-- an Issue: another ring, and an arming that counts
pub issued_steady : (server : Server) (ring : Ring) → key_of (record server { ring = ring; arming = counted server.arming }) ≡ key_of server
issued_steady server ring = ap (λ x. record (key_of server) { armed = x }) (armed_same server.arming)

pub acknowledged_steady : (sector : ℕ) (block : Block) (purpose : Purpose) (server : Server) → key_of (acknowledged sector block purpose server) ≡ key_of server
acknowledged_steady sector block (OfLog number) server = refl
acknowledged_steady sector block (InPlace cover) server = go (comes_clean server sector block)
  where
    go : (b : Bool) → key_of (if b then clean_now sector server else server) ≡ key_of server
    go true = refl
    go false = refl
acknowledged_steady sector block OfRecovery server = recovery_steady server (acknowledged_for sector) (λ r. refl)

pub wanting_steady : (server : Server) → key_of (wanting_all_up server) ≡ key_of server
wanting_steady server = go (is_up server.phase)
  where
    go : (b : Bool) → key_of (if b then wanting_all server else server) ≡ key_of server
    go true = refl
    go false = refl

pub flushed_steady : (b : Bool) (server : Server) → key_of (if b then wanting_all_up server else server) ≡ key_of server
flushed_steady true server = wanting_steady server
flushed_steady false server = refl
