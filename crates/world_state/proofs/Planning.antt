-- A party that is taken out of its place, changed and put back: what that makes of the world, and what the world keeps.
use Rattle.std.proofs.Common.{◌≡◌, ◌<◌, ◌≤◌, ℕ, Bool, true, false, if◌then◌else◌, arith, IfSome, IsSomeAnd, OnOk, Result, Ok, Err, Option, Some, None, List, is_some, refl, sym, ap, ◌∙◌, subst}
use Rattle.std.specs.List.{slice_get}
use Rattle.frang_base.specs.Functions.{member}
use Rattle.frang_base.specs.declared.limits.TheConstants.{SERVERS}
use Rattle.sector_bytes.specs.SectorMaps.{room_for, value_at}
use Rattle.flight_laws.specs.Flights.{flights_of}
use Rattle.core_definitions.specs.Cores.{Core, next_of, with_server}
use Rattle.core_definitions.specs.Servers.{Server}
use Rattle.core_definitions.specs.Settings.{Setting, setting_of}
use Rattle.core_definitions.specs.LineEffects.{again_by, number_under}
use Rattle.core_definitions.specs.Lines.{Stage, Asking, Fetching, Moving, Stopping, Growing, Clearing, Finishing}
use Rattle.core_definitions.specs.Recoveries.{Recovery}
use Rattle.core_definitions.specs.Settings.{disk_logs}
use Rattle.server_core.specs.Effects.{GrowsTo}
use Rattle.line_stages.specs.Agains.{IsAgain}
use Rattle.line_stages.specs.declared.again.Again.{Again}
use Rattle.line_stages.specs.declared.again.Again.TheVariants as agains
use Rattle.recovery_demon.specs.Recovering.{Recovering}
use Rattle.kept_plans.specs.Kept.{IsKeptBeside}
use Rattle.line_stages.specs.Oldest.{AreOldest}
use Rattle.world_parties.specs.States.{Becomes, IsPut, IsRecovery, Keeps, OthersStay, PartyKeeps, State as Parties, issued_in, oldest_of, plan_at, server_of, servers_at}
use Rattle.world_parties.specs.declared.party.Party.{Party}
use Rattle.world_parties.proofs.Changing.{becomes_same}
use Rattle.world_parties.proofs.Keeping.{View, at_each, view_at}
use Rattle.world_state.specs.Rooms.{IsNextLine}
use Rattle.world_state.specs.States.{AreFlying, IsKept, State, core_at}
use Rattle.world_state.proofs.Effects.{party_is, same_is}
use Rattle.world_state.proofs.Lasting.{parties_last}

-- its recovery is as fit as it was
pub fits_again : (segments now a : ℕ) (was is : Option Recovering) → IsRecovery segments a was → now ≡ segments → is ≡ was → IsRecovery now a is
fits_again segments now a was is fits same recovery = subst (λ n. IsRecovery n a is) (sym same) (subst (IsRecovery segments a) (sym recovery) fits)

pub some_and : {X : Type 0} (o : Option X) (x : X) (P : X → Type 0) → o ≡ Some x → P x → IsSomeAnd o P
some_and o x P is holds = subst (λ o. IsSomeAnd o P) (sym is) holds

-- what holds of a party in its place holds of its server
pub of_party : (parties : Parties) (a : ℕ) (party : Party) (P : Party → Type 0) → slice_get parties.parties a ≡ Some party → P party → IfSome (slice_get parties.parties a) P
of_party parties a party P at holds = subst (λ o. IfSome o P) (sym at) holds

pub party_has : (parties : Parties) (a : ℕ) (party : Party) (P : Party → Type 0) → slice_get parties.parties a ≡ Some party → IfSome (slice_get parties.parties a) P → P party
party_has parties a party P at holds =
    let Q : Option Party → Type 0 = λ o. IfSome o P in
    subst Q at holds

-- both come with room
pub both_on_ok : {X E : Type 0} (P Q : Type 0) (r : Result X E) → OnOk r P → OnOk r Q → OnOk r (P × Q)
both_on_ok P Q (Ok x) p q = (p, q)
both_on_ok P Q (Err e) p q = tt

-- one more sector fits wherever one does
pub fetch_fits : {V : Type 0} (entries : List (ℕ × V)) (sector spare : ℕ) → 1 ≤ spare → room_for entries sector ≤ spare
fetch_fits entries sector spare one = go (is_some (value_at entries sector))
  where
    go : (t : Bool) → (if t then 0 else 1) ≤ spare
    go true = omega arith
    go false = one

-- ---- what a line goes on with

pub again_beside : (old new : Server) (at : Option Stage) (again : Again) → new.under ≡ old.under → IsAgain old at again → IsAgain new at again
again_beside old new at (agains.Anew first) same is = is
again_beside old new at (agains.Grown set seen) same is = record { needs = is.needs; grows = is.grows; becomes = subst (λ u. GrowsTo u is.needs set) (sym same) is.becomes }
again_beside old new at agains.Reclaim same is = is

-- whatever it recovers
pub again_recovers : (at : Option Stage) (server : Server) (recovery : Option Recovery) → record (again_by disk_logs at server) { recovery = recovery } ≡ again_by disk_logs at (record server { recovery = recovery })
again_recovers None server recovery = refl
again_recovers (Some (Asking lock)) server recovery = refl
again_recovers (Some (Fetching needs)) server recovery = refl
again_recovers (Some Moving) server recovery = refl
again_recovers (Some Stopping) server recovery = refl
again_recovers (Some (Growing needs seen)) server recovery = refl
again_recovers (Some (Clearing block)) server recovery = refl
again_recovers (Some (Finishing outcome)) server recovery = refl

-- ---- what it makes of the core

module _ (s : State) (parties : Parties) (a : ℕ) (taken party : Party) (was : server_of taken ≡ servers_at s.parties a) (becomes : Becomes s.parties parties a (server_of party)) where
  becomes_so : (change : Server → Server) → server_of party ≡ change (server_of taken) → Becomes s.parties parties a (change (servers_at s.parties a))
  becomes_so change is = subst (Becomes s.parties parties a) (is ∙ ap change was) becomes

  -- the server is changed
  pub changed_is : (change : Server → Server) → server_of party ≡ change (server_of taken) → core_at (record s { parties = parties }) ≡ with_server (core_at s) a (change ((core_at s).servers a))
  changed_is change is = party_is s parties a (change (servers_at s.parties a)) (becomes_so change is)

  -- or is the same
  pub unchanged_is : server_of party ≡ server_of taken → core_at (record s { parties = parties }) ≡ core_at s
  unchanged_is is = same_is s parties (becomes_same s.parties parties a (becomes_so (λ server. server) is))

-- the next line is the same where the core is
pub next_again : (old new : State) (a : ℕ) → core_at new ≡ core_at old → IsNextLine old a → IsNextLine new a
next_again old new a same next = subst (λ (c : Core). IsSomeAnd (next_of c a) (λ line. line.number ≡ number_under (c.servers a).under)) (sym same) next

-- ---- what is kept

-- where the party keeps what it has
pub back_lasts : (s : State) (between parties : Parties) (a : ℕ) (taken party : Party) → IsKept s → slice_get s.parties.parties a ≡ Some taken → OthersStay s.parties between a
    → ((before : Parties) → OthersStay before between a → IsSomeAnd (slice_get before.parties a) (λ old. PartyKeeps old party) → Keeps before parties)
    → ((before : Parties) → OthersStay before between a → Becomes before parties a (server_of party)) → PartyKeeps taken party → IsKept (record s { parties = parties })
back_lasts s between parties a taken party kept at others keeps becomes same =
    parties_last s parties s.locks kept (keeps s.parties others (some_and (slice_get s.parties.parties a) taken (λ old. PartyKeeps old party) at same)) (becomes s.parties others).stays.segments

-- of one party
record IsKeptAt (setting : Setting) (view : View) : Type 0 where
  pub plan : IsKeptBeside setting view.server view.plan
  pub oldest : IfSome view.oldest (AreOldest view.server.ring)

record SameFlags (old new : View) : Type 0 where
  pub flags : new.flags ≡ old.flags
  pub recovering : new.recovering ≡ old.recovering

-- where what is kept of its line or its log is another
module _ (s : State) (parties : Parties) (a : ℕ) (was party : Party) (kept : IsKept s) (small : a < SERVERS) (there : slice_get s.parties.parties a ≡ Some was) (is_put : IsPut s.parties parties a party)
    (flags : party.server.flying ≡ was.server.flying) (recovery : party.recovery ≡ was.recovery) where
  same_flags : (b : ℕ) → SameFlags (view_at s.parties b) (view_at parties b)
  same_flags = at_each s.parties parties a was party (λ b. SameFlags) small there is_put (record { flags = flags; recovering = recovery }) (λ b view. record { flags = refl; recovering = refl })

  still_flying : s.over ≡ false → AreFlying parties (flights_of s.flights.flying)
  still_flying going = record {
    flagged = λ b sector small is. (kept.flying going).flagged b sector small (subst (λ (xs : List ℕ). member sector xs ≡ true) (same_flags b).flags is);
    issued = λ b sector is. (kept.flying going).issued b sector (subst (λ o. is_some (value_at (issued_in o) sector) ≡ true) (same_flags b).recovering is);
  }

  pub kept_put : (IsKeptBeside (core_at s).setting (server_of was) was.plan → IsKeptBeside (core_at s).setting (server_of party) party.plan)
      → (IfSome (oldest_of was) (AreOldest (server_of was).ring) → IfSome (oldest_of party) (AreOldest (server_of party).ring)) → IsKept (record s { parties = parties })
  kept_put plan oldest = record {
    clock = kept.clock;
    counted = kept.counted;
    flying = still_flying;
    plans = λ b. subst (λ n. IsKeptBeside (setting_of s.places.script n s.run) (servers_at parties b) (plan_at parties b)) (sym is_put.others.stays.segments) (each b).plan;
    oldest = λ b. (each b).oldest;
  }
    where
      each : (b : ℕ) → IsKeptAt (core_at s).setting (view_at parties b)
      each b = at_each s.parties parties a was party (λ b old new. IsKeptAt (core_at s).setting old → IsKeptAt (core_at s).setting new) small there is_put
          (λ k. record { plan = plan k.plan; oldest = oldest k.oldest }) (λ b view k. k) b (record { plan = kept.plans b; oldest = kept.oldest b })
