-- What is kept beside the servers stays where one party is changed in its place or put back into it.
use Rattle.std.proofs.Common.{◌≡◌, ◌<◌, ◌≤◌, ◌⊎◌, ⊎_elim, inl, inr, ℕ, zero, suc, Bool, true, false, if◌then◌else◌, IsSomeAnd, Option, Some, None, List, [], ◌∷◌, arith, length, map, set, get_or, refl, sym, ap, ◌∙◌, subst, nat_eq, ◌==◌, is_some, unwrap_or}
use Rattle.std.specs.List.{All, slice_get}
use Rattle.std.specs.Option.{option_map}
use Rattle.std.proofs.lemmas.Bool.{cases_eq, eqb-false, eqb-true, false≢true}
use Rattle.std.proofs.lemmas.List.{get_or-set_same, length-set}
use Rattle.std.proofs.lemmas.Option.{slice_get-get_or, slice_get_cases, slice_get_past}
use Rattle.frang_base.specs.Functions.{member, put}
use Rattle.frang_base.specs.declared.limits.TheConstants.{SERVERS}
use Rattle.core_definitions.specs.Scripts.{host_party}
use Rattle.core_definitions.specs.Servers.{Server, first_server, is_up, wanting_all, wanting_all_up}
use Rattle.kept_plans.specs.declared.kept.KeptPlan.{KeptPlan}
use Rattle.kept_plans.specs.Keeping.{SameBeside}
use Rattle.kept_plans.proofs.Keeping.{nothing_changes}
use Rattle.recovery_demon.specs.Recovering.{Recovering}
use Rattle.core_definitions.specs.Recoveries.{Recovery}
use Rattle.sector_bytes.specs.Blocks.{Block}
use Rattle.sector_bytes.specs.SectorMaps.{value_at}
use Rattle.set_definitions.specs.Usable.{usable}
use Rattle.world_definitions.proofs.Changing.{not_host}
use Rattle.world_definitions.specs.Worlds.{host_of}
use Rattle.world_parties.specs.States.{AreKept, AreAmong, AreIssuedAmong, Becomes, IsBare, IsPut, IsSame, Keeps, KeepsBut, OldestStay, OthersStay, PartyKeeps, PlanStays, RestStays, State, flags_at, issued_at, issued_in, oldest_at, oldest_of, plan_at, recovering_by, recovery_in, server_of, servers_at}
use Rattle.world_parties.specs.declared.party.Party.{Party}

-- ---- what stands at a place

-- what is known of a party, also of the host
pub record View : Type 0 where
  pub flags : List ℕ
  pub recovering : Option Recovering
  pub plan : Option KeptPlan
  pub oldest : Option (List ℕ)
  pub server : Server

abbrev pub view_of : Party → View
view_of party = record { flags = party.server.flying; recovering = party.recovery; plan = party.plan; oldest = oldest_of party; server = server_of party }

abbrev pub view_at : State → ℕ → View
view_at s a = record { flags = flags_at s a; recovering = recovering_by s a; plan = plan_at s a; oldest = oldest_at s a; server = servers_at s a }

mapped_at : {X : Type 0} (f : Party → X) (d : X) (xs : List Party) (a : ℕ) → get_or (map f xs) a d ≡ unwrap_or (option_map f (slice_get xs a)) d
mapped_at f d [] a = refl
mapped_at f d (x ∷ xs) zero = refl
mapped_at f d (x ∷ xs) (suc a) = mapped_at f d xs a

mapped_there : {X : Type 0} (f : Party → X) (d : X) (xs : List Party) (a : ℕ) (party : Party) → slice_get xs a ≡ Some party → get_or (map f xs) a d ≡ f party
mapped_there f d xs a party at = mapped_at f d xs a ∙ ap (λ o. unwrap_or (option_map f o) d) at

mapped_same : {X : Type 0} (f : Party → X) (d : X) (xs ys : List Party) (a : ℕ) → slice_get ys a ≡ slice_get xs a → get_or (map f ys) a d ≡ get_or (map f xs) a d
mapped_same f d xs ys a same = mapped_at f d ys a ∙ ap (λ o. unwrap_or (option_map f o) d) same ∙ sym (mapped_at f d xs a)

-- a server in its place
pub found_at : (s : State) (a : ℕ) (party : Party) → a < SERVERS → slice_get s.parties a ≡ Some party → view_at s a ≡ view_of party
found_at s a party small at = λ i. record {
  flags = mapped_there (λ (p : Party). p.server.flying) [] s.parties a party at i;
  recovering =
      (ap (λ (t : Bool). if t then s.host else get_or (map (λ (p : Party). p.recovery) s.parties) a None) (not_host a small)
      ∙ mapped_there (λ (p : Party). p.recovery) None s.parties a party at) i;
  plan = mapped_there (λ (p : Party). p.plan) None s.parties a party at i;
  oldest = mapped_there oldest_of None s.parties a party at i;
  server =
      (ap (λ (t : Bool). if t then host_of (recovery_in s.host) else get_or (map server_of s.parties) a first_server) (not_host a small)
      ∙ mapped_there server_of first_server s.parties a party at) i;
}

-- and all others, the host too
pub same_at : (old new : State) (a b : ℕ) → OthersStay old new a → (b ≡ a → ⊥) → view_at new b ≡ view_at old b
same_at old new a b stay other = λ i. record {
  flags = mapped_same (λ (p : Party). p.server.flying) [] old.parties new.parties b there i;
  recovering = if nat_eq b host_party then stay.host i else mapped_same (λ (p : Party). p.recovery) None old.parties new.parties b there i;
  plan = mapped_same (λ (p : Party). p.plan) None old.parties new.parties b there i;
  oldest = mapped_same oldest_of None old.parties new.parties b there i;
  server = if nat_eq b host_party then host_of (recovery_in (stay.host i)) else mapped_same server_of first_server old.parties new.parties b there i;
}
  where
    there : slice_get new.parties b ≡ slice_get old.parties b
    there = stay.others b other

-- ---- what is kept of one party, and of all

pub record KeepsView (old new : View) : Type 0 where
  pub flags : AreAmong new.flags old.flags
  pub issued : AreIssuedAmong (issued_in new.recovering) (issued_in old.recovering)
  pub plan : PlanStays old.plan old.server new.plan new.server
  pub oldest : OldestStay old.oldest old.server new.oldest new.server

pub plan_itself : (plan : Option KeptPlan) (server : Server) → PlanStays plan server plan server
plan_itself None server = tt
plan_itself (Some plan) server = (refl, nothing_changes server)

pub oldest_itself : (oldest : Option (List ℕ)) (server : Server) → OldestStay oldest server oldest server
oldest_itself None server = tt
oldest_itself (Some sectors) server = (refl, refl)

pub keeps_itself : (view : View) → KeepsView view view
keeps_itself view = record { flags = λ sector is. is; issued = λ sector is. is; plan = plan_itself view.plan view.server; oldest = oldest_itself view.oldest view.server }

pub each_keeps : (old new : State) → ((a : ℕ) → KeepsView (view_at old a) (view_at new a)) → Keeps old new
each_keeps old new each = record { flags = λ a. (each a).flags; issued = λ a. (each a).issued; plans = λ a. (each a).plan; oldest = λ a. (each a).oldest }

-- ---- one party is another

-- of the party in its place, and of all others, so of all
pub at_each : (old new : State) (a : ℕ) (was party : Party) (P : ℕ → View → View → Type 0) → a < SERVERS → slice_get old.parties a ≡ Some was → IsPut old new a party
    → P a (view_of was) (view_of party) → ((b : ℕ) (view : View) → P b view view) → (b : ℕ) → P b (view_at old b) (view_at new b)
at_each old new a was party P small there put changed same b = ⊎_elim
    (λ e. subst (λ n. P n (view_at old n) (view_at new n)) (sym e)
    (subst (P a (view_at old a)) (sym (found_at new a party small put.at)) (subst (λ v. P a v (view_of party)) (sym (found_at old a was small there)) changed)))
    (λ other. subst (P b (view_at old b)) (sym (same_at old new a b put.others other)) (same b (view_at old b)))
    (cases_eq b a)

-- a party that keeps everything leaves everything kept
pub put_keeps : (old new : State) (a : ℕ) (was party : Party) → a < SERVERS → slice_get old.parties a ≡ Some was → IsPut old new a party → PartyKeeps was party → Keeps old new
put_keeps old new a was party small there put keeps = each_keeps old new
    (at_each old new a was party (λ b. KeepsView) small there put (record { flags = keeps.flags; issued = keeps.issued; plan = keeps.plan; oldest = keeps.oldest }) (λ b. keeps_itself))

-- what becomes of the servers
pub put_becomes : (old new : State) (a : ℕ) (party : Party) → a < SERVERS → IsPut old new a party → Becomes old new a (server_of party)
put_becomes old new a party small is_put = record { servers = λ i b. at b i; stays = is_put.others.stays }
  where
    at : (b : ℕ) → servers_at new b ≡ put (servers_at old) a (server_of party) b
    at b = by (nat_eq b a) refl
      where
        by : (t : Bool) → nat_eq b a ≡ t → servers_at new b ≡ (if t then server_of party else servers_at old b)
        by true e = ap (servers_at new) (eqb-true b a e) ∙ ap (λ (v : View). v.server) (found_at new a party small is_put.at)
        by false e = ap (λ (v : View). v.server) (same_at old new a b is_put.others (eqb-false b a e))

-- ---- in its place

set_there : {X : Type 0} (xs : List X) (a : ℕ) (x : X) → a < length xs → slice_get (set xs a x) a ≡ Some x
set_there xs a x inside = slice_get-get_or (set xs a x) a x (omega (arith, length-set xs a x)) ∙ ap Some (get_or-set_same xs a x x inside)

set_others : {X : Type 0} (xs : List X) (a b : ℕ) (x : X) → (b ≡ a → ⊥) → slice_get (set xs a x) b ≡ slice_get xs b
set_others [] a b x other = refl
set_others (y ∷ xs) zero zero x other = absurd (other refl)
set_others (y ∷ xs) zero (suc b) x other = refl
set_others (y ∷ xs) (suc a) zero x other = refl
set_others (y ∷ xs) (suc a) (suc b) x other = set_others xs a b x (λ e. other (ap suc e))

-- one party is set in its place, in a state that is known by another name
pub set_puts : (s old : State) (a i : ℕ) (new : Party) → s ≡ old → AreKept s → a < SERVERS → i ≡ a → IsPut old (record s { parties = set s.parties i new }) a new
set_puts s old a i new seen kept small at = subst (λ o. IsPut o (record s { parties = set s.parties i new }) a new) seen
    (subst (λ k. IsPut s (record s { parties = set s.parties k new }) a new) (sym at) (record {
      at = set_there s.parties a new (omega (arith, kept.long, small));
      others = record { others = λ b other. set_others s.parties a b new other; host = refl; stays = record { segments = refl; held = refl } };
    }))

pub found_place : (s old : State) (a i : ℕ) (d party : Party) → s ≡ old → AreKept s → a < SERVERS → i ≡ a → party ≡ get_or s.parties i d → slice_get old.parties a ≡ Some party
found_place s old a i d party seen kept small at was =
    ap (λ (o : State). slice_get o.parties a) (sym seen) ∙ slice_get-get_or s.parties a d (omega (arith, kept.long, small))
    ∙ ap Some (ap (λ k. get_or s.parties k d) (sym at) ∙ sym was)

pub keeps_in_place : (s old : State) (a i : ℕ) (d party new : Party) → s ≡ old → AreKept s → a < SERVERS → i ≡ a → party ≡ get_or s.parties i d → PartyKeeps party new
    → Keeps old (record s { parties = set s.parties i new })
keeps_in_place s old a i d party new seen kept small at was =
    put_keeps old (record s { parties = set s.parties i new }) a party new small (found_place s old a i d party seen kept small at was) (set_puts s old a i new seen kept small at)

-- ---- one sector of one party

-- what is kept of a party, but that this sector may be flagged or issued at one of them
record KeepsViewBut (by sector a : ℕ) (old new : View) : Type 0 where
  pub flags : (x : ℕ) → member x new.flags ≡ true → (member x old.flags ≡ true) ⊎ ((a ≡ by) × (x ≡ sector))
  pub issued : (x : ℕ) → is_some (value_at (issued_in new.recovering) x) ≡ true → (is_some (value_at (issued_in old.recovering) x) ≡ true) ⊎ ((a ≡ by) × (x ≡ sector))
  pub plan : PlanStays old.plan old.server new.plan new.server
  pub oldest : OldestStay old.oldest old.server new.oldest new.server

each_keeps_but : (old new : State) (by sector : ℕ) → ((a : ℕ) → KeepsViewBut by sector a (view_at old a) (view_at new a)) → KeepsBut old new by sector
each_keeps_but old new by sector each = record { flags = λ a. (each a).flags; issued = λ a. (each a).issued; plans = λ a. (each a).plan; oldest = λ a. (each a).oldest }

-- of a party of which nothing changes but its flags, of which only one is new
pub flagged_in_place : (s old : State) (a i sector : ℕ) (d party new : Party) → s ≡ old → AreKept s → a < SERVERS → i ≡ a → party ≡ get_or s.parties i d
    → ((x : ℕ) → member x new.server.flying ≡ true → (member x party.server.flying ≡ true) ⊎ (x ≡ sector)) → server_of new ≡ server_of party → new.recovery ≡ party.recovery
    → new.plan ≡ party.plan → oldest_of new ≡ oldest_of party → KeepsBut old (record s { parties = set s.parties i new }) a sector
flagged_in_place s old a i sector d party new seen kept small at was flags server recovery plan oldest = each_keeps_but old (record s { parties = set s.parties i new }) a sector
    (at_each old (record s { parties = set s.parties i new }) a party new (KeepsViewBut a sector) small (found_place s old a i d party seen kept small at was) (set_puts s old a i new seen kept small at)
    (subst (KeepsViewBut a sector a (view_of party)) (sym but_flags) changed) same)
  where
    but_flags : view_of new ≡ record (view_of party) { flags = new.server.flying }
    but_flags = λ i. record { flags = new.server.flying; recovering = recovery i; plan = plan i; oldest = oldest i; server = server i }

    changed : KeepsViewBut a sector a (view_of party) (record (view_of party) { flags = new.server.flying })
    changed = record {
      flags = λ x is. ⊎_elim (λ h. inl h) (λ h. inr (refl, h)) (flags x is);
      issued = λ x is. inl is;
      plan = plan_itself party.plan (server_of party);
      oldest = oldest_itself (oldest_of party) (server_of party);
    }

    same : (b : ℕ) (view : View) → KeepsViewBut a sector b view view
    same b view = record { flags = λ x is. inl is; issued = λ x is. inl is; plan = plan_itself view.plan view.server; oldest = oldest_itself view.oldest view.server }

-- ---- nothing but the recovery of one party

-- what is known of a party has not changed, but for the recovery of one of them
record SameBut (by a : ℕ) (old new : View) : Type 0 where
  pub flags : new.flags ≡ old.flags
  pub plan : new.plan ≡ old.plan
  pub oldest : new.oldest ≡ old.oldest
  pub recovering : (a ≡ by → ⊥) → new.recovering ≡ old.recovering

-- a server with the same line, the same cache and the same log keeps its plan and what its oldest records name
pub plan_beside : (plan : Option KeptPlan) (before after : Server) → SameBeside before after → PlanStays plan before plan after
plan_beside None before after same = tt
plan_beside (Some plan) before after same = (refl, same)

pub oldest_beside : (oldest : Option (List ℕ)) (before after : Server) → after.ring ≡ before.ring → OldestStay oldest before oldest after
oldest_beside None before after same = tt
oldest_beside (Some sectors) before after same = (refl, same)

module _ (old new : State) (by : ℕ) (recovery : Option Recovery) (rest : RestStays old new by) (becomes : Becomes old new by (record (servers_at old by) { recovery = recovery })) where
  -- what of a server isn't its recovery has not changed
  field_same : {X : Type 0} (f : Server → X) → f (record (servers_at old by) { recovery = recovery }) ≡ f (servers_at old by) → (a : ℕ) → f (servers_at new a) ≡ f (servers_at old a)
  field_same f same a = ap (λ (servers : ℕ → Server). f (servers a)) becomes.servers ∙ by_test (nat_eq a by) refl
    where
      by_test : (t : Bool) → nat_eq a by ≡ t → f (if t then record (servers_at old by) { recovery = recovery } else servers_at old a) ≡ f (servers_at old a)
      by_test true e = same ∙ ap (λ n. f (servers_at old n)) (sym (eqb-true a by e))
      by_test false e = refl

  plan_same : (a : ℕ) → PlanStays (plan_at old a) (servers_at old a) (plan_at new a) (servers_at new a)
  plan_same a = subst (λ (p : Option KeptPlan). PlanStays (plan_at old a) (servers_at old a) p (servers_at new a)) (sym (rest.plans a))
      (plan_beside (plan_at old a) (servers_at old a) (servers_at new a)
      (record { under = field_same (λ server. server.under) refl a; usable = λ set. ap (usable set) (field_same (λ server. server.cache) refl a) }))

  oldest_same : (a : ℕ) → OldestStay (oldest_at old a) (servers_at old a) (oldest_at new a) (servers_at new a)
  oldest_same a = subst (λ (o : Option (List ℕ)). OldestStay (oldest_at old a) (servers_at old a) o (servers_at new a)) (sym (rest.oldest a))
      (oldest_beside (oldest_at old a) (servers_at old a) (servers_at new a) (field_same (λ server. server.ring) refl a))

  -- no issued write of it is new
  pub recovery_keeps : AreIssuedAmong (issued_at new by) (issued_at old by) → Keeps old new
  recovery_keeps issued = record {
    flags = λ a. subst (λ (sectors : List ℕ). AreAmong sectors (flags_at old a)) (sym (rest.flags a)) (λ sector is. is);
    issued = λ a. ⊎_elim (λ e. subst (λ n. AreIssuedAmong (issued_at new n) (issued_at old n)) (sym e) issued)
        (λ other. subst (λ (writes : List (ℕ × Block)). AreIssuedAmong writes (issued_at old a)) (sym (ap issued_in (rest.recoveries a other))) (λ sector is. is)) (cases_eq a by);
    plans = plan_same;
    oldest = oldest_same;
  }

  -- but one
  pub recovery_keeps_but : (sector : ℕ) → ((x : ℕ) → is_some (value_at (issued_at new by) x) ≡ true → (is_some (value_at (issued_at old by) x) ≡ true) ⊎ (x ≡ sector)) → KeepsBut old new by sector
  recovery_keeps_but sector issued = record {
    flags = λ a x is. inl (subst (λ (sectors : List ℕ). member x sectors ≡ true) (rest.flags a) is);
    issued = λ a x. ⊎_elim (λ e. subst (λ n. is_some (value_at (issued_at new n) x) ≡ true → (is_some (value_at (issued_at old n) x) ≡ true) ⊎ ((n ≡ by) × (x ≡ sector))) (sym e)
        (λ is. ⊎_elim (λ h. inl h) (λ h. inr (refl, h)) (issued x is)))
        (λ other is. inl (subst (λ (writes : List (ℕ × Block)). is_some (value_at writes x) ≡ true) (ap issued_in (rest.recoveries a other)) is)) (cases_eq a by);
    plans = plan_same;
    oldest = oldest_same;
  }

-- one such change behind another
pub rest_then : (old between new : State) (by : ℕ) → RestStays old between by → RestStays between new by → RestStays old new by
rest_then old between new by first second = record {
  flags = λ a. second.flags a ∙ first.flags a;
  plans = λ a. second.plans a ∙ first.plans a;
  oldest = λ a. second.oldest a ∙ first.oldest a;
  recoveries = λ a other. second.recoveries a other ∙ first.recoveries a other;
}

-- a server's recovery in its place, and the host's
pub rest_in_place : (s old : State) (a i : ℕ) (d party new : Party) (recovery : Option Recovering) → s ≡ old → AreKept s → a < SERVERS → i ≡ a → party ≡ get_or s.parties i d
    → new ≡ record party { recovery = recovery } → RestStays old (record s { parties = set s.parties i new }) a
rest_in_place s old a i d party new recovery seen kept small at was is =
    record { flags = λ b. (each b).flags; plans = λ b. (each b).plan; oldest = λ b. (each b).oldest; recoveries = λ b other. (each b).recovering other }
  where
    each : (b : ℕ) → SameBut a b (view_at old b) (view_at (record s { parties = set s.parties i new }) b)
    each = at_each old (record s { parties = set s.parties i new }) a party new (SameBut a) small (found_place s old a i d party seen kept small at was) (set_puts s old a i new seen kept small at)
        (subst (λ (p : Party). SameBut a a (view_of party) (view_of p)) (sym is) (record { flags = refl; plan = refl; oldest = refl; recovering = λ other. absurd (other refl) }))
        (λ b view. record { flags = refl; plan = refl; oldest = refl; recovering = λ other. refl })

pub host_recovering : (s : State) (by : ℕ) (recovery : Option Recovering) → (by == host_party) ≡ true → recovering_by (record s { host = recovery }) by ≡ recovery
host_recovering s by recovery is_host = ap (λ (t : Bool). if t then recovery else get_or (map (λ (p : Party). p.recovery) s.parties) by None) is_host

pub rest_of_host : (s old : State) (by : ℕ) (recovery : Option Recovering) → s ≡ old → (by == host_party) ≡ true → RestStays old (record s { host = recovery }) by
rest_of_host s old by recovery seen is_host = subst (λ o. RestStays o (record s { host = recovery }) by) seen
    (record { flags = λ a. refl; plans = λ a. refl; oldest = λ a. refl; recoveries = at })
  where
    at : (a : ℕ) → (a ≡ by → ⊥) → recovering_by (record s { host = recovery }) a ≡ recovering_by s a
    at a other = by_test (nat_eq a host_party) refl
      where
        by_test : (t : Bool) → nat_eq a host_party ≡ t
            → (if t then recovery else get_or (map (λ (p : Party). p.recovery) s.parties) a None) ≡ (if t then s.host else get_or (map (λ (p : Party). p.recovery) s.parties) a None)
        by_test true e = absurd (other (eqb-true a host_party e ∙ sym (eqb-true by host_party is_host)))
        by_test false e = refl

-- ---- who is held, and all at once

pub held_keeps : (s old : State) (held : List Bool) → s ≡ old → Keeps old (record s { held = held })
held_keeps s old held seen = subst (λ o. Keeps o (record s { held = held })) seen (each_keeps s (record s { held = held }) (λ a. keeps_itself (view_at s a)))

wanting_beside : (server : Server) → SameBeside server (wanting_all_up server)
wanting_beside server = go (is_up server.phase)
  where
    go : (t : Bool) → SameBeside server (if t then wanting_all server else server)
    go true = record { under = refl; usable = λ set. refl }
    go false = nothing_changes server

wanting_logged : (server : Server) → (wanting_all_up server).ring ≡ server.ring
wanting_logged server = go (is_up server.phase)
  where
    go : (t : Bool) → (if t then wanting_all server else server).ring ≡ server.ring
    go true = refl
    go false = refl

-- all want everything
pub flushed_keeps : (s old : State) (parties : List Party) → s ≡ old → servers_at (record s { parties = parties }) ≡ (λ a. wanting_all_up (servers_at s a))
    → map (λ (p : Party). p.server.flying) parties ≡ map (λ (p : Party). p.server.flying) s.parties → map (λ (p : Party). p.recovery) parties ≡ map (λ (p : Party). p.recovery) s.parties
    → map (λ (p : Party). p.plan) parties ≡ map (λ (p : Party). p.plan) s.parties → map oldest_of parties ≡ map oldest_of s.parties → Keeps old (record s { parties = parties })
flushed_keeps s old parties seen servers flags recoveries plans oldest = subst (λ o. Keeps o (record s { parties = parties })) seen (each_keeps s (record s { parties = parties }) each)
  where
    is : (a : ℕ) → view_at (record s { parties = parties }) a ≡ record (view_at s a) { server = wanting_all_up (servers_at s a) }
    is a = λ i. record {
      flags = get_or (flags i) a [];
      recovering = if nat_eq a host_party then s.host else get_or (recoveries i) a None;
      plan = get_or (plans i) a None;
      oldest = get_or (oldest i) a None;
      server = servers i a;
    }

    each : (a : ℕ) → KeepsView (view_at s a) (view_at (record s { parties = parties }) a)
    each a = subst (KeepsView (view_at s a)) (sym (is a)) (record {
      flags = λ sector there. there;
      issued = λ sector there. there;
      plan = plan_beside (plan_at s a) (servers_at s a) (wanting_all_up (servers_at s a)) (wanting_beside (servers_at s a));
      oldest = oldest_beside (oldest_at s a) (servers_at s a) (wanting_all_up (servers_at s a)) (wanting_logged (servers_at s a));
    })

-- ---- out of its place, and back

pub put_back : (before between new : State) (a : ℕ) (party : Party) → OthersStay before between a → IsPut between new a party → IsPut before new a party
put_back before between new a party out back = record {
  at = back.at;
  others = record {
    others = λ b other. back.others.others b other ∙ out.others b other;
    host = back.others.host ∙ out.host;
    stays = record { segments = back.others.stays.segments ∙ out.stays.segments; held = back.others.stays.held ∙ out.stays.held };
  };
}

pub back_keeps_all : (before new : State) (a : ℕ) (party : Party) → a < SERVERS → IsPut before new a party → IsSomeAnd (slice_get before.parties a) (λ was. PartyKeeps was party) → Keeps before new
back_keeps_all before new a party small put = go (slice_get before.parties a) refl
  where
    go : (o : Option Party) → slice_get before.parties a ≡ o → IsSomeAnd o (λ was. PartyKeeps was party) → Keeps before new
    go None e keeps = absurd keeps
    go (Some was) e keeps = put_keeps before new a was party small e put keeps

-- ---- nothing is kept of it

pub bare_at : (s : State) (a : ℕ) (party : Party) → a < SERVERS → slice_get s.parties a ≡ Some party → party.server.flying ≡ [] → party.recovery ≡ None → party.plan ≡ None → oldest_of party ≡ None → IsBare s a
bare_at s a party small at flags recovery plan oldest = record {
  flags = ap (λ (v : View). v.flags) (found_at s a party small at) ∙ flags;
  issued = ap (λ (v : View). issued_in v.recovering) (found_at s a party small at) ∙ ap issued_in recovery;
  plan = ap (λ (v : View). v.plan) (found_at s a party small at) ∙ plan;
  oldest = ap (λ (v : View). v.oldest) (found_at s a party small at) ∙ oldest;
}

all_none : {X : Type 0} (f : Party → X) (none : X) (xs : List Party) → All (λ party. f party ≡ none) xs → (a : ℕ) → get_or (map f xs) a none ≡ none
all_none f none xs all a = ⊎_elim
    (λ w. mapped_there f none xs a w.0 w.2 ∙ ap f (sym w.3) ∙ all a w.0 w.1)
    (λ past. mapped_at f none xs a ∙ ap (λ o. unwrap_or (option_map f o) none) past.1)
    (slice_get_cases xs a).1

pub bare_first : (segments : ℕ) (parties : List Party) (held : List Bool) → All (λ (p : Party). p.server.flying ≡ []) parties → All (λ (p : Party). p.recovery ≡ None) parties
    → All (λ (p : Party). p.plan ≡ None) parties → All (λ p. oldest_of p ≡ None) parties → (a : ℕ) → IsBare (record { segments = segments; parties = parties; host = None; held = held }) a
bare_first segments parties held flags recoveries plans oldest a = record {
  flags = all_none (λ (p : Party). p.server.flying) [] parties flags a;
  issued = by (nat_eq a host_party);
  plan = all_none (λ (p : Party). p.plan) None parties plans a;
  oldest = all_none oldest_of None parties oldest a;
}
  where
    by : (t : Bool) → issued_in (if t then None else get_or (map (λ (p : Party). p.recovery) parties) a None) ≡ []
    by true = refl
    by false = ap issued_in (all_none (λ (p : Party). p.recovery) None parties recoveries a)

-- ---- one change behind another

pub keeps_then : (old between new : State) → Keeps old between → Keeps between new → Keeps old new
keeps_then old between new first second = record {
  flags = λ a sector is. first.flags a sector (second.flags a sector is);
  issued = λ by sector is. first.issued by sector (second.issued by sector is);
  plans = λ a. plan_then (plan_at old a) (plan_at between a) (plan_at new a) (servers_at old a) (servers_at between a) (servers_at new a) (first.plans a) (second.plans a);
  oldest = λ a. oldest_then (oldest_at old a) (oldest_at between a) (oldest_at new a) (servers_at old a) (servers_at between a) (servers_at new a) (first.oldest a) (second.oldest a);
}
  where
    plan_then : (p q r : Option KeptPlan) (s t u : Server) → PlanStays p s q t → PlanStays q t r u → PlanStays p s r u
    plan_then p q None s t u first second = tt
    plan_then p q (Some plan) s t u first second =
        let there : PlanStays p s (Some plan) t = subst (λ o. PlanStays p s o t) second.0 first in
        (there.0, record { under = second.1.under ∙ there.1.under; usable = λ set. second.1.usable set ∙ there.1.usable set })

    oldest_then : (p q r : Option (List ℕ)) (s t u : Server) → OldestStay p s q t → OldestStay q t r u → OldestStay p s r u
    oldest_then p q None s t u first second = tt
    oldest_then p q (Some sectors) s t u first second =
        let there : OldestStay p s (Some sectors) t = subst (λ o. OldestStay p s o t) second.0 first in
        (there.0, second.1 ∙ there.1)

pub same_then : (old between new : State) → IsSame old between → IsSame between new → IsSame old new
same_then old between new first second = record {
  servers = second.servers ∙ first.servers;
  stays = record { segments = second.stays.segments ∙ first.stays.segments; held = second.stays.held ∙ first.stays.held };
}

pub same_itself : (s : State) → IsSame s s
same_itself s = record { servers = refl; stays = record { segments = refl; held = refl } }

pub keeps_all : (s : State) → Keeps s s
keeps_all s = each_keeps s s (λ a. keeps_itself (view_at s a))

-- what wasn't issued isn't then either
pub still_none : (old new : State) (by sector : ℕ) → Keeps old new → value_at (issued_at old by) sector ≡ None → value_at (issued_at new by) sector ≡ None
still_none old new by sector keeps none = go (value_at (issued_at new by) sector) (keeps.issued by sector)
  where
    go : (o : Option Block) → (is_some o ≡ true → is_some (value_at (issued_at old by) sector) ≡ true) → o ≡ None
    go None was = refl
    go (Some block) was = absurd (false≢true (sym (ap is_some none) ∙ was refl))

-- ---- of a number past all servers nothing is kept

pub past_flags : (s old : State) (a : ℕ) → s ≡ old → AreKept s → SERVERS ≤ a → flags_at old a ≡ []
past_flags s old a seen kept past =
    ap (λ (o : State). flags_at o a) (sym seen) ∙ mapped_at (λ (p : Party). p.server.flying) [] s.parties a
    ∙ ap (λ o. unwrap_or (option_map (λ (p : Party). p.server.flying) o) []) (slice_get_past s.parties a (omega (arith, kept.long, past)))

pub past_issued : (s old : State) (by : ℕ) → s ≡ old → AreKept s → (by == host_party) ≡ false → SERVERS ≤ by → issued_at old by ≡ []
past_issued s old by seen kept not_host past =
    ap (λ (o : State). issued_at o by) (sym seen)
    ∙ ap (λ (t : Bool). issued_in (if t then s.host else get_or (map (λ (p : Party). p.recovery) s.parties) by None)) not_host
    ∙ ap issued_in (mapped_at (λ (p : Party). p.recovery) None s.parties by ∙ ap (λ o. unwrap_or (option_map (λ (p : Party). p.recovery) o) None) (slice_get_past s.parties by (omega (arith, kept.long, past))))
