-- What is made ready for recoveries is for its event.
use Rattle.std.proofs.Common.{ℕ, ◌≡◌, Bool, true, false, ◌&&◌, ◌||◌, ◌==◌, Option, Some, None, List, [], refl, sym, ap, ◌∙◌}
use Rattle.std.proofs.lemmas.Bool.{and_from, and_parts, false≢true}
use Rattle.disk_definitions.specs.Regions.{sector_of}
use Rattle.disk_definitions.specs.declared.region.Region.TheVariants as region
use Rattle.frang_base.specs.declared.said.Said.TheVariants as said
use Rattle.frang_base.specs.declared.sector.Sector.{Sector}
use Rattle.frang_base.specs.declared.sector.ServerId.{ServerId}
use Rattle.tree_definitions.specs.SaidLines.{said_line}
use Rattle.core_definitions.specs.Calls.{Get, Say, load_call, say_call}
use Rattle.core_definitions.specs.Cores.{Core}
use Rattle.core_definitions.specs.Effects.{id_of, says_recovered}
use Rattle.core_definitions.specs.EndGuards.{CanLoad, is_recovery, is_through, may_finish, may_recover, wants_look, wants_slot}
use Rattle.core_definitions.specs.Events.{Recover, Load, Look, Finish}
use Rattle.core_definitions.specs.LineGuards.{is_server}
use Rattle.core_definitions.specs.Recoveries.{Recovery, recovery_of}
use Rattle.core_definitions.specs.Scripts.{host_party}
use Rattle.core_definitions.specs.Servers.{is_up}
use Rattle.core_definitions.specs.Settings.{disk_logs}
use Rattle.core_definitions.specs.WriteGuards.{is_worker}
use Rattle.core_laws.proofs.Guarding.{finish_can, finish_may, recover_can, recover_may}
use Rattle.hall_runs.specs.Asking.{Asks}
use Rattle.hall_runs.specs.declared.event.Call.{Call}
use Rattle.hall_runs.specs.declared.event.Call.TheVariants as call
use Rattle.host_tree.specs.Reading.{HostReading}
use Rattle.log_slots.specs.Reading.{are_all_read}
use Rattle.recovery_demon.specs.Recovering.{Recovering, greatest_kept}
use Rattle.world_parties.specs.States.{IsReady, State as Parties, servers_at}
use Rattle.world_state.specs.States.{State, core_at}
use Rattle.world_ready.specs.Making.{IsMadeOf, with_tree}
use Rattle.world_ready.specs.declared.kinds.Ready.TheVariants as ready
use Rattle.world_ready.proofs.Finished.{has_read, says_end}

-- ---- Recover

module _ (s : State) (dead by : ServerId) where
  pub recovers_not : may_recover (core_at s) dead.0 by.0 ≡ false → IsMadeOf (core_at s) s (Recover dead.0 by.0) None
  recovers_not bars tree can = false≢true (sym bars ∙ recover_may (with_tree (core_at s) tree) dead.0 by.0 can)

  pub recovers : (demon : Recovering) (text : List ℕ) → may_recover (core_at s) dead.0 by.0 ≡ true → demon.recovery ≡ recovery_of dead.0 → demon.segments ≡ s.parties.segments → demon.issued ≡ []
      → text ≡ said_line (said.Recovering dead by) → IsMadeOf (core_at s) s (Recover dead.0 by.0) (Some (record { ready = ready.Recover dead by demon; call = call.Say text }))
  recovers demon text may recovery disk issued text_is tree = record {
    event = refl;
    can = recover_can (with_tree (core_at s) tree) dead.0 by.0 may;
    asks = ap Say (sym text_is);
    may = record { may = may; recovery = recovery; disk = disk; issued = issued };
  }

-- who works is a server or the host
pub worker_is_party : (c : Core) (a : ℕ) → is_worker c a ≡ true → (is_server a || a == host_party) ≡ true
worker_is_party c a worker = go (is_server a) (is_up (c.servers a).phase) (a == host_party) worker
  where
    go : (server up host : Bool) → ((server && up) || host) ≡ true → (server || host) ≡ true
    go true up host is = refl
    go false up host is = is

-- whether a party of a world works
pub works : (s : State) (by : ℕ) (parties : Parties) (r : Bool) → parties ≡ s.parties → r ≡ ((is_server by && is_up (servers_at parties by).phase) || by == host_party) → r ≡ is_worker (core_at s) by
works s by parties r of_world is = is ∙ ap (λ (p : Parties). (is_server by && is_up (servers_at p by).phase) || by == host_party) of_world

-- ---- Load, Look

-- the get of a slot of the log that is recovered, and none where there is no recovery
module _ (c : Core) (by : ServerId) (slot : ℕ) where
  pub loads_slot : (sector : Sector) (r : Recovering) (dead : ℕ) → Some r.recovery ≡ (c.servers by.0).recovery → dead ≡ r.recovery.dead → sector.0 ≡ sector_of (region.Log dead slot)
      → Asks c (Load by.0 slot) (call.Get by sector)
  loads_slot sector r dead there dead_is sector_is =
      ap (load_call by.0 slot) (sym there) ∙ ap (λ (d : ℕ). Get by.0 (sector_of (region.Log d slot))) (sym dead_is) ∙ ap (Get by.0) (sym sector_is)

  pub loads_nothing : None ≡ (c.servers by.0).recovery → Asks c (Load by.0 slot) call.Nothing
  loads_nothing none = ap (load_call by.0 slot) (sym none)

module _ (c : Core) (s : State) (by : ServerId) where
  pub loads_not : (slot : ℕ) → (is_worker c by.0 && is_recovery (wants_slot c slot) (c.servers by.0).recovery) ≡ false → IsMadeOf c s (Load by.0 slot) None
  loads_not slot bars tree can = false≢true (sym bars ∙ and_from (is_worker c by.0) (is_recovery (wants_slot c slot) (c.servers by.0).recovery) can.who can.wanted)

  can_load : (slot : ℕ) → (is_worker c by.0 && is_recovery (wants_slot c slot) (c.servers by.0).recovery) ≡ true → CanLoad c by.0 slot
  can_load slot may =
      let parts : (is_worker c by.0 ≡ true) × (is_recovery (wants_slot c slot) (c.servers by.0).recovery ≡ true) = and_parts (is_worker c by.0) (is_recovery (wants_slot c slot) (c.servers by.0).recovery) may in
      record { who = parts.0; wanted = parts.1 }

  -- it asks for no put
  load_over : (tree : HostReading) (slot : ℕ) (made : Call) → Asks c (Load by.0 slot) made → Asks (with_tree c tree) (Load by.0 slot) made
  load_over tree slot call.Nothing asks = asks
  load_over tree slot (call.Get party sector) asks = asks
  load_over tree slot (call.Put ticket party sector) asks = record { put = asks.put; call_is = asks.call_is; party_is = asks.party_is; sector_is = asks.sector_is }
  load_over tree slot (call.Say text) asks = asks

  pub loads : (slot : ℕ) (made : Call) → (is_worker c by.0 && is_recovery (wants_slot c slot) (c.servers by.0).recovery) ≡ true → IsReady s.parties by.0 → Asks c (Load by.0 slot) made
      → IsMadeOf c s (Load by.0 slot) (Some (record { ready = ready.Load by slot; call = made }))
  loads slot made may room asks tree =
      let can : CanLoad c by.0 slot = can_load slot may in
      record { event = refl; can = record { who = can.who; wanted = can.wanted }; asks = load_over tree slot made asks; may = record { can = can; room = room } }

  pub looks_not : (sector : ℕ) → (is_worker c by.0 && is_recovery (wants_look c sector) (c.servers by.0).recovery) ≡ false → IsMadeOf c s (Look by.0 sector) None
  looks_not sector bars tree can = false≢true (sym bars ∙ and_from (is_worker c by.0) (is_recovery (wants_look c sector) (c.servers by.0).recovery) can.who can.wanted)

  pub looks : (sector : Sector) → (is_worker c by.0 && is_recovery (wants_look c sector.0) (c.servers by.0).recovery) ≡ true → IsReady s.parties by.0
      → IsMadeOf c s (Look by.0 sector.0) (Some (record { ready = ready.Look by sector; call = call.Get by sector }))
  looks sector may room tree =
      let parts : (is_worker c by.0 ≡ true) × (is_recovery (wants_look c sector.0) (c.servers by.0).recovery ≡ true) = and_parts (is_worker c by.0) (is_recovery (wants_look c sector.0) (c.servers by.0).recovery) may in
      record { event = refl; can = record { who = parts.0; wanted = parts.1 }; asks = refl; may = record { can = record { who = parts.0; wanted = parts.1 }; room = room } }

-- ---- Finish

module _ (c : Core) (by : ServerId) where
  pub finishes_nobody : (s : State) → is_worker c by.0 ≡ false → IsMadeOf c s (Finish by.0) None
  finishes_nobody s bars tree can = false≢true (sym bars ∙ can.who)

  pub finishes_not : (s : State) → may_finish c by.0 ≡ false → IsMadeOf c s (Finish by.0) None
  finishes_not s bars tree can = false≢true (sym bars ∙ finish_may (with_tree c tree) by.0 can)

  pub finishes : (s : State) (text : List ℕ) → may_finish c by.0 ≡ true → Asks c (Finish by.0) (call.Say text) → IsMadeOf c s (Finish by.0) (Some (record { ready = ready.Finish by; call = call.Say text }))
  finishes s text may asks tree = record { event = refl; can = finish_can (with_tree c tree) by.0 may; asks = asks; may = may }

  -- the recovery that is through
  module _ (may : may_finish c by.0 ≡ true) where
    through : is_recovery (is_through c) (c.servers by.0).recovery ≡ true
    through = (and_parts (is_worker c by.0) (is_recovery (is_through c) (c.servers by.0).recovery) may).1

    pub is_through_there : (recovery : Recovery) → Some recovery ≡ (c.servers by.0).recovery → is_through c recovery ≡ true
    is_through_there recovery there = ap (is_recovery (is_through c)) there ∙ through

    pub has_read_there : (recovery : Recovery) → c.setting.logs ≡ disk_logs → Some recovery ≡ (c.servers by.0).recovery → are_all_read recovery.slots ≡ true
    has_read_there recovery logs there = has_read c recovery logs (is_through_there recovery there)

  pub says_recovered_there : (recovery : Recovery) (text : List ℕ) → c.setting.logs ≡ disk_logs → Some recovery ≡ (c.servers by.0).recovery
      → text ≡ said_line (said.Recovered (id_of recovery.dead) (record { 0 = greatest_kept recovery })) → Asks c (Finish by.0) (call.Say text)
  says_recovered_there recovery text logs there text_is = ap (λ (r : Option Recovery). say_call (says_recovered c r)) (sym there) ∙ says_end c recovery logs ∙ ap Say (sym text_is)
