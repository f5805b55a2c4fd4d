-- The rows of loads and looks of a party, by the recovery that it carries out.
use Rattle.std.proofs.Common.{◌≡◌, ℕ, Bool, true, false, ◌&&◌, ◌||◌, ◌==◌, [], Option, Some, None, refl, sym, ap, ◌∙◌}
use Rattle.std.specs.List.{flat_map}
use Rattle.std.proofs.lemmas.Option.{same_Some}
use Rattle.core_definitions.specs.Enabled.{loads_for, looks_for}
use Rattle.core_definitions.specs.LineGuards.{is_server}
use Rattle.core_definitions.specs.Scripts.{host_party}
use Rattle.core_definitions.specs.Servers.{is_up}
use Rattle.core_definitions.specs.WriteGuards.{is_worker}
use Rattle.host_tree.specs.Reading.{HostReading}
use Rattle.recovery_demon.specs.Recovering.{Recovering, all_wanted}
use Rattle.world_parties.specs.States.{IsRecovery, State as Parties, recovery_in, servers_at}
use Rattle.world_list.specs.Going.{IsParty}
use Rattle.world_list.specs.Over.{core_over}
use Rattle.world_list.specs.Rows.{party_events}
use Rattle.world_list.specs.Wanting.{load_of, look_of}
use Rattle.world_list.specs.declared.row.Row.TheVariants as rows
use Rattle.world_list.proofs.RecoveryWants.{its_loads, its_looks, no_loads, no_looks, rules_are}
use Rattle.world_state.specs.States.{State, core_at}

-- who works, as the parties say it
pub works : (s : State) (by : ℕ) (parties : Parties) (b : Bool) → parties ≡ s.parties → b ≡ ((is_server by && is_up (servers_at parties by).phase) || by == host_party) → b ≡ is_worker (core_at s) by
works s by parties b same is = is ∙ ap (λ (p : Parties). (is_server by && is_up (servers_at p by).phase) || by == host_party) same

-- who works is a party
pub worker_party : (a : ℕ) (up : Bool) → ((is_server a && up) || a == host_party) ≡ true → IsParty a
worker_party a up is = go (is_server a) is
  where
    go : (server : Bool) → ((server && up) || a == host_party) ≡ true → (server || a == host_party) ≡ true
    go true is = refl
    go false is = is

module _ (s : State) (by : ℕ) (tree : HostReading) where
  pub loads_off : is_worker (core_at s) by ≡ false → [] ≡ party_events s rows.Loads by tree
  unfolding party_events
  loads_off off = sym (no_loads (core_over s tree) by rules_are ((core_at s).servers by).recovery off)

  pub looks_off : is_worker (core_at s) by ≡ false → [] ≡ party_events s rows.Looks by tree
  unfolding party_events
  looks_off off = sym (no_looks (core_over s tree) by rules_are ((core_at s).servers by).recovery off)

  module _ (o : Option Recovering) (is : recovery_in o ≡ (servers_at s.parties by).recovery) where
    pub loads_none : o ≡ None → [] ≡ party_events s rows.Loads by tree
    unfolding party_events
    loads_none none = ap (λ p. loads_for (core_over s tree) by (recovery_in p)) (sym none) ∙ ap (loads_for (core_over s tree) by) is

    pub looks_none : o ≡ None → [] ≡ party_events s rows.Looks by tree
    unfolding party_events
    looks_none none = ap (λ p. looks_for (core_over s tree) by (recovery_in p)) (sym none) ∙ ap (looks_for (core_over s tree) by) is

    pub loads_some : (r : Recovering) → o ≡ Some r → is_worker (core_at s) by ≡ true → flat_map (load_of by) (all_wanted r.segments r.recovery r.issued) ≡ party_events s rows.Loads by tree
    unfolding party_events
    loads_some r some on = sym (its_loads (core_over s tree) by rules_are r on) ∙ ap (λ p. loads_for (core_over s tree) by (recovery_in p)) (sym some) ∙ ap (loads_for (core_over s tree) by) is

    pub looks_some : (r : Recovering) → o ≡ Some r → is_worker (core_at s) by ≡ true → IsRecovery s.parties.segments by o → flat_map (look_of by) (all_wanted r.segments r.recovery r.issued) ≡ party_events s rows.Looks by tree
    unfolding party_events
    looks_some r some on fits =
        sym (its_looks (core_over s tree) by rules_are r on (disk o fits some)) ∙ ap (λ p. looks_for (core_over s tree) by (recovery_in p)) (sym some) ∙ ap (looks_for (core_over s tree) by) is
      where
        disk : (p : Option Recovering) → IsRecovery s.parties.segments by p → p ≡ Some r → r.segments ≡ s.parties.segments
        disk None fits e = absurd (cc)
        disk (Some q) fits e = ap (λ (x : Recovering). x.segments) (sym (same_Some q r e)) ∙ fits.disk
