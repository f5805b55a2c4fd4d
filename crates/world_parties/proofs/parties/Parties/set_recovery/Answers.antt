-- The recovery stands in the place of the party.
use Rattle.std.proofs.Common.{sym, subst, ap, ◌∙◌}
use Rattle.core_definitions.specs.Servers.{Server}
use Rattle.std.proofs.Common.{Option}
use Rattle.recovery_demon.specs.Recovering.{Recovering}
use Rattle.world_parties.specs.States.{Becomes, IsRecovery, State, recovery_in, server_of, servers_at}
use Rattle.world_parties.proofs.Reading.{small_of}
use Rattle.world_parties.proofs.Keeping.{host_recovering, rest_in_place, rest_of_host}
use Rattle.world_parties.proofs.Recovering.{bare_keeps}
use Rattle.world_parties.proofs.Changing.{becomes, host_becomes, kept_with, recovering_put}
use Rattle.world_parties.proofs.parties.Parties.set_recovery.Goals as goal

pub invariant_of-self-else-eq : goal.invariant_of-self-else-eq
invariant_of-self-else-eq c =
    let s : State = record { segments = c.self.inside.segments; parties = c.self.inside.list.items; host = c.self.inside.host; held = c.self.inside.held.items } in
    let P : State → Type 0 = λ s. IsRecovery s.segments c.args.by.0 c.args.recovery in
    kept_with s c.args.by.0 c.from.result _ c.index_mut.result.now c.set_recovery.new.self c.args.recovery c.self.invariant (small_of c.args.by.0 c.requires.party (sym c.eq.ensures ∙ c.if-eq.false)) c.from.ensures c.index_mut.ensures.value c.set_recovery.ensures.party
    (subst P (sym c.self.view_is) c.requires.fits)

pub returns-then-eq-clause-becomes : goal.returns-then-eq-clause-becomes
returns-then-eq-clause-becomes c =
    let s : State = record { segments = c.self.inside.segments; parties = c.self.inside.list.items; host = c.self.inside.host; held = c.self.inside.held.items } in
    let P : Option Recovering → Type 0 = λ r. Becomes c.args.self.now (record s { host = r }) c.args.by.0 (record (servers_at c.args.self.now c.args.by.0) { recovery = recovery_in c.args.recovery }) in
    subst P (sym c.set.ensures) (host_becomes s c.args.self.now c.args.by.0 c.args.recovery c.self.view_is (sym c.eq.ensures ∙ c.if-eq.true))

pub returns-else-eq-clause-becomes : goal.returns-else-eq-clause-becomes
returns-else-eq-clause-becomes c =
    let s : State = record { segments = c.self.inside.segments; parties = c.self.inside.list.items; host = c.self.inside.host; held = c.self.inside.held.items } in
    becomes s c.args.self.now c.args.by.0 c.from.result _ c.index_mut.result.now c.set_recovery.new.self (λ (server : Server). record server { recovery = recovery_in c.args.recovery }) c.self.view_is c.self.invariant (small_of c.args.by.0 c.requires.party (sym c.eq.ensures ∙ c.if-eq.false))
    c.from.ensures c.index_mut.ensures.value (ap server_of c.set_recovery.ensures.party)

pub returns-else-eq-clause-is : goal.returns-else-eq-clause-is
returns-else-eq-clause-is c =
    let s : State = record { segments = c.self.inside.segments; parties = c.self.inside.list.items; host = c.self.inside.host; held = c.self.inside.held.items } in
    recovering_put s c.args.by.0 c.from.result c.set_recovery.new.self c.args.recovery c.self.invariant (small_of c.args.by.0 c.requires.party (sym c.eq.ensures ∙ c.if-eq.false)) c.from.ensures (ap (λ p. p.recovery) c.set_recovery.ensures.party)

pub returns-then-eq-clause-rest : goal.returns-then-eq-clause-rest
returns-then-eq-clause-rest c =
    let s : State = record { segments = c.self.inside.segments; parties = c.self.inside.list.items; host = c.self.inside.host; held = c.self.inside.held.items } in
    rest_of_host s c.args.self.now c.args.by.0 c.set.new.place c.self.view_is (sym c.eq.ensures ∙ c.if-eq.true)

pub returns-else-eq-clause-rest : goal.returns-else-eq-clause-rest
returns-else-eq-clause-rest c =
    let s : State = record { segments = c.self.inside.segments; parties = c.self.inside.list.items; host = c.self.inside.host; held = c.self.inside.held.items } in
    rest_in_place s c.args.self.now c.args.by.0 c.from.result _ c.index_mut.result.now c.set_recovery.new.self c.args.recovery c.self.view_is c.self.invariant (small_of c.args.by.0 c.requires.party (sym c.eq.ensures ∙ c.if-eq.false)) c.from.ensures c.index_mut.ensures.value c.set_recovery.ensures.party

pub returns-then-eq-clause-keeps : goal.returns-then-eq-clause-keeps
returns-then-eq-clause-keeps c bare =
    bare_keeps c.args.self.now _ c.args.by.0 c.args.recovery (returns-then-eq-clause-becomes c) (returns-then-eq-clause-rest c)
    (host_recovering (record { segments = c.self.inside.segments; parties = c.self.inside.list.items; host = c.self.inside.host; held = c.self.inside.held.items }) c.args.by.0 c.set.new.place (sym c.eq.ensures ∙ c.if-eq.true) ∙ c.set.ensures) bare

pub returns-else-eq-clause-keeps : goal.returns-else-eq-clause-keeps
returns-else-eq-clause-keeps c bare =
    bare_keeps c.args.self.now _ c.args.by.0 c.args.recovery (returns-else-eq-clause-becomes c) (returns-else-eq-clause-rest c) (returns-else-eq-clause-is c) bare
