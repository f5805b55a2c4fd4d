-- The recovery is gone from the place of the party.
use Rattle.std.proofs.Common.{None, sym, subst, ap, ◌∙◌}
use Rattle.core_definitions.specs.Servers.{Server}
use Rattle.world_parties.specs.States.{IsRecovery, State, server_of}
use Rattle.world_parties.proofs.Reading.{found_fits, found_recovery, small_of}
use Rattle.world_parties.proofs.Keeping.{rest_in_place, rest_of_host}
use Rattle.world_parties.proofs.Changing.{becomes, kept_with, recovering_put}
use Rattle.world_parties.proofs.parties.Parties.take_recovery.Goals as goal

pub invariant_of-self-else-eq : goal.invariant_of-self-else-eq
invariant_of-self-else-eq c =
    let s : State = record { segments = c.self.inside.segments; parties = c.self.inside.list.items; host = c.self.inside.host; held = c.self.inside.held.items } in
    kept_with s c.args.by.0 c.from.result _ c.index_mut.result.now c.take_recovery.new.self None c.self.invariant (small_of c.args.by.0 c.requires (sym c.eq.ensures ∙ c.if-eq.false)) c.from.ensures c.index_mut.ensures.value c.take_recovery.ensures.party tt

pub returns-else-eq-clause-is : goal.returns-else-eq-clause-is
returns-else-eq-clause-is c =
    let s : State = record { segments = c.self.inside.segments; parties = c.self.inside.list.items; host = c.self.inside.host; held = c.self.inside.held.items } in
    c.take_recovery.ensures.result ∙ found_recovery s c.args.self.now c.args.by.0 c.from.result _ c.index_mut.result.now c.self.view_is c.self.invariant (small_of c.args.by.0 c.requires (sym c.eq.ensures ∙ c.if-eq.false)) c.from.ensures c.index_mut.ensures.value

pub returns-else-eq-clause-fits : goal.returns-else-eq-clause-fits
returns-else-eq-clause-fits c =
    let s : State = record { segments = c.self.inside.segments; parties = c.self.inside.list.items; host = c.self.inside.host; held = c.self.inside.held.items } in
    subst (IsRecovery c.args.self.now.segments c.args.by.0) (sym c.take_recovery.ensures.result)
    (found_fits s c.args.self.now c.args.by.0 c.from.result _ c.index_mut.result.now c.self.view_is c.self.invariant (small_of c.args.by.0 c.requires (sym c.eq.ensures ∙ c.if-eq.false)) c.from.ensures c.index_mut.ensures.value)

pub returns-else-eq-clause-gone : goal.returns-else-eq-clause-gone
returns-else-eq-clause-gone c =
    let s : State = record { segments = c.self.inside.segments; parties = c.self.inside.list.items; host = c.self.inside.host; held = c.self.inside.held.items } in
    becomes s c.args.self.now c.args.by.0 c.from.result _ c.index_mut.result.now c.take_recovery.new.self (λ (server : Server). record server { recovery = None }) c.self.view_is c.self.invariant (small_of c.args.by.0 c.requires (sym c.eq.ensures ∙ c.if-eq.false))
    c.from.ensures c.index_mut.ensures.value (ap server_of c.take_recovery.ensures.party)

pub returns-else-eq-clause-none : goal.returns-else-eq-clause-none
returns-else-eq-clause-none c =
    let s : State = record { segments = c.self.inside.segments; parties = c.self.inside.list.items; host = c.self.inside.host; held = c.self.inside.held.items } in
    recovering_put s c.args.by.0 c.from.result c.take_recovery.new.self None c.self.invariant (small_of c.args.by.0 c.requires (sym c.eq.ensures ∙ c.if-eq.false)) c.from.ensures (ap (λ p. p.recovery) c.take_recovery.ensures.party)

pub returns-then-eq-clause-rest : goal.returns-then-eq-clause-rest
returns-then-eq-clause-rest c =
    let s : State = record { segments = c.self.inside.segments; parties = c.self.inside.list.items; host = c.self.inside.host; held = c.self.inside.held.items } in
    rest_of_host s c.args.self.now c.args.by.0 c.take.new.self c.self.view_is (sym c.eq.ensures ∙ c.if-eq.true)

pub returns-else-eq-clause-rest : goal.returns-else-eq-clause-rest
returns-else-eq-clause-rest c =
    let s : State = record { segments = c.self.inside.segments; parties = c.self.inside.list.items; host = c.self.inside.host; held = c.self.inside.held.items } in
    rest_in_place s c.args.self.now c.args.by.0 c.from.result _ c.index_mut.result.now c.take_recovery.new.self None c.self.view_is c.self.invariant (small_of c.args.by.0 c.requires (sym c.eq.ensures ∙ c.if-eq.false)) c.from.ensures c.index_mut.ensures.value c.take_recovery.ensures.party
