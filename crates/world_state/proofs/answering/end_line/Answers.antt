-- The effect is made of the server, and its line is gone.
use Rattle.std.proofs.Common.{IsSomeAnd, None, Option, sym, subst, ap, ◌∙◌}
use Rattle.core_definitions.specs.Servers.{Server}
use Rattle.server_core.specs.States.{ring_in}
use Rattle.world_parties.specs.States.{Becomes, PartyKeeps, server_of}
use Rattle.world_parties.specs.declared.party.Party.{Party}
use Rattle.world_state.specs.AnswerEffects.{server_after}
use Rattle.world_state.proofs.EndedLines.{keeps_ended, server_ended}
use Rattle.world_state.proofs.answering.end_line.Goals as goal

pub returns-clause-becomes : goal.returns-clause-becomes
returns-clause-becomes c =
    let after : Server → Server = server_after c.args.effect c.args.now (ring_in c.args.ring) in
    subst (Becomes c.args.parties.now c.put.new.self c.args.a.0)
    (ap server_of c.forget.ensures ∙ server_ended c.take-party.result c.carry_out.new.party c.end_line.new.self c.end_line.ensures.server (after (server_of c.take-party.result)) c.carry_out.ensures.server
    ∙ ap (λ (server : Server). record (after server) { under = None }) c.take-party.ensures.server)
    (c.put.ensures.becomes c.args.parties.now c.take-party.ensures.others)

pub returns-clause-keeps : goal.returns-clause-keeps
returns-clause-keeps c =
    let was = c.take-party.result in
    let P : Option Party → Type 0 = λ o. IsSomeAnd o (λ party. PartyKeeps party c.forget.new.self) in
    c.put.ensures.keeps c.args.parties.now c.take-party.ensures.others
    (subst P (sym c.take-party.ensures.party) (subst (PartyKeeps was) (sym c.forget.ensures)
    (keeps_ended was c.carry_out.new.party c.end_line.new.self c.end_line.ensures.server c.args.effect c.carry_out.ensures.recovery c.carry_out.ensures.flags c.end_line.ensures.flying)))
