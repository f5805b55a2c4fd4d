-- That a recovery has issued a write changes nothing that the core knows, and the host isn't armed.
use Rattle.std.proofs.Common.{◌≡◌, ℕ, sym, refl, subst, ◌∙◌}
use Rattle.core_definitions.specs.Servers.{Server}
use Rattle.core_definitions.specs.WriteEffects.{counted}
use Rattle.world_parties.specs.States.{servers_at}
use Rattle.world_state.proofs.KeptAlong.{keeps_but_on}
use Rattle.world_state.proofs.PartySteps.{becomes_behind, becomes_itself, host_of}
use Rattle.world_state.proofs.issuing.issue_rescue.Goals as goal

pub returns-then-is_server-clause-becomes : goal.returns-then-is_server-clause-becomes
returns-then-is_server-clause-becomes c =
    becomes_behind c.args.parties.now c.rescue_issued.new.self c.issued.new.self c.args.by.0 (λ (server : Server). record server { arming = counted server.arming }) c.rescue_issued.ensures.same c.issued.ensures.becomes

pub returns-then-is_server-clause-keeps : goal.returns-then-is_server-clause-keeps
returns-then-is_server-clause-keeps c =
    keeps_but_on c.args.parties.now c.rescue_issued.new.self c.issued.new.self c.args.by.0 c.args.sector.0 c.rescue_issued.ensures.keeps c.issued.ensures.keeps

pub returns-else-is_server-clause-becomes : goal.returns-else-is_server-clause-becomes
returns-else-is_server-clause-becomes c =
    let old = c.args.parties.now in
    let host = host_of c.args.by.0 c.requires.party (sym c.is_server.ensures ∙ c.if-is_server.false) in
    let P : ℕ → Type 0 = λ b. record (servers_at old b) { arming = counted (servers_at old b).arming } ≡ servers_at old b in
    becomes_itself old c.rescue_issued.new.self c.args.by.0 (record (servers_at old c.args.by.0) { arming = counted (servers_at old c.args.by.0).arming }) (subst P (sym host) refl) c.rescue_issued.ensures.same
