-- What an answer to a line says.
use Rattle.std.proofs.Common.{ℕ, ◌≡◌, true, Option, Some, None, is_some, ap, ◌∙◌}
use Rattle.frang_base.specs.declared.reply.Reply.{Reply}
use Rattle.frang_base.specs.declared.said.Said.TheVariants as said
use Rattle.tree_definitions.specs.SaidLines.{said_line}
use Rattle.core_definitions.specs.Calls.{Say, say_call}
use Rattle.core_definitions.specs.Effects.{id_of, reply_by, says_answer}
use Rattle.core_definitions.specs.LineEffects.{number_under}
use Rattle.core_definitions.specs.Lines.{Finishing, Stage, Under}
use Rattle.core_definitions.specs.Plans.{Outcome}
use Rattle.core_definitions.specs.Servers.{Server}
use Rattle.world_parties.specs.States.{State as Parties, server_of, servers_at}
use Rattle.world_parties.specs.declared.party.Party.{Party}
use Rattle.world_state.specs.States.{State, core_at}

-- the answer to the line under way is said with its number
pub says : (a : ℕ) (under : Option Under) (answer : Option Reply) (reply : Reply) → is_some under ≡ true → answer ≡ Some reply
    → say_call (says_answer a under answer) ≡ Say (said_line (said.Answer (id_of a) (number_under under) reply))
says a None answer reply some is = absurd (cc)
says a (Some under) answer reply some is = ap (λ r. say_call (says_answer a (Some under) r)) is

pub replies : (at : Option Stage) (outcome : Outcome) → at ≡ Some (Finishing outcome) → reply_by at ≡ Some outcome.reply
replies at outcome is = ap reply_by is

-- the number of the line under way of a server
pub number_at : (s : State) (a : ℕ) (parties : Parties) (party : Party) (number : ℕ) → parties ≡ s.parties → server_of party ≡ servers_at parties a → number ≡ number_under party.server.server.under
    → number ≡ number_under ((core_at s).servers a).under
number_at s a parties party number of_world of_party is =
    is ∙ ap (λ (server : Server). number_under server.under) of_party ∙ ap (λ (p : Parties). number_under (servers_at p a).under) of_world
