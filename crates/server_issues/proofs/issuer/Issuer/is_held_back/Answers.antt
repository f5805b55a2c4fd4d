-- One is held back where it would be the last and one may be issued but for that.
use Rattle.std.proofs.Common.{◌<◌, ◌&&◌, sym, ap, ◌∙◌, subst}
use Rattle.std.specs.List.{list_any}
use Rattle.frang_base.specs.declared.limits.TheConstants.{SERVERS}
use Rattle.core_definitions.specs.Cores.{writes}
use Rattle.core_definitions.specs.Servers.{Server}
use Rattle.core_definitions.specs.WriteGuards.{is_at_last, is_issuable}
use Rattle.server_issues.specs.Issuing.{Issuing}
use Rattle.server_issues.proofs.Nexts.{held}
use Rattle.server_issues.proofs.issuer.Issuer.is_held_back.Goals as goal

pub returns-then-is_at_last : goal.returns-then-is_at_last
returns-then-is_at_last c = λ core is.
    let i = c.args.self.now in
    let few : i.server.id < SERVERS = subst (λ (j : Issuing). j.server.id < SERVERS) c.self.view_is c.self.invariant.0 in
    c.is_some.ensures ∙ held core i is few c.next_issuable.result (c.next_issuable.ensures core is)
    ∙ sym (ap (λ (server : Server). is_at_last server.arming && list_any (λ entry. is_issuable core i.server.id entry.0 (writes core i.server.id)) (writes core i.server.id)) is.server
    ∙ ap (λ b. b && list_any (λ entry. is_issuable core i.server.id entry.0 (writes core i.server.id)) (writes core i.server.id)) (sym c.is_at_last.ensures ∙ c.if-is_at_last.true))
