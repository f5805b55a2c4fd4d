-- The log's next write is the one wanted of the log.
use Rattle.std.proofs.Common.{◌≡◌, ◌<◌, Some, None, sym, ap, ◌∙◌, subst}
use Rattle.std.proofs.lemmas.Bool.{false≢true}
use Rattle.std.specs.Option.{option_map}
use Rattle.frang_base.specs.declared.limits.TheConstants.{SERVERS}
use Rattle.log_slots.specs.Reading.{log_rules}
use Rattle.core_definitions.specs.Cores.{writes}
use Rattle.core_definitions.specs.Logs.{log_sector}
use Rattle.core_definitions.specs.Rings.{next_write}
use Rattle.core_definitions.specs.WriteGuards.{is_issuable}
use Rattle.server_issues.specs.Issuing.{Issuing}
use Rattle.server_issues.proofs.Nexts.{of_log, of_none}
use Rattle.server_issues.proofs.issuer.Issuer.next_of_log.Goals as goal

pub returns-in_default : goal.returns-in_default
returns-in_default c = λ core is s there.
    let i = c.args.self.now in
    let few : i.server.id < SERVERS = subst (λ (j : Issuing). j.server.id < SERVERS) c.self.view_is c.self.invariant.0 in
    let none : None ≡ option_map (λ next. next.0) (next_write i.server.server.ring) =
    sym c.in_default.is ∙ c.next_number.ensures ∙ ap (λ (j : Issuing). option_map (λ next. next.0) (next_write j.server.server.ring)) c.self.view_is in
    absurd (false≢true (sym (of_none core i is few none s) ∙ there))

pub returns-else-is_issuable : goal.returns-else-is_issuable
returns-else-is_issuable c = λ core is s there.
    let i = c.args.self.now in
    let few : i.server.id < SERVERS = subst (λ (j : Issuing). j.server.id < SERVERS) c.self.view_is c.self.invariant.0 in
    let next : option_map (λ next. next.0) (next_write i.server.server.ring) ≡ Some c.in-Some.number =
    sym (c.next_number.ensures ∙ ap (λ (j : Issuing). option_map (λ next. next.0) (next_write j.server.server.ring)) c.self.view_is) ∙ c.in-Some.is in
    ap (λ k. is_issuable core i.server.id k (writes core i.server.id))
    (of_log core i is few c.in-Some.number s next there ∙ ap (λ (j : Issuing). log_sector log_rules j.server.id c.in-Some.number) (sym c.self.view_is)
    ∙ ap (λ k. log_sector log_rules k c.in-Some.number) (sym c.id.ensures) ∙ sym c.log_sector-sector.ensures)
    ∙ sym (c.is_issuable.ensures core is) ∙ c.if-is_issuable.false
