-- It doesn't work, a write of the sector is in flight, or the write of the sector settles it.
use Rattle.std.proofs.Common.{◌<◌, sym, ap, ◌∙◌, subst}
use Rattle.frang_base.specs.declared.limits.TheConstants.{SERVERS}
use Rattle.core_definitions.specs.Flights.{is_flying}
use Rattle.flight_laws.specs.Flights.{flights_of}
use Rattle.server_issues.specs.Issuing.{Issuing}
use Rattle.server_issues.proofs.Issued.{none_busy, none_resting}
use Rattle.server_issues.proofs.issuer.Issuer.write.Goals as goal
use Rattle.server_issues.proofs.issuer.Issuer.write.Goals.{then-not-may_work-via-then-not-may_work, then-not-may_work-via-else-not-may_work+then-is_busy}

pub returns-then-not-may_work : goal.returns-then-not-may_work
returns-then-not-may_work c = λ core is.
    let i = c.args.self.now in
    let few : i.server.id < SERVERS = subst (λ (j : Issuing). j.server.id < SERVERS) c.self.view_is c.self.invariant.0 in
    elim c.then-not-may_work.branch [
      | then-not-may_work-via-then-not-may_work w ↦ none_resting core i c.args.sector.0 is few (sym c.may_work.ensures ∙ w.if-not-may_work.true)
      | then-not-may_work-via-else-not-may_work+then-is_busy w ↦ none_busy core i c.args.sector.0 is few
          (ap (λ flights. is_flying flights c.args.sector.0) is.flights ∙ ap (λ (j : Issuing). is_flying (flights_of j.flights) c.args.sector.0) (sym c.self.view_is) ∙ sym w.is_busy.ensures ∙ w.if-is_busy.true)
    ]

pub returns : goal.returns
returns c = λ core is.
    c.idle_write.ensures core is
    (ap (λ flights. is_flying flights c.args.sector.0) is.flights ∙ ap (λ (j : Issuing). is_flying (flights_of j.flights) c.args.sector.0) (sym c.self.view_is) ∙ sym c.is_busy.ensures ∙ c.if-is_busy.false)
    (sym c.may_work.ensures ∙ c.if-not-may_work.false)
