-- One may be issued where there is its write.
use Rattle.std.proofs.Common.{◌<◌, is_some, sym, ap, ◌∙◌, subst}
use Rattle.frang_base.proofs.Tests.{is_some-option_map}
use Rattle.frang_base.specs.declared.limits.TheConstants.{SERVERS}
use Rattle.server_issues.specs.Issuing.{Issuing, write_of}
use Rattle.server_issues.proofs.Issued.{some_may}
use Rattle.server_issues.proofs.issuer.Issuer.is_issuable.Goals as goal

pub returns : goal.returns
returns c = λ core is.
    let few : c.args.self.now.server.id < SERVERS = subst (λ (i : Issuing). i.server.id < SERVERS) c.self.view_is c.self.invariant.0 in
    c.is_some.ensures ∙ sym (is_some-option_map write_of c.write.result) ∙ ap is_some (c.write.ensures core is) ∙ some_may core c.args.self.now c.args.sector.0 is few
