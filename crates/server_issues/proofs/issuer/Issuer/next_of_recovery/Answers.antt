-- Its recovery's, if it has one.
use Rattle.std.proofs.Common.{◌≡◌, false, Some, None, sym, ap, ◌∙◌, subst, Option}
use Rattle.std.proofs.lemmas.Bool.{false≢true}
use Rattle.std.specs.Option.{option_copied, option_map, unwrap_or}
use Rattle.core_definitions.specs.Cores.{writes}
use Rattle.core_definitions.specs.WriteGuards.{is_issuable}
use Rattle.recovery_demon.specs.Recovering.{Recovering}
use Rattle.server_issues.specs.Issuing.{Issuing}
use Rattle.server_issues.specs.Nexts.{IsOneAmong, is_rescue_of}
use Rattle.server_issues.proofs.issuer.Issuer.next_of_recovery.Goals as goal

pub returns-in-Some : goal.returns-in-Some
returns-in-Some c = λ core is.
    let i = c.args.self.now in
    let P : Option Recovering → Type 0 = λ o. IsOneAmong (λ s. unwrap_or (option_map (λ r. is_rescue_of r s) o) false) (λ s. is_issuable core i.server.id s (writes core i.server.id)) c.next_for.result in
    let there : i.recovery ≡ Some c.in-Some.demon.now = ap (λ (j : Issuing). j.recovery) (sym c.self.view_is) ∙ ap option_copied c.in-Some.is in
    subst P (sym there) (c.next_for.ensures core is)

pub returns-in-None : goal.returns-in-None
returns-in-None c = λ core is.
    let i = c.args.self.now in
    let P : Option Recovering → Type 0 = λ o. IsOneAmong (λ s. unwrap_or (option_map (λ r. is_rescue_of r s) o) false) (λ s. is_issuable core i.server.id s (writes core i.server.id)) None in
    let there : i.recovery ≡ None = ap (λ (j : Issuing). j.recovery) (sym c.self.view_is) ∙ ap option_copied c.in-None.is in
    subst P (sym there) (λ s on. absurd (false≢true on))
