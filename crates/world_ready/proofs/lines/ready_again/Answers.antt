-- By the guard, with what the line goes on with.
use Rattle.std.proofs.Common.{◌≡◌, true, IfSome, Option, sym, ap, subst, ◌∙◌}
use Rattle.core_definitions.specs.Cores.{stage}
use Rattle.core_definitions.specs.LineGuards.{may_again}
use Rattle.core_definitions.specs.Lines.{Stage}
use Rattle.line_stages.specs.Agains.{IsAgain, IsAgainAt, IsFirstWhereAnew}
use Rattle.line_stages.specs.declared.again.Again.{Again as TheAgain}
use Rattle.world_parties.specs.States.{State as Parties}
use Rattle.world_state.specs.States.{core_at}
use Rattle.world_ready.proofs.Asked.{of_world}
use Rattle.world_ready.proofs.LineReady.{agains, agains_not}
use Rattle.world_ready.proofs.Staged.{IsGot, Says, again_at, stage_as_read}
use Rattle.world_ready.proofs.lines.ready_again.Goals as goal

pub returns-then-not-may_again : goal.returns-then-not-may_again
returns-then-not-may_again c =
    let s = c.args.world.now in
    agains_not (core_at s) s c.args.a (sym (of_world c.new.result s c.args.a.0 (λ d n. may_again d n (stage d n)) c.new.ensures.world c.new.ensures.number) ∙ sym c.may_again.ensures ∙ c.if-not-may_again.true)

pub returns-in-Some : goal.returns-in-Some
returns-in-Some c =
    let s = c.args.world.now in
    let a = c.args.a.0 in
    let party = c.get-party.result.now in
    let again = c.in-Some.again in
    let P : Parties → Type 0 = λ parties. IsGot parties a party in
    let got : IsGot s.parties a party = subst P c.parties.ensures (record { server = c.get-party.ensures.server; number = c.get-party.ensures.id; there = c.get-party.ensures.party; plan = c.get-party.ensures.plan }) in
    let Is : Option Stage → Type 0 = λ at. IsAgain party.server.server at again in
    let First : Option TheAgain → Type 0 = λ found. IfSome found IsFirstWhereAnew in
    let Found : Option TheAgain → Type 0 = λ found. Says (core_at s).setting party c.locks.result.now (λ at. IsAgainAt party.server.server at found) in
    let may : may_again (core_at s) a (stage (core_at s) a) ≡ true =
    sym (of_world c.new.result s a (λ d n. may_again d n (stage d n)) c.new.ensures.world c.new.ensures.number) ∙ sym c.may_again.ensures ∙ c.if-not-may_again.false in
    let disk : (core_at s).setting.segments ≡ c.segments-segments.result = sym (c.segments-segments.ensures.segments ∙ ap (λ (p : Parties). p.segments) c.parties-2.ensures) in
    agains (core_at s) s c.args.a again may (subst First c.in-Some.is c.in_ok-again.ensures.first)
    (again_at s a party (stage (core_at s) a) again got.server
    (stage_as_read s a party c.locks.result.now got c.locks.ensures Is c.is_over-over.ensures.kept c.requires.fresh.plan (subst Found c.in-Some.is (c.in_ok-again.ensures.is (core_at s).setting disk))))
