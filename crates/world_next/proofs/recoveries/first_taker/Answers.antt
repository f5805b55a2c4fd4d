-- A server that is up, or the host where none is.
use Rattle.std.proofs.Common.{◌≡◌, ◌<◌, ℕ, false, ◌&&◌, add-one, arith, sym, ap, ◌∙◌, subst}
use Rattle.std.specs.List.{list_any}
use Rattle.std.proofs.lemmas.Bool.{lt-ltb}
use Rattle.frang_base.specs.declared.limits.TheConstants.{SERVERS}
use Rattle.tree_definitions.specs.Numbers.{below}
use Rattle.core_definitions.specs.LineGuards.{is_server}
use Rattle.core_definitions.specs.Servers.{is_up}
use Rattle.world_parties.specs.States.{State as Parties, servers_at}
use Rattle.world_state.specs.States.{core_at}
use Rattle.world_state.proofs.Recovering.{any_one_more}
use Rattle.world_next.proofs.Beginning.{host_takes, not_up, up_takes}
use Rattle.world_next.proofs.recoveries.first_taker.Goals as goal

pub returns-then-is_up : goal.returns-then-is_up
returns-then-is_up c =
    let a = c.loop-a.a in
    up_takes (core_at c.args.world.now) a (ap (λ (p : Parties). is_server a && is_up (servers_at p a).phase) (sym c.parties.ensures) ∙ sym c.is_up.ensures ∙ c.if-is_up.true)

pub loop-a-preserved : goal.loop-a-preserved
loop-a-preserved c =
    let a = c.loop-a.a in
    let s = c.args.world.now in
    let small : a < SERVERS = omega (arith, c.loop-a-test.true) in
    let down : (is_server a && is_up ((core_at s).servers a).phase) ≡ false = ap (λ (p : Parties). is_server a && is_up (servers_at p a).phase) (sym c.parties.ensures) ∙ sym c.is_up.ensures ∙ c.if-is_up.false in
    ap (λ (n : ℕ). list_any (λ b. is_up ((core_at s).servers b).phase) (below n)) (add-one a)
    ∙ any_one_more (λ b. is_up ((core_at s).servers b).phase) a c.loop-a.invariant (not_up (is_server a) (is_up ((core_at s).servers a).phase) (lt-ltb a SERVERS small) down)

pub returns : goal.returns
returns c =
    let s = c.args.world.now in
    let all : c.loop-a.a ≡ SERVERS = omega arith in
    host_takes (core_at s) (subst (λ (n : ℕ). list_any (λ b. is_up ((core_at s).servers b).phase) (below n) ≡ false) all c.loop-a.invariant)
