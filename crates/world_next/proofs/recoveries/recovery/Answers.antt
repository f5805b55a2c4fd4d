-- Of a party that works, and of no other.
use Rattle.std.proofs.Common.{◌≡◌, true, ◌&&◌, ◌||◌, ◌==◌, IsTrue, IfSome, Option, sym, ap, ◌∙◌, subst}
use Rattle.std.specs.Option.{option_copied}
use Rattle.core_definitions.specs.LineGuards.{is_server}
use Rattle.core_definitions.specs.Scripts.{host_party}
use Rattle.core_definitions.specs.Servers.{is_up}
use Rattle.core_definitions.specs.WriteGuards.{is_worker}
use Rattle.recovery_demon.specs.Recovering.{Recovering}
use Rattle.world_parties.specs.States.{State as Parties, recovering_by, servers_at}
use Rattle.world_state.specs.States.{core_at}
use Rattle.world_state.proofs.Recovering.{is_party}
use Rattle.world_next.proofs.OfOneDisk.{of_disk, works_with, works_without}
use Rattle.world_next.proofs.recoveries.recovery.Goals as goal

pub recovery-requires : goal.recovery-requires
recovery-requires c =
    let by = c.args.by.0 in
    is_party (core_at c.args.world.now) by
    (ap (λ (p : Parties). (is_server by && is_up (servers_at p by).phase) || by == host_party) (sym c.parties.ensures) ∙ sym c.is_worker.ensures ∙ c.if-is_worker.true)

pub returns-then-is_worker : goal.returns-then-is_worker
returns-then-is_worker c =
    let s = c.args.world.now in
    let by = c.args.by.0 in
    let works : is_worker (core_at s) by ≡ true =
    ap (λ (p : Parties). (is_server by && is_up (servers_at p by).phase) || by == host_party) (sym c.parties.ensures) ∙ sym c.is_worker.ensures ∙ c.if-is_worker.true in
    record {
      is = c.recovery.ensures.core ∙ ap (λ (p : Parties). (servers_at p by).recovery) c.parties-then-is_worker.ensures ∙ works_with (core_at s) by works;
      disk = of_disk c.parties-then-is_worker.result.now.segments s.parties.segments by (option_copied c.recovery.result) (ap (λ (p : Parties). p.segments) c.parties-then-is_worker.ensures) c.recovery.ensures.fits;
      fresh = λ fresh. subst (λ (r : Option Recovering). IfSome r (λ one. IsTrue one.is_fresh)) (sym (c.recovery.ensures.is ∙ ap (λ (p : Parties). recovering_by p by) c.parties-then-is_worker.ensures)) fresh;
    }

pub returns-else-is_worker : goal.returns-else-is_worker
returns-else-is_worker c =
    let s = c.args.world.now in
    let by = c.args.by.0 in
    record {
      is = works_without (core_at s) by (ap (λ (p : Parties). (is_server by && is_up (servers_at p by).phase) || by == host_party) (sym c.parties.ensures) ∙ sym c.is_worker.ensures ∙ c.if-is_worker.false);
      disk = tt;
      fresh = λ fresh. tt;
    }
