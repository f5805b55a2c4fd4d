-- One log more in each turn.
use Rattle.std.proofs.Common.{◌≡◌, ◌+◌, sym, subst, rules, arith}
use Rattle.sector_bytes.specs.Sectors.{sectors_of, SameSectors}
use Rattle.disk_replay.specs.Laid.{changes_below, laid_by, AreGreatest}
use Rattle.disk_replay.proofs.ReplayedDisk.{first_laid, next_laid, next_greatest}
use Rattle.disk_replay.proofs.replay.lay_logs.Goals as goal

pub loop-server-init : goal.loop-server-init
loop-server-init c = record {
  laid = first_laid c.args.param.now (sectors_of c.args.disk.now);
  count = search rules;
  greatest = λ server d l. absurd (omega arith);
}

pub loop-server-preserved : goal.loop-server-preserved
loop-server-preserved c =
    let at = c.loop-server in
    let s = sectors_of c.args.disk.now in
    let few = c.loop-server-test.true in
    record {
      laid = next_laid c.args.param.now s (sectors_of at.disk) (sectors_of c.lay_log.new.disk) at.server few at.invariant.laid c.in_ok-held.ensures.laid;
      count = search rules;
      greatest = subst (AreGreatest (at.server + 1) s) (sym c.in_ok-push.ensures.items)
          (next_greatest c.args.param.now s (sectors_of at.disk) at.server at.greatest.items c.in_ok-held.held few at.invariant.laid at.invariant.count at.invariant.greatest c.in_ok-held.ensures.greatest);
    }

pub returns-clause-laid : goal.returns-clause-laid
returns-clause-laid c =
    let s = sectors_of c.args.disk.now in
    let e : c.loop-server.server ≡ 256 = omega arith in
    subst (λ n. SameSectors (sectors_of c.loop-server.disk) (laid_by c.args.param.now s (changes_below s n))) e c.loop-server.invariant.laid

pub returns-clause-greatest : goal.returns-clause-greatest
returns-clause-greatest c =
    let e : c.loop-server.server ≡ 256 = omega arith in
    subst (λ n. AreGreatest n (sectors_of c.args.disk.now) c.loop-server.greatest.items) e c.loop-server.invariant.greatest
