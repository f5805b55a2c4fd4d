-- One line more in each turn; a refused one ends it.
use Rattle.std.proofs.Common.{sym, subst, arith, rules, length, refl}
use Rattle.std.proofs.lemmas.Option.{slice_get_read}
use Rattle.frang_outside.proofs.Acts.{fell-trans}
use Rattle.image_commands.specs.Saying.{said_act, SaysAll}
use Rattle.image_commands.proofs.SayLaws.{says_more, stopped_so, said_all}
use Rattle.image_commands.proofs.say.say_all.Goals as goal

pub loop-i-init : goal.loop-i-init
loop-i-init g c = record { counts = search rules; says = c.requires }

pub returns-in-Err-clause-counts : goal.returns-in-Err-clause-counts
returns-in-Err-clause-counts g c = fell-trans _ _ _ c.loop-i.invariant.counts c.in-Err.ensures.counts

pub returns-in-Err-clause-says : goal.returns-in-Err-clause-says
returns-in-Err-clause-says g c =
    subst (SaysAll (g.O.Outside.state c.args.out.now) (g.O.Outside.state c.say_one.new.out) c.args.lines.now) (sym c.stopped_by.ensures)
    (stopped_so (g.O.Outside.state c.args.out.now) (g.O.Outside.state c.loop-i.out) (g.O.Outside.state c.say_one.new.out) (said_act c.index-lines-i.result) c.args.lines.now c.loop-i.i c.in-Err.fault
    c.loop-i-test.true c.loop-i.invariant.counts c.loop-i.invariant.says c.in-Err.ensures.outcome)

pub loop-i-preserved : goal.loop-i-preserved
loop-i-preserved g c = record {
  counts = fell-trans _ _ _ c.loop-i.invariant.counts c.in-Ok.ensures.counts;
  says = says_more (g.O.Outside.state c.loop-i.out).acts (g.O.Outside.state c.say_one.new.out).acts c.args.lines.now c.loop-i.i c.index-lines-i.result
      c.loop-i.invariant.says (slice_get_read c.args.lines.now (length c.args.lines.now) c.loop-i.i c.index-lines-i.result refl c.loop-i-test.true c.index-lines-i.is) c.in-Ok.ensures.outcome;
}

pub returns-clause-counts : goal.returns-clause-counts
returns-clause-counts g c = c.loop-i.invariant.counts

pub returns-clause-says : goal.returns-clause-says
returns-clause-says g c = said_all (g.O.Outside.state c.loop-i.out).acts c.args.lines.now c.loop-i.i (omega arith) c.loop-i.invariant.says
