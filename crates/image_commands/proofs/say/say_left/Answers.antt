-- One line more in each turn; the end, or a refused line, or want of memory ends it.
use Rattle.std.proofs.Common.{◌≡◌, ◌∷◌, ◌++◌, [], arith, rules}
use Rattle.frang_base.specs.declared.said.Said.TheVariants as said
use Rattle.frang_outside.proofs.Acts.{fell-trans}
use Rattle.image_commands.proofs.SayLaws.{reached_first, reached_more, reached_short, reached_stop}
use Rattle.image_commands.proofs.say.say_left.Goals as goal

pub loop-count-init : goal.loop-count-init
loop-count-init g c = record { counts = search rules; reached = reached_first (g.O.Outside.state c.args.out.now).acts c.args.before.now c.args.lines.now _ (first_of (omega arith, search rules, cc)) c.requires }

pub loop-count-preserved : goal.loop-count-preserved
loop-count-preserved g c = record {
  counts = fell-trans _ _ _ c.loop-count.invariant.counts c.say_next.ensures.counts;
  reached = reached_more (g.O.Outside.state c.loop-count.out) (g.O.Outside.state c.say_next.new.out) (c.args.before.now ++ c.args.lines.now ++ said.End ∷ []) c.loop-count.count c.loop-count.lines c.say_next.new.lines
      c.loop-count.invariant.reached c.in-None.ensures.outcome;
}

pub returns-in-Some : goal.returns-in-Some
returns-in-Some g c =
    reached_stop (g.O.Outside.state c.args.out.now) (g.O.Outside.state c.loop-count.out) (g.O.Outside.state c.say_next.new.out) (c.args.before.now ++ c.args.lines.now ++ said.End ∷ []) c.loop-count.count c.loop-count.lines c.say_next.new.lines
    c.in-Some.end c.loop-count.invariant.counts c.loop-count.invariant.reached c.in-Some.ensures.outcome

pub returns : goal.returns
returns g c = reached_short (g.O.Outside.state c.loop-count.out).acts (c.args.before.now ++ c.args.lines.now ++ said.End ∷ []) c.loop-count.count c.loop-count.lines c.loop-count.invariant.reached
