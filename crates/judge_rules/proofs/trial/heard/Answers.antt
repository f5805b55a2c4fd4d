-- Line after line is heard and weighed, to the last.
use Rattle.std.proofs.Common.{◌≡◌, ◌<◌, ◌≤◌, true, Some, length, refl, sym, subst, arith}
use Rattle.std.specs.List.{slice_get}
use Rattle.std.proofs.lemmas.Option.{slice_get_read}
use Rattle.transcript_rules.specs.Tells.{SoFar as ToldSoFar}
use Rattle.judge_rules.specs.Verdicts.{AreKept, AreLegal, AreTranscript}
use Rattle.judge_rules.proofs.Adding.{item_at, item_within_at, items_count}
use Rattle.judge_rules.proofs.Turning.{all_heard, hears_first, weighs_first}
use Rattle.judge_rules.proofs.trial.heard.Goals as goal

pub loop-i-init : goal.loop-i-init
loop-i-init c = record {
  heard = hears_first c.args.script.now c.args.segments c.args.granted c.args.saids.now c.in_ok-told.told c.new-tree.result.items c.in_ok-told.ensures c.new-tree.ensures.items;
  weighed = weighs_first c.args.script.now c.args.segments c.args.saids.now c.in_ok-opening.opening c.in_ok-settling.settling c.in_ok-opening.ensures c.in_ok-settling.ensures;
}

pub bounds-items-i : goal.bounds-items-i
bounds-items-i c =
    let count = items_count c.args.script.now c.args.saids.now c.args.items.now c.requires.items in
    omega (arith, c.loop-i-test.true, count)

pub hear-requires : goal.hear-requires
hear-requires c = λ none. subst (λ (t : ToldSoFar). t.place < length t.saids) (sym (c.loop-i.invariant.heard.told_is none)) c.loop-i-test.true

pub weigh-requires : goal.weigh-requires
weigh-requires c =
    let count = items_count c.args.script.now c.args.saids.now c.args.items.now c.requires.items in
    item_within_at c.args.items.now c.loop-i.i c.index-items-i.result c.requires.items.within (omega (arith, count)) c.index-items-i.is

pub loop-i-preserved : goal.loop-i-preserved
loop-i-preserved c =
    let script = c.args.script.now in
    let saids = c.args.saids.now in
    let i = c.loop-i.i in
    let x = c.index-saids-i.result in
    let at : slice_get saids i ≡ Some x = slice_get_read saids (length saids) i x refl c.loop-i-test.true c.index-saids-i.is in
    let adds = item_at script saids c.args.items.now i c.index-items-i.result x c.requires.items c.loop-i-test.true c.index-items-i.is c.index-saids-i.is in
    record {
      heard = c.in_ok-hear.ensures script c.args.segments c.args.granted saids i at refl c.loop-i.invariant.weighed.history c.loop-i.invariant.heard;
      weighed = c.in_ok-weigh.ensures script c.args.segments saids i x at refl adds c.loop-i.invariant.weighed;
    }

pub returns : goal.returns
returns c =
    let script = c.args.script.now in
    let saids = c.args.saids.now in
    let i = c.loop-i.i in
    let past : length saids ≤ i = omega arith in
    record {
      transcript = all_heard (AreTranscript script c.args.segments c.args.granted) saids i c.loop-i.hearing.first past c.loop-i.invariant.heard.breaks;
      legal = all_heard (AreLegal script c.args.segments) saids i c.loop-i.weighing.legal past c.loop-i.invariant.weighed.legality;
      kept = all_heard (AreKept script c.args.segments) saids i c.loop-i.weighing.kept past c.loop-i.invariant.weighed.keeping;
    }
