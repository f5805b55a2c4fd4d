-- Each item has a proper target.
use Rattle.judge_rules.proofs.Adding.{item_within_at}
use Rattle.judge_rules.proofs.misfit.misfit_at.Goals as goal

pub item_misfit-requires : goal.item_misfit-requires
item_misfit-requires c = item_within_at c.args.items.now c.loop-i.i c.index-items-i.result c.requires.within c.loop-i-test.true c.index-items-i.is

pub take_item-requires : goal.take_item-requires
take_item-requires c = item_within_at c.args.items.now c.loop-i.i c.index-items-i.result c.requires.within c.loop-i-test.true c.index-items-i.is
