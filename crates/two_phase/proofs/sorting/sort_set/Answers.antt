-- The lock behind the front joins it.
use Rattle.std.proofs.Common.{◌<◌, length, refl, ◌∙◌, arith}
use Rattle.lock_sets.proofs.Along.{none_sorted}
use Rattle.two_phase.proofs.Fronts.{turn_all, turn_inside, turn_ordered}
use Rattle.two_phase.proofs.sorting.sort_set.Goals as goal

pub loop-count-init : goal.loop-count-init
loop-count-init c = record { inside = omega arith; ordered = none_sorted; all = refl }

pub loop-count-preserved : goal.loop-count-preserved
loop-count-preserved c =
    let items = c.loop-count.set.items in
    let inside : c.loop-count.count < length items = omega (arith, c.loop-count-test.true, c.loop-count.set.ok.0) in
    let removed = c.remove-need.new.self.items in
    let new = c.join_front-count.new.set.items in record {
      inside = turn_inside items c.loop-count.count inside c.remove-need.result c.remove-need.ensures.value removed new c.join_front-count.result c.remove-need.ensures.items c.join_front-count.ensures.items
          c.join_front-count.ensures.count;
      ordered = turn_ordered items c.loop-count.count inside c.remove-need.result c.remove-need.ensures.value removed new c.join_front-count.result c.remove-need.ensures.items c.join_front-count.ensures.items
          c.join_front-count.ensures.count c.loop-count.invariant.ordered;
      all = turn_all items c.loop-count.count inside c.remove-need.result c.remove-need.ensures.value removed new c.join_front-count.result c.remove-need.ensures.items c.join_front-count.ensures.items
          c.join_front-count.ensures.count ∙ c.loop-count.invariant.all;
    }
