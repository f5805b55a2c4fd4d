-- At the end none is left.
use Rattle.std.proofs.Common.{◌≡◌, [], drop, sym, ap, ◌∙◌}
use Rattle.std.proofs.lemmas.List.{drop_all}
use Rattle.set_definitions.specs.Sets.{segments_in}
use Rattle.line_sight.specs.Adding.{with_bitmaps}
use Rattle.line_sight.proofs.Holding.{bitmaps_of_set}
use Rattle.line_sight.proofs.sight.held_by.Goals as goal

pub returns : goal.returns
returns c =
    let over : drop c.loop-need.need-index c.args.locks.now ≡ [] = drop_all c.loop-need.need-index c.args.locks.now c.loop-need-test.false in
    sym (ap (λ locks. with_bitmaps c.args.usable.now.entries c.loop-need.held (segments_in locks)) over) ∙ c.loop-need.invariant
    ∙ bitmaps_of_set c.args.usable.now.entries c.args.locks.now c.requires
