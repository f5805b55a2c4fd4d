-- By the states of the segment, where it is held.
use Rattle.std.proofs.Common.{rules, ◌≡◌, Some, None, sym, ap, ◌∙◌}
use Rattle.std.specs.Option.{option_copied}
use Rattle.bitmap_block.specs.States.{state_number}
use Rattle.disk_definitions.specs.Held.{bitmap_of}
use Rattle.bitmap_alloc.proofs.Segments.{states_of, states_missing}
use Rattle.bitmap_alloc.proofs.pick.least_in_segment.Goals as goal

pub returns-in_err-bitmap-clause-least : goal.returns-in_err-bitmap-clause-least
returns-in_err-bitmap-clause-least c =
    let none : bitmap_of c.args.held.now c.args.k ≡ None = sym c.get.ensures ∙ ap option_copied c.in_err-bitmap.was in
    let result : c.from_residual.result ≡ None = search rules in
    result ∙ states_missing c.args.held.now c.args.k (state_number c.args.state) c.args.start c.requires none

pub returns-clause-least : goal.returns-clause-least
returns-clause-least c =
    let there : bitmap_of c.args.held.now c.args.k ≡ Some c.in_ok-bitmap.bitmap.now = sym c.get.ensures ∙ ap option_copied c.in_ok-bitmap.was in
    c.least_of.ensures.least ∙ states_of c.args.held.now c.args.k c.in_ok-bitmap.bitmap.now (state_number c.args.state) c.args.start c.requires there
