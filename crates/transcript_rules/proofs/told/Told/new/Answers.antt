-- Nothing is told.
use Rattle.std.proofs.Common.{◌≡◌, ◌<◌, ◌^◌, rules, true, Some, length, slice_get, slice_index_or, slice_set, take, refl, sym, ◌∙◌, ap, subst, arith}
use Rattle.std.specs.List.{list_all}
use Rattle.frang_base.specs.declared.said.Said.TheVariants as said
use Rattle.tree_definitions.specs.Transcript.{are_answered, lines_before, lines_for}
use Rattle.transcript_rules.proofs.Beginning.{nothing_told}
use Rattle.transcript_rules.proofs.told.Told.new.Goals as goal

pub invariant_of-result : goal.invariant_of-result
invariant_of-result c = nothing_told c.args.script.now c.args.granted c.in_ok-parties.parties.items c.new.result c.requires
    (search rules) c.new.ensures.empty
