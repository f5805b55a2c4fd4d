-- Where no line waits, all are answered.
use Rattle.std.proofs.Common.{◌≡◌, ◌<◌, ◌^◌, rules, true, false, Some, length, slice_get, slice_index_or, slice_set, take, refl, sym, ◌∙◌, ap, subst, arith}
use Rattle.std.specs.List.{list_all}
use Rattle.frang_base.specs.declared.said.Said.TheVariants as said
use Rattle.tree_definitions.specs.Transcript.{are_answered, lines_before, lines_for}
use Rattle.transcript_rules.specs.Tells.{SoFar, before, passed}
use Rattle.transcript_rules.proofs.Waits.{all_passes, all_answered, is_nothing, unpassed}
use Rattle.transcript_rules.proofs.told.Told.is_answered.Goals as goal

pub returns-clause-is : goal.returns-clause-is
returns-clause-is c =
    let i = c.self.inside in
    let place = c.next_waiting-self-inside.result in
    let said_before = take i.place i.saids.now in
    let passed_all : list_all (passed false said_before) (take place i.script.now) ≡ true =
    sym (all_passes false i.answered said_before c.self.invariant.marked (take place i.script.now)) ∙ c.next_waiting-self-inside.ensures.passed in
    first_of (search rules, cc) ∙ ap (λ o. is_nothing o) c.line_at.ensures
    ∙ sym (all_answered said_before i.script.now place passed_all
    (unpassed false i.answered said_before c.self.invariant.marked (slice_get i.script.now place) c.next_waiting-self-inside.ensures.waits))
    ∙ ap (λ (t : SoFar). are_answered t.script (before t)) c.self.view_is
