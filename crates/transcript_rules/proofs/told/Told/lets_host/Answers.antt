-- The first line that waits tells whether any waits before a number.
use Rattle.std.proofs.Common.{◌≡◌, ◌<◌, ◌^◌, rules, true, Some, length, slice_get, slice_index_or, slice_set, take, refl, sym, ◌∙◌, ap, subst, arith}
use Rattle.std.specs.List.{list_all}
use Rattle.frang_base.specs.declared.said.Said.TheVariants as said
use Rattle.tree_definitions.specs.Transcript.{are_answered, lines_before, lines_for}
use Rattle.transcript_rules.specs.Waiting.{lets}
use Rattle.transcript_rules.specs.Tells.{SoFar, before, passed}
use Rattle.transcript_rules.proofs.Waits.{all_passes, first_waits, unpassed}
use Rattle.transcript_rules.proofs.told.Told.lets_host.Goals as goal

pub returns-clause-is : goal.returns-clause-is
returns-clause-is c =
    let i = c.self.inside in
    let place = c.next_waiting-self-inside.result in
    let said_before = take i.place i.saids.now in
    let passed_all : list_all (passed true said_before) (take place i.script.now) ≡ true =
    sym (all_passes true i.answered said_before c.self.invariant.marked (take place i.script.now)) ∙ c.next_waiting-self-inside.ensures.passed in
    c.lets.ensures ∙ ap (λ o. lets o c.args.number) c.line_at.ensures
    ∙ sym (first_waits true said_before c.args.number 0 i.script.now place c.self.invariant.ascend passed_all
    (unpassed true i.answered said_before c.self.invariant.marked (slice_get i.script.now place) c.next_waiting-self-inside.ensures.waits))
    ∙ ap (λ (t : SoFar). are_answered (lines_before c.args.number (lines_for 255 t.script)) (before t)) c.self.view_is
