-- The three facts, one by one.
use Rattle.std.proofs.Common.{◌≡◌, not, ◌&&◌, sym, ◌∙◌, ap, rules}
use Rattle.tree_definitions.specs.Transcript.{all_settled, are_answered, is_over}
use Rattle.transcript_rules.specs.Tells.{SoFar, before, granted_faults}
use Rattle.transcript_rules.proofs.told.Told.may_end.Goals as goal

pub returns-clause-is : goal.returns-clause-is
returns-clause-is c =
    let t = c.args.self.now in
    let over : c.self.inside.over ≡ is_over t.script (before t) = c.self.invariant.is_over_now ∙ ap (λ (u : SoFar). is_over u.script (before u)) (c.self.view_is ∙ c.is_answered-answered.ensures.same) in
    let answered : c.is_answered-answered.result ≡ are_answered t.script (before t) = first_of (search rules, cc) in
    let settled : c.are_settled-settled.result ≡ all_settled t.script (granted_faults t.granted) (before t) = first_of (search rules, cc) in
    c.may_end_by.ensures ∙ ap (λ b. not b && c.is_answered-answered.result && c.are_settled-settled.result) over
    ∙ ap (λ b. not (is_over t.script (before t)) && b && c.are_settled-settled.result) answered
    ∙ ap (λ b. not (is_over t.script (before t)) && are_answered t.script (before t) && b) settled
