-- What is kept of each server is what is told of it.
use Rattle.std.proofs.Common.{◌≡◌, ◌≤◌, length, take, sym, ◌∙◌, ap, subst, arith, rules}
use Rattle.std.specs.List.{list_all, slice_get}
use Rattle.tree_definitions.specs.Numbers.{below}
use Rattle.tree_definitions.specs.Transcript.{all_settled, is_settled, state_of}
use Rattle.transcript_rules.specs.Parties.{phase_of, state_by}
use Rattle.transcript_rules.specs.Tells.{SoFar, before, granted_faults}
use Rattle.transcript_rules.proofs.Settled.{all_below}
use Rattle.transcript_rules.proofs.told.Told.are_settled.Goals as goal

pub returns : goal.returns
returns c =
    let i = c.self.inside in
    let said_before = take i.place i.saids.now in
    let enough : 16 ≤ length i.parties.items = omega (arith, c.self.invariant.count) in
    c.are_servers_settled.ensures ∙ ap (λ ps. list_all (λ p. is_settled (phase_of p.phase)) (take 16 ps)) c.deref.ensures.value
    ∙ all_below (λ p. is_settled (phase_of p.phase)) (λ server. is_settled (state_of i.script.now (granted_faults i.granted) server said_before).phase) i.parties.items 16 enough
    (λ server p at. ap (λ s. is_settled s.phase) (c.self.invariant.each server p at).state)
    ∙ ap (λ (t : SoFar). all_settled t.script (granted_faults t.granted) (before t)) c.self.view_is
