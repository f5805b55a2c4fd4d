-- An answer is said, of which its party learns.
use Rattle.std.proofs.Common.{◌≡◌, ◌<◌, ◌^◌, rules, true, Some, length, slice_get, slice_index_or, slice_set, take, drop, refl, sym, ◌∙◌, ap, subst, arith}
use Rattle.std.specs.List.{list_all}
use Rattle.frang_base.specs.declared.said.Said.TheVariants as said
use Rattle.tree_definitions.specs.Transcript.{are_answered, lines_before, lines_for}
use Rattle.tree_definitions.specs.Live.{line_of}
use Rattle.transcript_rules.specs.Tells.{IsParty, SoFar, before}
use Rattle.transcript_rules.proofs.Answering.{answered_party, tells_answer}
use Rattle.transcript_rules.proofs.told.Told.take_answer.Goals as goal

pub invariant_of-self-2 : goal.invariant_of-self-2
invariant_of-self-2 c =
    let i = c.self.inside in
    let p = c.party-party.result in
    let q = c.answered-party.result in
    let line = c.args.line.now in
    let r = c.args.reply.now in
    let from : c.from.result ≡ c.args.who.0 = search rules in
    let said_before = take i.place i.saids.now in
    let is : IsParty i.script.now i.granted said_before c.args.who.0 p = subst (λ (t : SoFar). IsParty t.script t.granted (before t) c.args.who.0 p) (sym c.self.view_is) c.party-party.ensures in
    let at : line_of i.script.now line.number ≡ Some line = subst (λ (t : SoFar). line_of t.script line.number ≡ Some line) (sym c.self.view_is) c.requires.line in
    let next : slice_get i.saids.now i.place ≡ Some (said.Answer c.args.who line.number r) =
    subst (λ (t : SoFar). slice_get t.saids t.place ≡ Some (said.Answer c.args.who line.number r)) (sym c.self.view_is) c.requires.next in
    let behind : lines_for c.args.who.0 (drop q.next i.script.now) ≡ drop 1 (lines_for c.args.who.0 (drop p.next i.script.now)) =
    ap (λ n. lines_for c.args.who.0 (drop n i.script.now)) c.answered-party.ensures.next ∙ c.behind_next-next.ensures in
    let own = answered_party i.script.now i.granted said_before c.args.who p q line r is at c.answered-party.ensures.state c.answered-party.ensures.dirty behind in
    rw from (rw c.ends_by-self-inside.ensures
    (tells_answer i.script.now i.granted i.saids.now i.place i.parties.items i.answered c.insert.new.self i.hosts i.all i.over i.begun i.nodes c.args.who line r q next c.self.invariant at c.in_ok-insert.ensures.updates.0 own))
