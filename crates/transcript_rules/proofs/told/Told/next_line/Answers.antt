-- The next line of a party is the first of its own behind those that are answered.
use Rattle.std.proofs.Common.{◌≡◌, ◌<◌, ◌^◌, rules, true, Some, length, filter, IfSome, slice_get, slice_index_or, slice_set, take, refl, sym, ◌∙◌, ap, subst, arith}
use Rattle.std.specs.List.{list_all}
use Rattle.frang_base.specs.declared.said.Said.TheVariants as said
use Rattle.tree_definitions.specs.Transcript.{are_answered, lines_before, lines_for}
use Rattle.std.specs.Option.{option_copied}
use Rattle.tree_definitions.specs.Live.{line_of}
use Rattle.tree_definitions.specs.Transcript.{is_answer_of, next_line}
use Rattle.transcript_rules.specs.Tells.{IsParty, SoFar, before}
use Rattle.transcript_rules.proofs.Waits.{found_at, next_found}
use Rattle.transcript_rules.proofs.Answering.{tells_found}
use Rattle.transcript_rules.proofs.told.Told.next_line.Goals as goal

pub invariant_of-self : goal.invariant_of-self
invariant_of-self c =
    let i = c.self.inside in
    let from : c.from.result ≡ c.args.who.0 = search rules in
    let is : IsParty i.script.now i.granted (take i.place i.saids.now) c.args.who.0 c.party-party.result =
    subst (λ (t : SoFar). IsParty t.script t.granted (before t) c.args.who.0 c.party-party.result) (sym c.self.view_is) c.party-party.ensures in
    rw from (rw c.waits_from.ensures
    (tells_found i.script.now i.granted (take i.place i.saids.now) i.parties.items i.answered i.hosts i.all i.over i.begun i.nodes c.args.who.0 c.next_own-next.result c.party-party.result c.self.invariant is c.next_own-next.ensures.lines))

pub returns-clause-next : goal.returns-clause-next
returns-clause-next c =
    let i = c.self.inside in
    let is : IsParty i.script.now i.granted (take i.place i.saids.now) c.args.who.0 c.party-party.result =
    subst (λ (t : SoFar). IsParty t.script t.granted (before t) c.args.who.0 c.party-party.result) (sym c.self.view_is) c.party-party.ensures in
    c.line_at.ensures
    ∙ next_found c.args.who.0 c.next_own-next.result (length (filter (is_answer_of c.args.who.0) (take i.place i.saids.now))) i.script.now (c.next_own-next.ensures.lines ∙ is.next) c.next_own-next.ensures.own
    ∙ ap (λ (t : SoFar). next_line c.args.who.0 t.script (before t)) c.self.view_is

pub returns-clause-found : goal.returns-clause-found
returns-clause-found c =
    let i = c.self.inside in
    subst (λ (t : SoFar). IfSome (option_copied c.line_at.result) (λ line. line_of t.script line.number ≡ Some line)) c.self.view_is
    (found_at 0 i.script.now c.next_own-next.result (option_copied c.line_at.result) c.self.invariant.ascend (sym c.line_at.ensures))
