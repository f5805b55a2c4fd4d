-- The party's next line is looked for behind the one that is answered, and the first open one from where it was.
use Rattle.std.proofs.Common.{◌+◌, drop, get_or, length, ap, ◌∙◌, arith}
use Rattle.std.specs.List.{position_or_len}
use Rattle.core_definitions.specs.Scripts.{next_line}
use Rattle.world_definitions.specs.Worlds.{marks_of}
use Rattle.script_places.specs.Placed.{is_next_of, is_unanswered}
use Rattle.script_places.proofs.Placing.{placed_after, position_most, some_and}
use Rattle.script_places.proofs.places.Places.answer.Goals as goal

pub next_place-requires : goal.next_place-requires
next_place-requires c =
    let who = c.args.who.0 in
    let is = c.place_of-at.ensures.place ∙ ap (λ xs. get_or xs who 0) c.deref.ensures.value ∙ c.self.invariant.0.each who c.place_of-at.ensures.party in
    omega (arith, is, position_most (is_next_of (marks_of c.self.inside.answered.items) who) c.self.inside.script, ap length c.as_slice-lines.ensures)

pub open_place-self-inside-requires : goal.open_place-self-inside-requires
open_place-self-inside-requires c =
    omega (arith, c.self.invariant.0.start, position_most (is_unanswered (marks_of c.self.inside.answered.items)) c.self.inside.script, ap length c.as_slice-lines.ensures)

pub invariant_of-self : goal.invariant_of-self
invariant_of-self c =
    let who = c.args.who.0 in
    let script = c.self.inside.script in
    let answered = c.self.inside.answered.items in
    let next = c.self.inside.next.items in
    let first = c.self.inside.first in
    let old = c.args.self.now in
    let found = some_and (next_line old.script (marks_of old.answered) who) _ c.requires in
    let at = c.place_of-at.ensures.place ∙ ap (λ xs. get_or xs who 0) c.deref.ensures.value in (
      placed_after script answered c.mark.new.marks.items c.self.inside.passed.items next first who c.args.number c.next_place.result c.open_place-self-inside.result found.0 c.self.invariant.0 c.place_of-at.ensures.party
          (ap (λ p. next_line p.script (marks_of p.answered) who) c.self.view_is ∙ found.1) found.2 c.mark.ensures
          (c.next_place.ensures ∙ (λ i. at i + position_or_len (is_next_of (marks_of (c.deref-2.ensures.value i)) who) (drop (at i) (c.as_slice-lines.ensures i))))
          (c.open_place-self-inside.ensures ∙ (λ i. first + position_or_len (is_unanswered (marks_of (c.deref-3.ensures.value i))) (drop first (c.as_slice-lines.ensures i)))),
      c.self.invariant.1,
    )
