-- At first each party's next line is its first, and no line is answered.
use Rattle.std.proofs.Common.{◌≡◌, ◌==◌, ℕ, List, false, length, nat_lt, replicate, sym, ap, ◌∙◌, subst, true}
use Rattle.std.specs.List.{list_all, position_or_len}
use Rattle.world_definitions.specs.Worlds.{marks_of}
use Rattle.frang_base.specs.declared.script.Line.{Line}
use Rattle.script_places.specs.Placed.{AreTicks, mark_count}
use Rattle.script_places.proofs.Marking.{enough_marks, none_set}
use Rattle.script_places.proofs.Placing.{first_of_all, first_of_party}
use Rattle.script_places.proofs.places.Places.new.Goals as goal

pub invariant_of-result : goal.invariant_of-result
invariant_of-result c =
    let script = c.args.script in
    let answered = c.in_ok-answered.answered.items in
    let is : answered ≡ replicate (mark_count script) false = c.in_ok-answered.ensures ∙ ap (λ lines. replicate (mark_count lines) false) c.as_slice.ensures in
    let none : (k : ℕ) → marks_of answered k ≡ false = λ k. ap (λ marks. marks_of marks k) is ∙ none_set (mark_count script) k in (
      record {
        ascending = c.requires;
        marked = subst (λ marks. list_all (λ line. nat_lt line.number (length marks)) script ≡ true) (sym is) (enough_marks script);
        passing =
            ap length (c.in_ok-passed.ensures ∙ ap (λ lines. replicate (mark_count lines) false) c.as_slice-2.ensures) ∙ sym (ap length is);
        long = c.in_ok-next.ensures.long;
        each = λ who inside. c.in_ok-next.ensures.first who inside ∙ ap (position_or_len (λ line. line.who.0 == who)) c.as_slice-3.ensures ∙ first_of_party (marks_of answered) none who script;
        start = sym (first_of_all (marks_of answered) none script);
      },
      subst (λ (lines : List Line). AreTicks lines c.in_ok-ticks.ticks.items) c.as_slice-4.ensures c.in_ok-ticks.ensures,
    )
