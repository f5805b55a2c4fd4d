-- Part by part.
use Rattle.std.proofs.Common.{ℕ, List, refl, ap, ◌∙◌}
use Rattle.std.specs.List.{filter_map}
use Rattle.disk_definitions.specs.LookedAt.{nodes_in}
use Rattle.disk_definitions.specs.Written.{freed_sectors}
use Rattle.lock_sets.specs.Seen.{numbers}
use Rattle.core_definitions.specs.Plans.{record_of}
use Rattle.plan_steps.specs.Edits.{edits_of}
use Rattle.planned_lines.specs.Outcomes.{set_in}
use Rattle.planned_lines.proofs.Setting.{numbers_by}
use Rattle.planned_lines.proofs.finish.finished_by.Goals as goal

pub returns : goal.returns
returns c =
    let hand = c.args.hand.now in
    let edits = edits_of c.args.edits.now in
    record {
      replied = refl;
      recorded = c.record_of.ensures ∙ ap (record_of c.args.number) c.in_ok-changes.ensures;
      set =
          c.in_ok-bytes.ensures
          ∙ ap (λ (nodes : List ℕ). filter_map (set_in hand.sectors.now.entries hand.held.now nodes c.deref-2.result.now) edits) (c.deref.ensures.value ∙ c.in_ok-nodes.ensures)
          ∙ ap (λ moves. filter_map (set_in hand.sectors.now.entries hand.held.now (nodes_in c.args.segments (numbers c.args.examined.now)) moves) edits) c.deref-2.ensures.value;
      given_back = ap numbers c.in_ok-freed.ensures ∙ numbers_by (freed_sectors edits);
      moved = c.in_ok-moves.ensures.exact;
      locked = c.in_ok-locks.ensures.is;
    }
