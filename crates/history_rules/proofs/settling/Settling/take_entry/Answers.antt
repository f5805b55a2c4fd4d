-- The list with the entry is legal where it was, and the entry may stand behind it.
use Rattle.std.proofs.Common.{◌≡◌, sym, ◌∙◌, ap}
use Rattle.tree_definitions.specs.History.{legal_from}
use Rattle.history_rules.specs.Settled.{SoFar}
use Rattle.history_rules.proofs.settling.Settling.take_entry.Goals as goal

pub returns-clause-legal : goal.returns-clause-legal
returns-clause-legal c =
    let s = c.self.inside in
    let same : s.legal ≡ c.args.self.now.legal = ap (λ (t : SoFar). t.legal) c.self.view_is in
    let with = c.in_ok-fits.ensures s.opening s.steps.items c.self.invariant in
    record {
      goes = λ was. with.goes (same ∙ was) ∙ ap (legal_from s.opening 0) (sym c.in_ok-push.ensures.items);
      stays = λ isnt. with.stays (same ∙ isnt);
    }
