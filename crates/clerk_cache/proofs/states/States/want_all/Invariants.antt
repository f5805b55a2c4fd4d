-- What it comes to once all stay stays the same.
use Rattle.std.proofs.Common.{◌≡◌, length}
use Rattle.clerk_cache.specs.Kept.{all_wanted, is_state_fresh, passing_marks}
use Rattle.clerk_cache.proofs.states.States.want_all.Given as goal

abbrev pub invariant-loop-mark : goal.invariant-loop-mark
invariant-loop-mark l = record {
  left : all_wanted l.self.entries ≡ all_wanted l.initial.self.entries;
  spare : l.self.spare ≡ l.initial.self.spare;
}

abbrev pub decreases-loop-mark : goal.decreases-loop-mark
decreases-loop-mark l = length (passing_marks is_state_fresh l.self.entries)
