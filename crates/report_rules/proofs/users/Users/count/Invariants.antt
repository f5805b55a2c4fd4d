use Rattle.std.proofs.Common.{◌≡◌, ◌≤◌, is_some, None, slice_index_or}
use Rattle.report_definitions.specs.Sums.{count_below}
use Rattle.report_rules.proofs.users.Users.count.Given as goal

abbrev pub invariant-loop-k : goal.invariant-loop-k
invariant-loop-k l = record {
  counted : l.count ≡ count_below l.k (λ k. is_some (slice_index_or l.self.first.items k None));
  few : l.count ≤ l.k;
}
