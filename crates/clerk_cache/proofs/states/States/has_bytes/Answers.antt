-- Where some pass, the count is more than none.
use Rattle.std.proofs.Common.{is_some, nat_lt, sym, ap, ◌∙◌}
use Rattle.clerk_cache.specs.Kept.{first_state, is_state_bytes}
use Rattle.clerk_cache.proofs.Counting.{some_counted}
use Rattle.clerk_cache.proofs.states.States.has_bytes.Goals as goal

pub returns : goal.returns
returns c =
    ap (nat_lt 0) c.self.invariant.counted ∙ sym (some_counted is_state_bytes c.self.inside.states.entries) ∙ ap (λ map. is_some (first_state is_state_bytes map.entries)) c.self.view_is
