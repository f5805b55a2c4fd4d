-- The least block of the one state, or of the other.
use Rattle.std.proofs.Common.{◌≡◌, ℕ, Option, Some, None, sym, ap, ◌∙◌}
use Rattle.disk_definitions.specs.Held.{state_in}
use Rattle.disk_definitions.specs.Picks.{is_in_state, or_else, least_in_state}
use Rattle.disk_definitions.specs.Least.{least_from}
use Rattle.disk_definitions.proofs.LeastLaws.{least_below}
use Rattle.bitmap_alloc.proofs.pick.pick_small.Goals as goal

from_zero : (states : ℕ → Option ℕ) (s : ℕ) (o : Option ℕ) → o ≡ least_from (λ b. is_in_state s (states b)) 0 65536 → o ≡ least_in_state s states
from_zero states s o e = e ∙ sym (least_below (λ b. is_in_state s (states b)) 65536)

first_found : (states : ℕ → Option ℕ) (b : ℕ) → Some b ≡ least_in_state 2 states → Some b ≡ or_else (least_in_state 2 states) (least_in_state 0 states)
first_found states b e = ap (λ o. or_else o (least_in_state 0 states)) e

first_missing : (states : ℕ → Option ℕ) (o : Option ℕ) → None ≡ least_in_state 2 states → o ≡ least_in_state 0 states → o ≡ or_else (least_in_state 2 states) (least_in_state 0 states)
first_missing states o e f = f ∙ ap (λ p. or_else p (least_in_state 0 states)) e

pub returns-in-Bytes : goal.returns-in-Bytes
returns-in-Bytes c = rw c.in-Bytes.is (from_zero (state_in c.args.held.now) 0 c.least_block.result c.least_block.ensures.least)

pub returns-in-Some : goal.returns-in-Some
returns-in-Some c = rw c.in-Directory.is (first_found (state_in c.args.held.now) c.in-Some.block (from_zero (state_in c.args.held.now) 2 (Some c.in-Some.block) c.in-Some.ensures.least))

pub returns-in-None : goal.returns-in-None
returns-in-None c =
    rw c.in-Directory.is
    (first_missing (state_in c.args.held.now) c.least_block-in-None.result (from_zero (state_in c.args.held.now) 2 None c.in-None.ensures.least) (from_zero (state_in c.args.held.now) 0 c.least_block-in-None.result c.least_block-in-None.ensures.least))
