-- The generator of draws: a state of 64 bits, and what each state gives.
use Rattle.std.specs.Prelude.{ℕ, suc, zero, ◌+◌, ◌*◌, ◌/◌, ◌%◌, ◌^◌}

-- the state after this one
abbrev pub next_state : ℕ → ℕ
next_state state = (state * 6364136223846793005 + 1442695040888963407) % 2 ^ 64

-- the draw that a state gives
abbrev pub draw_of : ℕ → ℕ
draw_of state = state / 2 ^ 33

-- the state after so many draws, from this one on
unfoldable pub state_after : ℕ → ℕ → ℕ
state_after state zero = state
state_after state (suc draws) = next_state (state_after state draws)

-- the draw at a place, counted from 0
abbrev pub draw_at : ℕ → ℕ → ℕ
draw_at state place = draw_of (state_after state (place + 1))
