-- What is asked of a server is asked of its world, by its number.
use Rattle.std.proofs.Common.{◌≡◌, ℕ, ap, ◌∙◌}
use Rattle.core_definitions.specs.Cores.{Core}
use Rattle.world_state.specs.States.{State, core_at}
use Rattle.world_asks.specs.Asking.{Asked, core_of}

pub of_world : {X : Type 0} (asked : Asked) (s : State) (a : ℕ) (f : Core → ℕ → X) → asked.world ≡ s → asked.number ≡ a → f (core_of asked) asked.number ≡ f (core_at s) a
of_world asked s a f world number = ap (λ (w : State). f (core_at w) asked.number) world ∙ ap (f (core_at s)) number
