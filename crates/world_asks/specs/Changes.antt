-- What a change beside one party leaves as it was.
use Rattle.std.specs.Prelude.{◌≡◌, ℕ}
use Rattle.world_parties.specs.States.{oldest_at, plan_at, recovering_by}
use Rattle.world_state.specs.States.{State, core_at}

-- the core is the same, and so is all that is kept beside parties of other numbers
pub record ChangesBeside (old new : State) (a : ℕ) : Type 0 where
  pub core : core_at new ≡ core_at old
  pub plans : (b : ℕ) → (b ≡ a → ⊥) → plan_at new.parties b ≡ plan_at old.parties b
  pub oldest : (b : ℕ) → (b ≡ a → ⊥) → oldest_at new.parties b ≡ oldest_at old.parties b
  pub recoveries : (b : ℕ) → (b ≡ a → ⊥) → recovering_by new.parties b ≡ recovering_by old.parties b
