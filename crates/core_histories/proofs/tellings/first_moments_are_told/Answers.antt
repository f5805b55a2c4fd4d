-- Nothing is there.
use Rattle.std.proofs.Common.{[], refl}
use Rattle.core_histories.proofs.tellings.first_moments_are_told.Goals as goal

pub returns : goal.returns
returns c = record {
  first = λ setting disk logged of_files home when first_tree numbers. record { happened = []; sectors = refl; lines = refl; paired = tt; said = tt; synced = tt };
}
