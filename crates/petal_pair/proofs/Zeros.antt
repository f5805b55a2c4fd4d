-- A list of zeros has zero at each place.
use Rattle.std.proofs.Common.{◌≡◌, ℕ, slice_index, replicate, arith}
use Rattle.std.proofs.lemmas.List.{get_or-replicate, get_or_past, length-replicate}

pub slice_index_zeros : (n k : ℕ) → slice_index (replicate n 0) k ≡ 0
slice_index_zeros n k = grind (arith, get_or-replicate, get_or_past, length-replicate)
