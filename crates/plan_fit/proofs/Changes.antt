-- Edits of uses, of large blocks and of the inode of a file fit, each with the others.
use Rattle.std.proofs.Common.{ℕ, suc, ◌<◌, ◌*◌, Bool, true, false, if◌then◌else◌, List, [], ◌∷◌, ◌++◌, length, map, slice_index, arith}
use Rattle.disk_definitions.specs.Store.{Store, StoredNode, Use}
use Rattle.disk_definitions.specs.Standing.{IsMetadata}
use Rattle.disk_definitions.specs.Edits.{Edit}
use Rattle.disk_definitions.specs.Edits.Edit.{SetUse, SetLarge}
use Rattle.disk_definitions.specs.FilePlans.{file_dated}
use Rattle.disk_definitions.specs.FitEdits.{IsFitNode, AreFit}

module _ (g : ℕ) (end : Store) where
  pub fit_join : (es fs : List Edit) → AreFit g end es → AreFit g end fs → AreFit g end (es ++ fs)
  fit_join [] fs a b = b
  fit_join (e ∷ es) fs a b = (a.0, fit_join es fs a.1 b)

  pub uses_fit : (u : Use) (ks : List ℕ) → ((i : ℕ) → i < length ks → slice_index ks i < 1024 * g) → AreFit g end (map (λ k. SetUse k u) ks)
  uses_fit u [] f = tt
  uses_fit u (k ∷ ks) f = ((f 0 (omega arith), tt), uses_fit u ks (λ i l. f (suc i) (omega arith)))

  pub larges_fit : (v : Bool) (gs : List ℕ) → ((i : ℕ) → i < length gs → slice_index gs i < g) → AreFit g end (map (λ k. SetLarge k v) gs)
  larges_fit v [] f = tt
  larges_fit v (k ∷ ks) f = ((f 0 (omega arith), tt), larges_fit v ks (λ i l. f (suc i) (omega arith)))

  pub dated_fits : (i : ℕ) (y : StoredNode) → i < 64 * g → IsFitNode y → AreFit g end (file_dated i y)
  dated_fits i y l fit = (((l, fit), tt), tt)

-- a use for bytes, or none, is no directory's
pub no_directory : (u v : Use) (b : Bool) → (IsMetadata u → ⊥) → IsMetadata (if b then u else v) → IsMetadata v
no_directory u v true f m = absurd (f m)
no_directory u v false f m = m
