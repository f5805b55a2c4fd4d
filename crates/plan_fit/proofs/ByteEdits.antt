-- The bytes of a part that was written, and those of the others.
use Rattle.std.proofs.Common.{◌≡◌, ℕ, ◌/◌, ◌%◌, inl, inr, ◌==◌, if◌then◌else◌, List, map, slice_index, sym, ap, ◌∙◌, arith}
use Rattle.std.proofs.lemmas.Bool.{cases_eq}
use Rattle.tree_definitions.specs.Numbers.{below}
use Rattle.disk_definitions.proofs.Chosen.{chosen_same, chosen_other}
use Rattle.disk_definitions.proofs.Lists.{listed_at}
use Rattle.sector_bytes.specs.Sectors.{Sectors}
use Rattle.disk_definitions.specs.Edits.{put_part}

-- the sector of each part of each block is given, for small blocks and for large ones
pub bytes_set : (at : ℕ → ℕ → ℕ) (a b : Sectors) (k part : ℕ) (bytes : ℕ → ℕ) (byte : ℕ → ℕ → ℕ) (l j : ℕ) → b (at k part) ≡ map bytes (below 512)
    → ((l ≡ k → j / 512 ≡ part → ⊥) → b (at l (j / 512)) ≡ a (at l (j / 512))) → slice_index (a (at l (j / 512))) (j % 512) ≡ byte l j
    → slice_index (b (at l (j / 512))) (j % 512) ≡ put_part byte k part bytes l j
bytes_set at a b k part bytes byte l j is others h = elim (cases_eq l k) [
  | inl e ↦ elim (cases_eq (j / 512) part) [
    | inl f ↦ ap (λ (z : ℕ). slice_index (b (at z (j / 512))) (j % 512)) e ∙ ap (λ (z : ℕ). slice_index (b (at k z)) (j % 512)) f ∙ ap (λ (z : List ℕ). slice_index z (j % 512)) is ∙ listed_at bytes 512 (j % 512) (omega arith)
        ∙ sym (chosen_same l k (if j / 512 == part then bytes (j % 512) else byte l j) (byte l j) e ∙ chosen_same (j / 512) part (bytes (j % 512)) (byte l j) f)
    | inr n ↦ ap (λ (z : List ℕ). slice_index z (j % 512)) (others (λ i m. n m)) ∙ h
        ∙ sym (chosen_same l k (if j / 512 == part then bytes (j % 512) else byte l j) (byte l j) e ∙ chosen_other (j / 512) part (bytes (j % 512)) (byte l j) n)
  ]
  | inr n ↦ ap (λ (z : List ℕ). slice_index z (j % 512)) (others (λ i m. n i)) ∙ h ∙ sym (chosen_other l k (if j / 512 == part then bytes (j % 512) else byte l j) (byte l j) n)
]
