-- Edit by edit: the part is written, or stays.
use Rattle.std.proofs.Common.{ℕ, ◌≡◌, ◌≢◌, ◌/◌, ◌%◌, ◌==◌, ⊎_elim, inl, inr, if◌then◌else◌, List, [], ◌∷◌, map, slice_index, refl, sym, ◌∙◌, ap, subst, arith}
use Rattle.std.proofs.lemmas.Bool.{cases_eq}
use Rattle.std.specs.List.{Contains}
use Rattle.tree_definitions.specs.Numbers.{below}
use Rattle.disk_definitions.proofs.Chosen.{chosen_same, chosen_other}
use Rattle.disk_definitions.proofs.Lists.{listed_at}
use Rattle.disk_definitions.specs.Store.{Store}
use Rattle.disk_definitions.specs.Edits.{Edit, edited, edited_all, put_part}
use Rattle.disk_definitions.specs.Edits.Edit.{SetBit, SetBytes, SetInode, SetLarge, SetLargeBytes, SetPlace, SetUse}
use Rattle.plan_laws.proofs.Covering.{has_cases, has_head, has_more, not_in_none}
use Rattle.byte_trees.specs.Written.{EditedBytesStand, EditedLargeBytesStand, WriteNone, WriteNoneLarge, WriteThese, WriteTheseLarge}

-- what a written part has at this place: what is written there, or as before
module _ (f : ℕ → ℕ → ℕ) (k part : ℕ) (bytes : ℕ → ℕ) (l j : ℕ) where
  pub put_here : l ≡ k → j / 512 ≡ part → put_part f k part bytes l j ≡ bytes (j % 512)
  put_here e g = chosen_same l k (if j / 512 == part then bytes (j % 512) else f l j) (f l j) e ∙ chosen_same (j / 512) part (bytes (j % 512)) (f l j) g

  pub put_far : l ≢ k → put_part f k part bytes l j ≡ f l j
  put_far n = chosen_other l k (if j / 512 == part then bytes (j % 512) else f l j) (f l j) n

  pub put_beside : l ≡ k → j / 512 ≢ part → put_part f k part bytes l j ≡ f l j
  put_beside e n = chosen_same l k (if j / 512 == part then bytes (j % 512) else f l j) (f l j) e ∙ chosen_other (j / 512) part (bytes (j % 512)) (f l j) n

-- a byte of what is written
listed : (bytes : ℕ → ℕ) (stands : List ℕ) (j : ℕ) → map bytes (below 512) ≡ stands → bytes (j % 512) ≡ slice_index stands (j % 512)
listed bytes stands j e = sym (listed_at bytes 512 (j % 512) (omega arith)) ∙ ap (λ z. slice_index z (j % 512)) e

-- ---- small blocks
module _ (block index : ℕ) (stands : List ℕ) where
  abbrev Stands : Store → Type 0
  Stands s = s.byte block index ≡ slice_index stands (index % 512)

  abbrev Base : Store → List Edit → Type 0
  Base s edits = WriteNone edits block (index / 512) → Stands s

  -- an edit that is another, and leaves the byte
  aside : (s : Store) (e : Edit) (edits : List Edit) → ((bytes : ℕ → ℕ) → e ≡ SetBytes block (index / 512) bytes → ⊥) → (edited s e).byte block index ≡ s.byte block index → Base s (e ∷ edits) → Base (edited s e) edits
  aside s e edits other same base none = same ∙ base other_none
    where
      other_none : WriteNone (e ∷ edits) block (index / 512)
      other_none bytes has = ⊎_elim (λ i. other bytes i) (λ i. none bytes i) (has_cases e (SetBytes block (index / 512) bytes) edits has)

  next : (s : Store) (e : Edit) (edits : List Edit) → WriteThese (e ∷ edits) block (index / 512) stands → Base s (e ∷ edits) → Base (edited s e) edits
  next s (SetInode i x dated) edits these base = aside s (SetInode i x dated) edits (λ bytes i. cc) refl base
  next s (SetBit i b) edits these base = aside s (SetBit i b) edits (λ bytes i. cc) refl base
  next s (SetUse k u) edits these base = aside s (SetUse k u) edits (λ bytes i. cc) refl base
  next s (SetPlace k p x) edits these base = aside s (SetPlace k p x) edits (λ bytes i. cc) refl base
  next s (SetLarge g b) edits these base = aside s (SetLarge g b) edits (λ bytes i. cc) refl base
  next s (SetLargeBytes g part bytes) edits these base = aside s (SetLargeBytes g part bytes) edits (λ bytes i. cc) refl base
  next s (SetBytes k part bytes) edits these base = elim (cases_eq block k) [
    | inl e ↦ elim (cases_eq (index / 512) part) [
      | inl g ↦ λ none. put_here s.byte k part bytes block index e g ∙ listed bytes stands index (these bytes (subst (λ z. Contains (SetBytes k part bytes ∷ edits) z) (sym (ap (λ z. SetBytes z (index / 512) bytes) e ∙ ap (λ z. SetBytes k z bytes) g)) (has_head (SetBytes k part bytes) edits)))
      | inr n ↦ aside s (SetBytes k part bytes) edits (λ other i. n (sym (part_of i))) (put_beside s.byte k part bytes block index e n) base
    ]
    | inr n ↦ aside s (SetBytes k part bytes) edits (λ other i. n (sym (block_of i))) (put_far s.byte k part bytes block index n) base
  ]
    where
      part_of : {other : ℕ → ℕ} → SetBytes k part bytes ≡ SetBytes block (index / 512) other → part ≡ index / 512
      part_of i = cc

      block_of : {other : ℕ → ℕ} → SetBytes k part bytes ≡ SetBytes block (index / 512) other → k ≡ block
      block_of i = cc

  small_go : (edits : List Edit) (s : Store) → WriteThese edits block (index / 512) stands → Base s edits → Stands (edited_all s edits)
  small_go [] s these base = base (λ bytes i. not_in_none (SetBytes block (index / 512) bytes) i)
  small_go (e ∷ edits) s these base = small_go edits (edited s e) (λ bytes i. these bytes (has_more e (SetBytes block (index / 512) bytes) edits i)) (next s e edits these base)

pub small_stand : EditedBytesStand
small_stand s edits block index stands these base = small_go block index stands edits s these base

-- ---- large blocks
module _ (large index : ℕ) (stands : List ℕ) where
  abbrev StandsLarge : Store → Type 0
  StandsLarge s = s.large_byte large index ≡ slice_index stands (index % 512)

  abbrev BaseLarge : Store → List Edit → Type 0
  BaseLarge s edits = WriteNoneLarge edits large (index / 512) → StandsLarge s

  aside_large : (s : Store) (e : Edit) (edits : List Edit) → ((bytes : ℕ → ℕ) → e ≡ SetLargeBytes large (index / 512) bytes → ⊥) → (edited s e).large_byte large index ≡ s.large_byte large index → BaseLarge s (e ∷ edits) → BaseLarge (edited s e) edits
  aside_large s e edits other same base none = same ∙ base other_none
    where
      other_none : WriteNoneLarge (e ∷ edits) large (index / 512)
      other_none bytes has = ⊎_elim (λ i. other bytes i) (λ i. none bytes i) (has_cases e (SetLargeBytes large (index / 512) bytes) edits has)

  next_large : (s : Store) (e : Edit) (edits : List Edit) → WriteTheseLarge (e ∷ edits) large (index / 512) stands → BaseLarge s (e ∷ edits) → BaseLarge (edited s e) edits
  next_large s (SetInode i x dated) edits these base = aside_large s (SetInode i x dated) edits (λ bytes i. cc) refl base
  next_large s (SetBit i b) edits these base = aside_large s (SetBit i b) edits (λ bytes i. cc) refl base
  next_large s (SetUse k u) edits these base = aside_large s (SetUse k u) edits (λ bytes i. cc) refl base
  next_large s (SetPlace k p x) edits these base = aside_large s (SetPlace k p x) edits (λ bytes i. cc) refl base
  next_large s (SetLarge g b) edits these base = aside_large s (SetLarge g b) edits (λ bytes i. cc) refl base
  next_large s (SetBytes g part bytes) edits these base = aside_large s (SetBytes g part bytes) edits (λ bytes i. cc) refl base
  next_large s (SetLargeBytes k part bytes) edits these base = elim (cases_eq large k) [
    | inl e ↦ elim (cases_eq (index / 512) part) [
      | inl g ↦ λ none. put_here s.large_byte k part bytes large index e g ∙ listed bytes stands index (these bytes (subst (λ z. Contains (SetLargeBytes k part bytes ∷ edits) z) (sym (ap (λ z. SetLargeBytes z (index / 512) bytes) e ∙ ap (λ z. SetLargeBytes k z bytes) g)) (has_head (SetLargeBytes k part bytes) edits)))
      | inr n ↦ aside_large s (SetLargeBytes k part bytes) edits (λ other i. n (sym (part_of i))) (put_beside s.large_byte k part bytes large index e n) base
    ]
    | inr n ↦ aside_large s (SetLargeBytes k part bytes) edits (λ other i. n (sym (large_of i))) (put_far s.large_byte k part bytes large index n) base
  ]
    where
      part_of : {other : ℕ → ℕ} → SetLargeBytes k part bytes ≡ SetLargeBytes large (index / 512) other → part ≡ index / 512
      part_of i = cc

      large_of : {other : ℕ → ℕ} → SetLargeBytes k part bytes ≡ SetLargeBytes large (index / 512) other → k ≡ large
      large_of i = cc

  large_go : (edits : List Edit) (s : Store) → WriteTheseLarge edits large (index / 512) stands → BaseLarge s edits → StandsLarge (edited_all s edits)
  large_go [] s these base = base (λ bytes i. not_in_none (SetLargeBytes large (index / 512) bytes) i)
  large_go (e ∷ edits) s these base = large_go edits (edited s e) (λ bytes i. these bytes (has_more e (SetLargeBytes large (index / 512) bytes) edits i)) (next_large s e edits these base)

pub large_stand : EditedLargeBytesStand
large_stand s edits large index stands these base = large_go large index stands edits s these base
