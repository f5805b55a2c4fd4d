-- Cells with others over them, place by place.
use Rattle.std.proofs.Common.{ℕ, ◌≡◌, ◌<◌, ◌≤◌, ◌+◌, ◌-◌, List, ◌++◌, length, take, drop, max, sym, ◌∙◌, ap, subst, arith}
use Rattle.std.proofs.lemmas.List.{length-take-le, length-drop, length-append}
use Rattle.std.specs.List.{slice_get}
use Rattle.frang_base.proofs.Lists.{get_right, get_left, get_drop}
use Rattle.tree_definitions.specs.declared.cells.Cell.{Cell}
use Rattle.tree_definitions.specs.Apply.{overwritten}
use Rattle.plan_laws.proofs.Cells.{get_in_take}

module _ (old fresh : List Cell) (off : ℕ) (inside : off ≤ length old) where
  abbrev new : List Cell
  new = overwritten old off fresh

  head : length (take off old) ≡ off
  head = length-take-le off old inside

  front : length (take off old ++ fresh) ≡ off + length fresh
  front = length-append (take off old) fresh ∙ ap (λ k. k + length fresh) head

  pub size_is : length new ≡ max (length old) (off + length fresh)
  size_is =
      let a : length new ≡ length (take off old ++ fresh) + length (drop (off + length fresh) old) = length-append (take off old ++ fresh) (drop (off + length fresh) old) in
      let b : length (drop (off + length fresh) old) ≡ length old - (off + length fresh) = length-drop (off + length fresh) old in
      let c : length (take off old ++ fresh) ≡ off + length fresh = front in
      omega arith

  pub before_is : (j : ℕ) → j < off → slice_get new j ≡ slice_get old j
  before_is j l =
      get_left (take off old ++ fresh) (drop (off + length fresh) old) j (subst (λ k. j < k) (sym front) (omega arith))
      ∙ get_left (take off old) fresh j (subst (λ k. j < k) (sym head) l) ∙ get_in_take off old j l

  pub within_is : (i : ℕ) → i < length fresh → slice_get new (off + i) ≡ slice_get fresh i
  within_is i l =
      get_left (take off old ++ fresh) (drop (off + length fresh) old) (off + i) (subst (λ k. off + i < k) (sym front) (omega arith))
      ∙ ap (λ k. slice_get (take off old ++ fresh) (k + i)) (sym head) ∙ get_right (take off old) fresh i

  pub behind_is : (i : ℕ) → slice_get new (off + length fresh + i) ≡ slice_get old (off + length fresh + i)
  behind_is i =
      ap (λ k. slice_get new (k + i)) (sym front) ∙ get_right (take off old ++ fresh) (drop (off + length fresh) old) i ∙ get_drop (off + length fresh) old i
