-- Cells that are lengthened and then written over, and cells that come into doubt.
use Rattle.std.proofs.Common.{◌≡◌, ℕ, ◌+◌, ◌-◌, ◌≤◌, ◌<◌, min, List, ◌++◌, length, map, take, drop, replicate, sym, ◌∙◌, ap, arith, append-nil, ⊎_elim}
use Rattle.std.proofs.lemmas.Bool.{cases_lt}
use Rattle.std.proofs.lemmas.List.{take-append-le, drop_all, length-append, length-replicate, length-take, length-drop, take_min, drop_min}
use Rattle.std.proofs.lemmas.Simd.{splat_is_map}
use Rattle.tree_definitions.specs.declared.cells.Cell.{Cell}
use Rattle.tree_definitions.specs.declared.cells.Cell.TheVariants.{Doubtful}
use Rattle.tree_definitions.specs.Apply.{overwritten}
use Rattle.tree_definitions.specs.History.{doubted_cells}

-- nothing is left of what was added up to an end
pub drop_padded : (cells : List Cell) (end n : ℕ) (z : Cell) → n ≡ end - length cells → drop end (cells ++ replicate n z) ≡ drop end cells
drop_padded cells end n z e = ⊎_elim past within (cases_lt (length cells) end)
  where
    within : end ≤ length cells → drop end (cells ++ replicate n z) ≡ drop end cells
    within h =
        let none : n ≡ 0 = omega arith in
        ap (λ k. drop end (cells ++ replicate k z)) none ∙ ap (drop end) (append-nil cells)

    past : length cells < end → drop end (cells ++ replicate n z) ≡ drop end cells
    past h =
        let whole : length (cells ++ replicate n z) ≤ end = simp (length-append, length-replicate) (omega arith) in
        let cells_whole : length cells ≤ end = omega arith in
        drop_all end (cells ++ replicate n z) whole ∙ sym (drop_all end cells cells_whole)

pub overwritten_padded : (cells new : List Cell) (off n : ℕ) (z : Cell) → off ≤ length cells → n ≡ (off + length new) - length cells → overwritten (cells ++ replicate n z) off new ≡ overwritten cells off new
overwritten_padded cells new off n z within e =
    ap (λ front. front ++ new ++ drop (off + length new) (cells ++ replicate n z)) (take-append-le off cells (replicate n z) within)
    ∙ ap (λ rest. take off cells ++ new ++ rest) (drop_padded cells (off + length new) n z e)

-- doubt put over the cells that are there, of so many from an offset on
pub doubted_over : (cells : List Cell) (from count off len : ℕ) → off ≡ min from (length cells) → len ≡ min count (length cells - off) → overwritten cells off (replicate len Doubtful) ≡ doubted_cells cells from count
doubted_over cells from count off len begins many =
    let middle = take count (drop from cells) in
    let as_many : length middle ≡ len = simp (length-take, length-drop) (omega arith) in
    let end : off + length (replicate len Doubtful) ≡ min (from + count) (length cells) = simp length-replicate (omega arith) in
    ap (λ n. take n cells ++ replicate len Doubtful ++ drop (off + length (replicate len Doubtful)) cells) begins
    ∙ ap (λ front. front ++ replicate len Doubtful ++ drop (off + length (replicate len Doubtful)) cells) (take_min from cells)
    ∙ ap (λ new. take from cells ++ new ++ drop (off + length (replicate len Doubtful)) cells) (splat_is_map middle len Doubtful as_many)
    ∙ ap (λ n. take from cells ++ map (λ c. Doubtful) middle ++ drop n cells) end
    ∙ ap (λ rest. take from cells ++ map (λ c. Doubtful) middle ++ rest) (drop_min (from + count) cells)
