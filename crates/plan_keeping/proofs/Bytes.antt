-- Sectors of file bytes that are taken over, one after another.
use Rattle.std.proofs.Common.{◌≡◌, ◌<◌, ◌+◌, ◌++◌, ℕ, List, [], ◌∷◌, length, drop, slice_index_or, drop-cons, add-one, append_assoc, map, sym, ap, ◌∙◌}
use Rattle.std.proofs.lemmas.List.{map-append}
use Rattle.core_definitions.specs.Plans as core
use Rattle.planned_lines.specs.Outcomes.{bytes_as}
use Rattle.planned_lines.specs.declared.finished.BytesSet.{BytesSet as PlannedBytes}
use Rattle.server_core.specs.Outcomes.{bytes_of}
use Rattle.server_core.specs.declared.outcome.BytesSet.{BytesSet}

pub one_taken : (sets : List BytesSet) (bytes : List PlannedBytes) (i : ℕ) (set : BytesSet) (d : PlannedBytes) (all : List core.BytesSet) → i < length bytes → bytes_of set ≡ bytes_as (slice_index_or bytes i d)
    → map bytes_of sets ++ map bytes_as (drop i bytes) ≡ all → map bytes_of (sets ++ set ∷ []) ++ map bytes_as (drop (i + 1) bytes) ≡ all
one_taken sets bytes i set d all inside same before =
    ap (λ xs. xs ++ map bytes_as (drop (i + 1) bytes)) (map-append bytes_of sets (set ∷ []))
    ∙ append_assoc (map bytes_of sets) (bytes_of set ∷ []) (map bytes_as (drop (i + 1) bytes))
    ∙ ap (λ x. map bytes_of sets ++ x ∷ map bytes_as (drop (i + 1) bytes)) same
    ∙ ap (λ (n : ℕ). map bytes_of sets ++ bytes_as (slice_index_or bytes i d) ∷ map bytes_as (drop n bytes)) (add-one i)
    ∙ ap (λ (xs : List PlannedBytes). map bytes_of sets ++ map bytes_as xs) (sym (drop-cons bytes i d inside))
    ∙ before
