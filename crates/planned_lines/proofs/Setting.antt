-- The file bytes that an edit sets, and those of one edit more.
use Rattle.std.proofs.Common.{◌≡◌, ◌<◌, ◌+◌, ◌++◌, ℕ, Option, Some, None, List, [], ◌∷◌, length, drop, slice_index_or, drop-cons, add-one, append_assoc, append-nil, map, refl, sym, ap, ◌∙◌}
use Rattle.std.proofs.lemmas.List.{map-append}
use Rattle.std.specs.List.{cons_option, filter_map}
use Rattle.std.specs.Option.{option_map}
use Rattle.frang_base.specs.declared.lock.LockId.{LockId}
use Rattle.disk_definitions.specs.Edits.{Edit}
use Rattle.core_definitions.specs.Plans.{BytesSet}
use Rattle.dir_lookup.specs.Planned.{sector_by}
use Rattle.lock_sets.specs.Seen.{numbers}
use Rattle.plan_steps.specs.Edits.{edit_of, edits_of}
use Rattle.plan_steps.specs.declared.edit.Edit.{Edit as CodeEdit}
use Rattle.planned_lines.specs.declared.finished.BytesSet.{BytesSet as CodeBytes}
use Rattle.planned_lines.specs.Outcomes.{bytes_as}

abbrev pub set_of : ℕ → List ℕ → LockId → BytesSet
set_of sector block cover = record { sector = sector; block = block; cover = cover }

pub same_set : (s n : ℕ) (b d : List ℕ) (k l : LockId) → s ≡ n → b ≡ d → k ≡ l → Some (set_of s b k) ≡ Some (set_of n d l)
same_set s n b d k l e f g = ap (λ x. Some (set_of x b k)) e ∙ (ap (λ x. Some (set_of n x k)) f ∙ ap (λ x. Some (set_of n d x)) g)

-- sectors by their numbers have these numbers
pub numbers_by : (xs : List ℕ) → numbers (map sector_by xs) ≡ xs
numbers_by [] = refl
numbers_by (x ∷ xs) = ap (λ ys. x ∷ ys) (numbers_by xs)

-- ---- the turn of the loop over the edits

-- one edit more, by its place
next_edit : (edits : List CodeEdit) (i : ℕ) (edit d : CodeEdit) → i < length edits → edit ≡ slice_index_or edits i d → edits_of (drop i edits) ≡ edit_of edit ∷ edits_of (drop (i + 1) edits)
next_edit edits i edit d l is =
    ap (λ (es : List CodeEdit). edits_of es) (drop-cons edits i d l)
    ∙ ap (λ (k : ℕ). edit_of (slice_index_or edits i d) ∷ edits_of (drop k edits)) (sym (add-one i))
    ∙ ap (λ (e : CodeEdit). edit_of e ∷ edits_of (drop (i + 1) edits)) (sym is)

-- what an edit sets, and then what the others set
turn : (f : Edit → Option BytesSet) (done new : List BytesSet) (edits : List CodeEdit) (i : ℕ) (edit d : CodeEdit) (goal : List BytesSet) → i < length edits →
    edit ≡ slice_index_or edits i d → done ++ filter_map f (edits_of (drop i edits)) ≡ goal → new ≡ done ++ cons_option (f (edit_of edit)) [] →
    new ++ filter_map f (edits_of (drop (i + 1) edits)) ≡ goal
turn f done new edits i edit d goal l is before e =
    ap (λ xs. xs ++ rest) e
    ∙ append_assoc done (cons_option (f (edit_of edit)) []) rest
    ∙ ap (λ xs. done ++ xs) (one (f (edit_of edit)))
    ∙ sym (ap (λ es. done ++ filter_map f es) (next_edit edits i edit d l is))
    ∙ before
  where
    rest : List BytesSet
    rest = filter_map f (edits_of (drop (i + 1) edits))

    one : (o : Option BytesSet) → cons_option o [] ++ rest ≡ cons_option o rest
    one None = refl
    one (Some x) = refl

-- an edit that sets a sector, and one that sets none
pub turn_some : (f : Edit → Option BytesSet) (done new : List CodeBytes) (o : Option CodeBytes) (set : CodeBytes) (edits : List CodeEdit) (i : ℕ) (edit d : CodeEdit) (goal : List BytesSet) →
    i < length edits → edit ≡ slice_index_or edits i d → map bytes_as done ++ filter_map f (edits_of (drop i edits)) ≡ goal → option_map bytes_as o ≡ f (edit_of edit) → o ≡ Some set →
    new ≡ done ++ set ∷ [] → map bytes_as new ++ filter_map f (edits_of (drop (i + 1) edits)) ≡ goal
turn_some f done new o set edits i edit d goal l is before said some e =
    turn f (map bytes_as done) (map bytes_as new) edits i edit d goal l is before
    (ap (λ (xs : List CodeBytes). map bytes_as xs) e
    ∙ map-append bytes_as done (set ∷ [])
    ∙ ap (λ (o : Option BytesSet). map bytes_as done ++ cons_option o []) (sym (ap (λ (o : Option CodeBytes). option_map bytes_as o) some) ∙ said))

pub turn_none : (f : Edit → Option BytesSet) (done new : List CodeBytes) (o : Option CodeBytes) (edits : List CodeEdit) (i : ℕ) (edit d : CodeEdit) (goal : List BytesSet) → i < length edits →
    edit ≡ slice_index_or edits i d → map bytes_as done ++ filter_map f (edits_of (drop i edits)) ≡ goal → option_map bytes_as o ≡ f (edit_of edit) → o ≡ None → new ≡ done →
    map bytes_as new ++ filter_map f (edits_of (drop (i + 1) edits)) ≡ goal
turn_none f done new o edits i edit d goal l is before said none e =
    turn f (map bytes_as done) (map bytes_as new) edits i edit d goal l is before
    (ap (λ (xs : List CodeBytes). map bytes_as xs) e
    ∙ sym (append-nil (map bytes_as done))
    ∙ ap (λ (o : Option BytesSet). map bytes_as done ++ cons_option o []) (sym (ap (λ (o : Option CodeBytes). option_map bytes_as o) none) ∙ said))
