-- Where memory is wanting, what was seen before is kept.
use Rattle.std.proofs.Common.{◌≡◌, ℕ, List, ◌++◌, Result, Ok, Err, OnErr, length, take, sym, ◌∙◌, ap}
use Rattle.std.proofs.lemmas.List.{length-map, take-map}
use Rattle.std.proofs.Math.Seq.{take-append_seam}
use Rattle.lock_sets.specs.declared.seen.Seen.{Seen}
use Rattle.lock_sets.specs.Seen.{BeginsWith, seen_as}

-- cut to their old number, the sectors are the old ones
pub cut_back : (old new : List Seen) → BeginsWith (seen_as old) (seen_as new) → seen_as (take (length old) new) ≡ seen_as old
cut_back old new begins =
    let part : Seen → ℕ × ℕ = λ one. (one.sector.0, one.version) in
    sym (take-map part (length old) new) ∙ ap (take (length old)) begins.1 ∙ ap (λ n. take n (seen_as old ++ begins.0)) (sym (length-map old part))
    ∙ take-append_seam (seen_as old) begins.0

pub on_error : {T E P : Type 0} (r : Result T E) → P → OnErr r P
on_error (Ok x) p = tt
on_error (Err e) p = p
