-- What is gathered, one after another and row by row.
use Rattle.std.proofs.Common.{◌≡◌, ℕ, zero, suc, ◌+◌, ◌*◌, ◌<◌, Result, Ok, List, ◌++◌, map, slice_index_or, sym, ◌∙◌, ap, subst, arith, append_assoc, append-nil}
use Rattle.std.specs.Prelude.{Vec}
use Rattle.std.specs.Global.{Global}
use Rattle.std.proofs.lemmas.List.{map-append}
use Rattle.frang_base.specs.declared.fault.NoMemory.{NoMemory}
use Rattle.report_definitions.specs.Sums.{Fault, gathered}
use Rattle.disk_check.specs.declared.report.Fault.{Fault as Told}
use Rattle.disk_check.specs.Told.{fault_told, faults_told}
use Rattle.disk_check.specs.PartsTold.{IsPart}

pub gathered_one : (n : ℕ) (f : ℕ → List Fault) → gathered (n + 1) f ≡ gathered n f ++ f n
gathered_one n f = let e : n + 1 ≡ suc n = omega arith in ap (λ k. gathered k f) e

-- one more at the end of what stands before
pub gathered_more : (before : List Fault) (f : ℕ → List Fault) (n : ℕ) (now new : List Fault) → now ≡ before ++ gathered n f → new ≡ now ++ f n → new ≡ before ++ gathered (n + 1) f
gathered_more before f n now new a b = b ∙ ap (λ (l : List Fault). l ++ f n) a ∙ append_assoc before (gathered n f) (f n) ∙ ap (λ (l : List Fault). before ++ l) (sym (gathered_one n f))

gathered_join : (m w : ℕ) (f : ℕ → List Fault) → gathered m f ++ gathered w (λ j. f (m + j)) ≡ gathered (m + w) f
gathered_join m zero f = append-nil (gathered m f) ∙ (let e : m ≡ m + 0 = omega arith in ap (λ k. gathered k f) e)
gathered_join m (suc w) f =
    let e : suc (m + w) ≡ m + suc w = omega arith in
    sym (append_assoc (gathered m f) (gathered w (λ j. f (m + j))) (f (m + w))) ∙ ap (λ (l : List Fault). l ++ f (m + w)) (gathered_join m w f) ∙ ap (λ k. gathered k f) e

-- rows of so many
pub gathered_rows : (w n : ℕ) (f : ℕ → List Fault) → gathered n (λ k. gathered w (λ j. f (w * k + j))) ≡ gathered (w * n) f
gathered_rows w zero f = let e : 0 ≡ w * 0 = omega arith in ap (λ k. gathered k f) e
gathered_rows w (suc n) f =
    let e : w * n + w ≡ w * suc n = omega arith in
    ap (λ (l : List Fault). l ++ gathered w (λ j. f (w * n + j))) (gathered_rows w n f) ∙ gathered_join (w * n) w f ∙ ap (λ k. gathered k f) e

-- one part more
pub part_more : (parts : List (Result (Vec Told Global) NoMemory)) (f : ℕ → List Fault) (i : ℕ) (before : List Fault) (now new : List Told) (read : Result (Vec Told Global) NoMemory) (part : Vec Told Global)
    → ((k : ℕ) (d : Result (Vec Told Global) NoMemory) → k < i + 1 → IsPart (slice_index_or parts k d) (f k)) → read ≡ slice_index_or parts i read → read ≡ Ok part → new ≡ now ++ part.items → faults_told now ≡ before ++ gathered i f → faults_told new ≡ before ++ gathered (i + 1) f
part_more parts f i before now new read part each at is e so_far =
    let p : IsPart read (f i) = subst (λ (r : Result (Vec Told Global) NoMemory). IsPart r (f i)) (sym at) (each i read (omega arith)) in
    let q : faults_told part.items ≡ f i = subst (λ (r : Result (Vec Told Global) NoMemory). IsPart r (f i)) is p in
    gathered_more before f i (faults_told now) (faults_told new) so_far (ap faults_told e ∙ map-append fault_told now part.items ∙ ap (λ (l : List Fault). faults_told now ++ l) q)
