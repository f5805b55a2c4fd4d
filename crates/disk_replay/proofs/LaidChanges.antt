-- Changes laid over a disk, one after the other.
use Rattle.std.proofs.Common.{◌≡◌, ◌≢◌, ℕ, ◌≤◌, ⊎_elim, Bool, true, false, ◌&&◌, ◌==◌, if◌then◌else◌, List, [], ◌∷◌, ◌++◌, refl, sym, ap, ◌∙◌, subst}
use Rattle.std.specs.BTreeMap.{insert_entry}
use Rattle.std.specs.Ordering.{nat_cmp}
use Rattle.std.proofs.lemmas.Bool.{and_from, and_parts, and_left, false≢true, cases_eq, ne_eqb, eq-eqb, le-ltb, eqb-true}
use Rattle.std.proofs.lemmas.List.Sums.{fold-append}
use Rattle.frang_base.specs.declared.change.Change.{Change}
use Rattle.disk_definitions.specs.Regions.{region_of}
use Rattle.frang_base.proofs.Basics.{by_test}
use Rattle.sector_bytes.specs.Changes.{applied, changed, is_older}
use Rattle.sector_bytes.specs.Blocks.{version_of}
use Rattle.sector_bytes.specs.Sectors.{Sectors, SameSectors, sectors_of}
use Rattle.disk_definitions.specs.Replay.{is_replayed, with_change}
use Rattle.disk_replay.specs.Laid.{is_changed, with_changes}
use Rattle.disk_replay.proofs.SectorsSet.{set_there, set_elsewhere}

-- ---- one change

-- the block of a sector once the change is laid
block_by : ℕ → ℕ → Change → List ℕ → List ℕ
block_by segments sector c block = if sector == c.sector.0 && is_changed segments sector then applied block c else block

one_laid : (segments : ℕ) (s : Sectors) (c : Change) (sector : ℕ) → with_changes segments s (c ∷ []) sector ≡ block_by segments sector c (s sector)
unfolding with_changes is_changed block_by
one_laid segments s c sector = refl

there : (segments : ℕ) (c : Change) (block : List ℕ) → is_changed segments c.sector.0 ≡ true → block_by segments c.sector.0 c block ≡ applied block c
unfolding block_by
there segments c block e = ap (λ (b : Bool). if b then applied block c else block) (and_from (c.sector.0 == c.sector.0) (is_changed segments c.sector.0) (eq-eqb c.sector.0 c.sector.0 refl) e)

elsewhere : (segments sector : ℕ) (c : Change) (block : List ℕ) → sector ≢ c.sector.0 → block_by segments sector c block ≡ block
unfolding block_by
elsewhere segments sector c block n = ap (λ (b : Bool). if b then applied block c else block) (and_left (sector == c.sector.0) (is_changed segments sector) (ne_eqb sector c.sector.0 n))

-- a sector that a replay doesn't change
pub none_laid : (segments : ℕ) (s : Sectors) (c : Change) → is_changed segments c.sector.0 ≡ false → SameSectors s (with_changes segments s (c ∷ []))
unfolding block_by
none_laid segments s c e sector =
    sym (one_laid segments s c sector
    ∙ by_test (λ (b : List ℕ). b ≡ s sector) (applied (s sector) c) (s sector) (sector == c.sector.0 && is_changed segments sector)
    (λ t. let both = and_parts (sector == c.sector.0) (is_changed segments sector) t in
    absurd (false≢true (sym e ∙ ap (is_changed segments) (sym (eqb-true sector c.sector.0 both.0)) ∙ both.1)))
    (λ t. refl))

-- a sector that is as new
pub none_newer : (segments : ℕ) (s : Sectors) (c : Change) → c.version ≤ version_of (s c.sector.0) → SameSectors s (with_changes segments s (c ∷ []))
unfolding block_by
none_newer segments s c h sector =
    sym (one_laid segments s c sector
    ∙ by_test (λ (b : List ℕ). b ≡ s sector) (applied (s sector) c) (s sector) (sector == c.sector.0 && is_changed segments sector)
    (λ t. let is : sector ≡ c.sector.0 = eqb-true sector c.sector.0 (and_parts (sector == c.sector.0) (is_changed segments sector) t).0 in
    let old : is_older (s sector) c ≡ false = le-ltb (version_of (s sector)) c.version (subst (λ k. c.version ≤ version_of (s k)) (sym is) h) in
    ap (λ (b : Bool). if b then changed (s sector) c else s sector) old)
    (λ t. refl))

-- a sector that is set to its changed block
pub set_laid : (segments : ℕ) (es : List (ℕ × List ℕ)) (c : Change) (block : List ℕ) → is_changed segments c.sector.0 ≡ true → block ≡ applied (sectors_of es c.sector.0) c
    → SameSectors (sectors_of (insert_entry nat_cmp es c.sector.0 block)) (with_changes segments (sectors_of es) (c ∷ []))
set_laid segments es c block e is sector =
    let after = sectors_of (insert_entry nat_cmp es c.sector.0 block) in
    ⊎_elim
    (λ same. subst (λ k. after k ≡ with_changes segments (sectors_of es) (c ∷ []) k) (sym same)
    (set_there es c.sector.0 block ∙ is ∙ sym (there segments c (sectors_of es c.sector.0) e) ∙ sym (one_laid segments (sectors_of es) c c.sector.0)))
    (λ other. set_elsewhere es c.sector.0 block sector other ∙ sym (elsewhere segments sector c (sectors_of es sector) other) ∙ sym (one_laid segments (sectors_of es) c sector))
    (cases_eq sector c.sector.0)

-- ---- several

pub one_same : (segments : ℕ) (a b : Sectors) (c : Change) → SameSectors a b → SameSectors (with_change segments a c) (with_change segments b c)
one_same segments a b c same sector = ap (λ block. if sector == c.sector.0 && is_replayed (region_of segments sector) then applied block c else block) (same sector)

pub laid_same : (segments : ℕ) (changes : List Change) (a b : Sectors) → SameSectors a b → SameSectors (with_changes segments a changes) (with_changes segments b changes)
unfolding with_changes
laid_same segments [] a b same = same
laid_same segments (c ∷ changes) a b same = laid_same segments changes (with_change segments a c) (with_change segments b c) (one_same segments a b c same)

laid_both : (segments : ℕ) (s : Sectors) (xs ys : List Change) → with_changes segments s (xs ++ ys) ≡ with_changes segments (with_changes segments s xs) ys
unfolding with_changes
laid_both segments s xs ys = fold-append (with_change segments) s xs ys

-- the first of what is left are laid
pub laid_first : (segments : ℕ) (old new all : Sectors) (xs rest left : List Change) → left ≡ xs ++ rest → SameSectors new (with_changes segments old xs) → SameSectors (with_changes segments old left) all
    → SameSectors (with_changes segments new rest) all
laid_first segments old new all xs rest left split made h sector =
    laid_same segments rest new (with_changes segments old xs) made sector ∙ ap (λ (f : Sectors). f sector) (sym (laid_both segments old xs rest))
    ∙ ap (λ cs. with_changes segments old cs sector) (sym split) ∙ h sector

-- more of them are laid behind those that were
pub laid_more : (segments : ℕ) (s old new : Sectors) (before xs after : List Change) → after ≡ before ++ xs → SameSectors new (with_changes segments old xs) → SameSectors old (with_changes segments s before)
    → SameSectors new (with_changes segments s after)
laid_more segments s old new before xs after split made h sector =
    made sector ∙ laid_same segments xs old (with_changes segments s before) h sector ∙ ap (λ (f : Sectors). f sector) (sym (laid_both segments s before xs))
    ∙ ap (λ cs. with_changes segments s cs sector) (sym split)

pub nothing_laid : (segments : ℕ) (s : Sectors) → SameSectors s (with_changes segments s [])
unfolding with_changes
nothing_laid segments s sector = refl

-- nothing is left
pub all_laid : (segments : ℕ) (s all : Sectors) (left : List Change) → left ≡ [] → SameSectors (with_changes segments s left) all → SameSectors s all
all_laid segments s all left e h sector = nothing_laid segments s sector ∙ ap (λ cs. with_changes segments s cs sector) (sym e) ∙ h sector
