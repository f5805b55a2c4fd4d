-- The sectors that records name and a replay may change.
use Rattle.std.proofs.Common.{◌≡◌, ◌≢◌, ⊎_elim, subst, ◌<◌, ◌≤◌, ◌+◌, append-nil, length, take, get_or, ℕ, Bool, true, false, ◌&&◌, ◌||◌, List, [], ◌∷◌, ◌++◌, map, is_some, sym, refl, ap, ◌∙◌}
use Rattle.std.proofs.lemmas.Bool.{and_parts, cases_eq}
use Rattle.std.proofs.lemmas.Grind.{flat_map-append}
use Rattle.std.proofs.lemmas.List.{map_more, take_all, take_more}
use Rattle.std.specs.List.{flat_map}
use Rattle.std.specs.List.Sorted.{IsStrictlySortedBy}
use Rattle.std.specs.Ordering.{nat_cmp}
use Rattle.frang_base.specs.Functions.{member}
use Rattle.frang_base.specs.declared.change.Change.{Change}
use Rattle.frang_base.specs.declared.change.Redo.{Redo}
use Rattle.sector_bytes.specs.SectorMaps.{value_at, with_value}
use Rattle.disk_definitions.specs.Regions.{region_of}
use Rattle.disk_definitions.specs.Replay.{is_replayed}
use Rattle.disk_definitions.specs.Written.{ascending}
use Rattle.recovery_demon.specs.Naming.{AreAdded, SectorSet, is_changeable}
use Rattle.recovery_demon.specs.Rules.{named}
use Rattle.log_slots.proofs.Maps.{ascending_member, ascending_sorted, filter_member, filter_sorted, at_with, member_append, member_here, member_other, other_with}

abbrev pub names : List Redo → List ℕ
names records = flat_map (λ redo. map (λ change. change.sector.0) redo.changes) records

pub named_member : (segments : ℕ) (records : List Redo) (s : ℕ) → member s (named segments records) ≡ (member s (names records) && is_changeable segments s)
unfolding named
named_member segments records s =
    filter_member (λ sector. is_replayed (region_of segments sector)) s (ascending (names records)) ∙ ap (λ b. b && is_replayed (region_of segments s)) (ascending_member (names records) s)

pub named_changeable : (segments : ℕ) (records : List Redo) (s : ℕ) → member s (named segments records) ≡ true → is_replayed (region_of segments s) ≡ true
named_changeable segments records s e = (and_parts (member s (names records)) (is_changeable segments s) (sym (named_member segments records s) ∙ e)).1

pub named_sorted : (segments : ℕ) (records : List Redo) → IsStrictlySortedBy nat_cmp (named segments records)
unfolding named
named_sorted segments records = filter_sorted (λ sector. is_replayed (region_of segments sector)) (ascending (names records)) (ascending_sorted (names records))

-- ---- gathered

-- nothing more; some, and then others
pub added_none : (segments : ℕ) (before : SectorSet) → AreAdded segments [] before before
added_none segments before s = go (is_some (value_at before s))
  where
    go : (b : Bool) → b ≡ (b || (false && is_changeable segments s))
    go true = refl
    go false = refl

both_added : (a b c p : Bool) → ((a || (b && p)) || (c && p)) ≡ (a || ((b || c) && p))
both_added true b c p = refl
both_added false true true true = refl
both_added false true true false = refl
both_added false true false true = refl
both_added false true false false = refl
both_added false false c p = refl

pub added_more : (segments : ℕ) (xs ys : List ℕ) (before between after : SectorSet) → AreAdded segments xs before between → AreAdded segments ys between after → AreAdded segments (xs ++ ys) before after
added_more segments xs ys before between after first after_first s =
    after_first s ∙ ap (λ b. b || (member s ys && is_changeable segments s)) (first s)
    ∙ both_added (is_some (value_at before s)) (member s xs) (member s ys) (is_changeable segments s) ∙ sym (ap (λ b. is_some (value_at before s) || (b && is_changeable segments s)) (member_append s xs ys))

-- one
abbrev pub added : ℕ → SectorSet → SectorSet
added s before = with_value before s tt

pub added_one : (segments s : ℕ) (before : SectorSet) → is_changeable segments s ≡ true → AreAdded segments (s ∷ []) before (with_value before s tt)
added_one segments s before e x = ⊎_elim (λ h. here h) (λ h. other h) (cases_eq x s)
  where
    or_last : (b : Bool) → true ≡ (b || true)
    or_last true = refl
    or_last false = refl

    or_none : (b p : Bool) → b ≡ (b || (false && p))
    or_none true p = refl
    or_none false p = refl

    here : x ≡ s → is_some (value_at (with_value before s tt) x) ≡ (is_some (value_at before x) || (member x (s ∷ []) && is_changeable segments x))
    here h =
        ap (λ n. is_some (value_at (with_value before s tt) n)) h ∙ ap is_some (at_with before s tt) ∙ or_last (is_some (value_at before x))
        ∙ sym (ap (λ b. is_some (value_at before x) || (b && is_changeable segments x)) (subst (λ n. member x (n ∷ []) ≡ true) h (member_here x [])) ∙ ap (λ b. is_some (value_at before x) || b) (ap (is_changeable segments) h ∙ e))

    other : x ≢ s → is_some (value_at (with_value before s tt) x) ≡ (is_some (value_at before x) || (member x (s ∷ []) && is_changeable segments x))
    other h =
        ap is_some (other_with before s tt x h) ∙ or_none (is_some (value_at before x)) (is_changeable segments x)
        ∙ sym (ap (λ b. is_some (value_at before x) || (b && is_changeable segments x)) (member_other x s [] h))

-- ---- along changes and records

abbrev pub sector_in : Change → ℕ
sector_in change = change.sector.0

pub changes_more : (segments : ℕ) (changes : List Change) (i : ℕ) (change : Change) (before between after : SectorSet) → i < length changes → change ≡ get_or changes i change →
    AreAdded segments (map (λ c. c.sector.0) (take i changes)) before between → AreAdded segments (change.sector.0 ∷ []) between after → AreAdded segments (map (λ c. c.sector.0) (take (i + 1) changes)) before after
changes_more segments changes i change before between after h is first after_first =
    subst (λ xs. AreAdded segments xs before after) (sym (map_more (λ (c : Change). c.sector.0) changes i change h ∙ ap (λ (c : Change). map (λ c. c.sector.0) (take i changes) ++ c.sector.0 ∷ []) (sym is)))
    (added_more segments (map (λ c. c.sector.0) (take i changes)) (change.sector.0 ∷ []) before between after first after_first)

pub records_more : (segments : ℕ) (records : List Redo) (i : ℕ) (record_at : Redo) (before between after : SectorSet) → i < length records → record_at ≡ get_or records i record_at →
    AreAdded segments (names (take i records)) before between → AreAdded segments (map (λ c. c.sector.0) record_at.changes) between after → AreAdded segments (names (take (i + 1) records)) before after
records_more segments records i record_at before between after h is first after_first =
    subst (λ xs. AreAdded segments xs before after) (sym (ap names (take_more records i record_at h) ∙ ap (λ (r : Redo). names (take i records ++ r ∷ [])) (sym is)
    ∙ flat_map-append (λ redo. map (λ change. change.sector.0) redo.changes) (take i records) (record_at ∷ []) ∙ ap (λ xs. names (take i records) ++ xs) (append-nil (map (λ c. c.sector.0) record_at.changes))))
    (added_more segments (names (take i records)) (map (λ c. c.sector.0) record_at.changes) before between after first after_first)

-- all of them
pub all_named : (segments : ℕ) (records : List Redo) (i : ℕ) (after : SectorSet) → length records ≤ i → AreAdded segments (names (take i records)) [] after →
    (s : ℕ) → is_some (value_at after s) ≡ member s (named segments records)
all_named segments records i after h all s = subst (λ xs. AreAdded segments (names xs) [] after) (take_all i records h) all s ∙ sym (named_member segments records s)
