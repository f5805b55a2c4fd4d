-- A place of a directory that was written reads back as it is, and the other places stay.
use Rattle.std.proofs.Common.{◌≡◌, ℕ, zero, suc, ◌-◌, ◌*◌, ◌/◌, ◌%◌, ◌<◌, ◌≤◌, inl, inr, Bool, true, false, ◌||◌, ◌==◌, nat_lt, nat_le, if◌then◌else◌, Option, Some, None, is_some, List, [], ◌∷◌, length, take, drop, set, refl, sym, ap, ◌∙◌, subst, arith, length-append, eqb-true, leb-true}
use Rattle.std.specs.List.{list_all, slice_get}
use Rattle.std.proofs.Math.ListN.{length-set}
use Rattle.std.proofs.lemmas.Bool.{and_parts, and_from, cases_eq, or_right, lt-ltb, le-leb}
use Rattle.std.proofs.lemmas.List.{take_at, drop_at}
use Rattle.frang_base.specs.Name.{is_name}
use Rattle.frang_base.specs.Functions.{put2}
use Rattle.disk_definitions.specs.declared.directory.DirEntry.{DirEntry}
use Rattle.disk_definitions.specs.declared.directory.DirSector.{DirSector}
use Rattle.disk_definitions.specs.declared.region.Region.TheVariants as region
use Rattle.disk_definitions.specs.Regions.{sector_of}
use Rattle.sector_bytes.specs.Bytes.{zeros, are_zero}
use Rattle.disk_definitions.specs.Directories.{is_free_place, is_used_place, entry_fits, directory_bytes, directory_fields, directory_in}
use Rattle.disk_definitions.proofs.WrittenFields.{length_zeros, zeros_are_zero}
use Rattle.disk_definitions.proofs.DirectoryLaws.{IsStorableEntry, AreStorable, directory_read, directory_back}
use Rattle.disk_definitions.proofs.Chosen.{chosen_same, chosen_other}
use Rattle.disk_definitions.proofs.Readings.{and_l, and_r}
use Rattle.sector_bytes.specs.Sectors.{Sectors}
use Rattle.disk_definitions.specs.Store.{StoredEntry, Use, store_of, stored_entry, entry_in, directory_at}
use Rattle.disk_definitions.specs.Standing.{IsMetadata}
use Rattle.disk_definitions.specs.Written.{padded, place_with, with_place}
use Rattle.disk_definitions.specs.FitEdits.{IsFitEntry}
use Rattle.plan_fit.specs.Says.{PlacesSay}
use Rattle.plan_fit.proofs.Grammar.{directory_is, directory_storable}

-- ---- one of a list set

set_storable : (es : List DirEntry) (p : ℕ) (d : DirEntry) → IsStorableEntry d → AreStorable es → AreStorable (set es p d)
set_storable [] p d h all = tt
set_storable (e ∷ es) zero d h all = (h, all.1)
set_storable (e ∷ es) (suc p) d h all = (all.0, set_storable es p d h all.1)

set_passes : {X : Type 0} (test : X → Bool) (es : List X) (p : ℕ) (d : X) → test d ≡ true → list_all test es ≡ true → list_all test (set es p d) ≡ true
set_passes test [] p d h all = refl
set_passes test (e ∷ es) zero d h all = and_from (test d) (list_all test es) h (and_parts (test e) (list_all test es) all).1
set_passes test (e ∷ es) (suc p) d h all = let both = and_parts (test e) (list_all test es) all in and_from (test e) (list_all test (set es p d)) both.0 (set_passes test es p d h both.1)

get_set : {X : Type 0} (es : List X) (p : ℕ) (d : X) → p < length es → slice_get (set es p d) p ≡ Some d
get_set [] p d l = absurd (omega arith)
get_set (e ∷ es) zero d l = refl
get_set (e ∷ es) (suc p) d l = get_set es p d (omega arith)

get_set_other : {X : Type 0} (es : List X) (p q : ℕ) (d : X) → (q ≡ p → ⊥) → slice_get (set es p d) q ≡ slice_get es q
get_set_other [] p q d n = refl
get_set_other (e ∷ es) zero zero d n = absurd (n refl)
get_set_other (e ∷ es) zero (suc q) d n = refl
get_set_other (e ∷ es) (suc p) zero d n = refl
get_set_other (e ∷ es) (suc p) (suc q) d n = get_set_other es p q d (λ i. n (ap suc i))

-- ---- one place

-- what is written of a place: an entry that fits, or nothing
abbrev pub MayEnter : Option StoredEntry → Type 0
MayEnter None = Unit {0}
MayEnter (Some e) = IsFitEntry e

name_most : (e : StoredEntry) → IsFitEntry e → length e.name ≤ 64
name_most e h = let n = h.name in let most : nat_le (length e.name) 64 ≡ true = search (and_l, and_r) depth 12 in leb-true (length e.name) 64 most

name_back : (e : StoredEntry) → take (length e.name) (padded 64 e.name) ≡ e.name
name_back e = take_at e.name (zeros (64 - length e.name)) (length e.name) refl

rest_back : (e : StoredEntry) → are_zero (drop (length e.name) (padded 64 e.name)) ≡ true
rest_back e = ap are_zero (drop_at e.name (zeros (64 - length e.name)) (length e.name) refl) ∙ zeros_are_zero (64 - length e.name)

place_storable : (o : Option StoredEntry) → MayEnter o → IsStorableEntry (place_with o)
place_storable None h = record { inode = omega arith; name = length_zeros 64 }
place_storable (Some e) h = let small = h.inode in let most = name_most e h in record { inode = omega arith; name = length-append e.name (zeros (64 - length e.name)) ∙ omega (arith, length_zeros (64 - length e.name)) }

used_place : (e : StoredEntry) → IsFitEntry e → is_used_place (place_with (Some e)) ≡ true
used_place e h =
    and_from _ _ (and_from _ _ (and_from _ _ (and_from _ _ (le-leb 1 e.kind h.some) (le-leb e.kind 3 h.kind)) (le-leb (length e.name) 64 (name_most e h))) (ap is_name (name_back e) ∙ h.name)) (rest_back e)

free_place : is_free_place (place_with None) ≡ true
unfolding zeros
free_place = refl

place_fits : (o : Option StoredEntry) → MayEnter o → entry_fits (place_with o) ≡ true
place_fits None h = ap (λ (t : Bool). t || is_used_place (place_with None)) free_place
place_fits (Some e) h = or_right (is_free_place (place_with (Some e))) (is_used_place (place_with (Some e))) (used_place e h)

not_free : (e : DirEntry) → 1 ≤ e.kind → is_free_place e ≡ false
not_free e some = go (is_free_place e) refl
  where
    go : (b : Bool) → is_free_place e ≡ b → is_free_place e ≡ false
    go true t = let kind : e.kind == 0 ≡ true = search (and_l, and_r) depth 12 in let z : e.kind ≡ 0 = eqb-true e.kind 0 kind in absurd (omega arith)
    go false t = t

pub place_back : (o : Option StoredEntry) → MayEnter o → stored_entry (Some (place_with o)) ≡ o
place_back None h = ap (λ (t : Bool). if t then None else Some (record { name = take 0 (zeros 64); inode = 0; kind = 0 })) free_place
place_back (Some e) h = ap (λ (t : Bool). if t then None else Some (record { name = take (length e.name) (padded 64 e.name); inode = e.inode; kind = e.kind })) (not_free (place_with (Some e)) h.some)
    ∙ ap (λ (n : List ℕ). Some (record { name = n; inode = e.inode; kind = e.kind })) (name_back e)

-- ---- a sector

-- a sector with another place that was written reads back
pub placed_back : (block : List ℕ) (x : DirSector) (p : ℕ) (o : Option StoredEntry) → directory_in block ≡ Some x → MayEnter o → directory_in (directory_bytes (with_place (directory_fields block) p o)) ≡ Some (with_place x p o)
placed_back block x p o h may =
    let s = directory_storable block x h in
    let read = directory_read block x h in
    let seven : length (set x.entries p (place_with o)) ≡ 7 = simp length-set s.seven in
    ap (λ (y : DirSector). directory_in (directory_bytes (with_place y p o))) (ap directory_fields read.0 ∙ directory_is block x h)
    ∙ directory_back (with_place x p o) (record { version = s.version; seven = seven; entries = set_storable x.entries p (place_with o) (place_storable o may) s.entries }) (set_passes entry_fits x.entries p (place_with o) (place_fits o may) read.1)

placed_here : (x : DirSector) (p : ℕ) (o : Option StoredEntry) → p < length x.entries → MayEnter o → entry_in (Some (with_place x p o)) p ≡ o
placed_here x p o l may = ap stored_entry (get_set x.entries p (place_with o) l) ∙ place_back o may

placed_else : (x : DirSector) (p q : ℕ) (o : Option StoredEntry) → (q ≡ p → ⊥) → entry_in (Some (with_place x p o)) q ≡ entry_in (Some x) q
placed_else x p q o d = ap stored_entry (get_set_other x.entries p q (place_with o) d)

-- the places after one is written
pub place_set : (segments : ℕ) (use_of : ℕ → Use) (a b : Sectors) (k p : ℕ) (o : Option StoredEntry) (x : DirSector) (place : ℕ → ℕ → Option StoredEntry) → k < 1024 * segments → p < 56 → MayEnter o
    → directory_at a k (p / 7) ≡ Some x → length x.entries ≡ 7 → directory_at b k (p / 7) ≡ Some (with_place x (p % 7) o)
    → ((l q : ℕ) → l < 1024 * segments → q < 8 → (l ≡ k → q ≡ p / 7 → ⊥) → b (sector_of (region.Small l q)) ≡ a (sector_of (region.Small l q)))
    → PlacesSay segments use_of a place → PlacesSay segments use_of b (put2 place k p o)
place_set segments use_of a b k p o x place lk lp may was seven is others h = record { grammar = grammar; places = places }
  where
    grammar : (l q : ℕ) → l < 1024 * segments → q < 8 → IsMetadata (use_of l) → is_some (directory_at b l q) ≡ true
    grammar l q ll lq d = elim (cases_eq l k) [
      | inl e ↦ elim (cases_eq q (p / 7)) [
        | inl f ↦ ap (λ (z : ℕ). is_some (directory_at b z q)) e ∙ ap (λ (z : ℕ). is_some (directory_at b k z)) f ∙ ap is_some is
        | inr n ↦ ap (λ (z : List ℕ). is_some (directory_in z)) (others l q ll lq (λ i j. n j)) ∙ h.grammar l q ll lq d
      ]
      | inr n ↦ ap (λ (z : List ℕ). is_some (directory_in z)) (others l q ll lq (λ i j. n i)) ∙ h.grammar l q ll lq d
    ]

    -- in a sector that stays
    stays : (l q : ℕ) → l < 1024 * segments → q < 56 → IsMetadata (use_of l) → (l ≡ k → q / 7 ≡ p / 7 → ⊥) → (store_of segments b).place l q ≡ place l q
    stays l q ll lq d n = ap (λ (z : List ℕ). if nat_lt l (1024 * segments) then entry_in (directory_in z) (q % 7) else None) (others l (q / 7) ll (omega arith) n) ∙ h.places l q ll lq d

    in_it : (q : ℕ) → q / 7 ≡ p / 7 → (store_of segments b).place k q ≡ entry_in (Some (with_place x (p % 7) o)) (q % 7)
    in_it q f = ap (λ (t : Bool). if t then entry_in (directory_at b k (q / 7)) (q % 7) else None) (lt-ltb k (1024 * segments) lk) ∙ ap (λ (y : Option DirSector). entry_in y (q % 7)) (ap (directory_at b k) f ∙ is)

    was_in_it : (q : ℕ) → q < 56 → IsMetadata (use_of k) → q / 7 ≡ p / 7 → entry_in (Some x) (q % 7) ≡ place k q
    was_in_it q lq d f = sym (ap (λ (t : Bool). if t then entry_in (directory_at a k (q / 7)) (q % 7) else None) (lt-ltb k (1024 * segments) lk) ∙ ap (λ (y : Option DirSector). entry_in y (q % 7)) (ap (directory_at a k) f ∙ was)) ∙ h.places k q lk lq d

    at_k : (q : ℕ) → q < 56 → IsMetadata (use_of k) → (store_of segments b).place k q ≡ (if q == p then o else place k q)
    at_k q lq d = elim (cases_eq q p) [
      | inl e ↦ in_it q (ap (λ (n : ℕ). n / 7) e) ∙ ap (entry_in (Some (with_place x (p % 7) o))) (ap (λ (n : ℕ). n % 7) e) ∙ placed_here x (p % 7) o (omega arith) may ∙ sym (chosen_same q p o (place k q) e)
      | inr n ↦ elim (cases_eq (q / 7) (p / 7)) [
        | inl f ↦ in_it q f ∙ placed_else x (p % 7) (q % 7) o (λ m. n (omega arith)) ∙ was_in_it q lq d f ∙ sym (chosen_other q p o (place k q) n)
        | inr m ↦ stays k q lk lq d (λ i j. m j) ∙ sym (chosen_other q p o (place k q) n)
      ]
    ]

    places : (l q : ℕ) → l < 1024 * segments → q < 56 → IsMetadata (use_of l) → (store_of segments b).place l q ≡ put2 place k p o l q
    places l q ll lq d = elim (cases_eq l k) [
      | inl e ↦ subst (λ (z : ℕ). IsMetadata (use_of z) → (store_of segments b).place z q ≡ put2 place k p o z q) (sym e)
          (λ m. at_k q lq m ∙ sym (chosen_same k k (if q == p then o else place k q) (place k q) refl)) d
      | inr n ↦ stays l q ll lq d (λ i j. n i) ∙ sym (chosen_other l k (if q == p then o else place l q) (place l q) n)
    ]
