-- The first place of a sector that passes, and where a name stands first.
use Rattle.std.proofs.Common.{◌≡◌, ◌==◌, ℕ, suc, ◌+◌, ◌*◌, ◌<◌, Bool, true, false, Option, Some, None, IfSome, List, [], ◌∷◌, cond, length, take, refl, sym, ap, subst, ◌∙◌, eqb-true, arith}
use Rattle.std.specs.List.{slice_get}
use Rattle.std.specs.Option.{option_map}
use Rattle.frang_base.specs.Name.{is_name}
use Rattle.disk_definitions.specs.declared.directory.DirEntry.{DirEntry}
use Rattle.disk_definitions.specs.declared.directory.DirSector.{DirSector}
use Rattle.std.specs.Str.{bytes_eq}
use Rattle.disk_definitions.specs.Directories.{name_in, is_free_place, place_of_name}
use Rattle.disk_definitions.proofs.Readings.{and_l, and_r}
use Rattle.disk_definitions.specs.Store.{StoredEntry, stored_entry, entered}
use Rattle.disk_definitions.specs.Least.{least, least_from}
use Rattle.disk_definitions.proofs.LeastLaws.{from_here, from_next, from_none, least_below, least_some}
use Rattle.disk_definitions.specs.Walks.{Found, hit, is_named, is_vacant}
use Rattle.dir_lookup.specs.Stored.{entries_at}

-- ---- names
no_name : (name : List ℕ) → is_name name ≡ true → bytes_eq [] name ≡ false
no_name [] n = absurd (cc)
no_name (b ∷ bs) n = refl

-- an entry has a name where the bytes are the same; a free place has none
named_entry : (name : List ℕ) (e : DirEntry) → is_name name ≡ true → is_named name (stored_entry (Some e)) ≡ bytes_eq (name_in e) name
named_entry name e n = go (is_free_place e) refl
  where
    go : (b : Bool) → is_free_place e ≡ b → is_named name (cond b None (Some (entered e))) ≡ bytes_eq (name_in e) name
    go false f = refl
    go true f =
        let l : e.len == 0 ≡ true = search (and_l, and_r) depth 8 in
        let z : e.len ≡ 0 = eqb-true e.len 0 l in
        let t : name_in e ≡ [] = ap (λ (k : ℕ). take k e.name) z in
        sym (ap (λ (bytes : List ℕ). bytes_eq bytes name) t ∙ no_name name n)

moved : (i : ℕ) (b : Bool) (later : Option ℕ) (o : Option ℕ) → o ≡ cond b (Some i) (option_map (λ r. i + 1 + r) later) → o ≡ option_map (λ r. i + r) (cond b (Some 0) (option_map suc later))
moved i true later o e = let z : i ≡ i + 0 = omega arith in e ∙ ap Some z
moved i false None o e = e
moved i false (Some r) o e = let z : i + 1 + r ≡ i + suc r = omega arith in e ∙ ap Some z

from_first : (name : List ℕ) (test : ℕ → Bool) (i : ℕ) (es : List DirEntry) → ((r : ℕ) (e : DirEntry) → slice_get es r ≡ Some e → test (i + r) ≡ bytes_eq (name_in e) name)
    → least_from test i (length es) ≡ option_map (λ r. i + r) (place_of_name name es)
from_first name test i [] h = from_none test i
from_first name test i (e ∷ es) h =
    moved i (bytes_eq (name_in e) name) (place_of_name name es) (least_from test i (suc (length es)))
    (go (bytes_eq (name_in e) name) here (from_first name test (i + 1) es (λ r d g. let z : i + 1 + r ≡ i + suc r = omega arith in ap test z ∙ h (suc r) d g)))
  where
    here : test i ≡ bytes_eq (name_in e) name
    here = let z : i ≡ i + 0 = omega arith in ap test z ∙ h 0 e refl

    go : (b : Bool) → test i ≡ b → least_from test (i + 1) (length es) ≡ option_map (λ r. i + 1 + r) (place_of_name name es)
        → least_from test i (suc (length es)) ≡ cond b (Some i) (option_map (λ r. i + 1 + r) (place_of_name name es))
    go true t e = from_here test i (length es) t
    go false t e = from_next test i (length es) t ∙ e

same_places : (o : Option ℕ) → option_map (λ r. 0 + r) o ≡ o
same_places None = refl
same_places (Some r) = let z : 0 + r ≡ r = omega arith in ap Some z

pub named_least : (name : List ℕ) (x : DirSector) → is_name name ≡ true → length x.entries ≡ 7 → place_of_name name x.entries ≡ least (λ r. is_named name (entries_at x r)) 7
named_least name x n l =
    let test : ℕ → Bool = λ r. is_named name (entries_at x r) in
    let each : (r : ℕ) (e : DirEntry) → slice_get x.entries r ≡ Some e → test (0 + r) ≡ bytes_eq (name_in e) name =
    λ r e g. (let z : 0 + r ≡ r = omega arith in ap test z ∙ ap (λ o. is_named name (stored_entry o)) g ∙ named_entry name e n) in
    sym (least_below test 7 ∙ ap (least_from test 0) (sym l) ∙ from_first name test 0 x.entries each ∙ same_places (place_of_name name x.entries))

pub within : (test : ℕ → Bool) (n : ℕ) (o : Option ℕ) → o ≡ least test n → IfSome o (λ r. r < n)
within test n None e = tt
within test n (Some r) e = (least_some test n r (sym e)).1

-- ---- hits
pub no_hit : (test : Option StoredEntry → Bool) (j : ℕ) (f : ℕ → Option StoredEntry) (o : Option ℕ) → None ≡ o → None ≡ hit test j f o
no_hit test j f o e = ap (hit test j f) e

used_entry : (name : List ℕ) (e : DirEntry) → is_named name (stored_entry (Some e)) ≡ true → stored_entry (Some e) ≡ Some (entered e)
used_entry name e h = go (is_free_place e) h
  where
    go : (b : Bool) → is_named name (cond b None (Some (entered e))) ≡ true → cond b None (Some (entered e)) ≡ Some (entered e)
    go true h = absurd (cc)
    go false h = refl

abbrev pub placed : ℕ → Option StoredEntry → Found
placed q e = (q, e)

pub named_hit : (name : List ℕ) (x : DirSector) (j r a b : ℕ) (e : DirEntry) → a ≡ r → b ≡ r → slice_get x.entries a ≡ Some e → Some r ≡ least (λ r. is_named name (entries_at x r)) 7
    → Some (placed (7 * j + b) (Some (entered e))) ≡ hit (is_named name) j (entries_at x) (least (λ r. is_named name (entries_at x r)) 7)
named_hit name x j r a b e ea eb ga l =
    let g : slice_get x.entries r ≡ Some e = subst (λ a. slice_get x.entries a ≡ Some e) ea ga in
    let t : is_named name (entries_at x r) ≡ true = (least_some (λ r. is_named name (entries_at x r)) 7 r (sym l)).0 in
    let u : entries_at x r ≡ Some (entered e) = ap stored_entry g ∙ used_entry name e (sym (ap (λ o. is_named name (stored_entry o)) g) ∙ t) in
    ap (λ b. Some (placed (7 * j + b) (Some (entered e)))) eb ∙ ap (λ v. Some (placed (7 * j + r) v)) (sym u) ∙ ap (hit (is_named name) j (entries_at x)) l

vacant_is : (o : Option StoredEntry) → is_vacant o ≡ true → None ≡ o
vacant_is None h = refl
vacant_is (Some e) h = absurd (cc)

pub vacant_hit : (x : DirSector) (j r : ℕ) → Some r ≡ least (λ r. is_vacant (entries_at x r)) 7
    → Some (placed (7 * j + r) None) ≡ hit is_vacant j (entries_at x) (least (λ r. is_vacant (entries_at x r)) 7)
vacant_hit x j r l =
    let t : is_vacant (entries_at x r) ≡ true = (least_some (λ r. is_vacant (entries_at x r)) 7 r (sym l)).0 in
    ap (λ v. Some (placed (7 * j + r) v)) (vacant_is (entries_at x r) t) ∙ ap (hit is_vacant j (entries_at x)) l
