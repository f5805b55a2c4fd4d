-- An entry that is read from a sector may stand there again, and so it is with all that a disk says.
use Rattle.std.proofs.Common.{◌≡◌, ℕ, zero, suc, ◌*◌, ◌/◌, ◌%◌, ◌^◌, ◌<◌, ⊎_elim, Bool, true, false, nat_lt, nat_le, cond, Option, Some, None, List, [], ◌∷◌, refl, subst, arith, leb-true, ltb-true}
use Rattle.std.specs.List.{list_all, slice_get}
use Rattle.std.proofs.lemmas.Bool.{and_parts, or_cases, both_ways}
use Rattle.frang_base.specs.Name.{is_name}
use Rattle.disk_definitions.specs.declared.directory.DirEntry.{DirEntry}
use Rattle.disk_definitions.specs.declared.directory.DirSector.{DirSector}
use Rattle.disk_definitions.specs.declared.region.Region.TheVariants as region
use Rattle.disk_definitions.specs.Regions.{sector_of}
use Rattle.disk_definitions.specs.Inodes.{inode_in}
use Rattle.disk_definitions.specs.Directories.{name_in, is_free_place, is_used_place, entry_fits, directory_in}
use Rattle.disk_definitions.proofs.DirectoryLaws.{IsStorableEntry, AreStorable, directory_read}
use Rattle.disk_definitions.proofs.Readings.{and_l, and_r}
use Rattle.disk_definitions.specs.Store.{StoredNode, StoredEntry, stored_node, stored_entry, entry_in, directory_at, entered}
use Rattle.disk_definitions.specs.FitEdits.{IsFitNode, IsFitEntry}
use Rattle.plan_fit.proofs.Grammar.{directory_storable}
use Rattle.plan_fit.specs.FitDisks.{DisksAreFit}
use Rattle.plan_fit.proofs.DecodedNodes.{stored_fit}

-- one of a list
one_fits : (es : List DirEntry) (p : ℕ) (e : DirEntry) → slice_get es p ≡ Some e → AreStorable es → list_all entry_fits es ≡ true → IsStorableEntry e × (entry_fits e ≡ true)
one_fits [] p e g all fit = absurd (cc)
one_fits (d ∷ ds) zero e g all fit = let s : d ≡ e = cc in subst (λ z. IsStorableEntry z × (entry_fits z ≡ true)) s (all.0, (and_parts (entry_fits d) (list_all entry_fits ds) fit).0)
one_fits (d ∷ ds) (suc p) e g all fit = one_fits ds p e g all.1 (and_parts (entry_fits d) (list_all entry_fits ds) fit).1

used_fits : (e : DirEntry) → IsStorableEntry e → is_used_place e ≡ true → IsFitEntry (entered e)
used_fits e storable h =
    let some : nat_le 1 e.kind ≡ true = search (and_l, and_r) depth 12 in
    let kind : nat_le e.kind 3 ≡ true = search (and_l, and_r) depth 12 in
    let name : is_name (name_in e) ≡ true = search (and_l, and_r) depth 12 in
    let small : e.inode < 256 ^ 4 = storable.inode in
    record { name = name; inode = omega arith; some = leb-true 1 e.kind some; kind = leb-true e.kind 3 kind }

entry_kept : (e : DirEntry) (y : StoredEntry) → IsStorableEntry e → entry_fits e ≡ true → stored_entry (Some e) ≡ Some y → IsFitEntry y
entry_kept e y storable fit h = go (is_free_place e) refl h
  where
    go : (b : Bool) → is_free_place e ≡ b → cond b None (Some (entered e)) ≡ Some y → IsFitEntry y
    go true f h = absurd (cc)
    go false f h =
        let s : entered e ≡ y = cc in
        subst IsFitEntry s (⊎_elim (λ i. absurd (both_ways (is_free_place e) f i)) (λ i. used_fits e storable i) (or_cases (is_free_place e) (is_used_place e) fit))

placed_fit : (block : List ℕ) (p : ℕ) (y : StoredEntry) → entry_in (directory_in block) p ≡ Some y → IsFitEntry y
placed_fit block p y h = go (directory_in block) refl h
  where
    get : (x : DirSector) → directory_in block ≡ Some x → (o : Option DirEntry) → slice_get x.entries p ≡ o → stored_entry o ≡ Some y → IsFitEntry y
    get x i None g h = absurd (cc)
    get x i (Some e) g h = let r = one_fits x.entries p e g (directory_storable block x i).entries (directory_read block x i).1 in entry_kept e y r.0 r.1 h

    go : (o : Option DirSector) → directory_in block ≡ o → entry_in o p ≡ Some y → IsFitEntry y
    go None i h = absurd (cc)
    go (Some x) i h = get x i (slice_get x.entries p) refl h

pub disks_fit : DisksAreFit
disks_fit sectors segments grammar whole = record {
  nodes = λ i x e. node i x (nat_lt i (64 * segments)) refl e;
  entries = λ k p y l used e. entry k p y (nat_lt k (1024 * segments)) e;
}
  where
    node : (i : ℕ) (x : StoredNode) (b : Bool) → nat_lt i (64 * segments) ≡ b → cond b (stored_node (inode_in (sectors (sector_of (region.Inode i))))) None ≡ Some x → (i < 64 * segments) × IsFitNode x
    node i x true t e = (ltb-true i (64 * segments) t, stored_fit (sectors (sector_of (region.Inode i))) x (whole (sector_of (region.Inode i))) e)
    node i x false t e = absurd (cc)

    entry : (k p : ℕ) (y : StoredEntry) (b : Bool) → cond b (entry_in (directory_at sectors k (p / 7)) (p % 7)) None ≡ Some y → IsFitEntry y
    entry k p y true e = placed_fit (sectors (sector_of (region.Small k (p / 7)))) (p % 7) y e
    entry k p y false e = absurd (cc)
