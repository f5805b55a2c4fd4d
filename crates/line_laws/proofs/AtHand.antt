-- What is at hand of the sectors that a plan looks at is the disk's.
use Rattle.std.proofs.Common.{◌≡◌, ℕ, ◌+◌, ◌*◌, ◌/◌, ◌%◌, ◌<◌, ◌≤◌, ⊎_elim, Option, Some, None, List, [], ◌∷◌, slice_index, length, refl, sym, ◌∙◌, ap, ap₂, arith}
use Rattle.std.proofs.Math.Path.{fun_ext}
use Rattle.std.proofs.lemmas.Bool.{cases_lt, le-ltb, lt-ltb}
use Rattle.std.proofs.lemmas.Option.{slice_get_past}
use Rattle.std.proofs.lemmas.List.{get_or_past}
use Rattle.disk_definitions.specs.declared.region.Region.TheVariants as region
use Rattle.disk_definitions.specs.declared.directory.DirSector.{DirSector}
use Rattle.disk_definitions.specs.Inodes.{inode_in}
use Rattle.disk_definitions.specs.Directories.{directory_in}
use Rattle.disk_definitions.specs.Regions.{sector_of}
use Rattle.sector_bytes.specs.SectorMaps.{value_at}
use Rattle.sector_bytes.specs.Sectors.{Sectors}
use Rattle.disk_definitions.specs.Store.{Store, StoredNode, StoredEntry, stored_node, stored_entry, entry_in, directory_at, store_of}
use Rattle.disk_definitions.specs.Held.{Segments}
use Rattle.disk_definitions.specs.Ask.{Sector, InodeAt, DirectoryAt, SegmentAt, BytesAt, LargeAt, seven, part_of}
use Rattle.disk_definitions.specs.Written.{Cached, inode_at_hand, directory_at_hand, bytes_at_hand, at_hand}
use Rattle.plan_fit.proofs.Grammar.{directory_storable}
use Rattle.plan_laws.specs.Inside.{AreInside, AgreesWhereAll}

-- past the seven places of a sector no entry is said
past_seven : (block : List ℕ) (r : ℕ) → 7 ≤ r → entry_in (directory_in block) r ≡ None
past_seven block r l = go (directory_in block) refl
  where
    go : (o : Option DirSector) → directory_in block ≡ o → entry_in o r ≡ None
    go None e = refl
    go (Some x) e = let long : length x.entries ≡ 7 = (directory_storable block x e).seven in ap stored_entry (slice_get_past x.entries r (omega arith))

module _ (cached : Cached) (held : Segments) (segments : ℕ) (sectors : Sectors) (as_cached : (sector : ℕ) (block : List ℕ) → value_at cached sector ≡ Some block → block ≡ sectors sector) (whole : (sector : ℕ) → length (sectors sector) ≡ 512) where
  abbrev s : Store
  s = store_of segments sectors

  inode_agrees : (i : ℕ) → i < 64 * segments → (o : Option (List ℕ)) → value_at cached (sector_of (region.Inode i)) ≡ o → (x : Option StoredNode) → inode_at_hand cached i ≡ Some x → x ≡ s.inode i
  inode_agrees i l None e x h = let z : inode_at_hand cached i ≡ None = rw e refl in absurd (cc)
  inode_agrees i l (Some block) e x h =
      let there : inode_at_hand cached i ≡ Some (stored_node (inode_in block)) = rw e refl in
      let is : x ≡ stored_node (inode_in block) = cc in
      is ∙ ap (λ block. stored_node (inode_in block)) (as_cached (sector_of (region.Inode i)) block e) ∙ sym (rw (lt-ltb i (64 * segments) l) refl)

  seven_is : (k part : ℕ) → k < 1024 * segments → entry_in (directory_in (sectors (sector_of (region.Small k part)))) ≡ seven s.place k part
  seven_is k part l = fun_ext (λ r. ⊎_elim (inside r) (outside r) (cases_lt r 7))
    where
      inside : (r : ℕ) → r < 7 → entry_in (directory_in (sectors (sector_of (region.Small k part)))) r ≡ seven s.place k part r
      inside r m =
          let a : (7 * part + r) / 7 ≡ part = omega arith in
          let b : (7 * part + r) % 7 ≡ r = omega arith in
          rw (lt-ltb r 7 m, lt-ltb k (1024 * segments) l) (sym (ap₂ (λ p q. entry_in (directory_at sectors k p) q) a b))

      outside : (r : ℕ) → 7 ≤ r → entry_in (directory_in (sectors (sector_of (region.Small k part)))) r ≡ seven s.place k part r
      outside r m = past_seven (sectors (sector_of (region.Small k part))) r m ∙ sym (rw (le-ltb r 7 m) refl)

  directory_agrees : (k part : ℕ) → k < 1024 * segments → (o : Option (List ℕ)) → value_at cached (sector_of (region.Small k part)) ≡ o → (x : ℕ → Option StoredEntry) → directory_at_hand cached k part ≡ Some x → x ≡ seven s.place k part
  directory_agrees k part l None e x h = let z : directory_at_hand cached k part ≡ None = rw e refl in absurd (cc)
  directory_agrees k part l (Some block) e x h =
      let there : directory_at_hand cached k part ≡ Some (entry_in (directory_in block)) = rw e refl in
      let is : x ≡ entry_in (directory_in block) = cc in
      is ∙ ap (λ block. entry_in (directory_in block)) (as_cached (sector_of (region.Small k part)) block e) ∙ seven_is k part l

  -- the bytes of a sector, as the whole block has them
  part_is : (byte : ℕ → ℕ → ℕ) (at : ℕ → ℕ → ℕ) → ((k j : ℕ) → byte k j ≡ slice_index (sectors (at k (j / 512))) (j % 512)) → (k part : ℕ) → slice_index (sectors (at k part)) ≡ part_of byte k part
  part_is byte at is k part = fun_ext (λ r. ⊎_elim (inside r) (outside r) (cases_lt r 512))
    where
      inside : (r : ℕ) → r < 512 → slice_index (sectors (at k part)) r ≡ part_of byte k part r
      inside r m =
          let a : (512 * part + r) / 512 ≡ part = omega arith in
          let b : (512 * part + r) % 512 ≡ r = omega arith in
          rw (lt-ltb r 512 m) (sym (is k (512 * part + r) ∙ ap₂ (λ p q. slice_index (sectors (at k p)) q) a b))

      outside : (r : ℕ) → 512 ≤ r → slice_index (sectors (at k part)) r ≡ part_of byte k part r
      outside r m = let long : length (sectors (at k part)) ≡ 512 = whole (at k part) in get_or_past (sectors (at k part)) r 0 (omega arith) ∙ sym (rw (le-ltb r 512 m) refl)

  bytes_agree : (sector : ℕ) (o : Option (List ℕ)) → value_at cached sector ≡ o → (x : ℕ → ℕ) → bytes_at_hand cached sector ≡ Some x → x ≡ slice_index (sectors sector)
  bytes_agree sector None e x h = let z : bytes_at_hand cached sector ≡ None = rw e refl in absurd (cc)
  bytes_agree sector (Some block) e x h =
      let there : bytes_at_hand cached sector ≡ Some (slice_index block) = rw e refl in
      let is : x ≡ slice_index block = cc in
      is ∙ ap slice_index (as_cached sector block e)

  pub agrees : (xs : List Sector) → AreInside segments xs → AgreesWhereAll (at_hand cached held) s xs
  agrees [] a = tt
  agrees (InodeAt i ∷ xs) a = (inode_agrees i a.0 (value_at cached (sector_of (region.Inode i))) refl, agrees xs a.1)
  agrees (DirectoryAt k part ∷ xs) a = (directory_agrees k part a.0 (value_at cached (sector_of (region.Small k part))) refl, agrees xs a.1)
  agrees (SegmentAt k ∷ xs) a = (tt, agrees xs a.1)
  agrees (BytesAt k part ∷ xs) a =
      (λ x h. bytes_agree (sector_of (region.Small k part)) (value_at cached (sector_of (region.Small k part))) refl x h ∙ part_is s.byte (λ k p. sector_of (region.Small k p)) (λ k j. refl) k part, agrees xs a.1)
  agrees (LargeAt g part ∷ xs) a =
      (λ x h. bytes_agree (sector_of (region.Large g part)) (value_at cached (sector_of (region.Large g part))) refl x h ∙ part_is s.large_byte (λ g p. sector_of (region.Large g p)) (λ g j. refl) g part, agrees xs a.1)
