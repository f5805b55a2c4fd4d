-- There are no faults exactly where each sector is fine by each rule.
use Rattle.std.proofs.Common.{◌≡◌, ℕ, ◌*◌, ◌<◌, Bool, true, false, [], ◌++◌, refl, ap}
use Rattle.disk_definitions.specs.declared.region.Region.TheVariants as region
use Rattle.disk_definitions.specs.Regions.{sector_of}
use Rattle.report_definitions.specs.Sums.{gathered}
use Rattle.report_definitions.specs.View.{View}
use Rattle.report_definitions.specs.Rules.{is_root_fine, is_sector_fine, are_entries_fine, is_count_fine, is_named_once, are_blocks_fine, are_bits_fine, is_segment_fine, is_mark_fine}
use Rattle.report_definitions.specs.Report.{fault_unless, segment_faults, inode_faults, part_faults, faults_of}
use Rattle.report_definitions.proofs.SumLaws.{both_empty, empty_both, none_gathered, gathered_none}

-- each sector passes each rule
pub record IsFine (v : View) (r : ℕ → Bool) : Type 0 where
  pub bits : (k : ℕ) → k < v.segments → are_bits_fine v r k ≡ true
  pub fit : (k : ℕ) → k < v.segments → is_segment_fine v r k ≡ true
  pub marks : (k : ℕ) → k < v.segments → is_mark_fine v r k ≡ true
  pub root : (i : ℕ) → i < 64 * v.segments → is_root_fine v i ≡ true
  pub counts : (i : ℕ) → i < 64 * v.segments → is_count_fine v r i ≡ true
  pub once : (i : ℕ) → i < 64 * v.segments → is_named_once v r i ≡ true
  pub blocks : (i : ℕ) → i < 64 * v.segments → are_blocks_fine v r i ≡ true
  pub parts : (b p : ℕ) → b < 1024 * v.segments → p < 8 → is_sector_fine v r b p ≡ true
  pub entries : (b p : ℕ) → b < 1024 * v.segments → p < 8 → are_entries_fine v r b p ≡ true

none_fine : (b : Bool) (sector kind : ℕ) → fault_unless b sector kind ≡ [] → b ≡ true
none_fine true sector kind h = refl
none_fine false sector kind h = absurd (cc)

fine_none : (b : Bool) (sector kind : ℕ) → b ≡ true → fault_unless b sector kind ≡ []
fine_none b sector kind h = ap (λ (t : Bool). fault_unless t sector kind) h

module _ (v : View) (r : ℕ → Bool) where
  segment_parts : (k : ℕ) → segment_faults v r k ≡ [] → (are_bits_fine v r k ≡ true) × (is_segment_fine v r k ≡ true) × (is_mark_fine v r k ≡ true)
  segment_parts k h =
      let at = sector_of (region.Segment k) in
      let p = both_empty (fault_unless (are_bits_fine v r k) at 7 ++ fault_unless (is_segment_fine v r k) at 8) (fault_unless (is_mark_fine v r k) at 9) h in
      let q = both_empty (fault_unless (are_bits_fine v r k) at 7) (fault_unless (is_segment_fine v r k) at 8) p.0 in
      (none_fine (are_bits_fine v r k) at 7 q.0, none_fine (is_segment_fine v r k) at 8 q.1, none_fine (is_mark_fine v r k) at 9 p.1)

  inode_parts : (i : ℕ) → inode_faults v r i ≡ [] → (is_root_fine v i ≡ true) × (is_count_fine v r i ≡ true) × (is_named_once v r i ≡ true) × (are_blocks_fine v r i ≡ true)
  inode_parts i h =
      let at = sector_of (region.Inode i) in
      let a = fault_unless (is_root_fine v i) at 1 in
      let b = fault_unless (is_count_fine v r i) at 4 in
      let c = fault_unless (is_named_once v r i) at 5 in
      let d = fault_unless (are_blocks_fine v r i) at 6 in
      let p = both_empty ((a ++ b) ++ c) d h in
      let q = both_empty (a ++ b) c p.0 in
      let s = both_empty a b q.0 in
      (none_fine (is_root_fine v i) at 1 s.0, none_fine (is_count_fine v r i) at 4 s.1, none_fine (is_named_once v r i) at 5 q.1, none_fine (are_blocks_fine v r i) at 6 p.1)

  part_parts : (b p : ℕ) → part_faults v r b p ≡ [] → (is_sector_fine v r b p ≡ true) × (are_entries_fine v r b p ≡ true)
  part_parts b p h =
      let at = sector_of (region.Small b p) in
      let q = both_empty (fault_unless (is_sector_fine v r b p) at 2) (fault_unless (are_entries_fine v r b p) at 3) h in
      (none_fine (is_sector_fine v r b p) at 2 q.0, none_fine (are_entries_fine v r b p) at 3 q.1)

  pub fine_where_none : faults_of v r ≡ [] → IsFine v r
  fine_where_none h =
      let all = both_empty (gathered v.segments (segment_faults v r) ++ gathered (64 * v.segments) (inode_faults v r)) (gathered (1024 * v.segments) (λ b. gathered 8 (part_faults v r b))) h in
      let two = both_empty (gathered v.segments (segment_faults v r)) (gathered (64 * v.segments) (inode_faults v r)) all.0 in
      record {
        bits = λ k l. (segment_parts k (none_gathered v.segments (segment_faults v r) two.0 k l)).0;
        fit = λ k l. (segment_parts k (none_gathered v.segments (segment_faults v r) two.0 k l)).1;
        marks = λ k l. (segment_parts k (none_gathered v.segments (segment_faults v r) two.0 k l)).2;
        root = λ i l. (inode_parts i (none_gathered (64 * v.segments) (inode_faults v r) two.1 i l)).0;
        counts = λ i l. (inode_parts i (none_gathered (64 * v.segments) (inode_faults v r) two.1 i l)).1;
        once = λ i l. (inode_parts i (none_gathered (64 * v.segments) (inode_faults v r) two.1 i l)).2;
        blocks = λ i l. (inode_parts i (none_gathered (64 * v.segments) (inode_faults v r) two.1 i l)).3;
        parts = λ b p l w. (part_parts b p (none_gathered 8 (part_faults v r b) (none_gathered (1024 * v.segments) (λ b. gathered 8 (part_faults v r b)) all.1 b l) p w)).0;
        entries = λ b p l w. (part_parts b p (none_gathered 8 (part_faults v r b) (none_gathered (1024 * v.segments) (λ b. gathered 8 (part_faults v r b)) all.1 b l) p w)).1;
      }

  pub none_where_fine : IsFine v r → faults_of v r ≡ []
  none_where_fine f = empty_both (gathered v.segments (segment_faults v r) ++ gathered (64 * v.segments) (inode_faults v r)) (gathered (1024 * v.segments) (λ b. gathered 8 (part_faults v r b)))
      (empty_both (gathered v.segments (segment_faults v r)) (gathered (64 * v.segments) (inode_faults v r))
      (gathered_none v.segments (segment_faults v r) segment)
      (gathered_none (64 * v.segments) (inode_faults v r) inode))
      (gathered_none (1024 * v.segments) (λ b. gathered 8 (part_faults v r b)) (λ b l. gathered_none 8 (part_faults v r b) (λ p w. part b p l w)))
    where
      segment : (k : ℕ) → k < v.segments → segment_faults v r k ≡ []
      segment k l =
          let at = sector_of (region.Segment k) in
          empty_both (fault_unless (are_bits_fine v r k) at 7 ++ fault_unless (is_segment_fine v r k) at 8) (fault_unless (is_mark_fine v r k) at 9)
          (empty_both (fault_unless (are_bits_fine v r k) at 7) (fault_unless (is_segment_fine v r k) at 8) (fine_none (are_bits_fine v r k) at 7 (f.bits k l)) (fine_none (is_segment_fine v r k) at 8 (f.fit k l)))
          (fine_none (is_mark_fine v r k) at 9 (f.marks k l))

      inode : (i : ℕ) → i < 64 * v.segments → inode_faults v r i ≡ []
      inode i l =
          let at = sector_of (region.Inode i) in
          let a = fault_unless (is_root_fine v i) at 1 in
          let b = fault_unless (is_count_fine v r i) at 4 in
          let c = fault_unless (is_named_once v r i) at 5 in
          let d = fault_unless (are_blocks_fine v r i) at 6 in
          empty_both ((a ++ b) ++ c) d
          (empty_both (a ++ b) c (empty_both a b (fine_none (is_root_fine v i) at 1 (f.root i l)) (fine_none (is_count_fine v r i) at 4 (f.counts i l))) (fine_none (is_named_once v r i) at 5 (f.once i l)))
          (fine_none (are_blocks_fine v r i) at 6 (f.blocks i l))

      part : (b p : ℕ) → b < 1024 * v.segments → p < 8 → part_faults v r b p ≡ []
      part b p l w =
          let at = sector_of (region.Small b p) in
          empty_both (fault_unless (is_sector_fine v r b p) at 2) (fault_unless (are_entries_fine v r b p) at 3) (fine_none (is_sector_fine v r b p) at 2 (f.parts b p l w)) (fine_none (are_entries_fine v r b p) at 3 (f.entries b p l w))
