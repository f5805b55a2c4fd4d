-- Faults that are pushed one after another.
use Rattle.std.proofs.Common.{◌≡◌, ℕ, Bool, List, [], ◌++◌, ◌∙◌, ap, append_assoc}
use Rattle.disk_definitions.specs.declared.region.Region.TheVariants as region
use Rattle.disk_definitions.specs.Regions.{sector_of}
use Rattle.report_definitions.specs.Sums.{Fault}
use Rattle.report_definitions.specs.View.{View}
use Rattle.report_definitions.specs.Rules as rules
use Rattle.report_definitions.specs.Report.{fault_unless, segment_faults, inode_faults, part_faults}

-- more after more
pushed_then : (before now new x y : List Fault) → now ≡ before ++ x → new ≡ now ++ y → new ≡ before ++ (x ++ y)
pushed_then before now new x y a b = b ∙ ap (λ (l : List Fault). l ++ y) a ∙ append_assoc before x y

-- what is pushed is by the rule that was asked
one_pushed : (sector kind : ℕ) (before now : List Fault) (fine rule : Bool) → fine ≡ rule → now ≡ before ++ fault_unless fine sector kind → now ≡ before ++ fault_unless rule sector kind
one_pushed sector kind before now fine rule e a = a ∙ ap (λ b. before ++ fault_unless b sector kind) e

module _ (sector j k : ℕ) (l0 l1 l2 : List Fault) (a b f g : Bool) (ea : a ≡ f) (eb : b ≡ g) (pa : l1 ≡ l0 ++ fault_unless a sector j) (pb : l2 ≡ l1 ++ fault_unless b sector k) where
  two_pushed : l2 ≡ l0 ++ (fault_unless f sector j ++ fault_unless g sector k)
  two_pushed = pushed_then l0 l1 l2 (fault_unless f sector j) (fault_unless g sector k) (one_pushed sector j l0 l1 a f ea pa) (one_pushed sector k l1 l2 b g eb pb)

  module _ (m : ℕ) (l3 : List Fault) (c h : Bool) (ec : c ≡ h) (pc : l3 ≡ l2 ++ fault_unless c sector m) where
    three_pushed : l3 ≡ l0 ++ (fault_unless f sector j ++ fault_unless g sector k ++ fault_unless h sector m)
    three_pushed = pushed_then l0 l2 l3 (fault_unless f sector j ++ fault_unless g sector k) (fault_unless h sector m) two_pushed (one_pushed sector m l2 l3 c h ec pc)

    four_pushed : (n : ℕ) (l4 : List Fault) (d i : Bool) → d ≡ i → l4 ≡ l3 ++ fault_unless d sector n → l4 ≡ l0 ++ (fault_unless f sector j ++ fault_unless g sector k ++ fault_unless h sector m ++ fault_unless i sector n)
    four_pushed n l4 d i ed pd =
        pushed_then l0 l3 l4 (fault_unless f sector j ++ fault_unless g sector k ++ fault_unless h sector m) (fault_unless i sector n) three_pushed (one_pushed sector n l3 l4 d i ed pd)

-- what the rules tell of a segment, an inode and a part
module _ (v : View) (r : ℕ → Bool) (l0 l1 l2 : List Fault) (a b : Bool) where
  pub part_pushed : (k p : ℕ) → a ≡ rules.is_sector_fine v r k p → b ≡ rules.are_entries_fine v r k p
      → l1 ≡ l0 ++ fault_unless a (sector_of (region.Small k p)) 2 → l2 ≡ l1 ++ fault_unless b (sector_of (region.Small k p)) 3 → l2 ≡ l0 ++ part_faults v r k p
  part_pushed k p ea eb pa pb = two_pushed (sector_of (region.Small k p)) 2 3 l0 l1 l2 a b (rules.is_sector_fine v r k p) (rules.are_entries_fine v r k p) ea eb pa pb

  module _ (l3 : List Fault) (c : Bool) where
    pub segment_pushed : (k : ℕ) → a ≡ rules.are_bits_fine v r k → b ≡ rules.is_segment_fine v r k → c ≡ rules.is_mark_fine v r k
        → l0 ≡ [] → l1 ≡ l0 ++ fault_unless a (sector_of (region.Segment k)) 7 → l2 ≡ l1 ++ fault_unless b (sector_of (region.Segment k)) 8 → l3 ≡ l2 ++ fault_unless c (sector_of (region.Segment k)) 9 → l3 ≡ segment_faults v r k
    segment_pushed k ea eb ec none pa pb pc =
        three_pushed (sector_of (region.Segment k)) 7 8 l0 l1 l2 a b (rules.are_bits_fine v r k) (rules.is_segment_fine v r k) ea eb pa pb
        9 l3 c (rules.is_mark_fine v r k) ec pc
        ∙ ap (λ (l : List Fault). l ++ segment_faults v r k) none

    pub inode_pushed : (i : ℕ) (l4 : List Fault) (d : Bool) → a ≡ rules.is_root_fine v i → b ≡ rules.is_count_fine v r i → c ≡ rules.is_named_once v r i → d ≡ rules.are_blocks_fine v r i
        → l1 ≡ l0 ++ fault_unless a (sector_of (region.Inode i)) 1 → l2 ≡ l1 ++ fault_unless b (sector_of (region.Inode i)) 4
        → l3 ≡ l2 ++ fault_unless c (sector_of (region.Inode i)) 5 → l4 ≡ l3 ++ fault_unless d (sector_of (region.Inode i)) 6 → l4 ≡ l0 ++ inode_faults v r i
    inode_pushed i l4 d ea eb ec ed pa pb pc pd =
        four_pushed (sector_of (region.Inode i)) 1 4 l0 l1 l2 a b (rules.is_root_fine v i) (rules.is_count_fine v r i) ea eb pa pb
        5 l3 c (rules.is_named_once v r i) ec pc 6 l4 d (rules.are_blocks_fine v r i) ed pd
