-- Two edits of file bytes of a finished line that write one sector are one.
use Rattle.std.proofs.Common.{ℕ, ◌≡◌, ◌≤◌, ◌<◌, ◌-◌, ◌*◌, ◌/◌, ◌%◌, Bool, true, false, nat_lt, max, if◌then◌else◌, Some, refl, sym, ◌∙◌, ap, subst, arith}
use Rattle.std.specs.List.{Contains}
use Rattle.frang_base.specs.declared.op.Op.{Op}
use Rattle.disk_definitions.specs.declared.region.Region.TheVariants as region
use Rattle.disk_definitions.proofs.RegionLaws.{region_once}
use Rattle.tree_definitions.specs.Perform.{Step, Goes, Stops, perform, perform_step, resolved}
use Rattle.tree_definitions.specs.Tree.{FileTree, node_at}
use Rattle.tree_definitions.specs.WellFormed.{IsWellFormed}
use Rattle.disk_definitions.specs.Naming.{Naming}
use Rattle.disk_definitions.specs.Store.{Store, StoredNode}
use Rattle.disk_definitions.specs.Edits.{Edit, edited_all}
use Rattle.disk_definitions.specs.Edits.Edit.{SetBytes, SetLargeBytes}
use Rattle.disk_definitions.specs.ChangeLaws.{FilesFit}
use Rattle.disk_definitions.specs.Ask.{Sector, InodeAt, DirectoryAt, SegmentAt, BytesAt, LargeAt, number_of, run}
use Rattle.disk_definitions.specs.FilePlans.{end_of, mixed, set_sector}
use Rattle.disk_definitions.specs.Meets.{IsOfTree, IsHandOf}
use Rattle.disk_definitions.specs.Plans.{Hand, Finish}
use Rattle.disk_definitions.specs.Plans.Plan.{Finishes}
use Rattle.disk_definitions.specs.Walks.{walk}
use Rattle.disk_definitions.specs.Written.{edit_sector, is_metadata}
use Rattle.plan_fit.proofs.Kept.{in_small, in_large}
use Rattle.plan_laws.specs.Keeping.{FinishKeeps, PlanKeeps}
use Rattle.plan_laws.proofs.Fitting.{files_stay_fit}
use Rattle.line_laws.proofs.Planned.{lines_planned}
use Rattle.disk_definitions.specs.Lines.{plan_of_line}
use Rattle.line_histories.specs.Files.{file_sector}
use Rattle.line_histories.proofs.Filled.{IsInUse, in_use}
use Rattle.line_histories.specs.Sectors.{Asked, asked_of, bytes_kept, spot_inode, IsPiece}
use Rattle.line_histories.proofs.Laws.{lines_write_pieces}
use Rattle.line_histories.proofs.PartsMeeting.{begins_below}
use Rattle.line_histories.proofs.Owners.{same_part}
use Rattle.line_sectors.specs.Sets.{LinesSetSectorsOnce}

-- sectors of bytes that are in use, with one number, are one
sector_once : (segments : ℕ) (s : Store) → segments ≤ 64 → (x y : Sector) → IsInUse segments s x → IsInUse segments s y → number_of x ≡ number_of y → x ≡ y
sector_once segments s few (BytesAt k p) (BytesAt j q) u v e =
    let same = region_once segments (region.Small k p) (region.Small j q) few (in_small segments k p u.1 u.2) (in_small segments j q v.1 v.2) e in
    cc
sector_once segments s few (LargeAt g p) (LargeAt h q) u v e =
    let same = region_once segments (region.Large g p) (region.Large h q) few (in_large segments g p u.1 u.2) (in_large segments h q v.1 v.2) e in
    cc
sector_once segments s few (BytesAt k p) (LargeAt g q) u v e =
    let same = region_once segments (region.Small k p) (region.Large g q) few (in_small segments k p u.1 u.2) (in_large segments g q v.1 v.2) e in
    absurd (cc)
sector_once segments s few (LargeAt g p) (BytesAt k q) u v e =
    let same = region_once segments (region.Large g p) (region.Small k q) few (in_large segments g p u.1 u.2) (in_small segments k q v.1 v.2) e in
    absurd (cc)
sector_once segments s few (InodeAt i) y u v e = absurd u
sector_once segments s few (DirectoryAt k p) y u v e = absurd u
sector_once segments s few (SegmentAt k) y u v e = absurd u
sector_once segments s few (BytesAt k p) (InodeAt i) u v e = absurd v
sector_once segments s few (BytesAt k p) (DirectoryAt j q) u v e = absurd v
sector_once segments s few (BytesAt k p) (SegmentAt j) u v e = absurd v
sector_once segments s few (LargeAt g p) (InodeAt i) u v e = absurd v
sector_once segments s few (LargeAt g p) (DirectoryAt j q) u v e = absurd v
sector_once segments s few (LargeAt g p) (SegmentAt j) u v e = absurd v

sector_set : (y : StoredNode) (t : ℕ) (bytes : ℕ → ℕ) → edit_sector (set_sector y t bytes) ≡ number_of (file_sector y t)
sector_set y t bytes = go (nat_lt t 128)
  where
    go : (b : Bool) → edit_sector (if b then SetBytes (y.small (t / 8)) (t % 8) bytes else SetLargeBytes (y.large - 1) (t - 128) bytes)
        ≡ number_of (if b then BytesAt (y.small (t / 8)) (t % 8) else LargeAt (y.large - 1) (t - 128))
    go true = refl
    go false = refl

module _ (o : Op) (h : Hand) (s : Store) (tree : FileTree) (n : Naming) (birth when : ℕ) (f : Finish) (of : IsOfTree s tree n) (hand : IsHandOf h s tree.segments)
    (is : run (plan_of_line h birth when o) s ≡ Finishes f)
    (to : FileTree) (m : Naming) (leads : IsOfTree (edited_all s f.edits) to m) (fit : FilesFit (node_at to)) where
  abbrev t : Store
  t = edited_all s f.edits

  -- what is written, where it begins among the parts of its file
  abbrev sets : Asked → StoredNode → StoredNode → ℕ → Edit
  sets a x y i = set_sector y i (mixed a.piece i (bytes_kept a.piece s x i))

  piece_below : (p : Op) (d : Edit) (w : IsPiece when p s f d) → 512 * w.index < w.after.size
  piece_below p d w =
      let l : 512 * w.index < end_of w.asked.piece = begins_below w.asked.piece.off w.asked.piece.len w.index w.from w.to in
      let size : w.after.size ≡ max w.before.size (end_of w.asked.piece) = w.size in
      let more : end_of w.asked.piece ≤ max w.before.size (end_of w.asked.piece) = grind arith in
      omega arith

  piece_used : (p : Op) (d : Edit) (w : IsPiece when p s f d) → IsInUse to.segments (edited_all s f.edits) (file_sector w.after w.index)
  piece_used p d w = in_use (edited_all s f.edits) to m leads fit (file_sector w.after w.index)
      (record { inode = w.inode; node = w.after; is = w.written; kind = w.file; index = w.index; below = piece_below p d w; here = refl })

  same_piece : (p q : Op) (d g : Edit) (a : IsPiece when p s f d) (b : IsPiece when q s f g) → p ≡ q → edit_sector d ≡ edit_sector g → d ≡ g
  same_piece p q d g a b step number =
      let asked : a.asked ≡ b.asked = (let z : Some a.asked ≡ Some b.asked = sym a.is_asked ∙ ap (asked_of when) step ∙ b.is_asked in cc) in
      let inode : a.inode ≡ b.inode = (let z : Some a.inode ≡ Some b.inode = sym a.leads ∙ ap (λ (v : Asked). spot_inode (run (walk v.path) s).spot) asked ∙ b.leads in cc) in
      let before : a.before ≡ b.before = (let z : Some a.before ≡ Some b.before = sym a.is ∙ ap s.inode inode ∙ b.is in cc) in
      let after : a.after ≡ b.after = (let z : Some a.after ≡ Some b.after = sym a.written ∙ ap (edited_all s f.edits).inode inode ∙ b.written in cc) in
      let numbers : number_of (file_sector a.after a.index) ≡ number_of (file_sector b.after b.index)
      = sym (ap edit_sector a.sets ∙ sector_set a.after a.index (mixed a.asked.piece a.index (bytes_kept a.asked.piece s a.before a.index))) ∙ number
      ∙ (ap edit_sector b.sets ∙ sector_set b.after b.index (mixed b.asked.piece b.index (bytes_kept b.asked.piece s b.before b.index))) in
      let sector : file_sector a.after a.index ≡ file_sector b.after b.index
      = sector_once to.segments (edited_all s f.edits) leads.few (file_sector a.after a.index) (file_sector b.after b.index) (piece_used p d a) (piece_used q g b) numbers in
      let index : a.index ≡ b.index
      = (same_part (edited_all s f.edits) (node_at to) m leads.pictures a.inode b.inode a.after b.after a.index b.index a.written b.written a.file b.file (piece_below p d a) (piece_below q g b) sector).1 in
      a.sets ∙ ap (λ (v : Asked). sets v a.before a.after a.index) asked ∙ ap (λ x. sets b.asked x a.after a.index) before ∙ ap (λ y. sets b.asked b.before y a.index) after
      ∙ ap (λ i. sets b.asked b.before b.after i) index ∙ sym b.sets

  pub one_edit : (d g : Edit) → Contains f.edits d → Contains f.edits g → is_metadata d ≡ false → is_metadata g ≡ false → edit_sector d ≡ edit_sector g → d ≡ g
  one_edit d g c e p q number =
      let a = lines_write_pieces o h s tree n birth when f of hand is d c p in
      let b = lines_write_pieces o h s tree n birth when f of hand is g e q in
      let step : a.step ≡ b.step = (let z : Goes a.step ≡ Goes b.step = sym a.comes ∙ b.comes in cc) in
      same_piece a.step b.step d g a.piece b.piece step number

-- ---- over the disk of a tree to which its number is new

step_fit : (tree : FileTree) (step : Step) (birth when ever : ℕ) → IsWellFormed tree → FilesFit (node_at tree) → FilesFit (node_at (perform_step tree step birth when ever).tree)
step_fit tree (Goes o) birth when ever well fit = files_stay_fit tree o birth when ever well fit
step_fit tree (Stops r) birth when ever well fit = fit

pub lines_set_sectors_once : LinesSetSectorsOnce
lines_set_sectors_once o h s tree n birth when ever f of hand new files is d g =
    let keeps : FinishKeeps s tree n (perform tree o birth when ever) f = subst (PlanKeeps h s tree n (perform tree o birth when ever)) is (lines_planned o h s tree n birth when ever of hand new files) in
    one_edit o h s tree n birth when f of hand is (perform tree o birth when ever).tree keeps.meets.naming keeps.meets.tree (step_fit tree (resolved tree o).step birth when ever of.well_formed files.fit) d g
