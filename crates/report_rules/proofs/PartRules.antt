-- The rules of parts by the tables of a disk, and tests that are joined.
use Rattle.std.proofs.Common.{◌≡◌, ℕ, ◌+◌, ◌*◌, ◌<◌, ◌≤◌, Bool, true, false, not, ◌&&◌, ◌||◌, Some, is_some, List, refl, sym, ◌∙◌, ap, arith}
use Rattle.sector_bytes.specs.Sectors.{sectors_of}
use Rattle.disk_definitions.specs.Store.{StoredNode, directory_at}
use Rattle.standing_laws.specs.Below.{all_below, lists}
use Rattle.standing_laws.proofs.Shapes.{disk_shape}
use Rattle.standing_laws.proofs.PicturedBlocks.{few}
use Rattle.disk_reading.specs.Marks.{flag_at}
use Rattle.disk_reading.specs.Seen.{store_in}
use Rattle.disk_reading.specs.Fits.{part_fits}
use Rattle.disk_definitions.specs.Store.Use.{Empty}
use Rattle.report_definitions.specs.Rules.{are_parts_fine, names_well, is_sector_fine, are_entries_fine}
use Rattle.report_rules.specs.declared.tables.Tables.{Tables}
use Rattle.report_rules.specs.Seen.{stored, view_in}
use Rattle.report_rules.specs.Directories.{directory_row}
use Rattle.report_rules.specs.Repeats.{repeats_to}
use Rattle.report_rules.specs.Tables.{AreTables}
use Rattle.report_rules.proofs.Repeated.{flags_are, sector_fine, entries_fine}

pub and_then : (a b x y : Bool) → x ≡ a → x ≡ true → y ≡ b → y ≡ (a && b)
and_then a b x y e t h = h ∙ sym (ap (λ z. z && b) (sym e ∙ t))

pub and_else : (a b x : Bool) → x ≡ a → x ≡ false → x ≡ (a && b)
and_else a b x e t = t ∙ sym (ap (λ z. z && b) (sym e ∙ t))

-- a block that was a directory's
pub cleared_is : (most segments : ℕ) (disk : List (ℕ × List ℕ)) (b : ℕ) → (all_below 8 (part_fits most (sectors_of disk) b) && all_below 56 (λ q. not (is_some ((store_in segments disk).place b q)))) ≡ are_parts_fine (view_in most segments disk) b Empty
unfolding part_fits
cleared_is most segments disk b = refl

few_blocks : (segments : ℕ) (disk : List (ℕ × List ℕ)) (d : ℕ) (x : StoredNode) → (store_in segments disk).inode d ≡ Some x → x.kind ≡ 2 → x.blocks ≤ 16
unfolding store_in
few_blocks segments disk d x e k = few x (disk_shape segments (sectors_of disk) d x e)

module _ (most segments : ℕ) (disk : List (ℕ × List ℕ)) (t : Tables) (a : AreTables segments (store_in segments disk) t) (b p : ℕ) (l : b < 1024 * segments) where
  abbrev reached : ℕ → Bool
  reached = flag_at t.reached

  owned_is : flag_at t.directories b ≡ lists (directory_row (store_in segments disk) reached) (1024 * segments) b
  owned_is = flags_are (1024 * segments) (lists (directory_row (store_in segments disk) reached) (1024 * segments)) t.directories a.directories b l

  repeated_is : p < 8 → flag_at t.repeats (8 * b + p) ≡ repeats_to (store_in segments disk) reached (64 * segments) (8 * b + p)
  repeated_is w = flags_are (8192 * segments) (repeats_to (store_in segments disk) reached (64 * segments)) t.repeats a.repeats (8 * b + p) (omega arith)

  pub sector_is : p < 8 → (read : Bool) → read ≡ is_some (directory_at (sectors_of disk) b p) → ((not (flag_at t.directories b) || read) && not (flag_at t.repeats (8 * b + p))) ≡ is_sector_fine (view_in most segments disk) reached b p
  sector_is w read e = sector_fine (view_in most segments disk) reached (few_blocks segments disk) b p w (flag_at t.directories b) read (flag_at t.repeats (8 * b + p)) owned_is e (repeated_is w)

  pub entries_are : (test : Bool) → test ≡ all_below 7 (λ q. names_well (store_in segments disk) ((store_in segments disk).place b (7 * p + q))) → (not (flag_at t.directories b) || test) ≡ are_entries_fine (stored segments (store_in segments disk)) reached b p
  entries_are test e = entries_fine (stored segments (store_in segments disk)) reached (few_blocks segments disk) b p (flag_at t.directories b) test owned_is e
