-- What the code writes in the definitions of plans, and what its steps come to.
use Rattle.std.specs.Prelude.{◌≡◌, ℕ, ◌-◌, ◌/◌, if◌then◌else◌, Result, Ok, Err, List, [], ◌∷◌, ◌++◌, slice_index}
use Rattle.std.specs.Global.{Vec}
use Rattle.frang_base.specs.declared.limits.TheConstants.{SECTOR_BYTES}
use Rattle.disk_definitions.specs.Store.{StoredNode}
use Rattle.disk_definitions.specs.Edits.{Edit}
use Rattle.disk_definitions.specs.Ask.{Ask}
use Rattle.disk_definitions.specs.Plans.{Plan}
use Rattle.disk_definitions.specs.FilePlans.{Writing, keeps_bytes, read_sector, sectors_met, write_sector, write_sectors}
use Rattle.dir_lookup.specs.Reading.{Lacks}
use Rattle.dir_lookup.specs.Hands.{over}
use Rattle.dir_lookup.specs.declared.hand.Hand.{Hand}
use Rattle.dir_lookup.specs.declared.need.Need.{Need}
use Rattle.plan_steps.specs.Edits.{edit_of, edits_of}
use Rattle.plan_steps.specs.declared.edit.Edit.{Edit as CodeEdit}
use Rattle.plan_steps.specs.declared.stop.Stop.{Stop}
use Rattle.plan_steps.specs.declared.stop.Stop.TheVariants as stop
use Rattle.tree_edits.specs.declared.edits.Bytes.{Bytes}
use Rattle.tree_edits.specs.declared.edits.Bytes.TheVariants as bytes
use Rattle.tree_edits.specs.Written.{size_of}
use Rattle.op_data.specs.declared.writing.Writing.{Writing as CodeWriting}

-- a byte of what is written, by its place among its bytes
abbrev pub byte_of : Bytes → ℕ → ℕ
byte_of (bytes.Text text) i = slice_index text.now i
byte_of (bytes.Same len byte) i = byte

-- what is written, as the definitions have it
abbrev pub writing_of : CodeWriting → Writing
writing_of w = record { off = w.off; len = size_of w.bytes; when = w.when; byte = λ j. byte_of w.bytes (j - w.off) }

-- what stands around the bytes in a sector, or the sector is needed
abbrev pub FindsAround : Hand → Writing → StoredNode → ℕ → Result (List ℕ) Need → Type 0
FindsAround hand w x t (Ok block) =
    (next : (ℕ → ℕ) → Ask Plan) → over (if keeps_bytes w x.size t then read_sector x t next else next (λ r. 0)) hand ≡ over (next (slice_index block)) hand
FindsAround hand w x t (Err need) =
    (next : (ℕ → ℕ) → Ask Plan) → over (if keeps_bytes w x.size t then read_sector x t next else next (λ r. 0)) hand ≡ Lacks need.0.0

-- the edit of a sector, or the sector is needed
abbrev pub WritesSector : Hand → Writing → StoredNode → StoredNode → ℕ → Result CodeEdit Need → Type 0
WritesSector hand w x y t (Ok e) = (next : List Edit → Ask Plan) → over (write_sector w x y t next) hand ≡ over (next (edit_of e ∷ [])) hand
WritesSector hand w x y t (Err need) = (next : List Edit → Ask Plan) → over (write_sector w x y t next) hand ≡ Lacks need.0.0

-- the sectors that the bytes meet, with edits before theirs
abbrev pub write_behind : Writing → StoredNode → StoredNode → List Edit → (List Edit → Ask Plan) → Ask Plan
write_behind w x y before next = write_sectors w x y (w.off / SECTOR_BYTES) (sectors_met w.off w.len) (λ more. next (before ++ more))

-- their edits come behind those that were there, or a sector is needed
abbrev pub WritesSectors : Hand → Writing → StoredNode → StoredNode → List CodeEdit → Result (Vec CodeEdit) Stop → Type 0
WritesSectors hand w x y before (Ok v) =
    (next : List Edit → Ask Plan) → over (write_behind w x y (edits_of before) next) hand ≡ over (next (edits_of v.items)) hand
WritesSectors hand w x y before (Err (stop.Need s)) = (next : List Edit → Ask Plan) → over (write_behind w x y (edits_of before) next) hand ≡ Lacks s.0
WritesSectors hand w x y before (Err stop.NoMemory) = Unit {0}
WritesSectors hand w x y before (Err stop.Segments) = ⊥
WritesSectors hand w x y before (Err (stop.Clear k)) = ⊥
WritesSectors hand w x y before (Err (stop.Refused r)) = ⊥
