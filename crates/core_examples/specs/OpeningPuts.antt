-- Openings, computed: the puts in their order, the disk behind them, and the record that they leave.
use Rattle.std.specs.Prelude.{◌≡◌, ℕ, List, [], ◌∷◌, take, refl}
use Rattle.frang_base.specs.declared.script.Line.{Line}
use Rattle.frang_outside.specs.declared.act.Act.TheVariants as act
use Rattle.frang_outside.specs.declared.act.Taken.TheVariants as taken
use Rattle.tree_definitions.specs.History.{fresh_opening}
use Rattle.sector_bytes.specs.Blocks.{Block, zero_block}
use Rattle.sector_bytes.specs.Bytes.{zeros}
use Rattle.disk_definitions.specs.declared.param.Param.{Param}
use Rattle.disk_definitions.specs.FreshDisk.{fresh_disk}
use Rattle.disk_definitions.specs.Params.{param_bytes}
use Rattle.core_definitions.specs.Cores.{first_core, stamp_of}
use Rattle.core_definitions.specs.Opening.{IsStart, OnFresh, disk_put, fresh_puts, fresh_start, image_puts, moment_of, opening_put}
use Rattle.core_definitions.specs.Runs.{acts_of, first_state}
use Rattle.core_definitions.specs.Scripts.{host_party}
use Rattle.core_definitions.specs.Settings.{setting_of}
use Rattle.core_examples.specs.Driving.{fresh_disk as runs_fresh_disk, entries_block, entry, inode_block, parameters, segment_block}

-- ---- a fresh disk of one segment

-- the root's inode, the segment, and last the parameters
pub a_fresh_disk_is_put_so :
    fresh_puts 1 ≡ (10737418240, inode_block 1 2 1 0 0 []) ∷ (4294967296, segment_block 1 1 0) ∷ (0, parameters 1) ∷ []
unfolding zeros
a_fresh_disk_is_put_so = refl

-- each by the host and on its own behalf, at tick 0 and with stamp 15
pub the_host_puts_it :
    opening_put (0, parameters 1) ≡ record { server = record { 0 = 255 }; behalf = record { 0 = 255 }; stamp = 15; now = 0; sector = record { 0 = 0 }; bytes = parameters 1 }
the_host_puts_it = refl

-- which is the host's stamp as a run begins
pub its_stamp_is_the_hosts : (script : List Line) → (opening_put (0, [])).stamp ≡ stamp_of (first_core (setting_of script 1 1)) host_party
its_stamp_is_the_hosts script = refl

-- behind them these sectors have their blocks
pub the_root_is_put : (fresh_start [] 1).disk 10737418240 ≡ inode_block 1 2 1 0 0 []
unfolding zeros
the_root_is_put = refl

pub the_segment_is_put : (fresh_start [] 1).disk 4294967296 ≡ segment_block 1 1 0
unfolding zeros
the_segment_is_put = refl

pub the_parameters_are_put : (fresh_start [] 1).disk 0 ≡ parameters 1
unfolding zeros
the_parameters_are_put = refl

-- a log reads as zero
pub no_log_is_put : (fresh_start [] 1).disk 2147483648 ≡ zero_block
unfolding zeros
no_log_is_put = refl

-- the mark, format 2, the segments, run 1
pub the_parameters_begin_so :
    take 20 ((fresh_start [] 16).disk 0) ≡ 70 ∷ 82 ∷ 65 ∷ 78 ∷ 71 ∷ 80 ∷ 65 ∷ 82 ∷ 2 ∷ 0 ∷ 0 ∷ 0 ∷ 16 ∷ 0 ∷ 0 ∷ 0 ∷ 1 ∷ 0 ∷ 0 ∷ 0 ∷ []
unfolding zeros
the_parameters_begin_so = refl

-- the record has the three puts, in their order
pub the_record_has_them :
    acts_of (fresh_start [] 1).record_
    ≡ act.Put (opening_put (10737418240, inode_block 1 2 1 0 0 [])) taken.Written ∷ act.Put (opening_put (4294967296, segment_block 1 1 0)) taken.Written
    ∷ act.Put (opening_put (0, parameters 1)) taken.Written ∷ []
unfolding zeros
the_record_has_them = refl

-- it is the disk over which the worked runs of the core begin
pub it_is_the_fresh_disk : (sector : ℕ) → fresh_disk 1 sector ≡ runs_fresh_disk sector
unfolding zeros
it_is_the_fresh_disk sector = refl

-- a run may begin from it
pub a_run_may_begin : (script : List Line) → IsStart (fresh_start script 1)
a_run_may_begin script = OnFresh script 1 refl

-- run 1 begins over the root alone, with no directory's block
pub a_run_begins_so : (script : List Line) → moment_of (fresh_start script 1) ≡ first_state (setting_of script 1 1) (fresh_start script 1).disk
a_run_begins_so script = refl

pub its_opening_is_fresh : (script : List Line) → (fresh_start script 1).opening ≡ fresh_opening 1
its_opening_is_fresh script = refl

-- ---- a small image's disk, of format 1 and run 2: its root has the file `f`; a sector of zeros stands in it, and a log's sector, which no replayed disk has

abbrev pub old_param : Param
old_param = record { format = 1; segments = 1; run = 2 }

abbrev pub old_disk : List (ℕ × Block)
old_disk =
    (0, param_bytes old_param) ∷ (2147483648, segment_block 7 0 0) ∷ (4294967296, segment_block 2 3 3) ∷ (10737418240, inode_block 2 2 1 1 0 (0 ∷ [])) ∷
    (10737418241, inode_block 1 1 1 0 4294967298 []) ∷ (12884901888, entries_block 1 (entry 1 1 (102 ∷ []) ∷ [])) ∷ (12884901889, zero_block) ∷ []

-- what isn't zero, ascending; no log; and last the parameters, of format 2 and run 3
pub an_image_is_put_so :
    image_puts old_param old_disk
    ≡ (4294967296, segment_block 2 3 3) ∷ (10737418240, inode_block 2 2 1 1 0 (0 ∷ [])) ∷ (10737418241, inode_block 1 1 1 0 4294967298 []) ∷
    (12884901888, entries_block 1 (entry 1 1 (102 ∷ []) ∷ [])) ∷ (0, parameters 3) ∷ []
unfolding zeros
an_image_is_put_so = refl

pub its_file_is_put : disk_put (image_puts old_param old_disk) 10737418241 ≡ inode_block 1 1 1 0 4294967298 []
unfolding zeros
its_file_is_put = refl

pub its_parameters_are_put : disk_put (image_puts old_param old_disk) 0 ≡ parameters 3
unfolding zeros
its_parameters_are_put = refl

pub its_log_reads_as_zero : disk_put (image_puts old_param old_disk) 2147483648 ≡ zero_block
unfolding zeros
its_log_reads_as_zero = refl
