-- Worked rows with the disk: of `0 mount / 0 create /a / 0 sync / 0 create /b / 0 crash`, and of a recoverer that dies, over a disk of one segment and logs of eight slots. What recoveries say that
-- they keep, what a stop leaves, and the order of writes are computed at each prefix; and wrong ones are refused.
use Rattle.std.specs.Prelude.{◌≡◌, ◌+◌, ◌-◌, ◌&&◌, ℕ, Bool, true, false, List, [], ◌∷◌, ◌++◌, codes, length, refl, take}
use Rattle.std.specs.List.{list_all}
use Rattle.frang_base.specs.declared.change.Change.{Change}
use Rattle.frang_base.specs.declared.limits.TheConstants.{LOG_BODY_BYTES}
use Rattle.frang_base.specs.declared.reply.Reply.TheVariants as reply
use Rattle.frang_base.specs.declared.said.Said.{Said}
use Rattle.frang_base.specs.declared.said.Said.TheVariants as said
use Rattle.frang_outside.specs.declared.act.Taken.TheVariants.{Written}
use Rattle.sector_bytes.specs.Bytes.{zeros}
use Rattle.sector_bytes.specs.Blocks.{Block}
use Rattle.sector_bytes.specs.Sectors.{Sectors, sectors_of}
use Rattle.disk_definitions.specs.Bitmaps.{bitmap_bytes}
use Rattle.disk_definitions.specs.Frames.{frame_read}
use Rattle.disk_definitions.specs.LogSectors.{log_sector_bytes}
use Rattle.disk_definitions.specs.Params.{param_bytes}
use Rattle.disk_definitions.specs.Records.{record_bytes}
use Rattle.disk_definitions.specs.Regions.{sector_of}
use Rattle.disk_definitions.specs.declared.region.Region.TheVariants as region
use Rattle.tree_definitions.specs.Numbers.{below}
use Rattle.tree_definitions.specs.Resolve.{resolve}
use Rattle.tree_definitions.specs.History.{fresh_opening}
use Rattle.tree_definitions.specs.Live.{number_of}
use Rattle.tree_definitions.specs.Removal.{is_legal, keeps, tree_of}
use Rattle.tree_definitions.specs.TreeLines.{tree_lines}
use Rattle.core_definitions.specs.Effects.{Made, Says}
use Rattle.core_examples.specs.SmallLogs.{records_small}
use Rattle.headline_definitions.specs.AllLogs.{AllLogs}
use Rattle.headline_definitions.specs.Beginning.{Beginning}
use Rattle.headline_definitions.specs.Witnessed.{Witnessed, Acted, Broke}
use Rattle.headline_definitions.specs.Ordered.{is_ordered}
use Rattle.headline_definitions.specs.Headline.{left, live, say_greatest}
use Rattle.headline_examples.specs.Lines.{answered, five_script, nine_script, party, recovered, recovering}

-- sixteen logs of eight slots
abbrev pub small_logs : AllLogs
small_logs = record { count = 16; records = records_small }

-- ---- blocks

abbrev pub parameters : Block
parameters = param_bytes (record { format = 2; segments = 1; run = 1 })

abbrev pub segment_block : (version inodes states : ℕ) → Block
segment_block version inodes states = bitmap_bytes (record { version = version; inodes = inodes; states = states ∷ zeros 255; large = false })

-- all that counts of the other sectors is their version
abbrev pub stamped : ℕ → Block
stamped version = version ∷ zeros 511

abbrev pub fresh_disk : Sectors
fresh_disk = sectors_of ((0, parameters) ∷ (sector_of (region.Segment 0), segment_block 1 1 0) ∷ (sector_of (region.Inode 0), stamped 1) ∷ [])

-- a record with a sector of its own
abbrev pub change_to : ℕ → ℕ → Change
change_to sector version = record { sector = record { 0 = sector }; version = version; patches = record { at = 8; bytes = 0 ∷ [] } ∷ [] }

abbrev pub log_block : (seq number : ℕ) → List Change → Block
log_block seq number changes =
    let body = record_bytes changes in
    log_sector_bytes (record { seq = seq; op = record { 0 = number }; part = 0; parts = 1; used = length body; body = body ++ zeros (LOG_BODY_BYTES - length body) })

-- ---- puts

abbrev pub put : (server behalf sector : ℕ) → Block → Witnessed
put server behalf sector block = Acted (Made (record { server = party server; behalf = party behalf; stamp = 15; now = 0; sector = record { 0 = sector }; bytes = block }) Written)

abbrev pub say : Said → Witnessed
say line = Acted (Says line)

-- ---- the fifth row

abbrev pub beginning : Beginning
beginning = record { script = five_script; opening = fresh_opening 1; disk = fresh_disk; logs = small_logs }

abbrev pub created : List Change
created =
    change_to (sector_of (region.Segment 0)) 2 ∷ change_to (sector_of (region.Inode 0)) 2 ∷ change_to (sector_of (region.Inode 1)) 1 ∷ change_to (sector_of (region.Small 0 0)) 1 ∷ []

abbrev pub logged : Witnessed
logged = put 0 0 (sector_of (region.Log 0 0)) (log_block 256 (number_of 1 2) created)

abbrev pub replays : List Witnessed
replays =
    put 255 0 (sector_of (region.Segment 0)) (segment_block 2 3 3) ∷ put 255 0 (sector_of (region.Inode 0)) (stamped 2) ∷ put 255 0 (sector_of (region.Inode 1)) (stamped 1) ∷
    put 255 0 (sector_of (region.Small 0 0)) (stamped 1) ∷ []

abbrev pub five_with : ℕ → List Witnessed → List Witnessed
five_with kept writes =
    say (answered 0 1 reply.Mounted) ∷ say (answered 0 2 reply.Ok) ∷ logged ∷ say (answered 0 3 reply.Ok) ∷ say (answered 0 4 reply.Ok) ∷ say (said.Dead (party 0)) ∷
    say (answered 0 5 reply.Ok) ∷ say (recovering 0 255) ∷ (writes ++ say (recovered 0 kept) ∷ say (said.Node (codes "/") 2 1 0) ∷ say (said.Node (codes "/a") 1 0 1) ∷ say said.End ∷ [])

abbrev pub five : List Witnessed
five = five_with (number_of 1 2) replays

pub five_is_ordered : is_ordered small_logs 1 fresh_disk five ≡ true
unfolding zeros frame_read
five_is_ordered = refl

pub five_says_greatest : say_greatest beginning five ≡ true
unfolding zeros frame_read
five_says_greatest = refl

-- a recovery that says that it kept nothing, and one that says too much
pub nothing_kept_is_refused : say_greatest beginning (five_with 0 replays) ≡ false
unfolding zeros frame_read
nothing_kept_is_refused = refl

pub too_much_kept_is_refused : say_greatest beginning (five_with (number_of 1 4) replays) ≡ false
unfolding zeros frame_read
too_much_kept_is_refused = refl

-- a write that no record of the log of its behalf names, one that isn't newer, and one before the recovery
pub unnamed_is_refused : is_ordered small_logs 1 fresh_disk (five_with 0 (put 255 0 (sector_of (region.Inode 0)) (stamped 3) ∷ [])) ≡ false
unfolding zeros frame_read
unnamed_is_refused = refl

pub twice_is_refused : is_ordered small_logs 1 fresh_disk (five_with 0 (put 255 0 (sector_of (region.Inode 0)) (stamped 2) ∷ put 255 0 (sector_of (region.Inode 0)) (stamped 2) ∷ [])) ≡ false
unfolding zeros frame_read
twice_is_refused = refl

pub another_behalf_is_refused : is_ordered small_logs 1 fresh_disk (five_with 0 (put 1 0 (sector_of (region.Inode 0)) (stamped 2) ∷ [])) ≡ false
unfolding zeros frame_read
another_behalf_is_refused = refl

-- the history and what a stop leaves of it, at each prefix
abbrev pub is_kept_at : Beginning → List Witnessed → ℕ → Bool
is_kept_at b witnessed k =
    is_legal b.opening (live b (take k witnessed)) && keeps b.opening (live b (take k witnessed)) && is_legal b.opening (left b (take k witnessed)) && keeps b.opening (left b (take k witnessed))

pub five_is_kept : list_all (is_kept_at beginning five) (below (length five + 1)) ≡ true
unfolding resolve zeros frame_read
five_is_kept = refl

-- once line 2 is answered a stop leaves nothing of it, and once its record is on the disk it stays
pub before_the_log : tree_lines (tree_of beginning.opening (left beginning (take 2 five))) ≡ said.Node (codes "/") 2 0 0 ∷ []
unfolding resolve zeros frame_read
before_the_log = refl

pub behind_the_log : tree_lines (tree_of beginning.opening (left beginning (take 5 five))) ≡ said.Node (codes "/") 2 1 0 ∷ said.Node (codes "/a") 1 0 1 ∷ []
unfolding resolve zeros frame_read
behind_the_log = refl

-- ---- the ninth row: the recoverer dies before its first write, and another one recovers both

abbrev pub nine_beginning : Beginning
nine_beginning = record { script = nine_script; opening = fresh_opening 1; disk = fresh_disk; logs = small_logs }

abbrev pub replays_by : ℕ → List Witnessed
replays_by server =
    put server 0 (sector_of (region.Segment 0)) (segment_block 2 3 3) ∷ put server 0 (sector_of (region.Inode 0)) (stamped 2) ∷ put server 0 (sector_of (region.Inode 1)) (stamped 1) ∷
    put server 0 (sector_of (region.Small 0 0)) (stamped 1) ∷ []

abbrev pub nine_begins : List Witnessed
nine_begins =
    say (answered 0 1 reply.Mounted) ∷ say (answered 0 2 reply.Ok) ∷ logged ∷ say (answered 0 3 reply.Ok) ∷ say (answered 255 4 reply.Ok) ∷ say (answered 1 5 reply.Mounted) ∷
    say (answered 1 6 reply.Ok) ∷ say (answered 255 7 reply.Ok) ∷ say (said.Dead (party 0)) ∷ say (answered 0 8 reply.Ok) ∷ say (answered 255 9 reply.Ok) ∷ say (recovering 0 1) ∷
    say (said.Dead (party 1)) ∷ say (answered 1 10 reply.Down) ∷ say (answered 255 11 reply.Ok) ∷ say (answered 2 12 reply.Mounted) ∷ []

abbrev pub nine_ends : List Witnessed
nine_ends =
    say (recovered 0 (number_of 1 2)) ∷ say (answered 2 13 (reply.Names (codes "a" ∷ []))) ∷ say (recovering 1 2) ∷ say (recovered 1 0) ∷ say (said.Node (codes "/") 2 1 0) ∷
    say (said.Node (codes "/a") 1 0 1) ∷ say said.End ∷ []

abbrev pub nine : List Witnessed
nine = nine_begins ++ say (recovering 0 2) ∷ replays_by 2 ++ nine_ends

pub nine_is_ordered : is_ordered small_logs 1 fresh_disk nine ≡ true
unfolding zeros frame_read
nine_is_ordered = refl

pub nine_says_greatest : say_greatest nine_beginning nine ≡ true
unfolding zeros frame_read
nine_says_greatest = refl

pub nine_is_kept : list_all (is_kept_at nine_beginning nine) (below (length nine + 1)) ≡ true
unfolding resolve zeros frame_read
nine_is_kept = refl

-- a write of the first recoverer that comes once the second has begun
pub late_recoverer_is_refused : is_ordered small_logs 1 fresh_disk (nine_begins ++ say (recovering 0 2) ∷ replays_by 1 ++ nine_ends) ≡ false
unfolding zeros frame_read
late_recoverer_is_refused = refl

-- a failed put of the recoverer that left the new sector, and a later recoverer that writes the others
pub broken_is_ordered :
    is_ordered small_logs 1 fresh_disk
    (nine_begins ++ say (recovering 0 2) ∷ Broke (sector_of (region.Segment 0)) (segment_block 2 3 3) ∷ put 2 0 (sector_of (region.Inode 0)) (stamped 2) ∷ nine_ends) ≡ true
unfolding zeros frame_read
broken_is_ordered = refl
