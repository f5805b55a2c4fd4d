-- Over every run the lock of a segment is in a set only sole: by what a line grows by, and step by step.
use Rattle.std.proofs.Common.{◌≡◌, ℕ, inl, inr, Bool, true, false, ◌==◌, ◌+◌, ◌%◌, ◌/◌, if◌then◌else◌, is_some, List, [], ◌∷◌, ◌++◌, Option, Some, None, refl, sym, ap, subst}
use Rattle.std.specs.BTreeMap.{insert_entry}
use Rattle.std.specs.List.{Contains}
use Rattle.std.specs.Map.{keys_of}
use Rattle.std.specs.Option.{option_map}
use Rattle.std.specs.Ordering.{is_eq, match_ordering}
use Rattle.std.specs.declared.cmp.Ordering.{Ordering}
use Rattle.std.specs.declared.cmp.Ordering.TheVariants.{Less, Equal, Greater}
use Rattle.frang_base.specs.Functions.{put}
use Rattle.frang_base.specs.declared.limits.TheConstants.{SEGMENT_BLOCKS, SEGMENT_INODES}
use Rattle.frang_base.specs.declared.lock.LockId.{LockId}
use Rattle.frang_base.specs.declared.lock.LockId.TheVariants.{Log, Segment, Node}
use Rattle.frang_base.specs.declared.lock.Mode.{Mode}
use Rattle.frang_base.specs.declared.lock.Mode.TheVariants.{Shared, Sole}
use Rattle.frang_base.specs.declared.op.Op.{Op}
use Rattle.frang_base.specs.declared.reply.Reply.{Reply}
use Rattle.frang_base.proofs.Basics.{at_put}
use Rattle.lock_definitions.specs.Order.{is_lock, lock_cmp}
use Rattle.lock_definitions.proofs.LockOrder.{found_lock}
use Rattle.disk_definitions.proofs.Listed.{Among}
use Rattle.disk_definitions.specs.Ask.{Met, meet}
use Rattle.disk_definitions.specs.Ask.Met.{Needs, Has}
use Rattle.disk_definitions.specs.Edits.{Edit, SetInode, SetBit, SetUse, SetPlace, SetLarge, SetBytes, SetLargeBytes}
use Rattle.disk_definitions.specs.FoundLocks.{clear_soles, cleared_locks, edit_locks, edit_locks_of, finish_locks, from_end, full_locks, made_segments, makes_node, nodes_behind, owns_at_hand, step_locks}
use Rattle.disk_definitions.specs.Held.{Segments}
use Rattle.disk_definitions.specs.Plans.{Lock, says_full, shared_nodes, sole_nodes, sole_segments}
use Rattle.disk_definitions.specs.Plans.Plan.{Clears, Finishes}
use Rattle.disk_definitions.specs.Lines.{resolved}
use Rattle.sector_bytes.specs.Sectors.{Sectors}
use Rattle.tree_definitions.specs.Apply.{is_path_op}
use Rattle.tree_definitions.specs.Perform.{Step, Goes, Stops, Resolved}
use Rattle.core_definitions.specs.Lines.{Stage, Asking, Fetching, Moving, Stopping, Growing, Clearing, Finishing, Under, needed_mode, operation_of, set_at_first, sole_segment}
use Rattle.core_definitions.specs.Plans.{known_in}
use Rattle.core_definitions.specs.Scripts.{host_party}
use Rattle.core_definitions.specs.Servers.{Server, is_up, wanting_all, wanting_all_up}
use Rattle.set_definitions.specs.Sets.{LockSet, first_set, joined, joined_all, mode_in, with_mode}
use Rattle.core_definitions.specs.Settings.{Setting}
use Rattle.core_definitions.specs.LineEffects.{failed_by}
use Rattle.core_definitions.specs.WriteEffects.{acknowledged, clean_now, fixed_for, under_at_death}
use Rattle.core_definitions.specs.Flights.{InPlace, OfLog, OfRecovery, Purpose}
use Rattle.core_definitions.specs.EndEffects.{recovered}
use Rattle.core_definitions.specs.Writes.{comes_clean}
use Rattle.sector_bytes.specs.Blocks.{Block}
use Rattle.core_definitions.specs.Runs.{State, Run, first_state}
use Rattle.core_facts.proofs.StageForms.{IfStage, OfEachForm, at_stage}
use Rattle.core_facts.proofs.Turns.{Work, work_of, failed_at, LineStep, Begun, Anew, Grown, SlotRead, Refused, Ended, Turn, Rests, Stays, Lines, Caches, Reclaims, Clears, Commits, Mounts, Leaves, Arms, Stalls, Settles, Asks, Lowers, Releases, Relocks, Wants, Issues, Fades, Lands, Drifts, Breaks, Fails, Dooms, Resumes, Dies, Renews, Ticks, Recovers, Loads, Looks, Finishes, Halts, step_turn}
use Rattle.core_laws.proofs.Along.{along}
use Rattle.core_laws.proofs.Membership.{contains_in}

-- ---- locks

-- a segment's is sole
abbrev IsAlone : LockId → Mode → Type 0
IsAlone (Log n) mode = Unit {0}
IsAlone (Segment n) mode = mode ≡ Sole
IsAlone (Node n) mode = Unit {0}

abbrev AreAlone : List Lock → Type 0
AreAlone [] = Unit {0}
AreAlone (need ∷ needs) = IsAlone need.0 need.1 × AreAlone needs

all_alone : (xs ys : List Lock) → AreAlone xs → AreAlone ys → AreAlone (xs ++ ys)
all_alone [] ys a b = b
all_alone (x ∷ xs) ys a b = (a.0, all_alone xs ys a.1 b)

shared_alone : (nodes : List ℕ) → AreAlone (shared_nodes nodes)
shared_alone [] = tt
shared_alone (node ∷ nodes) = (tt, shared_alone nodes)

nodes_alone : (nodes : List ℕ) → AreAlone (sole_nodes nodes)
nodes_alone [] = tt
nodes_alone (node ∷ nodes) = (tt, nodes_alone nodes)

segments_alone : (segments : List ℕ) → AreAlone (sole_segments segments)
segments_alone [] = tt
segments_alone (segment ∷ segments) = (refl, segments_alone segments)

-- ---- the locks of a line

edit_alone : (owns : ℕ → ℕ → Bool) (nodes : List ℕ) (edit : Edit) → AreAlone (edit_locks_of owns nodes edit)
edit_alone owns nodes (SetInode inode stored_node dated) = nodes_alone (inode ∷ [])
edit_alone owns nodes (SetBit inode used) = segments_alone ((inode / SEGMENT_INODES) ∷ [])
edit_alone owns nodes (SetUse block state) = segments_alone ((block / SEGMENT_BLOCKS) ∷ [])
edit_alone owns nodes (SetPlace block slot entry) = nodes_alone _
edit_alone owns nodes (SetLarge segment used) = segments_alone (segment ∷ [])
edit_alone owns nodes (SetBytes block part bytes) = tt
edit_alone owns nodes (SetLargeBytes segment part bytes) = tt

edits_alone : (owns : ℕ → ℕ → Bool) (nodes : List ℕ) (edits : List Edit) → AreAlone (edit_locks owns nodes edits)
edits_alone owns nodes [] = tt
edits_alone owns nodes (edit ∷ edits) = all_alone (edit_locks_of owns nodes edit) (edit_locks owns nodes edits) (edit_alone owns nodes edit) (edits_alone owns nodes edits)

full_alone : (held : Segments) (reply : Reply) → AreAlone (full_locks held reply)
full_alone held reply = go (says_full reply)
  where
    go : (b : Bool) → AreAlone (if b then sole_segments (keys_of held) else [])
    go true = segments_alone (keys_of held)
    go false = tt

finish_alone : (owns : ℕ → ℕ → Bool) (held : Segments) (nodes : List ℕ) (reply : Reply) (edits : List Edit) → AreAlone (finish_locks owns held nodes reply edits)
finish_alone owns held nodes reply edits =
    all_alone (shared_nodes nodes ++ edit_locks owns nodes edits) (full_locks held reply)
    (all_alone (shared_nodes nodes) (edit_locks owns nodes edits) (shared_alone nodes) (edits_alone owns nodes edits)) (full_alone held reply)

soles_alone : (other last : ℕ) (made : Bool) (block : ℕ) → AreAlone (clear_soles other last made block)
soles_alone other last made block =
    all_alone (sole_nodes (other ∷ last ∷ [])) (sole_segments (made_segments made last ++ (block / SEGMENT_BLOCKS) ∷ [])) (nodes_alone (other ∷ last ∷ []))
    (segments_alone (made_segments made last ++ (block / SEGMENT_BLOCKS) ∷ []))

cleared_alone : (nodes : List ℕ) (block : ℕ) (met : Met Resolved) → AreAlone (cleared_locks nodes block met)
cleared_alone nodes block (Needs sector) = tt
cleared_alone nodes block (Has walked) = go walked.step
  where
    go : (step : Step) → AreAlone (step_locks nodes block step)
    go (Goes over) =
        all_alone (shared_nodes nodes) (clear_soles (from_end nodes (nodes_behind over)) (from_end nodes 0) (makes_node over) block) (shared_alone nodes)
        (soles_alone (from_end nodes (nodes_behind over)) (from_end nodes 0) (makes_node over) block)
    go (Stops reply) = tt

-- ---- what a line grows by

abbrev GrowsAlone : Stage → Type 0
GrowsAlone (Asking need) = Unit {0}
GrowsAlone (Fetching needs) = Unit {0}
GrowsAlone Moving = Unit {0}
GrowsAlone Stopping = Unit {0}
GrowsAlone (Growing needs seen) = AreAlone needs
GrowsAlone (Clearing block) = Unit {0}
GrowsAlone (Finishing outcome) = Unit {0}

needed_alone : (cover : LockId) → IsAlone cover (needed_mode cover)
needed_alone (Log n) = tt
needed_alone (Segment n) = refl
needed_alone (Node n) = tt

sole_alone : (next : Option ℕ) → AreAlone (sole_segment next)
sole_alone None = tt
sole_alone (Some segment) = (refl, tt)

each_alone : OfEachForm (λ sight. Unit {0}) GrowsAlone
each_alone = record {
  asking = λ need. tt;
  bitmaps = λ set cache. tt;
  needed = λ sector cover. tt;
  moving = tt;
  stopping = tt;
  found = λ cover seen. (needed_alone cover, tt);
  next = λ segment seen. sole_alone segment;
  to_clear = λ operation nodes sight block seen. cleared_alone nodes block (meet (resolved operation) (known_in sight));
  to_finish = λ nodes sight finish seen. finish_alone (owns_at_hand sight.cached) sight.held nodes finish.reply finish.edits;
  clearing = λ block. tt;
  finishing = λ setting line nodes sight finish q. tt;
}

-- ---- sets

inserted_alone : (set : LockSet) (lock : LockId) (mode : Mode) → IsAlone lock mode → AreAlone set → AreAlone (insert_entry lock_cmp set lock mode)
inserted_alone [] lock mode here all = (here, tt)
inserted_alone (need ∷ needs) lock mode here all = go (lock_cmp lock need.0) refl (inserted_alone needs lock mode here all.1)
  where
    go : (o : Ordering) → lock_cmp lock need.0 ≡ o → AreAlone (insert_entry lock_cmp needs lock mode) →
        AreAlone (match_ordering o ((lock, mode) ∷ need ∷ needs) ((need.0, mode) ∷ needs) (need ∷ insert_entry lock_cmp needs lock mode))
    go Less e rest = (here, all)
    go Equal e rest = (subst (λ l. IsAlone l mode) (sym (found_lock lock need.0 (equal lock need.0 e))) here, all.1)
      where
        equal : (a b : LockId) → lock_cmp a b ≡ Equal → is_lock a b ≡ true
        equal a b e = ap is_eq e
    go Greater e rest = (all.0, rest)

joined_alone : (set : LockSet) (need : Lock) → IsAlone need.0 need.1 → AreAlone set → AreAlone (joined set need)
joined_alone set need here all = inserted_alone set need.0 (with_mode (mode_in set need.0) need.1) (mode (mode_in set need.0) need.0 need.1 here) all
  where
    either : (old : Option Mode) (m : Mode) → m ≡ Sole → with_mode old m ≡ Sole
    either (Some Sole) m e = refl
    either (Some Shared) m e = e
    either None m e = e

    mode : (old : Option Mode) (lock : LockId) (m : Mode) → IsAlone lock m → IsAlone lock (with_mode old m)
    mode old (Log n) m h = tt
    mode old (Segment n) m h = either old m h
    mode old (Node n) m h = tt

all_joined_alone : (set : LockSet) (needs : List Lock) → AreAlone needs → AreAlone set → AreAlone (joined_all set needs)
all_joined_alone set [] alone all = all
all_joined_alone set (need ∷ needs) alone all = all_joined_alone (joined set need) needs alone.1 (joined_alone set need alone.0 all)

-- ---- what is kept

abbrev UnderAlone : Option Under → Type 0
UnderAlone None = Unit {0}
UnderAlone (Some under) = AreAlone under.set

abbrev SetsAlone : (ℕ → Server) → Type 0
SetsAlone servers = (i : ℕ) → UnderAlone (servers i).under

first_alone : (operation : Op) → AreAlone (set_at_first operation)
first_alone operation = go (is_path_op operation)
  where
    go : (b : Bool) → AreAlone (if b then first_set else [])
    go true = (tt, tt)
    go false = tt

line_alone : (s : State) (a : ℕ) (under : Option Under) → LineStep s a under → SetsAlone s.core.servers → UnderAlone under
line_alone s a u (Begun line operation idle) m = first_alone operation
line_alone s a u (Anew under e) m = (tt, tt)
line_alone s a u (Grown under needs seen e f) m =
    all_joined_alone under.set needs (subst (IfStage GrowsAlone) f (at_stage (λ sight. Unit {0}) GrowsAlone each_alone s.core.setting s.core.locks a (s.core.servers a) (λ set. tt))) (subst UnderAlone e (m a))
line_alone s a u (SlotRead under sector block e off unread got) m = subst UnderAlone e (m a)
line_alone s a u (Refused under e) m = subst UnderAlone e (m a)
line_alone s a u Ended m = tt

put_alone : (servers : ℕ → Server) (a : ℕ) (new : Server) → UnderAlone new.under → SetsAlone servers → SetsAlone (put servers a new)
put_alone servers a new here m i = at_put (λ x. UnderAlone x.under) servers a new i (λ e. here) (λ n. m i)

failed_alone : (servers : ℕ → Server) (a : ℕ) → SetsAlone servers → SetsAlone (failed_at servers a)
failed_alone servers a m = go (a == host_party)
  where
    go : (b : Bool) → SetsAlone (if b then servers else put servers a (failed_by (servers a)))
    go true = m
    go false = put_alone servers a (failed_by (servers a)) (m a) m

acknowledged_alone : (sector : ℕ) (block : Block) (purpose : Purpose) (server : Server) → UnderAlone server.under → UnderAlone (acknowledged sector block purpose server).under
acknowledged_alone sector block (OfLog number) server h = h
acknowledged_alone sector block OfRecovery server h = h
acknowledged_alone sector block (InPlace cover) server h = go (comes_clean server sector block)
  where
    go : (b : Bool) → UnderAlone (if b then clean_now sector server else server).under
    go true = h
    go false = h

dead_alone : (failed : Bool) (under : Option Under) → UnderAlone under → UnderAlone (option_map (under_at_death failed) under)
dead_alone failed None h = tt
dead_alone failed (Some under) h = go (is_some under.fixed)
  where
    go : (b : Bool) → AreAlone (if b then under else record under { fixed = fixed_for failed (operation_of under.line.what) }).set
    go true = h
    go false = h

flushed_alone : (test : Bool) (server : Server) → UnderAlone server.under → UnderAlone (if test then wanting_all_up server else server).under
flushed_alone false server h = h
flushed_alone true server h = go (is_up server.phase)
  where
    go : (b : Bool) → UnderAlone (if b then wanting_all server else server).under
    go true = h
    go false = h

alone_turn : (s : State) (w : Work) → Turn s w → SetsAlone s.core.servers → SetsAlone w.servers
alone_turn s w Rests m = m
alone_turn s w (Stays a) m = put_alone s.core.servers a _ (m a) m
alone_turn s w (Lines a under server step) m = put_alone s.core.servers a _ (line_alone s a under step m) m
alone_turn s w (Caches a sector block needs cover server e f got) m = put_alone s.core.servers a _ (m a) m
alone_turn s w (Reclaims a outcome server e) m = put_alone s.core.servers a _ (m a) m
alone_turn s w (Clears a block server e) m = put_alone s.core.servers a _ (m a) m
alone_turn s w (Commits a outcome server e cleared) m = put_alone s.core.servers a _ tt m
alone_turn s w (Mounts a under server off u read) m = put_alone s.core.servers a _ tt m
alone_turn s w (Leaves a server up clean) m = put_alone s.core.servers a _ tt m
alone_turn s w (Arms a arming server up) m = put_alone s.core.servers a _ tt m
alone_turn s w (Stalls a server up) m = put_alone s.core.servers a _ tt m
alone_turn s w (Settles a server) m = put_alone s.core.servers a _ tt m
alone_turn s w (Asks a lock mode server e) m = m
alone_turn s w (Lowers a lock can) m = m
alone_turn s w (Releases a lock can) m = put_alone s.core.servers a _ (m a) m
alone_turn s w (Relocks locks are same wait) m = m
alone_turn s w (Wants a up) m = put_alone s.core.servers a _ (m a) m
alone_turn s w (Issues a sector write can e) m = put_alone s.core.servers a _ (m a) m
alone_turn s w (Fades ticket flight e late) m = m
alone_turn s w (Lands ticket flight e early present) m =
    put_alone s.core.servers flight.server _ (acknowledged_alone flight.sector flight.block flight.purpose (s.core.servers flight.server) (m flight.server)) m
alone_turn s w (Drifts ticket flight e early present) m = m
alone_turn s w (Breaks ticket flight new e early) m = failed_alone s.core.servers flight.server m
alone_turn s w (Fails a) m = failed_alone s.core.servers a m
alone_turn s w (Dooms a fate can) m = put_alone s.core.servers a _ (m a) m
alone_turn s w (Resumes a can) m = put_alone s.core.servers a _ (m a) m
alone_turn s w (Dies a fate server p) m = put_alone s.core.servers a _ (dead_alone (s.core.servers a).failed (s.core.servers a).under (m a)) m
alone_turn s w (Renews a can) m = put_alone s.core.servers a _ (m a) m
alone_turn s w (Ticks can) m = λ i. flushed_alone ((s.core.now + 1) % s.core.setting.flush_ticks == 0) (s.core.servers i) (m i)
alone_turn s w (Recovers dead by can) m = put_alone s.core.servers by _ (m by) m
alone_turn s w (Loads by slot block recovery who has wants got) m = put_alone s.core.servers by _ (m by) m
alone_turn s w (Looks by sector block recovery who has wants got) m = put_alone s.core.servers by _ (m by) m
alone_turn s w (Finishes by recovery can has) m =
    put_alone (put s.core.servers by (record (s.core.servers by) { recovery = None })) recovery.dead (recovered (s.core.servers recovery.dead)) (m recovery.dead)
    (put_alone s.core.servers by (record (s.core.servers by) { recovery = None }) (m by) m)
alone_turn s w Halts m = m

alone_of_run : (setting : Setting) (disk : Sectors) (s : State) → Run (first_state setting disk) s → SetsAlone s.core.servers
alone_of_run setting disk =
    along setting disk (λ s. SetsAlone s.core.servers) (λ s v run step m. alone_turn s (work_of v) (step_turn s v step) m) (λ i. tt)

-- ---- in the words of the law

alone_at : (set : LockSet) (segment : ℕ) (mode : Mode) → AreAlone set → Among (Segment segment, mode) set → mode ≡ Sole
alone_at [] segment mode all i = absurd i
alone_at (need ∷ needs) segment mode all (inl e) = subst (λ n. IsAlone n.0 n.1) (sym e) all.0
alone_at (need ∷ needs) segment mode all (inr i) = alone_at needs segment mode all.1 i

pub segments_sole : (setting : Setting) (disk : Sectors) (s : State) → Run (first_state setting disk) s → (a : ℕ) (under : Under) → (s.core.servers a).under ≡ Some under →
    (segment : ℕ) (mode : Mode) → Contains under.set (Segment segment, mode) → mode ≡ Sole
segments_sole setting disk s run a under e segment mode there =
    alone_at under.set segment mode (subst UnderAlone e (alone_of_run setting disk s run a)) (contains_in under.set (Segment segment, mode) there)
