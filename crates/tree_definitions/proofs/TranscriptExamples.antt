-- Which lines may be said after which: each rule of a well-formed transcript.
use Rattle.std.proofs.Common.{◌≡◌, ℕ, ◌+◌, List, [], ◌∷◌, ◌++◌, refl, codes, nat_le, nat_eq, ◌&&◌}
use Rattle.frang_base.specs.declared.op.Op.{Op}
use Rattle.frang_base.specs.declared.op.Op.TheVariants as op
use Rattle.frang_base.specs.declared.op.HostOp.{HostOp}
use Rattle.frang_base.specs.declared.op.HostOp.TheVariants as host
use Rattle.frang_base.specs.declared.op.What.TheVariants.{Server, Host}
use Rattle.frang_base.specs.declared.reply.Reply.{Reply}
use Rattle.frang_base.specs.declared.reply.Reply.TheVariants as reply
use Rattle.frang_base.specs.declared.said.Said.{Said}
use Rattle.frang_base.specs.declared.said.Said.TheVariants as said
use Rattle.frang_base.specs.declared.script.Line.{Line}
use Rattle.tree_definitions.specs.Resolve.{resolve}
use Rattle.tree_definitions.specs.History.{Opening, fresh_opening}
use Rattle.tree_definitions.specs.Live.{live_history}
use Rattle.tree_definitions.specs.Transcript.{Faults, no_faults, MaySay, IsTranscript, io_answers, unexplained_deaths, left_history}
use Rattle.tree_definitions.proofs.Sketch.{a, by_at, recovery}

abbrev pub asks : ℕ → ℕ → Op → Line
asks number server o = record { number = number; who = record { 0 = server }; what = Server o }

abbrev pub host_asks : ℕ → HostOp → Line
host_asks number h = record { number = number; who = record { 0 = 255 }; what = Host h }

abbrev pub answer : ℕ → ℕ → Reply → Said
answer number server r = said.Answer (record { 0 = server }) number r

abbrev pub host_ok : ℕ → Said
host_ok number = answer number 255 reply.Ok

abbrev dead : ℕ → Said
dead server = said.Dead (record { 0 = server })

abbrev recovering : ℕ → ℕ → Said
recovering server by = said.Recovering (record { 0 = server }) (record { 0 = by })

abbrev recovered : ℕ → ℕ → Said
recovered server kept = said.Recovered (record { 0 = server }) (record { 0 = kept })

abbrev renewed : ℕ → Said
renewed server = said.Renewed (record { 0 = server })

abbrev opening : Opening
opening = fresh_opening 16

-- a line may be said after these, or not
abbrev May : List Line → List Said → Said → Type 0
May script before s = MaySay script opening no_faults before s

abbrev MayNot : List Line → List Said → Said → Type 0
MayNot script before s = MaySay script opening no_faults before s → ⊥

-- where the count of the server 0 has risen from a place on
abbrev faults_from : ℕ → Faults
faults_from first place server = nat_le first place && nat_eq server 0

-- the root and /a
abbrev tree : List Said
tree = said.Node (codes "/") 2 1 0 ∷ said.Node (codes "/a") 1 0 1 ∷ []

-- a file is made
abbrev first : List Line
first = asks 1 0 op.Mount ∷ asks 2 0 (op.Create a) ∷ asks 3 0 op.Sync ∷ []

abbrev first_said : List Said
first_said = answer 1 0 reply.Mounted ∷ answer 2 0 reply.Ok ∷ answer 3 0 reply.Ok ∷ []

a_file_is_made : IsTranscript first opening no_faults (first_said ++ tree ++ said.End ∷ [])
unfolding resolve
a_file_is_made = (refl, (refl, (refl, ((refl, refl), ((refl, refl), ((refl, refl), tt))))))

the_empty_script : IsTranscript [] opening no_faults (said.Node (codes "/") 2 0 0 ∷ said.End ∷ [])
the_empty_script = ((refl, refl), ((refl, refl), tt))

-- answers: in order, none left out, none twice
not_before_the_first : MayNot first [] (answer 2 0 reply.Ok)
not_before_the_first = λ h. cc

not_twice : MayNot first (answer 1 0 reply.Mounted ∷ []) (answer 1 0 reply.Already)
not_twice = λ h. cc

not_by_another : MayNot first [] (answer 1 1 reply.Mounted)
not_by_another = λ h. cc

-- off: `mounted` to a mount, `down` to the rest; up: `already`, and its own answer
down_while_off : May (asks 1 0 (op.Create a) ∷ []) [] (answer 1 0 reply.Down)
down_while_off = refl

not_ok_while_off : MayNot (asks 1 0 (op.Create a) ∷ []) [] (answer 1 0 reply.Ok)
not_ok_while_off = λ h. cc

not_down_while_up : MayNot first (answer 1 0 reply.Mounted ∷ []) (answer 2 0 reply.Down)
not_down_while_up = λ h. cc

mounted_twice : May (asks 1 0 op.Mount ∷ asks 2 0 op.Mount ∷ []) (answer 1 0 reply.Mounted ∷ []) (answer 2 0 reply.Already)
mounted_twice = refl

not_mounted_twice : MayNot (asks 1 0 op.Mount ∷ asks 2 0 op.Mount ∷ []) (answer 1 0 reply.Mounted ∷ []) (answer 2 0 reply.Mounted)
not_mounted_twice = λ h. cc

no_io_without_a_fault : MayNot (asks 1 0 op.Mount ∷ []) [] (answer 1 0 reply.Io)
no_io_without_a_fault = λ h. cc

io_with_a_fault : MaySay (asks 1 0 op.Mount ∷ []) opening (faults_from 0) [] (answer 1 0 reply.Io)
io_with_a_fault = refl

down_after_an_unmount : May (asks 1 0 op.Mount ∷ asks 2 0 op.Unmount ∷ asks 3 0 op.Sync ∷ []) (answer 1 0 reply.Mounted ∷ answer 2 0 reply.Ok ∷ []) (answer 3 0 reply.Down)
down_after_an_unmount = refl

-- the host's lines part the script
abbrev parted : List Line
parted = asks 1 0 op.Mount ∷ host_asks 2 host.Barrier ∷ asks 3 1 op.Mount ∷ []

not_past_the_host : MayNot parted (answer 1 0 reply.Mounted ∷ []) (answer 3 1 reply.Mounted)
not_past_the_host = λ h. cc

not_before_an_earlier_line : MayNot parted [] (host_ok 2)
not_before_an_earlier_line = λ h. cc

host_after_all : May parted (answer 1 0 reply.Mounted ∷ []) (host_ok 2)
host_after_all = refl

after_the_host : May parted (answer 1 0 reply.Mounted ∷ host_ok 2 ∷ []) (answer 3 1 reply.Mounted)
after_the_host = refl

host_is_answered_ok : MayNot parted (answer 1 0 reply.Mounted ∷ []) (answer 2 255 reply.Down)
host_is_answered_ok = λ h. cc

-- a crash: the death is said first, and then the line is answered `ok` or a later one `down`
abbrev crash : List Line
crash = asks 1 0 op.Mount ∷ asks 2 0 op.Crash ∷ asks 3 0 op.Sync ∷ asks 4 0 op.Crash ∷ []

no_ok_before_the_death : MayNot crash (answer 1 0 reply.Mounted ∷ []) (answer 2 0 reply.Ok)
no_ok_before_the_death = λ h. cc

a_crash_kills : May crash (answer 1 0 reply.Mounted ∷ []) (dead 0)
a_crash_kills = refl

a_crash_is_ok : May crash (answer 1 0 reply.Mounted ∷ dead 0 ∷ []) (answer 2 0 reply.Ok)
a_crash_is_ok = refl

down_after_a_crash : May crash (answer 1 0 reply.Mounted ∷ dead 0 ∷ answer 2 0 reply.Ok ∷ []) (answer 3 0 reply.Down)
down_after_a_crash = refl

only_the_first_answer : MayNot crash (answer 1 0 reply.Mounted ∷ dead 0 ∷ answer 2 0 reply.Ok ∷ answer 3 0 reply.Down ∷ []) (answer 4 0 reply.Ok)
only_the_first_answer = λ h. cc

no_death_at_will : MayNot first (answer 1 0 reply.Mounted ∷ []) (dead 0)
no_death_at_will = λ h. cc

a_fault_kills : MaySay first opening (faults_from 1) (answer 1 0 reply.Mounted ∷ []) (dead 0)
a_fault_kills = refl

a_later_fault_does_not : MaySay first opening (faults_from 2) (answer 1 0 reply.Mounted ∷ []) (dead 0) → ⊥
a_later_fault_does_not = λ h. cc

no_death_while_off : MaySay first opening (faults_from 0) [] (dead 0) → ⊥
no_death_while_off = λ h. cc

-- a death that was called for
abbrev armed : List Line
armed = asks 1 0 op.Mount ∷ asks 2 0 (op.CutAt 2) ∷ asks 3 0 op.Sync ∷ asks 4 0 op.Mount ∷ asks 5 0 op.Sync ∷ []

an_armed_server_dies : May armed (answer 1 0 reply.Mounted ∷ answer 2 0 reply.Ok ∷ []) (dead 0)
an_armed_server_dies = refl

down_as_its_first_answer : May armed (answer 1 0 reply.Mounted ∷ answer 2 0 reply.Ok ∷ dead 0 ∷ []) (answer 3 0 reply.Down)
down_as_its_first_answer = refl

the_arming_ends_with_the_mount : MayNot armed (answer 1 0 reply.Mounted ∷ answer 2 0 reply.Ok ∷ dead 0 ∷ answer 3 0 reply.Down ∷ recovering 0 255 ∷ recovered 0 0 ∷ answer 4 0 reply.Mounted ∷ []) (dead 0)
the_arming_ends_with_the_mount = λ h. cc

already_as_its_first_answer : May (asks 1 0 op.Mount ∷ asks 2 0 (op.CrashAt 1) ∷ asks 3 0 op.Mount ∷ []) (answer 1 0 reply.Mounted ∷ answer 2 0 reply.Ok ∷ dead 0 ∷ []) (answer 3 0 reply.Already)
already_as_its_first_answer = refl

-- recoveries: of a dead server, by one that is up or the host, and done only where begun
the_host_recovers : May crash (answer 1 0 reply.Mounted ∷ dead 0 ∷ []) (recovering 0 255)
the_host_recovers = refl

no_recovery_of_a_live_server : MayNot crash (answer 1 0 reply.Mounted ∷ []) (recovering 0 255)
no_recovery_of_a_live_server = λ h. cc

no_recovery_by_an_unmounted_server : MayNot crash (answer 1 0 reply.Mounted ∷ dead 0 ∷ []) (recovering 0 1)
no_recovery_by_an_unmounted_server = λ h. cc

a_recovery_begins_first : MayNot crash (answer 1 0 reply.Mounted ∷ dead 0 ∷ []) (recovered 0 0)
a_recovery_begins_first = λ h. cc

no_mount_before_the_recovery : MayNot armed (answer 1 0 reply.Mounted ∷ answer 2 0 reply.Ok ∷ dead 0 ∷ answer 3 0 reply.Down ∷ []) (answer 4 0 reply.Mounted)
no_mount_before_the_recovery = λ h. cc

mounted_after_the_recovery : May armed (answer 1 0 reply.Mounted ∷ answer 2 0 reply.Ok ∷ dead 0 ∷ answer 3 0 reply.Down ∷ recovering 0 255 ∷ recovered 0 0 ∷ []) (answer 4 0 reply.Mounted)
mounted_after_the_recovery = refl

-- each recovery begins with a line of its own: one of an earlier death isn't enough
abbrev twice : List Line
twice = asks 1 0 op.Mount ∷ asks 2 0 op.Crash ∷ asks 3 0 op.Mount ∷ asks 4 0 op.Crash ∷ []

abbrev twice_said : List Said
twice_said = answer 1 0 reply.Mounted ∷ dead 0 ∷ answer 2 0 reply.Ok ∷ recovering 0 255 ∷ recovered 0 0 ∷ answer 3 0 reply.Mounted ∷ dead 0 ∷ []

each_recovery_begins_first : MayNot twice twice_said (recovered 0 0)
each_recovery_begins_first = λ h. cc

the_second_is_done_once_begun : May twice (twice_said ++ recovering 0 255 ∷ []) (recovered 0 0)
the_second_is_done_once_begun = refl

-- `io` is told of a death only by the first answer after it, and only where a call failed
abbrev failing : List Line
failing = asks 1 0 op.Mount ∷ asks 2 0 op.Sync ∷ asks 3 0 op.Sync ∷ []

io_as_the_first_answer : MaySay failing opening (faults_from 1) (answer 1 0 reply.Mounted ∷ dead 0 ∷ []) (answer 2 0 reply.Io)
io_as_the_first_answer = refl

no_io_as_the_second : MaySay failing opening (faults_from 1) (answer 1 0 reply.Mounted ∷ dead 0 ∷ answer 2 0 reply.Io ∷ []) (answer 3 0 reply.Io) → ⊥
no_io_as_the_second = λ h. cc

no_io_after_the_recovery :
    MaySay failing opening (faults_from 1) (answer 1 0 reply.Mounted ∷ dead 0 ∷ answer 2 0 reply.Io ∷ recovering 0 255 ∷ recovered 0 0 ∷ []) (answer 3 0 reply.Io) → ⊥
no_io_after_the_recovery = λ h. cc

-- a stalled server answers nothing; its death leaves it owing `expired` until an unmount
abbrev stall : List Line
stall = asks 1 0 op.Mount ∷ asks 2 0 op.Stall ∷ asks 3 0 (op.Stat a) ∷ asks 4 0 op.Unmount ∷ asks 5 0 op.Sync ∷ []

abbrev stalled : List Said
stalled = answer 1 0 reply.Mounted ∷ answer 2 0 reply.Ok ∷ []

stalled_says_nothing : MayNot stall stalled (answer 3 0 reply.NoEnt)
stalled_says_nothing = λ h. cc

expired_after_a_stall : May stall (stalled ++ dead 0 ∷ []) (answer 3 0 reply.Expired)
expired_after_a_stall = refl

not_down_where_it_owes : MayNot stall (stalled ++ dead 0 ∷ []) (answer 3 0 reply.Down)
not_down_where_it_owes = λ h. cc

owing_ends_with_an_unmount : May stall (stalled ++ dead 0 ∷ answer 3 0 reply.Expired ∷ []) (answer 4 0 reply.Ok)
owing_ends_with_an_unmount = refl

then_it_is_down : May stall (stalled ++ dead 0 ∷ answer 3 0 reply.Expired ∷ answer 4 0 reply.Ok ∷ []) (answer 5 0 reply.Down)
then_it_is_down = refl

it_owes_after_the_recovery_too : May stall (stalled ++ dead 0 ∷ recovering 0 255 ∷ recovered 0 0 ∷ []) (answer 3 0 reply.Expired)
it_owes_after_the_recovery_too = refl

-- an unmount of a dead server that owes ends its debt alone: it stays dead, so it may not be mounted, and its log is still recovered
abbrev owing : List Line
owing = asks 1 0 op.Mount ∷ asks 2 0 op.Stall ∷ asks 3 0 op.Unmount ∷ asks 4 0 op.Mount ∷ []

abbrev owing_said : List Said
owing_said = stalled ++ dead 0 ∷ answer 3 0 reply.Ok ∷ []

not_mounted_while_dead : MaySay owing opening (faults_from 2) owing_said (answer 4 0 reply.Mounted) → ⊥
not_mounted_while_dead = λ h. cc

still_to_be_recovered : MaySay owing opening (faults_from 2) owing_said (recovering 0 255)
still_to_be_recovered = refl

then_it_is_mounted : MaySay owing opening (faults_from 2) (owing_said ++ recovering 0 255 ∷ recovered 0 0 ∷ []) (answer 4 0 reply.Mounted)
then_it_is_mounted = refl

no_expired_without_a_stall : MayNot armed (answer 1 0 reply.Mounted ∷ answer 2 0 reply.Ok ∷ dead 0 ∷ []) (answer 3 0 reply.Expired)
no_expired_without_a_stall = λ h. cc

-- a stalled server goes on under a new lease
renewed_after_a_stall : May stall stalled (renewed 0)
renewed_after_a_stall = refl

not_renewed_while_up : MayNot stall (answer 1 0 reply.Mounted ∷ []) (renewed 0)
not_renewed_while_up = λ h. cc

not_renewed_twice : MayNot stall (stalled ++ renewed 0 ∷ []) (renewed 0)
not_renewed_twice = λ h. cc

it_answers_again : May stall (stalled ++ renewed 0 ∷ []) (answer 3 0 reply.NoEnt)
it_answers_again = refl

-- it dies only where it may be dirty: a line that may change the tree was answered, or a recovery by it began, in this mount
a_clean_server_outlives_its_lease : MayNot stall stalled (dead 0)
a_clean_server_outlives_its_lease = λ h. cc

abbrev dirty : Op → List Line
dirty o = asks 1 0 op.Mount ∷ asks 2 0 o ∷ asks 3 0 op.Stall ∷ asks 4 0 op.Unmount ∷ asks 5 0 op.Mount ∷ asks 6 0 op.Stall ∷ []

abbrev dirty_said : Reply → List Said
dirty_said r = answer 1 0 reply.Mounted ∷ answer 2 0 r ∷ answer 3 0 reply.Ok ∷ []

a_dirty_server_dies : May (dirty (op.Create a)) (dirty_said reply.Ok) (dead 0)
a_dirty_server_dies = refl

a_refused_change_is_enough : May (dirty (op.Rmdir a)) (dirty_said reply.NoEnt) (dead 0)
a_refused_change_is_enough = refl

a_look_is_not : MayNot (dirty (op.Stat a)) (dirty_said reply.NoEnt) (dead 0)
a_look_is_not = λ h. cc

no_death_while_up_and_dirty : MayNot (dirty (op.Create a)) (answer 1 0 reply.Mounted ∷ answer 2 0 reply.Ok ∷ []) (dead 0)
no_death_while_up_and_dirty = λ h. cc

an_earlier_mount_is_not : MayNot (dirty (op.Create a)) (dirty_said reply.Ok ++ renewed 0 ∷ answer 4 0 reply.Ok ∷ answer 5 0 reply.Mounted ∷ answer 6 0 reply.Ok ∷ []) (dead 0)
an_earlier_mount_is_not = λ h. cc

a_fault_ends_a_clean_stall : MaySay stall opening (faults_from 2) stalled (dead 0)
a_fault_ends_a_clean_stall = refl

-- the server 1 recovers the server 0, and stalls
abbrev recoverer : List Line
recoverer = asks 1 0 op.Mount ∷ asks 2 1 op.Mount ∷ asks 3 0 op.Crash ∷ asks 4 1 op.Stall ∷ []

abbrev recoverer_said : List Said
recoverer_said = answer 1 0 reply.Mounted ∷ answer 2 1 reply.Mounted ∷ dead 0 ∷ recovering 0 1 ∷ answer 4 1 reply.Ok ∷ []

a_recoverer_may_be_dirty : May recoverer recoverer_said (dead 1)
a_recoverer_may_be_dirty = refl

-- of an armed server the arming outlives the stall
abbrev armed_stall : List Line
armed_stall = asks 1 0 op.Mount ∷ asks 2 0 (op.CrashAt 1) ∷ asks 3 0 op.Stall ∷ []

an_armed_server_dies_stalled : May armed_stall (answer 1 0 reply.Mounted ∷ answer 2 0 reply.Ok ∷ answer 3 0 reply.Ok ∷ []) (dead 0)
an_armed_server_dies_stalled = refl

-- notes of a backup or of a lock table stand wherever lines go on, and change nothing
a_note_of_a_backup : May first [] (said.Backup 1)
a_note_of_a_backup = refl

a_note_of_the_locks : May first (first_said) (said.Locks 3)
a_note_of_the_locks = refl

a_note_changes_nothing : May first (said.Backup 1 ∷ answer 1 0 reply.Mounted ∷ said.Locks 1 ∷ []) (answer 2 0 reply.Ok)
a_note_changes_nothing = refl

no_note_in_the_tree : MayNot first (first_said ++ said.Node (codes "/") 2 1 0 ∷ []) (said.Backup 1)
no_note_in_the_tree = λ h. cc

no_note_after_a_halt : MayNot (asks 1 0 op.Mount ∷ host_asks 2 host.Halt ∷ []) (answer 1 0 reply.Mounted ∷ host_ok 2 ∷ []) (said.Locks 1)
no_note_after_a_halt = λ h. cc

-- deaths that nothing but a fault explains, and answers `io`, are counted
one_death_by_a_fault : unexplained_deaths stall 0 (stalled ++ dead 0 ∷ []) ≡ 1
one_death_by_a_fault = refl

a_crash_is_explained : unexplained_deaths crash 0 (answer 1 0 reply.Mounted ∷ dead 0 ∷ answer 2 0 reply.Ok ∷ []) ≡ 0
a_crash_is_explained = refl

its_io_answers : io_answers 0 (answer 1 0 reply.Io ∷ answer 1 1 reply.Io ∷ answer 2 0 reply.Ok ∷ []) ≡ 1
its_io_answers = refl

-- where a fault may have ended the stalled mount, it owes or not, and stays with what it said
may_owe : MaySay stall opening (faults_from 2) (stalled ++ dead 0 ∷ []) (answer 3 0 reply.Expired)
may_owe = refl

may_not_owe : MaySay stall opening (faults_from 2) (stalled ++ dead 0 ∷ []) (answer 3 0 reply.Io)
may_not_owe = refl

who_did_not_owe_is_down : MaySay stall opening (faults_from 2) (stalled ++ dead 0 ∷ answer 3 0 reply.Io ∷ []) (answer 4 0 reply.Ok) → ⊥
who_did_not_owe_is_down = λ h. cc

who_owed_owes : MaySay stall opening (faults_from 2) (stalled ++ dead 0 ∷ answer 3 0 reply.Expired ∷ []) (answer 4 0 reply.Down) → ⊥
who_owed_owes = λ h. cc

-- the tree: after every answer, while nobody is stalled or dead, from its first line on and whole before the end
no_tree_before_all_answers : MayNot first (answer 1 0 reply.Mounted ∷ []) (said.Node (codes "/") 2 0 0)
no_tree_before_all_answers = λ (h, e). cc

no_tree_while_a_server_is_dead : MayNot (asks 1 0 op.Mount ∷ asks 2 0 op.Crash ∷ []) (answer 1 0 reply.Mounted ∷ dead 0 ∷ answer 2 0 reply.Ok ∷ []) (said.Node (codes "/") 2 0 0)
no_tree_while_a_server_is_dead = λ (h, e). cc

-- the last of the sixteen servers counts as the others
no_tree_while_the_last_server_is_dead :
    MayNot (asks 1 15 op.Mount ∷ asks 2 15 op.Crash ∷ []) (answer 1 15 reply.Mounted ∷ dead 15 ∷ answer 2 15 reply.Ok ∷ []) (said.Node (codes "/") 2 0 0)
no_tree_while_the_last_server_is_dead = λ (h, e). cc

a_tree_once_it_is_recovered :
    May (asks 1 15 op.Mount ∷ asks 2 15 op.Crash ∷ []) (answer 1 15 reply.Mounted ∷ dead 15 ∷ answer 2 15 reply.Ok ∷ recovering 15 255 ∷ recovered 15 0 ∷ [])
    (said.Node (codes "/") 2 0 0)
unfolding resolve
a_tree_once_it_is_recovered = (refl, refl)

the_root_first : MayNot first first_said (said.Node (codes "/a") 1 0 1)
unfolding resolve
the_root_first = λ (h, e). cc

no_end_before_the_tree : MayNot first (first_said ++ said.Node (codes "/") 2 1 0 ∷ []) said.End
unfolding resolve
no_end_before_the_tree = λ (h, e). cc

nothing_after_the_end : MayNot first (first_said ++ tree ++ said.End ∷ []) said.End
unfolding resolve
nothing_after_the_end = λ (h, e). cc

no_death_in_the_tree : MaySay first opening (faults_from 0) (first_said ++ said.Node (codes "/") 2 1 0 ∷ []) (dead 0) → ⊥
no_death_in_the_tree = λ h. cc

-- after a halt nothing is said
abbrev halted : List Line
halted = asks 1 0 op.Mount ∷ host_asks 2 host.Halt ∷ []

a_halt_is_answered : May halted (answer 1 0 reply.Mounted ∷ []) (host_ok 2)
a_halt_is_answered = refl

no_tree_after_a_halt : MayNot halted (answer 1 0 reply.Mounted ∷ host_ok 2 ∷ []) (said.Node (codes "/") 2 0 0)
no_tree_after_a_halt = λ (h, e). cc

-- no other line stands in a transcript
no_report_line : MayNot first [] (said.Shown (codes "x"))
no_report_line = λ h. h

-- the live history has the servers' answers and the recoveries
it_is_read_off : live_history parted 1 (answer 1 0 reply.Mounted ∷ host_ok 2 ∷ recovering 1 0 ∷ recovered 1 7 ∷ []) ≡ by_at 0 0 1 op.Mount reply.Mounted ∷ recovery 1 7 ∷ []
it_is_read_off = refl

-- a stop leaves a recovery more of each server that is up, stalled or dead
a_stop_recovers_all : left_history parted 1 (answer 1 0 reply.Mounted ∷ host_ok 2 ∷ answer 3 1 reply.Mounted ∷ []) (λ server. server + 5)
    ≡ by_at 0 0 1 op.Mount reply.Mounted ∷ by_at 0 1 3 op.Mount reply.Mounted ∷ recovery 0 5 ∷ recovery 1 6 ∷ []
a_stop_recovers_all = refl

-- the last of the sixteen servers too
a_stop_recovers_the_last_server : left_history (asks 1 15 op.Mount ∷ []) 1 (answer 1 15 reply.Mounted ∷ []) (λ server. server + 5) ≡ by_at 0 15 1 op.Mount reply.Mounted ∷ recovery 15 20 ∷ []
a_stop_recovers_the_last_server = refl

a_stop_in_the_tree_recovers_none : left_history (asks 1 0 op.Mount ∷ []) 1 (answer 1 0 reply.Mounted ∷ said.Node (codes "/") 2 0 0 ∷ []) (λ server. 5) ≡ by_at 0 0 1 op.Mount reply.Mounted ∷ []
a_stop_in_the_tree_recovers_none = refl
