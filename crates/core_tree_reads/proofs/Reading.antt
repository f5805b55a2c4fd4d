-- Over every run the host reads the tree at rest, each block that it has read is the disk's, and from the first one on only reading happens: step by step.
use Rattle.std.proofs.Common.{◌≡◌, ℕ, ◌+◌, ◌%◌, ◌⊎◌, inl, inr, ⊎_elim, Bool, true, false, not, ◌&&◌, ◌||◌, ◌==◌, if◌then◌else◌, IsTrue, List, [], ◌∷◌, ◌++◌, Option, Some, None, is_some, refl, sym, ap, ◌∙◌, subst, append_assoc}
use Rattle.std.proofs.lemmas.Bool.{and_parts, false≢true, or_left, or_right}
use Rattle.std.proofs.lemmas.Cmp.{nat_cmp_total}
use Rattle.std.proofs.lemmas.List.Elements.{filter_map-append}
use Rattle.std.proofs.lemmas.List.Folds.{list_all-append}
use Rattle.std.proofs.lemmas.Option.{none-some}
use Rattle.std.specs.BTreeMap.{is_at}
use Rattle.std.specs.List.{list_all, slice_get}
use Rattle.std.specs.Ordering.{nat_cmp}
use Rattle.frang_base.specs.Functions.{put}
use Rattle.frang_base.specs.declared.said.Said.{Said}
use Rattle.frang_base.specs.declared.said.Said.TheVariants as said
use Rattle.frang_base.specs.declared.script.Line.{Line}
use Rattle.frang_base.proofs.Basics.{at_put}
use Rattle.frang_base.proofs.Tests.{at_itself}
use Rattle.sorted_entries.proofs.Sorted.{lookup-insert_entry}
use Rattle.disk_definitions.proofs.Listed.{Among, all_at, among_filtered}
use Rattle.tree_definitions.specs.Live.{item_of, live_history}
use Rattle.tree_definitions.specs.Transcript.{is_end, is_node}
use Rattle.sector_bytes.specs.Blocks.{Block}
use Rattle.sector_bytes.specs.SectorMaps.{value_at, with_value}
use Rattle.sector_bytes.specs.Sectors.{Sectors}
use Rattle.sector_bytes.proofs.MapLaws.{found}
use Rattle.core_definitions.specs.Logs.{is_none}
use Rattle.core_definitions.specs.Scripts.{all_answered}
use Rattle.core_definitions.specs.Servers.{is_off, is_up, wanting_all, wanting_all_up}
use Rattle.core_definitions.specs.Settings.{Setting}
use Rattle.core_definitions.specs.Trees.{TreeRead, needed_sectors}
use Rattle.core_definitions.specs.Cores.{Core, server_numbers, tree_lines, tree_needs}
use Rattle.core_definitions.specs.Events.{Event, End, Heard, Nothing, Got, GetFailed, Written, Late, PutFailed, Read, Show, Tick}
use Rattle.core_definitions.specs.EndGuards.{CanRead, IsTreeRead}
use Rattle.core_definitions.specs.Guards.{CanGoing}
use Rattle.core_definitions.specs.Effects.{Deed, Made, MayHear, Says, after, says_node}
use Rattle.core_definitions.specs.Runs.{State, Step, Event_, Enter, Hold, Flush, Relock, Note, Peek, PeekFails, Run, Stays, Goes, Makes, first_state, goes_on, is_note, next, said_by, saids_of}
use Rattle.core_facts.proofs.Reading.{put_slot}
use Rattle.core_laws.proofs.Along.{along, longer}
use Rattle.core_laws.proofs.Keys.{member_in}
use Rattle.core_laws.proofs.Parties.{server_in}
use Rattle.core_transcripts.specs.Answers.{HaveOwnNumbers, LinesUnderWayAreNext}
use Rattle.core_transcripts.proofs.Telling.{got_in, tree_nodes}
use Rattle.tree_reading_laws.specs.Reading.{IsReadOf}
use Rattle.core_tree_reads.specs.AtRest.{IsAtRest, OnlyReads, has_read, is_closing, is_closing_deed, is_of_reading}
use Rattle.core_tree_reads.proofs.Kept.{IsOfHost, Reads, Shows, Ends, Leaves, left_by}
use Rattle.core_tree_reads.proofs.Resting.{Rests, is_at_rest, no_line_enters, only_reading}
use Rattle.core_tree_reads.proofs.Said.{none_is}

-- ---- what is read

-- a sector that has a block among what is read
filled : (read : TreeRead) (sector : ℕ) (block : Block) → value_at read sector ≡ Some block → IsTrue (not (is_none read))
filled [] sector block e = absurd (none-some block e)
filled (x ∷ xs) sector block e = refl

put_in : (read : TreeRead) (sector : ℕ) (block : Block) → value_at (with_value read sector block) sector ≡ Some block
put_in read sector block = lookup-insert_entry nat_cmp_total sector block sector read ∙ ap (λ b. if b then Some block else value_at read sector) (at_itself sector)

pub none_read : (read : TreeRead) → not (is_none read) ≡ false → read ≡ []
none_read [] e = refl
none_read (x ∷ xs) e = absurd (false≢true (sym e))

-- where nothing is read the root is needed
pub root_needed : (segments : ℕ) (read : TreeRead) → read ≡ [] → IsTrue (is_none (needed_sectors segments read)) → ⊥
root_needed segments [] e n = false≢true n
root_needed segments (x ∷ xs) e n = absurd (cc)

nothing_of : (disk : Sectors) (read : TreeRead) → read ≡ [] → IsReadOf disk read
nothing_of disk read e sector block v = absurd (none-some block (sym (ap (λ r. value_at r sector) e) ∙ v))

one_more : (disk : Sectors) (read : TreeRead) (sector : ℕ) (block : Block) → block ≡ disk sector → IsReadOf disk read → IsReadOf disk (with_value read sector block)
one_more disk read sector block got h x b e =
    ⊎_elim (λ (p : (sector ≡ x) × (block ≡ b)). sym p.1 ∙ got ∙ ap disk p.0) (λ f. h x b f) (put_slot read sector x block b e)

-- ---- what holds at every moment

record Kept (s : State) : Type 0 where
  rests : IsTrue (has_read s.core) → Rests s.core
  blocks : IsReadOf s.disk s.core.read

-- as long as nothing is read
unread : (s : State) → s.core.read ≡ [] → Kept s
unread s e = record { rests = λ read. absurd (false≢true (sym (ap (λ r. not (is_none r)) e) ∙ read)); blocks = nothing_of s.disk s.core.read e }

rest_of : (c : Core) (sector : ℕ) → CanRead c sector → Rests c
rest_of c sector can = record {
  answered = can.answered;
  off = λ i server. all_at (λ a. is_off (c.servers a).phase) server_numbers can.off i (server_in i server);
  landed = none_is c.flights can.landed;
}

-- what a read leaves, by what was heard
read_kept : (s : State) (sector : ℕ) (heard : Heard) → Rests s.core → IsReadOf s.disk s.core.read → MayHear s.core s.disk (Read sector) heard → Kept (next s (Read sector) heard)
read_kept s sector (Got block) r h hears = record {
  rests = λ read. record { answered = r.answered; off = r.off; landed = r.landed };
  blocks = one_more s.disk s.core.read sector block hears h;
}
read_kept s sector GetFailed r h hears = record { rests = λ read. record { answered = r.answered; off = r.off; landed = r.landed }; blocks = h }
read_kept s sector Nothing r h hears = absurd hears
read_kept s sector Written r h hears = absurd hears
read_kept s sector Late r h hears = absurd hears
read_kept s sector (PutFailed new) r h hears = absurd hears

-- before the first read
early_kept : (s : State) (event : Event) (heard : Heard) → s.core.read ≡ [] → CanGoing s.core event → MayHear s.core s.disk event heard → IsOfHost event ⊎ Leaves s.core event heard →
    Kept (next s event heard)
early_kept s event heard e can hears (inr leaves) = unread (next s event heard) (leaves.same.read ∙ e)
early_kept s event heard e can hears (inl of) = by_host event can hears of
  where
    tree_unread : IsTreeRead s.core → ⊥
    tree_unread read = root_needed s.core.setting.segments s.core.read e read.whole

    by_host : (event : Event) → CanGoing s.core event → MayHear s.core s.disk event heard → IsOfHost event → Kept (next s event heard)
    by_host event can hears (Reads sector) = read_kept s sector heard (rest_of s.core sector can) (nothing_of s.disk s.core.read e) hears
    by_host event can hears (Shows place) = absurd (tree_unread can.read)
    by_host event can hears Ends = absurd (tree_unread can.read)

wanting_off : (s : State) (i : ℕ) → IsTrue (is_off (s.core.servers i).phase) → IsTrue (is_off (wanting_all_up (s.core.servers i)).phase)
wanting_off s i h = go (is_up (s.core.servers i).phase)
  where
    go : (u : Bool) → IsTrue (is_off (if u then wanting_all (s.core.servers i) else s.core.servers i).phase)
    go true = h
    go false = h

flushed_off : (s : State) (i : ℕ) → IsTrue (is_off (s.core.servers i).phase) →
    IsTrue (is_off (if (s.core.now + 1) % s.core.setting.flush_ticks == 0 then wanting_all_up (s.core.servers i) else s.core.servers i).phase)
flushed_off s i h = go ((s.core.now + 1) % s.core.setting.flush_ticks == 0)
  where
    go : (b : Bool) → IsTrue (is_off (if b then wanting_all_up (s.core.servers i) else s.core.servers i).phase)
    go true = wanting_off s i h
    go false = h

-- and behind it
late_kept : (s : State) (event : Event) (heard : Heard) → Rests s.core → IsReadOf s.disk s.core.read → MayHear s.core s.disk event heard → IsTrue (is_of_reading event) →
    Kept (next s event heard)
late_kept s Tick heard r h hears of = record {
  rests = λ read. record { answered = r.answered; off = λ i server. flushed_off s i (r.off i server); landed = r.landed };
  blocks = h;
}
late_kept s (Read sector) heard r h hears of = read_kept s sector heard r h hears
late_kept s (Show place) heard r h hears of = record { rests = λ read. record { answered = r.answered; off = r.off; landed = r.landed }; blocks = h }
late_kept s End heard r h hears of = record { rests = λ read. record { answered = r.answered; off = r.off; landed = r.landed }; blocks = h }
late_kept s event heard r h hears of = absurd (false≢true of)

-- a step that leaves the servers' phases, what is in flight and what is read
alike : (s v : State) → v.core.setting ≡ s.core.setting → v.core.answered ≡ s.core.answered → ((i : ℕ) → IsTrue (is_off (s.core.servers i).phase) → IsTrue (is_off (v.core.servers i).phase)) →
    v.core.flights ≡ s.core.flights → v.core.read ≡ s.core.read → v.disk ≡ s.disk → Kept s → Kept v
alike s v setting answered off flights read disk h = record {
  rests = λ has. let r : Rests s.core = h.rests (subst (λ x. IsTrue (not (is_none x))) read has) in
      record {
        answered = subst (λ z. IsTrue (all_answered z.script v.core.answered)) (sym setting) (subst (λ m. IsTrue (all_answered s.core.setting.script m)) (sym answered) r.answered);
        off = λ i server. off i (r.off i server);
        landed = flights ∙ r.landed;
      };
  blocks = subst (λ d. IsReadOf d v.core.read) (sym disk) (subst (λ x. IsReadOf s.disk x) (sym read) h.blocks);
}

module _ (way : LinesUnderWayAreNext) (setting : Setting) (disk : Sectors) (own : HaveOwnNumbers setting.script) where
  event_kept : (s : State) (event : Event) (heard : Heard) → Run (first_state setting disk) s → Makes s event heard → Kept s → Kept (next s event heard)
  event_kept s event heard run makes h = go (has_read s.core) refl
    where
      go : (b : Bool) → has_read s.core ≡ b → Kept (next s event heard)
      go true e = late_kept s event heard (h.rests e) h.blocks makes.hears (only_reading way setting disk s own run (h.rests e) event makes.can.can)
      go false e = early_kept s event heard (none_read s.core.read e) makes.can.can makes.hears (left_by s.core event heard)

  step_kept : (s v : State) → Run (first_state setting disk) s → Step s v → Kept s → Kept v
  step_kept s v run (Event_ event heard makes) h = event_kept s event heard run makes h
  step_kept s v run (Enter a line can) h = alike s v refl refl (λ i o. o) refl refl refl h
  step_kept s v run (Hold a on may) h = alike s v refl refl (λ i o. o) refl refl refl h
  step_kept s v run (Flush a may) h =
      alike s v refl refl
      (λ i o. at_put (λ x. IsTrue (is_off x.phase)) s.core.servers a (wanting_all_up (s.core.servers a)) i (λ e. wanting_off s a (subst (λ k. IsTrue (is_off (s.core.servers k).phase)) e o)) (λ n. o))
      refl refl refl h
  step_kept s v run (Relock locks going are same wait) h = alike s v refl refl (λ i o. o) refl refl refl h
  step_kept s v run (Note line may) h = alike s v refl refl (λ i o. o) refl refl refl h
  step_kept s v run (Peek sector going) h = h
  step_kept s v run (PeekFails sector going) h = alike s v refl refl (λ i o. o) refl refl refl h

  kept_of_run : (s : State) → Run (first_state setting disk) s → Kept s
  kept_of_run = along setting disk Kept (λ s v run step h. step_kept s v run step h) (unread (first_state setting disk) refl)

  pub rest_of_run : (s : State) → Run (first_state setting disk) s → IsTrue (has_read s.core) → IsAtRest s.core
  rest_of_run s run read = is_at_rest way setting disk s own run ((kept_of_run s run).rests read)

  pub blocks_of_run : (s : State) → Run (first_state setting disk) s → IsReadOf s.disk s.core.read
  blocks_of_run s run = (kept_of_run s run).blocks

  pub only_reading_of_run : (s : State) (event : Event) (heard : Heard) → Run (first_state setting disk) s → IsTrue (has_read s.core) → Makes s event heard → IsTrue (is_of_reading event)
  only_reading_of_run s event heard run read makes = only_reading way setting disk s own run ((kept_of_run s run).rests read) event makes.can.can

-- ---- what is said meanwhile

module _ (script : List Line) (number : ℕ) where
  closing_none : (x : Said) → IsTrue (is_closing x) → item_of script number x ≡ []
  closing_none (said.Node path kind size links) h = refl
  closing_none said.End h = refl
  closing_none (said.Backup line) h = refl
  closing_none (said.Locks line) h = refl
  closing_none x h = absurd (false≢true h)

  deeds_none : (deeds : List Deed) → IsTrue (list_all is_closing_deed deeds) → live_history script number (saids_of deeds) ≡ []
  deeds_none [] h = refl
  deeds_none (Made put taken ∷ deeds) h = absurd (false≢true h)
  deeds_none (Says x ∷ deeds) h =
      let parts = and_parts (is_closing x) (list_all is_closing_deed deeds) h in
      ap (λ l. l ++ live_history script number (saids_of deeds)) (closing_none x parts.0) ∙ deeds_none deeds parts.1

  flat_more : (xs ys : List Said) → live_history script number (xs ++ ys) ≡ live_history script number xs ++ live_history script number ys
  flat_more [] ys = refl
  flat_more (x ∷ xs) ys = ap (λ l. item_of script number x ++ l) (flat_more xs ys) ∙ sym (append_assoc (item_of script number x) (live_history script number xs) (live_history script number ys))

  same_history : (s v : State) (deeds : List Deed) → v.record_ ≡ s.record_ ++ deeds → IsTrue (list_all is_closing_deed deeds) →
      live_history script number (saids_of v.record_) ≡ live_history script number (saids_of s.record_)
  same_history s v deeds more closing =
      ap (λ r. live_history script number (saids_of r)) more ∙ ap (live_history script number) (filter_map-append said_by s.record_ deeds)
      ∙ flat_more (saids_of s.record_) (saids_of deeds) ∙ ap (λ l. live_history script number (saids_of s.record_) ++ l) (deeds_none deeds closing)
      ∙ nil_end (live_history script number (saids_of s.record_))
    where
      nil_end : {X : Type 0} (xs : List X) → xs ++ [] ≡ xs
      nil_end [] = refl
      nil_end (x ∷ xs) = ap (λ l. x ∷ l) (nil_end xs)

only_reads : (s v : State) (deeds : List Deed) → IsTrue (has_read v.core) → v.disk ≡ s.disk → v.record_ ≡ s.record_ ++ deeds → IsTrue (list_all is_closing_deed deeds) → OnlyReads s v
only_reads s v deeds read same more closing =
    record { read = read; disk = same; deeds = deeds; more = more; closing = closing; history = λ script number. same_history script number s v deeds more closing }

nil_deeds : (deeds : List Deed) → deeds ≡ deeds ++ []
nil_deeds [] = refl
nil_deeds (x ∷ xs) = ap (λ l. x ∷ l) (nil_deeds xs)

both_read : (s v w : State) → OnlyReads s v → OnlyReads v w → OnlyReads s w
both_read s v w a b =
    only_reads s w (a.deeds ++ b.deeds) b.read (b.disk ∙ a.disk) (b.more ∙ ap (λ l. l ++ b.deeds) a.more ∙ append_assoc s.record_ a.deeds b.deeds)
    (list_all-append is_closing_deed a.deeds b.deeds ∙ ap (λ t. t && list_all is_closing_deed b.deeds) a.closing ∙ b.closing)

-- ---- steps

-- of a read
read_only : (s : State) (sector : ℕ) (heard : Heard) → IsTrue (has_read s.core) → OnlyReads s (next s (Read sector) heard)
read_only s sector (Got block) read =
    only_reads s (next s (Read sector) (Got block)) [] (filled (with_value s.core.read sector block) sector block (put_in s.core.read sector block)) refl refl refl
read_only s sector Nothing read = only_reads s (next s (Read sector) Nothing) [] read refl refl refl
read_only s sector GetFailed read = only_reads s (next s (Read sector) GetFailed) [] read refl refl refl
read_only s sector Written read = only_reads s (next s (Read sector) Written) [] read refl refl refl
read_only s sector Late read = only_reads s (next s (Read sector) Late) [] read refl refl refl
read_only s sector (PutFailed new) read = only_reads s (next s (Read sector) (PutFailed new)) [] read refl refl refl

node_closes : (x : Said) → is_node x ≡ true → IsTrue (is_closing x)
node_closes x n = or_left (is_note x || is_node x) (is_end x) (or_right (is_note x) (is_node x) n)

node_closing : (lines : List Said) → ((x : Said) → Among x lines → is_node x ≡ true) → (place : ℕ) → IsTrue (list_all is_closing_deed (says_node (slice_get lines place)))
node_closing lines nodes place = go (slice_get lines place) refl
  where
    go : (o : Option Said) → slice_get lines place ≡ o → IsTrue (list_all is_closing_deed (says_node o))
    go None e = refl
    go (Some x) e = ap (λ b. b && true) (node_closes x (nodes x (got_in lines place x e)))

event_only : (s : State) (event : Event) (heard : Heard) → IsTrue (has_read s.core) → IsTrue (is_of_reading event) → OnlyReads s (next s event heard)
event_only s Tick heard read of = only_reads s (next s Tick heard) [] read refl refl refl
event_only s (Read sector) heard read of = read_only s sector heard read
event_only s (Show place) heard read of =
    only_reads s (next s (Show place) heard) (says_node (slice_get (tree_lines s.core) place)) read refl refl
    (node_closing (tree_lines s.core) (tree_nodes s.core.setting.segments s.core.read) place)
event_only s End heard read of = only_reads s (next s End heard) (Says said.End ∷ []) read refl refl refl
event_only s event heard read of = absurd (false≢true of)

note_closes : (x : Said) → IsTrue (is_note x) → IsTrue (list_all is_closing_deed (Says x ∷ []))
note_closes x n = ap (λ b. b && true) (or_left (is_note x || is_node x) (is_end x) (or_left (is_note x) (is_node x) n))

module _ (way : LinesUnderWayAreNext) (setting : Setting) (disk : Sectors) (own : HaveOwnNumbers setting.script) where
  step_only : (s v : State) → Run (first_state setting disk) s → Step s v → IsTrue (has_read s.core) → OnlyReads s v
  step_only s v run (Event_ event heard makes) read = event_only s event heard read (only_reading_of_run way setting disk own s event heard run read makes)
  step_only s v run (Enter a line can) read = absurd (no_line_enters way setting disk s own run ((kept_of_run way setting disk own s run).rests read) a line can.next)
  step_only s v run (Hold a on may) read = only_reads s v [] read refl (nil_deeds s.record_) refl
  step_only s v run (Flush a may) read = only_reads s v [] read refl (nil_deeds s.record_) refl
  step_only s v run (Relock locks going are same wait) read = only_reads s v [] read refl (nil_deeds s.record_) refl
  step_only s v run (Note line may) read = only_reads s v (Says line ∷ []) read refl refl (note_closes line (and_parts (is_note line) (goes_on s.core) may).0)
  step_only s v run (Peek sector going) read = only_reads s v [] read refl (nil_deeds s.record_) refl
  step_only s v run (PeekFails sector going) read = only_reads s v [] read refl (nil_deeds s.record_) refl

  pub later_only : (s v : State) → Run (first_state setting disk) s → Run s v → IsTrue (has_read s.core) → OnlyReads s v
  later_only s v run Stays read = only_reads s s [] read refl (nil_deeds s.record_) refl
  later_only s w run (Goes {v = v} step more) read =
      let here : OnlyReads s v = step_only s v run step read in
      both_read s v w here (later_only v w (longer (first_state setting disk) s v run step) more here.read)

-- ---- each block is read once

read_stays : (s : State) (k : ℕ) (heard : Heard) → CanRead s.core k → (sector : ℕ) (block : Block) → value_at s.core.read sector ≡ Some block →
    value_at (after s.core (Read k) heard).read sector ≡ Some block
read_stays s k (Got got) can sector block e = lookup-insert_entry nat_cmp_total k got sector s.core.read ∙ go (is_at (nat_cmp sector) k) refl
  where
    lacks : not (is_some (value_at s.core.read k)) ≡ true
    lacks = (among_filtered (λ sector. not (is_some (value_at s.core.read sector))) _ k (member_in k (tree_needs s.core) can.needed)).1

    go : (b : Bool) → is_at (nat_cmp sector) k ≡ b → (if b then Some got else value_at s.core.read sector) ≡ Some block
    go true f = absurd (false≢true (sym (ap (λ o. not (is_some o)) (ap (value_at s.core.read) (found sector k f) ∙ e)) ∙ lacks))
    go false f = e
read_stays s k Nothing can sector block e = e
read_stays s k GetFailed can sector block e = e
read_stays s k Written can sector block e = e
read_stays s k Late can sector block e = e
read_stays s k (PutFailed new) can sector block e = e

event_stays : (s : State) (event : Event) (heard : Heard) → CanGoing s.core event → IsOfHost event ⊎ Leaves s.core event heard → (sector : ℕ) (block : Block) →
    value_at s.core.read sector ≡ Some block → value_at (after s.core event heard).read sector ≡ Some block
event_stays s event heard can (inr leaves) sector block e = ap (λ r. value_at r sector) leaves.same.read ∙ e
event_stays s event heard can (inl of) sector block e = by_host event can of
  where
    by_host : (event : Event) → CanGoing s.core event → IsOfHost event → value_at (after s.core event heard).read sector ≡ Some block
    by_host event can (Reads k) = read_stays s k heard can sector block e
    by_host event can (Shows place) = e
    by_host event can Ends = e

step_stays : (s v : State) → Step s v → (sector : ℕ) (block : Block) → value_at s.core.read sector ≡ Some block → value_at v.core.read sector ≡ Some block
step_stays s v (Event_ event heard makes) sector block e = event_stays s event heard makes.can.can (left_by s.core event heard) sector block e
step_stays s v (Enter a line can) sector block e = e
step_stays s v (Hold a on may) sector block e = e
step_stays s v (Flush a may) sector block e = e
step_stays s v (Relock locks going are same wait) sector block e = e
step_stays s v (Note line may) sector block e = e
step_stays s v (Peek k going) sector block e = e
step_stays s v (PeekFails k going) sector block e = e

pub stay_read : (s v : State) (sector : ℕ) (block : Block) → Run s v → value_at s.core.read sector ≡ Some block → value_at v.core.read sector ≡ Some block
stay_read s v sector block Stays e = e
stay_read s w sector block (Goes {v = v} step run) e = stay_read v w sector block run (step_stays s v step sector block e)
