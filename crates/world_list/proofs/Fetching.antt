-- The sectors that a party may fetch: of a server those that its line needs and the slots of its own log that a mount hasn't read; of the host none.
use Rattle.std.proofs.Common.{◌≡◌, ℕ, Bool, true, false, not, ◌&&◌, if◌then◌else◌, List, [], ◌∷◌, ◌++◌, cond, filter, map, Option, Some, None, is_some, refl, sym, ap, ◌∙◌, subst}
use Rattle.std.specs.List.{flat_map}
use Rattle.std.specs.Map.{keys_of}
use Rattle.frang_base.specs.Functions.{member}
use Rattle.frang_base.specs.declared.lock.LockId.TheVariants.{Log, Segment, Node}
use Rattle.frang_base.specs.declared.lock.Mode.{Mode}
use Rattle.tree_definitions.specs.Apply.{is_path_op}
use Rattle.tree_definitions.specs.Numbers.{below}
use Rattle.tree_definitions.specs.Transcript.{is_mount}
use Rattle.sector_bytes.specs.SectorMaps.{value_at}
use Rattle.set_definitions.specs.Sets.{LockSet, segments_in}
use Rattle.cache_definitions.specs.Caches.{Cache}
use Rattle.core_definitions.specs.Cores.{Core, stage}
use Rattle.core_definitions.specs.Enabled.{fetches, only, only_if, party_of}
use Rattle.core_definitions.specs.Events.{Event, Fetch}
use Rattle.core_definitions.specs.LineGuards.{is_server, needed_by, slots_under}
use Rattle.line_stages.specs.Needs.{needs_in}
use Rattle.core_definitions.specs.Lines.{Stage, Asking, Fetching, Moving, Stopping, Growing, Clearing, Finishing, Under, bitmap_sector, missing_bitmaps, operation_of}
use Rattle.core_definitions.specs.Logs.{SlotsRead, is_slot_read, unread}
use Rattle.core_definitions.specs.Servers.{Server, asked_by, asks, is_off, is_open, is_up, stage_under}
use Rattle.disk_definitions.specs.Regions.{sector_of}
use Rattle.disk_definitions.specs.declared.region.Region.TheVariants as region
use Rattle.log_slots.proofs.Maps.{below_sorted, filter_member, filter_sorted, same_lists}
use Rattle.log_slots.specs.Reading.{log_rules, unread_slots}
use Rattle.world_list.proofs.Onlys.{those_pass}

-- ---- the row of a party

module _ (c : Core) (a : ℕ) where
  abbrev needed_fetches : Bool → List Event
  needed_fetches b = map (Fetch a) (only_if b (needed_by (stage c a)))

  abbrev slot_fetches : Bool → List Event
  slot_fetches b = map (Fetch a) (only_if b (slots_under c.setting.logs a (c.servers a).under))

  pub no_fetches : is_server a ≡ false → fetches c (party_of c a) ≡ []
  no_fetches host = ap (λ b. needed_fetches (b && is_up (c.servers a).phase) ++ slot_fetches (b && is_off (c.servers a).phase && asks is_mount (c.servers a))) host

  -- a server that isn't up needs none for its line
  none_down : is_up (c.servers a).phase ≡ false → needed_by (stage c a) ≡ []
  none_down down = ap (λ b. needed_by (if b && asks is_path_op (c.servers a) then stage_under c.setting c.locks a (c.servers a).cache (c.servers a).under else None)) down

  all_needed : (b : Bool) → is_up (c.servers a).phase ≡ b → needed_fetches b ≡ map (Fetch a) (needed_by (stage c a))
  all_needed true up = refl
  all_needed false down = ap (map (Fetch a)) (sym (none_down down))

  pub its_fetches : is_server a ≡ true → fetches c (party_of c a) ≡ map (Fetch a) (needed_by (stage c a)) ++ slot_fetches (is_off (c.servers a).phase && asks is_mount (c.servers a))
  its_fetches is =
      ap (λ b. needed_fetches (b && is_up (c.servers a).phase) ++ slot_fetches (b && is_off (c.servers a).phase && asks is_mount (c.servers a))) is
      ∙ ap (λ es. es ++ slot_fetches (is_off (c.servers a).phase && asks is_mount (c.servers a))) (all_needed (is_up (c.servers a).phase) refl)

-- the sectors that a stage needs
pub needed_keys : (at : Option Stage) → keys_of (needs_in at) ≡ needed_by at
needed_keys None = refl
needed_keys (Some (Asking need)) = refl
needed_keys (Some (Fetching needs)) = refl
needed_keys (Some Moving) = refl
needed_keys (Some Stopping) = refl
needed_keys (Some (Growing needs seen)) = refl
needed_keys (Some (Clearing block)) = refl
needed_keys (Some (Finishing outcome)) = refl

-- ---- bitmaps that aren't cached

module _ (a : ℕ) (cache : Cache) where
  abbrev bitmap_fetches : LockSet → List Event
  bitmap_fetches set = map (Fetch a) (keys_of (missing_bitmaps set cache))

  pub of_segment : (segment : ℕ) (mode : Mode) (set : LockSet) →
      bitmap_fetches ((Segment segment, mode) ∷ set) ≡ only (not (is_some (value_at cache (bitmap_sector segment)))) (Fetch a (bitmap_sector segment)) ++ bitmap_fetches set
  of_segment segment mode set = go (not (is_some (value_at cache (bitmap_sector segment))))
    where
      others : List ℕ
      others = filter (λ segment. not (is_some (value_at cache (bitmap_sector segment)))) (segments_in set)

      go : (b : Bool) → map (Fetch a) (keys_of (map (λ segment. (bitmap_sector segment, Segment segment)) (cond b (segment ∷ others) others))) ≡ only b (Fetch a (bitmap_sector segment)) ++ bitmap_fetches set
      go true = refl
      go false = refl

  pub of_log : (log : ℕ) (mode : Mode) (set : LockSet) → bitmap_fetches ((Log log, mode) ∷ set) ≡ bitmap_fetches set
  of_log log mode set = refl

  pub of_node : (inode : ℕ) (mode : Mode) (set : LockSet) → bitmap_fetches ((Node inode, mode) ∷ set) ≡ bitmap_fetches set
  of_node inode mode set = refl

-- ---- slots that aren't read

by_rules : log_rules.sectors ≡ 256
unfolding log_rules
by_rules = refl

unread_sorted_member : (slots : SlotsRead) → filter (λ s. member s (unread_slots slots)) (below 256) ≡ unread_slots slots
unfolding unread_slots
unread_sorted_member slots = subst (λ n. filter (λ s. member s (filter is_left (below log_rules.sectors))) (below n) ≡ filter is_left (below log_rules.sectors)) by_rules (same log_rules.sectors)
  where
    is_left : ℕ → Bool
    is_left slot = not (is_slot_read slots slot)

    same : (n : ℕ) → filter (λ s. member s (filter is_left (below n))) (below n) ≡ filter is_left (below n)
    same n =
        same_lists (filter (λ s. member s (filter is_left (below n))) (below n)) (filter is_left (below n)) (filter_sorted (λ s. member s (filter is_left (below n))) (below n) (below_sorted n)) (filter_sorted is_left (below n) (below_sorted n))
        (λ s. filter_member (λ s. member s (filter is_left (below n))) s (below n) ∙ ap (λ b. member s (below n) && b) (filter_member is_left s (below n)) ∙ twice (member s (below n)) (is_left s) ∙ sym (filter_member is_left s (below n)))
      where
        twice : (b d : Bool) → (b && (b && d)) ≡ (b && d)
        twice true d = refl
        twice false d = refl

pub unread_are : (event : ℕ → Event) (slots : SlotsRead) → flat_map (λ slot. only (member slot (unread_slots slots)) (event slot)) (below 256) ≡ map event (unread_slots slots)
unread_are event slots = those_pass (λ slot. member slot (unread_slots slots)) event (below 256) ∙ ap (map event) (unread_sorted_member slots)

-- of a server that is off and mounts
module _ (a : ℕ) (server : Server) (under : Under) (line : server.under ≡ Some under) (off : is_off server.phase ≡ true) (mounts : (not (is_some under.fixed) && asked_by is_mount (operation_of under.line.what)) ≡ true) where
  does_mount : (is_off server.phase && asks is_mount server) ≡ true
  does_mount = ap (λ b. b && asks is_mount server) off ∙ ap (is_open is_mount) line ∙ mounts

  pub slots_are : map (Fetch a) (only_if (is_off server.phase && asks is_mount server) (slots_under log_rules a server.under)) ≡ map (λ slot. Fetch a (sector_of (region.Log a slot))) (unread_slots under.slots)
  unfolding unread_slots
  slots_are =
      ap (λ b. map (Fetch a) (only_if b (slots_under log_rules a server.under))) does_mount ∙ ap (λ o. map (Fetch a) (slots_under log_rules a o)) line ∙ all (unread log_rules under.slots)
    where
      all : (slots : List ℕ) → map (Fetch a) (map (λ slot. sector_of (region.Log a slot)) slots) ≡ map (λ slot. Fetch a (sector_of (region.Log a slot))) slots
      all [] = refl
      all (slot ∷ slots) = ap (λ es. Fetch a (sector_of (region.Log a slot)) ∷ es) (all slots)
