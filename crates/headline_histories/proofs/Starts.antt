-- What a world began with stays, and is what a history of lines asks of its first disk.
use Rattle.std.proofs.Common.{ℕ, ◌≡◌, ◌*◌, ◌∷◌, Bool, List, [], refl, sym, ◌∙◌, ap, subst}
use Rattle.tree_definitions.specs.History.{Opening}
use Rattle.sector_bytes.specs.Sectors.{Sectors}
use Rattle.sector_world.specs.Steps.{stays, goes, after}
use Rattle.sector_world.specs.Steps.Event.{Tick, Renew, Mount, Unmount, Take, Give, Lower, Do, Reach, Ack, Sync, Reclaim, Crash, Begin, Look, Finish, Leave, Fail, Fetch, Issue, Replay, Land, Fade, Break, BreakNew, FetchBytes, Clear, IssueBytes, LandBytes, FadeBytes, BreakBytes, BreakBytesNew, Settle}
use Rattle.sector_world.specs.World.{World}
use Rattle.disk_definitions.specs.Meets.{directory_blocks_in, is_directory_use}
use Rattle.disk_definitions.proofs.PickCounts.{count_same}
use Rattle.line_histories.specs.Following.{Follows, store_after}
use Rattle.line_histories.specs.Standing.{StandsNumbered}
use Rattle.stop_laws.specs.Known.{KnowsCells}
use Rattle.headline_definitions.specs.Beginning.{IsOpening}
use Rattle.opening_laws.specs.FirstDisks.{IsFirstDisk, OpeningsAreFirstDisks}
use Rattle.opening_laws.proofs.Masked.{in_segments}
use Rattle.headline_histories.specs.Starts.{EventsKeepStarts, FirstMomentsBeginSo, IsSameStart, RunsKeepStarts, WorldsAreOverCountedDisks, world_on}

-- ---- events

pub events_keep_starts : EventsKeepStarts
events_keep_starts w Tick = record { servers = refl; opening = refl; logged = refl; first = refl; home = refl }
events_keep_starts w Leave = record { servers = refl; opening = refl; logged = refl; first = refl; home = refl }
events_keep_starts w (Fail a) = record { servers = refl; opening = refl; logged = refl; first = refl; home = refl }
events_keep_starts w (Renew a) = record { servers = refl; opening = refl; logged = refl; first = refl; home = refl }
events_keep_starts w (Mount a) = record { servers = refl; opening = refl; logged = refl; first = refl; home = refl }
events_keep_starts w (Unmount a) = record { servers = refl; opening = refl; logged = refl; first = refl; home = refl }
events_keep_starts w (Take a l mode) = record { servers = refl; opening = refl; logged = refl; first = refl; home = refl }
events_keep_starts w (Give a l) = record { servers = refl; opening = refl; logged = refl; first = refl; home = refl }
events_keep_starts w (Lower a l) = record { servers = refl; opening = refl; logged = refl; first = refl; home = refl }
events_keep_starts w (Do c) = record { servers = refl; opening = refl; logged = refl; first = refl; home = refl }
events_keep_starts w (Reach d k) = record { servers = refl; opening = refl; logged = refl; first = refl; home = refl }
events_keep_starts w (Ack a k) = record { servers = refl; opening = refl; logged = refl; first = refl; home = refl }
events_keep_starts w (Sync a) = record { servers = refl; opening = refl; logged = refl; first = refl; home = refl }
events_keep_starts w (Reclaim a k) = record { servers = refl; opening = refl; logged = refl; first = refl; home = refl }
events_keep_starts w (Crash a) = record { servers = refl; opening = refl; logged = refl; first = refl; home = refl }
events_keep_starts w (Begin d b) = record { servers = refl; opening = refl; logged = refl; first = refl; home = refl }
events_keep_starts w (Look r s) = record { servers = refl; opening = refl; logged = refl; first = refl; home = refl }
events_keep_starts w (Finish r) = record { servers = refl; opening = refl; logged = refl; first = refl; home = refl }
events_keep_starts w (Fetch a s) = record { servers = refl; opening = refl; logged = refl; first = refl; home = refl }
events_keep_starts w (Issue a s block mark) = record { servers = refl; opening = refl; logged = refl; first = refl; home = refl }
events_keep_starts w (Replay r s block) = record { servers = refl; opening = refl; logged = refl; first = refl; home = refl }
events_keep_starts w (Land s f) = record { servers = refl; opening = refl; logged = refl; first = refl; home = refl }
events_keep_starts w (Fade s f) = record { servers = refl; opening = refl; logged = refl; first = refl; home = refl }
events_keep_starts w (Break s f) = record { servers = refl; opening = refl; logged = refl; first = refl; home = refl }
events_keep_starts w (BreakNew s f) = record { servers = refl; opening = refl; logged = refl; first = refl; home = refl }
events_keep_starts w (FetchBytes a s) = record { servers = refl; opening = refl; logged = refl; first = refl; home = refl }
events_keep_starts w (Clear a s) = record { servers = refl; opening = refl; logged = refl; first = refl; home = refl }
events_keep_starts w (IssueBytes a s block mark) = record { servers = refl; opening = refl; logged = refl; first = refl; home = refl }
events_keep_starts w (LandBytes s f) = record { servers = refl; opening = refl; logged = refl; first = refl; home = refl }
events_keep_starts w (FadeBytes s f) = record { servers = refl; opening = refl; logged = refl; first = refl; home = refl }
events_keep_starts w (BreakBytes s f) = record { servers = refl; opening = refl; logged = refl; first = refl; home = refl }
events_keep_starts w (BreakBytesNew s f) = record { servers = refl; opening = refl; logged = refl; first = refl; home = refl }
events_keep_starts w (Settle a s block mark) = record { servers = refl; opening = refl; logged = refl; first = refl; home = refl }

both : (w u v : World) → IsSameStart w u → IsSameStart u v → IsSameStart w v
both w u v a b = record {
  servers = b.servers ∙ a.servers;
  opening = b.opening ∙ a.opening;
  logged = b.logged ∙ a.logged;
  first = b.first ∙ a.first;
  home = b.home ∙ a.home;
}

pub runs_keep_starts : RunsKeepStarts
runs_keep_starts w u [] stays = record { servers = refl; opening = refl; logged = refl; first = refl; home = refl }
runs_keep_starts w u (e ∷ events) (goes can run) = both w (after w e) u (events_keep_starts w e) (runs_keep_starts (after w e) u events run)

pub first_moments_begin_so : FirstMomentsBeginSo
first_moments_begin_so opening disk is = record { servers = refl; opening = refl; logged = refl; first = refl; home = refl }

-- ---- the first disk

module _ (opening : Opening) (disk : Sectors) (is : IsOpening opening disk) (numbers : List ℕ) (w : World) (began : IsSameStart (world_on opening disk is) w) where
  abbrev segments : ℕ
  segments = opening.tree.segments

  abbrev first : World
  first = world_on opening disk is

  -- by the directories of the disk, whose sectors have versions
  pub counted : directory_blocks_in (store_after segments w.opening []) segments ≡ opening.dir_blocks
  counted =
      ap (λ o. directory_blocks_in (store_after segments o []) segments) began.opening
      ∙ count_same (λ block. is_directory_use ((store_after segments first.opening []).use_of block)) _ (1024 * segments) (λ q l. ap is_directory_use ((in_segments opening disk is).uses q)) ∙ sym is.dir_blocks

  -- so is what it says
  pub is_first : IsFirstDisk segments numbers opening.tree first → IsFirstDisk segments numbers opening.tree w
  is_first d = record {
    stands = subst (λ o. StandsNumbered segments o (record { tree = opening.tree; numbers = numbers })) (sym began.opening) d.stands;
    follows = subst (λ f. Follows segments w.opening w.home w.logged f []) (sym began.first)
        (subst (λ l. Follows segments w.opening w.home l first.first []) (sym began.logged)
        (subst (λ h. Follows segments w.opening h first.logged first.first []) (sym began.home) (subst (λ o. Follows segments o first.home first.logged first.first []) (sym began.opening) d.follows)));
    known = subst (λ f. KnowsCells segments w.opening w.logged f opening.tree []) (sym began.first)
        (subst (λ l. KnowsCells segments w.opening l first.first opening.tree []) (sym began.logged)
        (subst (λ o. KnowsCells segments o first.logged first.first opening.tree []) (sym began.opening) d.known));
    parameters = ap (λ (l : ℕ → Bool). l 0) began.logged ∙ d.parameters;
  }

pub worlds_are_over_counted_disks : OpeningsAreFirstDisks → WorldsAreOverCountedDisks
worlds_are_over_counted_disks firsts opening disk is numbers w began enough =
    record { first = is_first opening disk is numbers w began (firsts opening disk is 16 numbers enough); counted = counted opening disk is numbers w began }
