-- All events, and every run.
use Rattle.std.proofs.Common.{true, false, le_refl, arith, ℕ, ◌≡◌, Bool, List, [], ◌∷◌, Some, None, if◌then◌else◌, refl}
use Rattle.frang_base.specs.declared.lock.LockId.{LockId}
use Rattle.sector_bytes.specs.Blocks.{Block, zero_block}
use Rattle.sector_world.specs.OnDisk.OnDisk.{in_place}
use Rattle.sector_world.specs.HistoryBytes.OnData.{here}
use Rattle.sector_world.specs.World.{World, start}
use Rattle.sector_world.specs.Steps.{Event, Can, after, Run}
use Rattle.sector_world.specs.Steps.Event.{Tick, Leave, Fail, Renew, Mount, Unmount, Take, Give, Lower, Do, Reach, Ack, Sync, Reclaim, Crash, Begin, Look, Finish, Fetch, Issue, Replay, Land, Fade, Break, BreakNew, FetchBytes, Clear, IssueBytes, LandBytes, FadeBytes, BreakBytes, BreakBytesNew, Settle}
use Rattle.sector_world.specs.Steps.Run.{stays, goes}
use Rattle.sector_world.specs.Logged.{Logged}
use Rattle.sector_world.specs.Bytes.{Bytes}
use Rattle.sector_world.specs.Kinds.{Kinds, Good}
use Rattle.sector_world.proofs.Leases.{logged_leave, logged_tick, logged_renew, logged_mount, logged_unmount}
use Rattle.sector_world.proofs.Locks.{logged_take, logged_give, logged_lower, logged_fetch}
use Rattle.sector_world.proofs.Doing.{logged_do}
use Rattle.sector_world.proofs.Reaching.{logged_reach, logged_ack, logged_sync, logged_issue, logged_fade}
use Rattle.sector_world.proofs.Landing.{logged_land}
use Rattle.sector_world.proofs.Reclaiming.{logged_reclaim}
use Rattle.sector_world.proofs.Crashing.{logged_crash}
use Rattle.sector_world.proofs.Recovering.{logged_begin, logged_look, logged_replay}
use Rattle.sector_world.proofs.Finishing.{logged_finish}
use Rattle.sector_world.proofs.Breaking.{logged_break, logged_break_new, logged_fail}
use Rattle.sector_world.proofs.BytesPlain.{bytes_tick, bytes_renew, bytes_mount, bytes_unmount, bytes_take, bytes_reach, bytes_fade, bytes_break, bytes_crash}
use Rattle.sector_world.proofs.BytesLocks.{bytes_give, bytes_lower, bytes_sync}
use Rattle.sector_world.proofs.BytesLanding.{bytes_fetch, bytes_clear, bytes_issue, bytes_settle, bytes_land, bytes_break_new}
use Rattle.sector_world.proofs.BytesDoing.{bytes_do}
use Rattle.sector_world.proofs.BytesFinishing.{bytes_finish}
use Rattle.sector_world.proofs.Versioned.{kinds_tick, kinds_give, kinds_lower, kinds_crash, kinds_reach, kinds_do, kinds_finish, kinds_fetch, kinds_clear, kinds_settle, kinds_issue, kinds_fade, kinds_break, kinds_land, kinds_break_new}

some_is : (l b : Bool) (x u : Block) → (if l then None else (if b then Some x else None)) ≡ Some u → u ≡ (if l then zero_block else x)
some_is true b x u e = cc
some_is false true x u e = cc
some_is false false x u e = cc

none_logged : (b : Bool) (x : Block) → b ≡ false → (if b then x else zero_block) ≡ zero_block
none_logged true x e = cc
none_logged false x e = refl

module _ (servers : ℕ) (disk : ℕ → Block) (logged of_files : ℕ → Bool) (home : ℕ → LockId) where
  logged_start : Logged (start servers disk logged of_files home)
  logged_start = record {
    logs = λ d. refl;
    apart = λ a b s e n. absurd (cc);
    known = λ a n. absurd (n refl);
    leases = λ a. omega arith;
    ends = λ d. omega arith;
    begun = λ d b e. absurd (cc);
    off_free = λ a s. refl;
    rested = λ a e. le_refl 0;
    not_up = λ a s. refl;
    held = λ a s. tt;
    copies = λ a s. tt;
    ahead = λ a s. tt;
    newer = λ a s k. tt;
    place = λ s. in_place refl tt;
    firm = λ s. tt;
    locked = tt;
    rising = λ s. tt;
    ops = tt;
    below = tt;
    reached = λ d. le_refl 0;
    acks = λ d. le_refl 0;
    floored = λ d. le_refl 0;
    unseen = λ d. tt;
    unmet = λ d. tt;
    unsynced = λ d. tt;
    was_kept = tt;
    flights = λ s f e n. absurd (cc);
    rescued = λ r e. absurd (cc);
  }

  bytes_start : Bytes (start servers disk logged of_files home)
  bytes_start = record {
    not_up = λ a s. refl;
    held = λ a s. tt;
    copies = λ a s. tt;
    clean = λ a s. tt;
    dirtied = λ a s. tt;
    knows = λ s u fr e. some_is (logged s) (of_files s) (disk s) u e;
    still = λ s fr f. refl;
    place = λ s. here (λ u fr e. some_is (logged s) (of_files s) (disk s) u e) tt;
    synced = λ d. le_refl 0;
    counted = λ d. refl;
    flights = λ s f e n. absurd (cc);
    live = tt;
    by_plan = tt;
  }

  kinds_start : Kinds (start servers disk logged of_files home)
  kinds_start = record {
    zero = λ s e. none_logged (logged s) (disk s) e;
    claimed = λ s. tt;
    moving = λ s. tt;
    empty = λ a s v. refl;
    landed = λ s f v e n. absurd (cc);
    cleared = λ s v n. absurd (cc);
  }

  pub good_start : Good (start servers disk logged of_files home)
  good_start = record { logged = logged_start; bytes = bytes_start; kinds = kinds_start }

pub good_step : (w : World) (e : Event) → Can w e → Good w → Good (after w e)
good_step w Tick can g = record { logged = logged_tick w g.logged; bytes = bytes_tick w g.bytes; kinds = kinds_tick w g.kinds }
good_step w Leave can g = record { logged = logged_leave w g.logged; bytes = g.bytes; kinds = g.kinds }
good_step w (Fail a) can g = record { logged = logged_fail w a g.logged; bytes = g.bytes; kinds = g.kinds }
good_step w (Renew a) can g = record { logged = logged_renew w a can g.logged; bytes = bytes_renew w a can g.bytes; kinds = g.kinds }
good_step w (Mount a) can g = record { logged = logged_mount w a can g.logged; bytes = bytes_mount w a can g.logged g.bytes; kinds = g.kinds }
good_step w (Unmount a) can g = record { logged = logged_unmount w a can g.logged; bytes = bytes_unmount w a can g.bytes; kinds = g.kinds }
good_step w (Take a l mode) can g = record { logged = logged_take w a l mode can g.logged; bytes = bytes_take w a l mode can g.bytes; kinds = g.kinds }
good_step w (Give a l) can g = record { logged = logged_give w a l can g.logged; bytes = bytes_give w a l can g.logged g.bytes; kinds = kinds_give w a l g.kinds }
good_step w (Lower a l) can g = record { logged = logged_lower w a l can.give can.alone g.logged; bytes = bytes_lower w a l can g.logged g.bytes; kinds = kinds_lower w a l g.kinds }
good_step w (Do c) can g = record { logged = logged_do w c can g.logged; bytes = bytes_do w c can g.logged g.bytes; kinds = kinds_do w c can g.logged g.bytes g.kinds }
good_step w (Reach d k) can g = record { logged = logged_reach w d k can g.logged; bytes = bytes_reach w d k can g.bytes; kinds = kinds_reach w d k can g.kinds }
good_step w (Ack a k) can g = record { logged = logged_ack w a k can g.logged; bytes = g.bytes; kinds = g.kinds }
good_step w (Sync a) can g = record { logged = logged_sync w a can g.logged; bytes = bytes_sync w a can g.logged g.bytes; kinds = g.kinds }
good_step w (Reclaim a k) can g = record { logged = logged_reclaim w a k can g.logged; bytes = g.bytes; kinds = g.kinds }
good_step w (Crash a) can g = record { logged = logged_crash w a can g.logged; bytes = bytes_crash w a can g.bytes; kinds = kinds_crash w a g.kinds }
good_step w (Begin d b) can g = record { logged = logged_begin w d b can g.logged; bytes = g.bytes; kinds = g.kinds }
good_step w (Look r s) can g = record { logged = logged_look w r s can g.logged; bytes = g.bytes; kinds = g.kinds }
good_step w (Finish r) can g = record { logged = logged_finish w r can g.logged; bytes = bytes_finish w r can g.logged g.bytes; kinds = kinds_finish w r g.logged g.kinds }
good_step w (Fetch a s) can g = record { logged = logged_fetch w a s can g.logged; bytes = g.bytes; kinds = g.kinds }
good_step w (Issue a s block mark) can g = record { logged = logged_issue w a s block mark can g.logged; bytes = g.bytes; kinds = g.kinds }
good_step w (Replay r s block) can g = record { logged = logged_replay w r s block can g.logged; bytes = g.bytes; kinds = g.kinds }
good_step w (Land s f) can g = record { logged = logged_land w s f can g.logged; bytes = g.bytes; kinds = g.kinds }
good_step w (Fade s f) can g = record { logged = logged_fade w s f g.logged; bytes = g.bytes; kinds = g.kinds }
good_step w (Break s f) can g = record { logged = logged_break w s f g.logged; bytes = g.bytes; kinds = g.kinds }
good_step w (BreakNew s f) can g = record { logged = logged_break_new w s f can g.logged; bytes = g.bytes; kinds = g.kinds }
good_step w (FetchBytes a s) can g = record { logged = g.logged; bytes = bytes_fetch w a s can g.logged g.bytes; kinds = kinds_fetch w a s can g.kinds }
good_step w (Clear a s) can g = record { logged = g.logged; bytes = bytes_clear w a s can g.logged g.bytes; kinds = kinds_clear w a s can g.kinds }
good_step w (IssueBytes a s block mark) can g = record { logged = g.logged; bytes = bytes_issue w a s block mark can g.logged g.bytes; kinds = kinds_issue w a s block mark can g.kinds }
good_step w (LandBytes s f) can g = record { logged = g.logged; bytes = bytes_land w s f can g.logged g.bytes; kinds = kinds_land w s f can g.kinds }
good_step w (FadeBytes s f) can g = record { logged = g.logged; bytes = bytes_fade w s f g.bytes; kinds = kinds_fade w s f g.kinds }
good_step w (BreakBytes s f) can g = record { logged = logged_fail w f.by g.logged; bytes = bytes_break w s f g.bytes; kinds = kinds_break w s f g.kinds }
good_step w (BreakBytesNew s f) can g = record { logged = logged_fail w f.by g.logged; bytes = bytes_break_new w s f can g.logged g.bytes; kinds = kinds_break_new w s f can g.kinds }
good_step w (Settle a s block mark) can g = record { logged = g.logged; bytes = bytes_settle w a s block mark can g.logged g.bytes; kinds = kinds_settle w a s block mark can g.kinds }

pub good_run : (w : World) (events : List Event) (v : World) → Run w events v → Good w → Good v
good_run w [] v stays g = g
good_run w (e ∷ es) v (goes can r) g = good_run (after w e) es v r (good_step w e can g)
