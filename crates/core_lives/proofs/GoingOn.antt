-- Each step that is shown here goes on: by its law, with what its events tell.
use Rattle.std.proofs.Common.{◌≡◌, ℕ, Bool, true, false, not, ◌||◌, if◌then◌else◌, IsTrue, [], ◌∷◌, refl, sym, ap, ◌∙◌, subst}
use Rattle.std.proofs.lemmas.Bool.{false≢true}
use Rattle.frang_base.specs.Functions.{put}
use Rattle.frang_base.specs.declared.limits.TheConstants.{SERVERS}
use Rattle.disk_definitions.specs.Replay.{slots_of}
use Rattle.core_definitions.specs.Cores.{clean_at}
use Rattle.core_definitions.specs.LineGuards.{is_server}
use Rattle.core_definitions.specs.Events.{Event, Begin, Ask, Fetch, Again, Clear, Commit, Answer, Give, Issue, Doom, Resume, Arrive, Lose, Die, Renew, Tick, Recover, Load, Look, Finish, HostLine, Close, Read, Show, End, Heard, Nothing}
use Rattle.core_definitions.specs.Runs.{State as RunMoment, Step, Event_, Enter, Hold, Flush, Relock, Note, Peek, PeekFails, Makes, next}
use Rattle.sector_world.specs.Histories.{Entry, settled}
use Rattle.sector_world.specs.Histories.Entry.{Mounted, Synced}
use Rattle.sector_world.specs.Kinds.{Good}
use Rattle.sector_world.specs.World.{World}
use Rattle.core_world.specs.Events.{LeadsQuietly}
use Rattle.core_world.specs.Journals.{Journal, journal_at}
use Rattle.core_world.specs.Steps.{IsReached, IsWorldOf}
use Rattle.core_lives.proofs.Alike.{kept_quiet}
use Rattle.core_lives.proofs.Mounting.{mount_off}
use Rattle.core_lives.proofs.Rooming.{enough}
use Rattle.core_lives.proofs.Idling.{entered_keeps, flushed_keeps, held_keeps, idle_keeps, noted_keeps, peeked_keeps, relocked_keeps}
use Rattle.core_lives.proofs.Shrinking.{flushed_shrinks, lives_shrink, stay_free}
use Rattle.core_lives.proofs.Syncing.{syncs}
use Rattle.core_lives.specs.Cleared.{CachesShrink, ClearedAreFree, is_shown, is_shown_event}
use Rattle.core_lives.specs.Idle.{KeepsWorlds, begins_mount, ends_mount, is_idle, tells_sync}
use Rattle.core_lives.specs.Lives.{ClosesLeadOn, LeadsWith, LivesLeadOn, MountsLeadOn, UnmountsLeadOn, is_of_lives}
use Rattle.core_lives.specs.Room.{HasRoom, StepsKeepRoom}
use Rattle.core_lives.specs.Steps.{GoesOn, StepsGoOn, journals_behind, journals_behind_event}

neither : (x : Bool) → x ≡ false → IsTrue (x || false) → ⊥
neither true e h = false≢true (sym e)
neither false e h = false≢true h

-- by events of which an entry tells that leaves the operations as they were
with_entry : (w : World) (journal : ℕ → Journal) (entry : Entry) → settled (entry ∷ w.history) ≡ settled w.history → (s v : RunMoment) → CachesShrink s.core.servers v.core.servers →
    ClearedAreFree s.core.servers w → ((a : ℕ) → IsTrue (is_server a) → HasRoom v a) → LeadsWith w v journal entry → GoesOn w v journal
with_entry w journal entry plain s v shrink free room x = record {
  leads = x.leads;
  entries = entry ∷ [];
  story = record {
    servers = x.story.servers;
    opening = x.story.opening;
    logged = x.story.logged;
    first = x.story.first;
    home = x.story.home;
    history = x.story.history;
  };
  quiet = x.quiet;
  cleared = stay_free s.core.servers v.core.servers w x.leads.world shrink x.story.first x.story.logged (ap settled x.story.history ∙ plain) free;
  room = room;
}

-- by events of which none tells
no_entry : (w : World) (journal : ℕ → Journal) (s v : RunMoment) → CachesShrink s.core.servers v.core.servers → ClearedAreFree s.core.servers w →
    ((a : ℕ) → IsTrue (is_server a) → HasRoom v a) → LeadsQuietly w v journal → GoesOn w v journal
no_entry w journal s v shrink free room x = record {
  leads = x.leads;
  entries = [];
  story = record {
    servers = x.story.servers;
    opening = x.story.opening;
    logged = x.story.logged;
    first = x.story.first;
    home = x.story.home;
    history = x.story.history;
  };
  quiet = x.quiet;
  cleared = stay_free s.core.servers v.core.servers w x.leads.world shrink x.story.first x.story.logged (ap settled x.story.history) free;
  room = room;
}

-- what is none leaves the journals
not_mount : (mount unmount sync : Bool) (old new : ℕ → Journal) → IsTrue (not (mount || unmount || sync)) → old ≡ (if mount then new else old)
not_mount true unmount sync old new e = absurd (false≢true e)
not_mount false unmount sync old new e = refl

idle_journals : (s : RunMoment) (event : Event) (journal : ℕ → Journal) → IsTrue (is_idle s.core event) → journal ≡ journals_behind_event s event journal
idle_journals s (Answer a) journal e = not_mount (begins_mount s.core a) (ends_mount s.core a) (tells_sync s.core a) journal (put journal a (journal_at (slots_of s.disk a))) e
idle_journals s event journal e = refl

module _ (lives : LivesLeadOn) (unmounts : UnmountsLeadOn) (closes : ClosesLeadOn) (mounts : MountsLeadOn) (keep : StepsKeepRoom) where
  module _ (s : RunMoment) (w : World) (journal : ℕ → Journal) (r : IsReached s) (t : IsWorldOf s w journal) (g : Good w) (many : w.servers ≡ SERVERS)
      (free : ClearedAreFree s.core.servers w)
      (room : (a : ℕ) → IsTrue (is_server a) → HasRoom s a) where
    room_after : (v : RunMoment) (step : Step s v) → IsTrue (is_shown s v step) → (a : ℕ) → IsTrue (is_server a) → HasRoom v a
    room_after v step shown a who = keep s v w journal step shown r t a who (room a who)

    abbrev Behind : (v : RunMoment) → Step s v → Type 0
    Behind v step = GoesOn w v (journals_behind s v step journal)

    abbrev Onward : Event → Heard → Type 0
    Onward event heard = GoesOn w (next s event heard) (journals_behind_event s event journal)

    kept : (v : RunMoment) (step : Step s v) → IsTrue (is_shown s v step) → journal ≡ journals_behind s v step journal → CachesShrink s.core.servers v.core.servers → KeepsWorlds s v →
        Behind v step
    kept v step shown same shrink keeps = subst (λ js. GoesOn w v js) same (no_entry w journal s v shrink free (room_after v step shown) (kept_quiet s v w journal keeps t))

    of_lives : (event : Event) → Makes s event Nothing → IsTrue (is_shown_event s.core event) → IsTrue (is_of_lives event) → GoesOn w (next s event Nothing) journal
    of_lives event m told h = no_entry w journal s (next s event Nothing) (lives_shrink s event Nothing r m told) free
        (room_after (next s event Nothing) (Event_ event Nothing m) told) (lives s w journal event r t g m h)

    answered : (a : ℕ) → Makes s (Answer a) Nothing → (mount unmount sync : Bool) → begins_mount s.core a ≡ mount → ends_mount s.core a ≡ unmount → tells_sync s.core a ≡ sync →
        not (mount || unmount || sync) ≡ false → GoesOn w (next s (Answer a) Nothing) (if mount then put journal a (journal_at (slots_of s.disk a)) else journal)
    answered a m true unmount sync e f h i = with_entry w (put journal a (journal_at (slots_of s.disk a))) (Mounted a (w.last a)) refl s (next s (Answer a) Nothing) (lives_shrink s (Answer a) Nothing r m refl) free
        (room_after (next s (Answer a) Nothing) (Event_ (Answer a) Nothing m) refl)
        (mounts s w journal a r t g many (enough s a (room a m.can.can.server) (mount_off s a m e)) m e)
    answered a m false true sync e f h i = with_entry w journal (Synced a (w.last a)) refl s (next s (Answer a) Nothing) (lives_shrink s (Answer a) Nothing r m refl) free
        (room_after (next s (Answer a) Nothing) (Event_ (Answer a) Nothing m) refl)
        (unmounts s w journal a r t g m f)
    answered a m false false true e f h i = with_entry w journal (Synced a (w.last a)) refl s (next s (Answer a) Nothing) (lives_shrink s (Answer a) Nothing r m refl) free
        (room_after (next s (Answer a) Nothing) (Event_ (Answer a) Nothing m) refl)
        (syncs s w journal a r t g free m h)
    answered a m false false false e f h i = absurd (false≢true (sym i))

    closed : (a : ℕ) → Makes s (Close a) Nothing → (clean : Bool) → clean_at s.core a ≡ clean → not clean ≡ false → GoesOn w (next s (Close a) Nothing) journal
    closed a m true e i = with_entry w journal (Synced a (w.last a)) refl s (next s (Close a) Nothing) (lives_shrink s (Close a) Nothing r m refl) free
        (room_after (next s (Close a) Nothing) (Event_ (Close a) Nothing m) refl) (closes s w journal a r t g m e)
    closed a m false e i = absurd (false≢true (sym i))

    -- of what isn't none nothing is heard
    other : (event : Event) (heard : Heard) → Makes s event heard → IsTrue (is_shown_event s.core event) → is_idle s.core event ≡ false → Onward event heard
    other (Begin a) heard m told idle = absurd (false≢true (sym idle))
    other (Ask a lock mode) heard m told idle = subst (λ h. Makes s (Ask a lock mode) h → Onward (Ask a lock mode) h) (sym m.hears)
        (λ n. of_lives (Ask a lock mode) n told refl) m
    other (Fetch a sector) heard m told idle = absurd (neither (is_idle s.core (Fetch a sector)) idle told)
    other (Again a) heard m told idle = absurd (neither (is_idle s.core (Again a)) idle told)
    other (Clear a block) heard m told idle = absurd (false≢true told)
    other (Commit a) heard m told idle = absurd (false≢true told)
    other (Answer a) heard m told idle = subst (λ h. Makes s (Answer a) h → Onward (Answer a) h) (sym m.hears)
        (λ n. answered a n (begins_mount s.core a) (ends_mount s.core a) (tells_sync s.core a) refl refl refl idle) m
    other (Give a lock) heard m told idle = subst (λ h. Makes s (Give a lock) h → Onward (Give a lock) h) (sym m.hears) (λ n. of_lives (Give a lock) n told refl) m
    other (Issue a sector) heard m told idle = absurd (false≢true told)
    other (Doom a) heard m told idle = absurd (false≢true (sym idle))
    other (Resume a) heard m told idle = subst (λ h. Makes s (Resume a) h → Onward (Resume a) h) (sym m.hears) (λ n. of_lives (Resume a) n told refl) m
    other (Arrive ticket) heard m told idle = absurd (false≢true told)
    other (Lose ticket) heard m told idle = absurd (false≢true told)
    other (Die a) heard m told idle = subst (λ h. Makes s (Die a) h → Onward (Die a) h) (sym m.hears) (λ n. of_lives (Die a) n told refl) m
    other (Renew a) heard m told idle = subst (λ h. Makes s (Renew a) h → Onward (Renew a) h) (sym m.hears) (λ n. of_lives (Renew a) n told refl) m
    other Tick heard m told idle = subst (λ h. Makes s Tick h → Onward Tick h) (sym m.hears) (λ n. of_lives Tick n told refl) m
    other (Recover dead by) heard m told idle = absurd (false≢true told)
    other (Load by slot) heard m told idle = absurd (false≢true told)
    other (Look by sector) heard m told idle = absurd (false≢true told)
    other (Finish by) heard m told idle = absurd (false≢true told)
    other (HostLine number) heard m told idle = absurd (false≢true (sym idle))
    other (Close a) heard m told idle = subst (λ h. Makes s (Close a) h → Onward (Close a) h) (sym m.hears) (λ n. closed a n (clean_at s.core a) refl idle) m
    other (Read sector) heard m told idle = absurd (false≢true (sym idle))
    other (Show place) heard m told idle = absurd (false≢true (sym idle))
    other End heard m told idle = absurd (false≢true (sym idle))

    event_goes : (event : Event) (heard : Heard) → Makes s event heard → IsTrue (is_shown_event s.core event) → Onward event heard
    event_goes event heard m told = go (is_idle s.core event) refl
      where
        go : (b : Bool) → is_idle s.core event ≡ b → Onward event heard
        go true e = kept (next s event heard) (Event_ event heard m) told (idle_journals s event journal e) (lives_shrink s event heard r m told) (idle_keeps s event heard r m e)
        go false e = other event heard m told e

  pub steps_go_on : StepsGoOn
  steps_go_on s v w journal (Event_ event heard makes) shown r t g many free room = event_goes s w journal r t g many free room event heard makes shown
  steps_go_on s v w journal (Enter a line can) shown r t g many free room = kept s w journal r t g many free room v (Enter a line can) refl refl (λ b i cached e. e)
      (entered_keeps s line.number)
  steps_go_on s v w journal (Hold a on may) shown r t g many free room = kept s w journal r t g many free room v (Hold a on may) refl refl (λ b i cached e. e) (held_keeps s a on)
  steps_go_on s v w journal (Flush a may) shown r t g many free room = kept s w journal r t g many free room v (Flush a may) refl refl (flushed_shrinks s.core.servers a) (flushed_keeps s a)
  steps_go_on s v w journal (Relock locks going are same wait) shown r t g many free room = kept s w journal r t g many free room v (Relock locks going are same wait) refl refl
      (λ b i cached e. e) (relocked_keeps s locks same)
  steps_go_on s v w journal (Note line may) shown r t g many free room = kept s w journal r t g many free room v (Note line may) refl refl (λ b i cached e. e) (noted_keeps s line)
  steps_go_on s v w journal (Peek sector going) shown r t g many free room = kept s w journal r t g many free room v (Peek sector going) refl refl (λ b i cached e. e) (λ u j x. x)
  steps_go_on s v w journal (PeekFails sector going) shown r t g many free room = kept s w journal r t g many free room v (PeekFails sector going) refl refl (λ b i cached e. e)
      (peeked_keeps s)
