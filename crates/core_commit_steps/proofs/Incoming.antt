-- A sector that a line needs comes in clean, or its get fails: all that stands beside stays, as nothing becomes dirty and no log changes.
use Rattle.std.proofs.Common.{◌≡◌, ◌+◌, ◌*◌, ◌^◌, ◌≤◌, ℕ, Bool, true, false, if◌then◌else◌, is_some, IsTrue, List, [], Option, Some, None, refl, sym, ap, ◌∙◌, subst, inl, le_refl}
use Rattle.std.proofs.lemmas.Bool.{false≢true}
use Rattle.std.proofs.lemmas.Cmp.{nat_cmp_total}
use Rattle.std.proofs.lemmas.Option.{same_Some}
use Rattle.std.specs.BTreeMap.{is_at}
use Rattle.std.specs.Ordering.{nat_cmp}
use Rattle.frang_base.specs.Functions.{member, put}
use Rattle.frang_base.proofs.Basics.{at_put}
use Rattle.frang_base.specs.declared.lock.LockId.{LockId}
use Rattle.tree_definitions.specs.Tree.{FileTree}
use Rattle.sector_bytes.specs.Blocks.{Block}
use Rattle.sector_bytes.specs.SectorMaps.{value_at}
use Rattle.sorted_entries.proofs.Sorted.{lookup-insert_entry}
use Rattle.cache_definitions.specs.declared.dirt.Dirt.{Dirt}
use Rattle.cache_definitions.specs.Caches.{CachedSector, clean, is_dirty}
use Rattle.disk_definitions.specs.Replay.{slots_of}
use Rattle.core_definitions.specs.Cores.{Core, stage, with_server}
use Rattle.core_definitions.specs.Events.{Fetch, Heard, Nothing, Got, GetFailed, Written, Late, PutFailed}
use Rattle.core_definitions.specs.LineEffects.{cached_under, call_failed, cover_needed, failed_by, fetch_failed, fetched_by, refused_under, slot_read, with_under}
use Rattle.core_definitions.specs.LineGuards.{is_server}
use Rattle.core_definitions.specs.Rings.{is_all_reached}
use Rattle.core_definitions.specs.Runs.{State as RunMoment, Event_, Makes, Step, next}
use Rattle.core_definitions.specs.Servers.{Server, is_dead, is_in_mount, is_off, is_up}
use Rattle.sector_world.specs.Histories.{is_logged, settled}
use Rattle.sector_world.specs.HistoryBytes.{is_free}
use Rattle.sector_world.specs.World.{World, has_version}
use Rattle.core_world.specs.Events.{LeadsQuietly}
use Rattle.core_world.specs.Journals.{IsOwn, Journal}
use Rattle.core_lives.proofs.Rooming.{room_stays}
use Rattle.core_lives.specs.Room.{lines_left, reach_of}
use Rattle.core_commits.proofs.Fetching.{failed_fetches_are_events}
use Rattle.core_commits.proofs.Gathering.{fetches_of_lines}
use Rattle.core_log_writes.specs.Quiet.{KeepsMarks, WasMarked}
use Rattle.core_log_writes.proofs.Quiet.{ends_go_on, runs_keep_marks}
use Rattle.core_commit_steps.specs.Moments.{LineGoesOn, StandsBeside}
use Rattle.core_commit_steps.specs.Quiet.{IsSaidBeside}
use Rattle.core_commit_steps.proofs.Committing.{no_host, up_not_off}
use Rattle.core_commit_steps.proofs.Facts.{Facts}
use Rattle.core_commit_steps.proofs.Quieting.{quiet_steps}

-- ---- servers of which nothing is dirty more

record IsStill (old new : Server) : Type 0 where
  phase : new.phase ≡ old.phase
  expiry : new.expiry ≡ old.expiry
  ring : new.ring ≡ old.ring
  pending : new.pending ≡ old.pending
  dirty : (x : ℕ) (kept : CachedSector) → value_at new.cache x ≡ Some kept → is_dirty kept ≡ true → value_at old.cache x ≡ Some kept

still_itself : (server : Server) → IsStill server server
still_itself server = record { phase = refl; expiry = refl; ring = refl; pending = refl; dirty = λ x kept e d. e }

put_still : (servers : ℕ → Server) (a : ℕ) (new : Server) → IsStill (servers a) new → (n : ℕ) → IsStill (servers n) (put servers a new n)
put_still servers a new here n = at_put (λ y. IsStill (servers n) y) servers a new n (λ e. subst (λ m. IsStill (servers m) new) (sym e) here) (λ away. still_itself (servers n))

record AreStill (c d : Core) : Type 0 where
  servers : (n : ℕ) → IsStill (c.servers n) (d.servers n)
  answered : d.answered ≡ c.answered
  script : d.setting.script ≡ c.setting.script
  now : d.now ≡ c.now

one_still : (c : Core) (a : ℕ) (new : Server) → IsStill (c.servers a) new → AreStill c (with_server c a new)
one_still c a new here = record { servers = put_still c.servers a new here; answered = refl; script = refl; now = refl }

-- ---- what is said beside then

module _ (facts : Facts) (s v : RunMoment) (w : World) (journal : ℕ → Journal) (when : ℕ → ℕ) (first_tree : FileTree) (numbers : List ℕ) (step : Step s v) (b : StandsBeside s w journal when first_tree numbers)
    (q : LeadsQuietly w v journal) (still : AreStill s.core v.core) (disk : v.disk ≡ s.disk) where
  abbrev u : World
  u = q.leads.world

  keeps : KeepsMarks w u
  keeps = runs_keep_marks v.core.setting.segments w u q.leads.events q.leads.run q.quiet b.run.good

  free_is : (x : ℕ) → is_free u.first (settled u.history) x ≡ is_free w.first (settled w.history) x
  free_is x = ap (λ f. is_free f (settled u.history) x) q.story.first ∙ ap (λ h. is_free w.first (settled h) x) q.story.history

  version_is : (x : ℕ) → has_version u x ≡ has_version w x
  version_is x = ap (λ f. is_logged f (settled u.history) x) q.story.logged ∙ ap (λ h. is_logged w.logged (settled h) x) q.story.history

  was : (n x : ℕ) (kept : CachedSector) (dirt : Dirt) → value_at (v.core.servers n).cache x ≡ Some kept → kept.dirt ≡ Some dirt → WasMarked s.core.servers v.core.servers w u journal journal n x dirt.mark
  was n x kept dirt e d = record {
    old = kept;
    was = (still.servers n).dirty x kept e (ap is_some d);
    dirt = dirt;
    is_dirty = d;
    mark_is = refl;
    reached = subst (λ r. (s.core.servers n).ring.reached ≤ r.reached) (sym (still.servers n).ring) (le_refl (s.core.servers n).ring.reached);
    ends = λ m. refl;
    own = λ m i. subst (λ h. IsOwn n m (settled h)) (sym q.story.history) i;
  }

  room_then : (n : ℕ) → IsTrue (is_server n) → reach_of (v.core.servers n) (slots_of v.disk n) + 100 * lines_left v.core.setting.script v.core.answered n ≤ 2 ^ 61
  room_then n who =
      subst (λ d. reach_of (v.core.servers n) (slots_of d n) + 100 * lines_left v.core.setting.script v.core.answered n ≤ 2 ^ 61) (sym disk)
      (subst (λ l. reach_of (v.core.servers n) (slots_of s.disk n) + 100 * lines_left l v.core.answered n ≤ 2 ^ 61) (sym still.script)
      (subst (λ m. reach_of (v.core.servers n) (slots_of s.disk n) + 100 * lines_left s.core.setting.script m n ≤ 2 ^ 61) (sym still.answered)
      (room_stays (v.core.servers n) (s.core.servers n) (slots_of s.disk n) (lines_left s.core.setting.script s.core.answered n) (lines_left s.core.setting.script s.core.answered n)
      (record { off = ap is_off (still.servers n).phase; ring = (still.servers n).ring }) (le_refl (lines_left s.core.setting.script s.core.answered n)) (b.room n who))))

  said : IsSaidBeside s v q.leads.world journal
  said = record {
    answered = λ line e. ap (λ f. f line) still.answered ∙ e;
    logs = λ n who mount. inl (ap is_in_mount (sym (still.servers n).phase) ∙ mount, λ all. subst (λ r. IsTrue (is_all_reached r)) (sym (still.servers n).ring) all);
    cleared = record {
      pending = λ n x block m e free. subst (λ p. member x p ≡ true) (sym (still.servers n).pending) (b.cleared.pending n x block m (keeps.pages n x block m e) (sym (free_is x) ∙ free));
      free = λ n x kept e dirt other plain. free_is x ∙ b.cleared.free n x kept ((still.servers n).dirty x kept e dirt) dirt other (sym (version_is x) ∙ plain);
    };
    ends = ends_go_on s.core.servers v.core.servers w u journal journal keeps (λ n x kept dirt who e d. was n x kept dirt e d) b.ends;
    open_ = λ n who dead early slot low.
        ap (λ d. slots_of d n slot) disk
        ∙ b.open_ n who (ap is_dead (sym (still.servers n).phase) ∙ dead) (subst (λ k. s.core.now ≤ k) (still.servers n).expiry (subst (λ k. k ≤ (v.core.servers n).expiry) still.now early)) slot low;
    room = room_then;
  }

  still_goes : LineGoesOn w v journal when first_tree numbers (λ events entries. entries ≡ [])
  still_goes = record {
    leads = q.leads;
    entries = [];
    story = record { servers = q.story.servers; opening = q.story.opening; logged = q.story.logged; first = q.story.first; home = q.story.home; history = q.story.history };
    by = refl;
    beside = quiet_steps facts s v w journal journal when first_tree numbers step b q said;
  }

-- ---- a Fetch by a server that is up

cached_still : (server : Server) (sector : ℕ) (block : Block) (cover : Option LockId) → IsStill server (cached_under server sector block cover)
cached_still server sector block None = still_itself server
cached_still server sector block (Some cover) = record {
  phase = refl;
  expiry = refl;
  ring = refl;
  pending = refl;
  dirty = λ x kept e d. go (is_at (nat_cmp x) sector) x kept d (sym (lookup-insert_entry nat_cmp_total sector (clean block cover) x server.cache) ∙ e);
}
  where
    go : (b : Bool) (x : ℕ) (kept : CachedSector) → is_dirty kept ≡ true → (if b then Some (clean block cover) else value_at server.cache x) ≡ Some kept → value_at server.cache x ≡ Some kept
    go true x kept d e = absurd (false≢true (ap is_dirty (same_Some (clean block cover) kept e) ∙ d))
    go false x kept d e = e

module _ (facts : Facts) (s : RunMoment) (w : World) (journal : ℕ → Journal) (when : ℕ → ℕ) (first_tree : FileTree) (numbers : List ℕ) (a sector : ℕ) (up : IsTrue (is_up (s.core.servers a).phase))
    (b : StandsBeside s w journal when first_tree numbers) where
  abbrev Goal : Heard → Type 0
  Goal heard = LineGoesOn w (next s (Fetch a sector) heard) journal when first_tree numbers (λ events entries. entries ≡ [])

  got_still : (block : Block) → AreStill s.core (next s (Fetch a sector) (Got block)).core
  got_still block =
      one_still s.core a (fetched_by a (stage s.core a) sector block (s.core.servers a))
      (subst (λ (off : Bool). IsStill (s.core.servers a) (if off then with_under (s.core.servers a) (slot_read a sector block) else cached_under (s.core.servers a) sector block (cover_needed (stage s.core a) sector)))
      (sym (up_not_off (s.core.servers a).phase up)) (cached_still (s.core.servers a) sector block (cover_needed (stage s.core a) sector)))

  got : (block : Block) → Makes s (Fetch a sector) (Got block) → Goal (Got block)
  got block makes =
      still_goes facts s (next s (Fetch a sector) (Got block)) w journal when first_tree numbers (Event_ (Fetch a sector) (Got block) makes) b
      (fetches_of_lines facts.order facts.cached facts.sole s w journal when first_tree numbers a sector block b.run makes up) (got_still block) refl

  fails_is : (server : IsTrue (is_server a)) → fetch_failed s.core a ≡ with_server s.core a (failed_by (s.core.servers a))
  fails_is server =
      ap (λ (off : Bool). if off then with_server s.core a (with_under (s.core.servers a) refused_under) else call_failed s.core a) (up_not_off (s.core.servers a).phase up)
      ∙ ap (λ (host : Bool). if host then record s.core { over = true } else with_server s.core a (failed_by (s.core.servers a))) (no_host a server)

  failed : Makes s (Fetch a sector) GetFailed → Goal GetFailed
  failed makes =
      still_goes facts s (next s (Fetch a sector) GetFailed) w journal when first_tree numbers (Event_ (Fetch a sector) GetFailed makes) b (failed_fetches_are_events s w journal a sector b.run.world makes.can.can.server up)
      (subst (AreStill s.core) (sym (fails_is makes.can.can.server))
      (one_still s.core a (failed_by (s.core.servers a)) (record { phase = refl; expiry = refl; ring = refl; pending = refl; dirty = λ x kept e d. e }))) refl

  pub fetches_go_on : (heard : Heard) → Makes s (Fetch a sector) heard → Goal heard
  fetches_go_on (Got block) makes = got block makes
  fetches_go_on GetFailed makes = failed makes
  fetches_go_on Nothing makes = absurd makes.hears
  fetches_go_on Written makes = absurd makes.hears
  fetches_go_on Late makes = absurd makes.hears
  fetches_go_on (PutFailed new) makes = absurd makes.hears
