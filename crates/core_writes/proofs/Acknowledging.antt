-- Event by event: who has a sector dirty with the block that its own write has in flight has its log acknowledged up to the mark.
use Rattle.std.proofs.Common.{◌≡◌, ◌⊎◌, ⊎_elim, ℕ, ◌+◌, ◌<◌, ◌≤◌, ◌-◌, Bool, true, false, if◌then◌else◌, Option, Some, None, refl, sym, ap, ◌∙◌, subst, arith}
use Rattle.std.proofs.lemmas.Option.{none-some, same_Some}
use Rattle.std.specs.Str.{bytes_eq}
use Rattle.frang_base.specs.Functions.{put, put2}
use Rattle.frang_base.specs.Locks.{same_lock}
use Rattle.frang_base.specs.declared.change.Change.{Change}
use Rattle.frang_base.specs.declared.limits.TheConstants.{MARGIN_TICKS}
use Rattle.frang_base.proofs.Basics.{at_put, at_put2}
use Rattle.sector_bytes.proofs.ChangeLaws.{version-changed}
use Rattle.sector_bytes.specs.Blocks.{Block, version_of}
use Rattle.sector_bytes.specs.Changes.{changed as changed_block}
use Rattle.sector_bytes.specs.Replays.{change_at}
use Rattle.sector_world.specs.Guards.{Based}
use Rattle.sector_world.specs.Histories.{Commit}
use Rattle.sector_world.specs.Kinds.{Good}
use Rattle.sector_world.specs.Logged.{AbsentUnlessUp, Agrees}
use Rattle.sector_world.specs.Steps.{Can, Event, after, changed, landed}
use Rattle.sector_world.specs.Steps.Event.{Tick, Leave, Fail, Renew, Mount, Unmount, Take, Give, Lower, Do, Reach, Ack, Sync, Reclaim, Crash, Begin, Look, Finish, Fetch, Issue, Replay, Land, Fade, Break, BreakNew, FetchBytes, Clear, IssueBytes, LandBytes, FadeBytes, BreakBytes, BreakBytesNew, Settle}
use Rattle.sector_world.specs.World.{World, Phase, Off, Up, Dead, Slot, Absent, Clean, Dirty, Flight, Rescue, cover}
use Rattle.core_world.specs.Beside.{KnowsMore}
use Rattle.core_writes.specs.Acknowledged.{AcknowledgedFirst, AcknowledgedStay}
use Rattle.core_writes.specs.Arrivals.{AreAcknowledged}

pub acknowledged_first : AcknowledgedFirst
acknowledged_first disk logged of_files home s f m e early own dirty = absurd (none-some f e)

-- ---- slots

not_dirty : (slot : Slot) (block : Block) (m : ℕ) → slot ≡ Absent → slot ≡ Dirty block m → ⊥
not_dirty slot block m e i = absurd (cc)

clean_dirty : (old block : Block) (m : ℕ) → Clean old ≡ Dirty block m → ⊥
clean_dirty old block m e = absurd (cc)

up_dead : (p : Phase) → p ≡ Up → p ≡ Dead → ⊥
up_dead p e i = absurd (cc)

-- who has something dirty is up
up_dirty : (p : Phase) (slot : Slot) (block : Block) (m : ℕ) → slot ≡ Dirty block m → AbsentUnlessUp p slot → p ≡ Up
up_dirty Off slot block m e n = absurd (not_dirty slot block m n e)
up_dirty Up slot block m e n = refl
up_dirty Dead slot block m e n = absurd (not_dirty slot block m n e)

-- what is dirty after a write of it came was so before
landed_dirty : (block : Block) (slot : Slot) (other : Block) (m : ℕ) → landed block slot ≡ Dirty other m → slot ≡ Dirty other m
landed_dirty block Absent other m e = e
landed_dirty block (Clean old) other m e = e
landed_dirty block (Dirty old mark) other m e = go (bytes_eq old block) e
  where
    go : (b : Bool) → (if b then Clean old else Dirty old mark) ≡ Dirty other m → Dirty old mark ≡ Dirty other m
    go true i = absurd (clean_dirty old other m i)
    go false i = i

-- a sector that is changed isn't dirty with a block that was in flight
same_block : (x y : Block) (n m : ℕ) → Dirty x n ≡ Dirty y m → x ≡ y
same_block x y n m e = cc

not_less : (x y : ℕ) → x < y → y ≤ x → ⊥
not_less x y h i = absurd (omega (arith, h, i))

newer : (x : Change) (old block : Block) → version_of old < x.version → (old ≡ block) ⊎ (version_of block < version_of old) → changed_block old x ≡ block → ⊥
newer x old block h agrees e = not_less (version_of old) (version_of block) (subst (λ n. version_of old < n) (sym (version-changed old x) ∙ ap version_of e) h)
    (⊎_elim (λ i. le_same (version_of old) (version_of block) (ap version_of i)) (λ l. less_le (version_of block) (version_of old) l) agrees)
  where
    le_same : (n m : ℕ) → n ≡ m → m ≤ n
    le_same n m i = omega (arith, i)

    less_le : (n m : ℕ) → n < m → n ≤ m
    less_le n m i = omega (arith, i)

changed_dirty : (o : Option Change) (op : ℕ) (slot : Slot) (block : Block) (m : ℕ) → Based o slot → Agrees Up slot block → changed o op slot ≡ Dirty block m → slot ≡ Dirty block m
changed_dirty None op slot block m b a e = e
changed_dirty (Some x) op Absent block m b a e = absurd b
changed_dirty (Some x) op (Clean old) block m b a e = absurd a
changed_dirty (Some x) op (Dirty old mark) block m b a e = absurd (newer x old block b a (same_block (changed_block old x) block op m e))

module _ (w : World) (g : Good w) (h : AreAcknowledged w) where
  -- of a dead server's log nothing is in flight on its own behalf by another
  own_agrees : (s : ℕ) (f : Flight) → w.flight s ≡ Some f → w.now ≤ f.stamp → f.by ≡ f.behalf → w.phase f.by ≡ Up → Agrees Up (w.slot f.by s) f.block
  own_agrees s f e early own up =
      ⊎_elim (λ o. subst (λ p. Agrees p (w.slot f.by s) f.block) up o.agrees) (λ o. absurd (up_dead (w.phase f.by) up (ap w.phase own ∙ o.dead))) (g.logged.flights s f e early).source

  -- without a write of one sector
  without : (t s : ℕ) (f : Flight) → put w.flight t None s ≡ Some f → w.flight s ≡ Some f
  without t s f e = at_put (λ o. o ≡ Some f → w.flight s ≡ Some f) w.flight t None s (λ i j. absurd (none-some f j)) (λ n j. j) e

  done : (c : Commit) → Can w (Do c) → AreAcknowledged (after w (Do c))
  done c can s f m e early own dirty =
      at_put (λ slots. slots s ≡ Dirty f.block m → m ≤ w.acked f.by) w.slot c.by (λ t. changed (change_at c.changes t) c.op (w.slot c.by t)) f.by
      (λ i j. h s f m e early own (ap (λ n. w.slot n s) i ∙ changed_dirty (change_at c.changes s) c.op (w.slot c.by s) f.block m (can.based s)
      (subst (λ n. Agrees Up (w.slot n s) f.block) i (own_agrees s f e early own (ap w.phase i ∙ can.up))) j))
      (λ n j. h s f m e early own j) dirty

  given : (a : ℕ) (lost : ℕ → Bool) (s : ℕ) (f : Flight) (m : ℕ) → w.flight s ≡ Some f → w.now ≤ f.stamp → f.by ≡ f.behalf →
      put w.slot a (λ t. if lost t then Absent else w.slot a t) f.by s ≡ Dirty f.block m → m ≤ w.acked f.by
  given a lost s f m e early own dirty =
      at_put (λ slots. slots s ≡ Dirty f.block m → m ≤ w.acked f.by) w.slot a (λ t. if lost t then Absent else w.slot a t) f.by
      (λ i j. h s f m e early own (ap (λ n. w.slot n s) i ∙ kept (lost s) j)) (λ n j. h s f m e early own j) dirty
    where
      kept : (b : Bool) → (if b then Absent else w.slot a s) ≡ Dirty f.block m → w.slot a s ≡ Dirty f.block m
      kept true j = absurd (not_dirty Absent f.block m refl j)
      kept false j = j

  landed_on : (t b : ℕ) (block : Block) → AreAcknowledged (record w { flight = put w.flight t None; slot = put2 w.slot b t (landed block (w.slot b t)) })
  landed_on t b block s f m e early own dirty =
      at_put2 (λ x. x ≡ Dirty f.block m → m ≤ w.acked f.by) w.slot b t (landed block (w.slot b t)) f.by s
      (λ i j k. h s f m (without t s f e) early own (ap (λ n. w.slot n s) i ∙ ap (w.slot b) j ∙ landed_dirty block (w.slot b t) f.block m k)) (λ n k. h s f m (without t s f e) early own k) dirty

  ticked : AreAcknowledged (after w Tick)
  ticked s f m e early own dirty = h s f m e (less w.now f.stamp early) own dirty
    where
      less : (n k : ℕ) → n + 1 ≤ k → n ≤ k
      less n k i = omega (arith, i)

  known : (a k : ℕ) → w.acked a ≤ k → AreAcknowledged (after w (Ack a k))
  known a k more s f m e early own dirty = at_put (λ n. m ≤ n) w.acked a k f.by (λ i. le_le m (w.acked a) k (subst (λ n. m ≤ w.acked n) i (h s f m e early own dirty)) more) (λ n. h s f m e early own dirty)
    where
      le_le : (x y z : ℕ) → x ≤ y → y ≤ z → x ≤ z
      le_le x y z i j = omega (arith, i, j)

  finished : (q : Rescue) → w.rescue ≡ Some q → AreAcknowledged (after w (Finish q))
  finished q going s f m e early own dirty =
      at_put (λ n. m ≤ n) w.acked q.dead (w.durable q.dead) f.by
      (λ i. absurd (up_dead (w.phase f.by) (up_dirty (w.phase f.by) (w.slot f.by s) f.block m dirty (g.logged.not_up f.by s)) (ap w.phase i ∙ (g.logged.rescued q going).dead)))
      (λ n. h s f m e early own dirty)

  fetched : (a t : ℕ) → AreAcknowledged (after w (Fetch a t))
  fetched a t s f m e early own dirty =
      at_put2 (λ x. x ≡ Dirty f.block m → m ≤ w.acked f.by) w.slot a t (Clean (w.disk t)) f.by s (λ i j k. absurd (clean_dirty (w.disk t) f.block m k)) (λ n k. h s f m e early own k) dirty

  issued : (a t : ℕ) (block : Block) (mark : ℕ) → Can w (Issue a t block mark) → AreAcknowledged (after w (Issue a t block mark))
  issued a t block mark can s f m e early own dirty =
      at_put (λ o. o ≡ Some f → m ≤ w.acked f.by) w.flight t (Some (record { by = a; behalf = a; stamp = w.expiry a - MARGIN_TICKS; block = block })) s
      (λ i j. by_issue i (sym (same_Some (record { by = a; behalf = a; stamp = w.expiry a - MARGIN_TICKS; block = block }) f j))) (λ n j. h s f m j early own dirty) e
    where
      marks : (x y : Block) (n k : ℕ) → Dirty x n ≡ Dirty y k → n ≡ k
      marks x y n k i = cc

      by_issue : s ≡ t → f ≡ record { by = a; behalf = a; stamp = w.expiry a - MARGIN_TICKS; block = block } → m ≤ w.acked f.by
      by_issue i j =
          subst (λ n. m ≤ w.acked n) (sym (ap (λ (x : Flight). x.by) j))
          (subst (λ n. n ≤ w.acked a) (sym (marks f.block block m mark (sym dirty ∙ ap (λ (x : Flight). w.slot x.by s) j ∙ ap (w.slot a) i ∙ can.dirty))) can.log_first)

  replayed : (q : Rescue) (t : ℕ) (block : Block) → w.rescue ≡ Some q → AreAcknowledged (after w (Replay q t block))
  replayed q t block going s f m e early own dirty =
      at_put (λ o. o ≡ Some f → m ≤ w.acked f.by) w.flight t (Some (record { by = q.by; behalf = q.dead; stamp = w.expiry q.by - MARGIN_TICKS; block = block })) s
      (λ i j. absurd (by_replay (sym (same_Some (record { by = q.by; behalf = q.dead; stamp = w.expiry q.by - MARGIN_TICKS; block = block }) f j)))) (λ n j. h s f m j early own dirty) e
    where
      by_replay : f ≡ record { by = q.by; behalf = q.dead; stamp = w.expiry q.by - MARGIN_TICKS; block = block } → ⊥
      by_replay j = let ok = g.logged.rescued q going in
          ok.alive (ap w.phase (sym (ap (λ (x : Flight). x.by) j) ∙ own ∙ ap (λ (x : Flight). x.behalf) j) ∙ ok.dead)

  gone : (t : ℕ) → AreAcknowledged (record w { flight = put w.flight t None })
  gone t s f m e early own dirty = h s f m (without t s f e) early own dirty

  pub stays_so : (event : Event) → Can w event → KnowsMore w event → AreAcknowledged (after w event)
  stays_so Tick can more = ticked
  stays_so Leave can more = h
  stays_so (Fail a) can more = h
  stays_so (Renew a) can more = h
  stays_so (Mount a) can more = h
  stays_so (Unmount a) can more = h
  stays_so (Take a l mode) can more = h
  stays_so (Give a l) can more = given a (λ t. same_lock (cover w t) l)
  stays_so (Lower a l) can more = h
  stays_so (Do c) can more = done c can
  stays_so (Reach d k) can more = h
  stays_so (Ack a k) can more = known a k more
  stays_so (Sync a) can more = h
  stays_so (Reclaim a k) can more = h
  stays_so (Crash a) can more = given a (λ t. true)
  stays_so (Begin d b) can more = h
  stays_so (Look q s) can more = h
  stays_so (Finish q) can more = finished q can.going
  stays_so (Fetch a t) can more = fetched a t
  stays_so (Issue a t block mark) can more = issued a t block mark can
  stays_so (Replay q t block) can more = replayed q t block can.going
  stays_so (Land t x) can more = landed_on t x.behalf x.block
  stays_so (Fade t x) can more = gone t
  stays_so (Break t x) can more = gone t
  stays_so (BreakNew t x) can more = gone t
  stays_so (FetchBytes a s) can more = h
  stays_so (Clear a s) can more = h
  stays_so (IssueBytes a s block mark) can more = h
  stays_so (LandBytes s f) can more = h
  stays_so (FadeBytes s f) can more = h
  stays_so (BreakBytes s f) can more = h
  stays_so (BreakBytesNew s f) can more = h
  stays_so (Settle a s block mark) can more = h

pub acknowledged_stay : AcknowledgedStay
acknowledged_stay w event can more g h = stays_so w g h event can more
