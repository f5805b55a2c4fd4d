-- Over the logs of a disk: the writes that a recovery owes, which sectors these are of, in which order its seal is written, and that none is owed once it is over.
use Rattle.std.proofs.Common.{◌≡◌, ◌≢◌, ℕ, ◌≤◌, ◌<◌, ◌+◌, ◌*◌, ◌%◌, ◌⊎◌, inl, inr, ⊎_elim, Bool, true, false, not, ◌&&◌, ◌||◌, if◌then◌else◌, cond, IsTrue, is_some, List, [], ◌∷◌, Option, Some, None, filter, map, nat_eq, refl, sym, ap, ◌∙◌, subst, arith}
use Rattle.std.proofs.lemmas.Bool.{and_parts, both_ways, eqb-true, false≢true, not-false, not-true}
use Rattle.std.proofs.lemmas.Option.{same_Some, none-some}
use Rattle.std.specs.List.{filter_map, flat_map, list_all}
use Rattle.std.specs.Option.{option_map}
use Rattle.std.specs.Ordering.{is_eq, match_ordering, nat_cmp}
use Rattle.std.specs.declared.cmp.Ordering.{Ordering}
use Rattle.std.specs.declared.cmp.Ordering.TheVariants.{Less, Equal, Greater}
use Rattle.frang_base.specs.Functions.{member}
use Rattle.disk_definitions.proofs.Listed.{Among, all_at, among_either, among_filter, among_filter_map, among_filter_mapped, among_filtered, among_mapped, below_among}
use Rattle.disk_definitions.proofs.RegionLaws.{IsPlaceOf, region_read}
use Rattle.disk_definitions.specs.Regions.{region_of}
use Rattle.disk_definitions.specs.Replay.{is_replayed}
use Rattle.disk_definitions.specs.Written.{ascending}
use Rattle.disk_definitions.specs.declared.region.Region.{Region}
use Rattle.disk_definitions.specs.declared.region.Region.TheVariants as region
use Rattle.sector_bytes.specs.Blocks.{Block}
use Rattle.sector_bytes.specs.SectorMaps.{value_at, with_value}
use Rattle.tree_definitions.specs.Numbers.{below}
use Rattle.core_definitions.specs.Logs.{SlotsRead, end_of, is_none, is_read, is_sealed_by, is_slot_read, later_seals, log_sector, seal_block, unread}
use Rattle.core_definitions.specs.Recoveries.{Recovery, is_recovered, is_replay_done, is_seal_done, is_sealed_at, is_written, named_sectors, recovery_writes, redos, replay_writes, seal_writes, seals_from, seals_wanted, to_look}
use Rattle.core_definitions.specs.Settings.{LogRules, disk_logs}
use Rattle.core_laws.proofs.Guarding.{Of2, Of3, of_2, of_3}
use Rattle.core_laws.proofs.Keys.{member_in}

-- none passes: each fails
none_among : {X : Type 0} (xs : List X) (x : X) → is_none xs ≡ true → Among x xs → ⊥
none_among [] x none i = i
none_among (y ∷ ys) x none i = false≢true none

each_fails : {X : Type 0} (test : X → Bool) (xs : List X) (x : X) → is_none (filter test xs) ≡ true → Among x xs → test x ≡ false
each_fails test xs x none i = go (test x) refl
  where
    go : (b : Bool) → test x ≡ b → b ≡ false
    go true e = absurd (none_among (filter test xs) x none (among_filter test xs x i e))
    go false e = refl

abbrev block_entry : ℕ → Block → ℕ × Block
block_entry sector block = (sector, block)

-- ---- sectors of logs, and those that a replay may change

place_high : (segments s : ℕ) (r : Region) → IsTrue (is_replayed (Some r)) → IsPlaceOf segments s r → 4294967296 ≤ s
place_high segments s region.Param t p = absurd (false≢true t)
place_high segments s (region.Log server slot) t p = absurd (false≢true t)
place_high segments s (region.Segment k) t p = high k s p.0
  where
    high : (k s : ℕ) → 4294967296 + k ≡ s → 4294967296 ≤ s
    high k s e = omega (arith, e)
place_high segments s (region.Inode i) t p = high i s p.0
  where
    high : (k s : ℕ) → 10737418240 + k ≡ s → 4294967296 ≤ s
    high k s e = omega (arith, e)
place_high segments s (region.Small block part) t p = high block part s p.0
  where
    high : (b k s : ℕ) → 12884901888 + b * 8 + k ≡ s → 4294967296 ≤ s
    high b k s e = omega (arith, e)
place_high segments s (region.Large block part) t p = absurd (false≢true t)

pub replayed_high : (segments s : ℕ) → IsTrue (is_replayed (region_of segments s)) → 4294967296 ≤ s
replayed_high segments s t = go (region_of segments s) refl t
  where
    go : (r : Option Region) → region_of segments s ≡ r → IsTrue (is_replayed r) → 4294967296 ≤ s
    go None e t = absurd (false≢true t)
    go (Some r) e t = place_high segments s r t (region_read segments s r e)

pub log_low : (dead number : ℕ) → dead < 256 → log_sector disk_logs dead number < 4294967296
log_low dead number h = low dead (number % 256) h (small number)
  where
    small : (n : ℕ) → n % 256 < 256
    small n = omega arith

    low : (d k : ℕ) → d < 256 → k < 256 → 2147483648 + d * 8388608 + k < 4294967296
    low d k h i = omega (arith, h, i)

-- a number of the seal behind the first is of another slot
seal_apart : (dead end k : ℕ) → k < 63 → log_sector disk_logs dead (end + 2 + k) ≢ log_sector disk_logs dead (end + 1)
seal_apart dead end k h e = slots end k h (cancel (2147483648 + dead * 8388608) ((end + 2 + k) % 256) ((end + 1) % 256) e)
  where
    cancel : (b x y : ℕ) → b + x ≡ b + y → x ≡ y
    cancel b x y e = omega (arith, e)

    slots : (end k : ℕ) → k < 63 → (end + 2 + k) % 256 ≡ (end + 1) % 256 → ⊥
    slots end k h e = absurd (omega (arith, h, e))

-- ---- slots

pub unread_slot : (logs : LogRules) (slots : SlotsRead) (slot : ℕ) → IsTrue (member slot (unread logs slots)) → is_read logs slots ≡ true → ⊥
unread_slot logs slots slot m r = both_ways (is_slot_read slots slot) (not-true (is_slot_read slots slot) f.1) (all_at (is_slot_read slots) (below logs.sectors) r slot f.0)
  where
    f : Among slot (below logs.sectors) × (not (is_slot_read slots slot) ≡ true)
    f = among_filtered (λ s. not (is_slot_read slots s)) (below logs.sectors) slot (member_in slot (unread logs slots) m)

-- ---- what a recovery keeps

-- nothing is looked at or written before the log is read, each look is of a sector that the replay may change, and the first number of the seal is written last
pub record InTurn (logs : LogRules) (segments : ℕ) (r : Recovery) : Type 0 where
  pub looked : (sector : ℕ) (wanted : Option Block) → Among {X = ℕ × Option Block} (sector, wanted) r.looked → (is_read logs r.slots ≡ true) × IsTrue (is_replayed (region_of segments sector))
  pub early : is_read logs r.slots ≡ false → r.written ≡ []
  pub seals : is_sealed_at logs r (end_of logs r.slots + 1) ≡ true → list_all (is_sealed_at logs r) (later_seals logs (end_of logs r.slots)) ≡ true

-- a write that it owes: of the replay, of the numbers of the seal but the first, or of that one once all others are acknowledged
pub data Owed (logs : LogRules) (segments : ℕ) (r : Recovery) (sector : ℕ) (block : Block) : Type 0 where
  Replays : Among {X = ℕ × Option Block} (sector, Some block) r.looked → Owed logs segments r sector block
  SealsLater : (number : ℕ) → Among number (later_seals logs (end_of logs r.slots)) → sector ≡ log_sector logs r.dead number → block ≡ seal_block number → is_read logs r.slots ≡ true →
      is_sealed_by logs r.slots ≡ false → Owed logs segments r sector block
  SealsFirst : list_all (is_sealed_at logs r) (later_seals logs (end_of logs r.slots)) ≡ true → sector ≡ log_sector logs r.dead (end_of logs r.slots + 1) →
      block ≡ seal_block (end_of logs r.slots + 1) → is_read logs r.slots ≡ true → is_sealed_by logs r.slots ≡ false → Owed logs segments r sector block

pub owed_read : (logs : LogRules) (segments : ℕ) (r : Recovery) (sector : ℕ) (block : Block) → InTurn logs segments r → Owed logs segments r sector block → is_read logs r.slots ≡ true
owed_read logs segments r sector block k (Replays i) = (k.looked sector (Some block) i).0
owed_read logs segments r sector block k (SealsLater number i e b read unsealed) = read
owed_read logs segments r sector block k (SealsFirst all e b read unsealed) = read

-- ---- what it wants written is owed, and not acknowledged

pub record IsOpen (logs : LogRules) (segments : ℕ) (r : Recovery) (sector : ℕ) (block : Block) : Type 0 where
  pub unwritten : is_written r sector ≡ false
  pub owed : Owed logs segments r sector block

module _ (logs : LogRules) (segments : ℕ) (r : Recovery) (sector : ℕ) (block : Block) where
  replay_open : Among {X = ℕ × Block} (sector, block) (replay_writes r) → IsOpen logs segments r sector block
  replay_open i = record { unwritten = not-true (is_written r sector) f.1; owed = go (among_filter_mapped wanted r.looked (sector, block) f.0) }
    where
      wanted : ℕ × Option Block → Option (ℕ × Block)
      wanted look = option_map (block_entry look.0) look.1

      f : Among {X = ℕ × Block} (sector, block) (filter_map wanted r.looked) × (not (is_written r sector) ≡ true)
      f = among_filtered (λ (write : ℕ × Block). not (is_written r write.0)) (filter_map wanted r.looked) (sector, block) i

      by_look : (look : ℕ × Option Block) (w : Option Block) → look.1 ≡ w → Among look r.looked → option_map (block_entry look.0) w ≡ Some (block_entry sector block) → Owed logs segments r sector block
      by_look look None e there is = absurd (none-some (block_entry sector block) is)
      by_look look (Some b) e there is =
          Replays (subst (λ (n : ℕ × Block). Among {X = ℕ × Option Block} (n.0, Some n.1) r.looked) (same_Some (block_entry look.0 b) (block_entry sector block) is)
          (subst (λ one. Among {X = ℕ × Option Block} one r.looked) (pair look (look.0, Some b) refl e) there))
        where
          pair : (one other : ℕ × Option Block) → one.0 ≡ other.0 → one.1 ≡ other.1 → one ≡ other
          pair one other e f = λ i. (e i, f i)

      go : (look : ℕ × Option Block) × Among look r.looked × (wanted look ≡ Some (block_entry sector block)) → Owed logs segments r sector block
      go f = by_look f.0 f.0.1 refl f.1 f.2

  seal_open : Among {X = ℕ × Block} (sector, block) (seal_writes logs segments r) → IsOpen logs segments r sector block
  seal_open i = go (is_replay_done logs segments r && not (is_sealed_by logs r.slots)) refl (among_mapped (λ number. block_entry (log_sector logs r.dead number) (seal_block number)) (seals_wanted logs segments r) (sector, block) i)
    where
      later : List ℕ
      later = later_seals logs (end_of logs r.slots)

      wanted_by : Bool → List ℕ
      wanted_by b = if b then (end_of logs r.slots + 1) ∷ [] else later

      by_all : (read : is_read logs r.slots ≡ true) → (unsealed : is_sealed_by logs r.slots ≡ false) → (all : Bool) → list_all (is_sealed_at logs r) later ≡ all → (number : ℕ) →
          Among number (wanted_by all) → log_sector logs r.dead number ≡ sector → seal_block number ≡ block → Owed logs segments r sector block
      by_all read unsealed true e number (inl is) at same = SealsFirst e (sym at ∙ ap (log_sector logs r.dead) is) (sym same ∙ ap seal_block is) read unsealed
      by_all read unsealed true e number (inr j) at same = absurd j
      by_all read unsealed false e number j at same = SealsLater number j (sym at) (sym same) read unsealed

      from : (test : IsTrue (is_replay_done logs segments r && not (is_sealed_by logs r.slots))) → (number : ℕ) → Among number (seals_from logs r (end_of logs r.slots)) →
          log_sector logs r.dead number ≡ sector → seal_block number ≡ block → IsOpen logs segments r sector block
      from test number j at same = record {
        unwritten = subst (λ n. is_written r n ≡ false) at (not-true (is_sealed_at logs r number) f.1);
        owed = by_all (of_3 (is_read logs r.slots) (is_none (to_look logs segments r)) (is_none (replay_writes r)) (and_parts (is_replay_done logs segments r) _ test).0).p0
            (not-true (is_sealed_by logs r.slots) (and_parts (is_replay_done logs segments r) (not (is_sealed_by logs r.slots)) test).1) (list_all (is_sealed_at logs r) later) refl number f.0 at same;
      }
        where
          f : Among number (wanted_by (list_all (is_sealed_at logs r) later)) × (not (is_sealed_at logs r number) ≡ true)
          f = among_filtered (λ n. not (is_sealed_at logs r n)) (wanted_by (list_all (is_sealed_at logs r) later)) number j

      go : (b : Bool) → (is_replay_done logs segments r && not (is_sealed_by logs r.slots)) ≡ b →
          (number : ℕ) × Among number (if b then seals_from logs r (end_of logs r.slots) else []) × (block_entry (log_sector logs r.dead number) (seal_block number) ≡ block_entry sector block) → IsOpen logs segments r sector block
      go true e x = from e x.0 x.1 (ap (λ p. p.0) x.2) (ap (λ p. p.1) x.2)
      go false e x = absurd x.1

  pub wanted_open : Among {X = ℕ × Block} (sector, block) (recovery_writes logs segments r) → IsOpen logs segments r sector block
  wanted_open i = ⊎_elim replay_open seal_open (among_either (sector, block) (replay_writes r) (seal_writes logs segments r) i)

-- ---- none is owed once it is over

pub none_open : (logs : LogRules) (segments : ℕ) (r : Recovery) (sector : ℕ) (block : Block) → InTurn logs segments r → IsTrue (is_recovered logs segments r) → IsOpen logs segments r sector block → ⊥
none_open logs segments r sector block k over open_ = go open_.owed
  where
    both : Of2 (is_replay_done logs segments r) (is_seal_done logs r)
    both = of_2 (is_replay_done logs segments r) (is_seal_done logs r) over

    replayed : Of3 (is_read logs r.slots) (is_none (to_look logs segments r)) (is_none (replay_writes r))
    replayed = of_3 (is_read logs r.slots) (is_none (to_look logs segments r)) (is_none (replay_writes r)) both.p0

    wanted : ℕ × Option Block → Option (ℕ × Block)
    wanted look = option_map (block_entry look.0) look.1

    sealed : is_sealed_by logs r.slots ≡ false → is_sealed_at logs r (end_of logs r.slots + 1) ≡ true
    sealed unsealed = either (is_sealed_by logs r.slots) (is_sealed_at logs r (end_of logs r.slots + 1)) unsealed both.p1
      where
        either : (x y : Bool) → x ≡ false → IsTrue (x || y) → y ≡ true
        either true y e t = absurd (false≢true (sym e))
        either false y e t = t

    go : Owed logs segments r sector block → ⊥
    go (Replays i) =
        both_ways (is_written r sector) open_.unwritten
        (not-false (is_written r sector)
        (each_fails (λ (write : ℕ × Block). not (is_written r write.0)) (filter_map wanted r.looked) (sector, block) replayed.p2
        (among_filter_map wanted r.looked (sector, Some block) (sector, block) i refl)))
    go (SealsLater number i e b read unsealed) =
        both_ways (is_written r sector) open_.unwritten
        (subst (λ n. is_written r n ≡ true) (sym e) (all_at (is_sealed_at logs r) (later_seals logs (end_of logs r.slots)) (k.seals (sealed unsealed)) number i))
    go (SealsFirst all e b read unsealed) = both_ways (is_written r sector) open_.unwritten (subst (λ n. is_written r n ≡ true) (sym e) (sealed unsealed))

-- ---- a write more is acknowledged

abbrev pub with_written : Recovery → ℕ → Recovery
with_written r sector = record r { written = sector ∷ r.written }

written_more : (r : Recovery) (sector other : ℕ) → is_written r other ≡ true → is_written (with_written r sector) other ≡ true
written_more r sector other e = go (nat_eq sector other)
  where
    go : (b : Bool) → (if b then true else is_written r other) ≡ true
    go true = refl
    go false = e

written_same : (r : Recovery) (sector other : ℕ) → sector ≢ other → is_written r other ≡ false → is_written (with_written r sector) other ≡ false
written_same r sector other apart e = go (nat_eq sector other) refl
  where
    go : (b : Bool) → nat_eq sector other ≡ b → (if b then true else is_written r other) ≡ false
    go true f = absurd (apart (eqb-true sector other f))
    go false f = e

all_more : {X : Type 0} (test more : X → Bool) → ((x : X) → test x ≡ true → more x ≡ true) → (xs : List X) → list_all test xs ≡ true → list_all more xs ≡ true
all_more test more keeps [] all = refl
all_more test more keeps (x ∷ xs) all =
    both (more x) (list_all more xs) (keeps x (and_parts (test x) (list_all test xs) all).0) (all_more test more keeps xs (and_parts (test x) (list_all test xs) all).1)
  where
    both : (a b : Bool) → a ≡ true → b ≡ true → (a && b) ≡ true
    both true b e f = f
    both false b e f = absurd (false≢true e)

pub open_beside : (logs : LogRules) (segments : ℕ) (r : Recovery) (sector other : ℕ) (block : Block) → sector ≢ other → IsOpen logs segments r other block →
    IsOpen logs segments (with_written r sector) other block
open_beside logs segments r sector other block apart o = record { unwritten = written_same r sector other apart o.unwritten; owed = go o.owed }
  where
    go : Owed logs segments r other block → Owed logs segments (with_written r sector) other block
    go (Replays i) = Replays i
    go (SealsLater number i e b read unsealed) = SealsLater number i e b read unsealed
    go (SealsFirst all e b read unsealed) =
        SealsFirst (all_more (is_sealed_at logs r) (is_sealed_at logs (with_written r sector)) (λ n. written_more r sector (log_sector logs r.dead n)) (later_seals logs (end_of logs r.slots)) all) e b read unsealed

pub turn_written : (segments : ℕ) (r : Recovery) (sector : ℕ) (block : Block) → r.dead < 256 → Owed disk_logs segments r sector block → InTurn disk_logs segments r →
    InTurn disk_logs segments (with_written r sector)
turn_written segments r sector block low owed k = record {
  looked = k.looked;
  early = λ e. absurd (both_ways (is_read disk_logs r.slots) e (owed_read disk_logs segments r sector block k owed));
  seals = λ e. more (go (nat_eq sector first) refl e);
}
  where
    first : ℕ
    first = log_sector disk_logs r.dead (end_of disk_logs r.slots + 1)

    later : List ℕ
    later = later_seals disk_logs (end_of disk_logs r.slots)

    more : list_all (is_sealed_at disk_logs r) later ≡ true → list_all (is_sealed_at disk_logs (with_written r sector)) later ≡ true
    more = all_more (is_sealed_at disk_logs r) (is_sealed_at disk_logs (with_written r sector)) (λ n. written_more r sector (log_sector disk_logs r.dead n)) later

    high_low : (x y : ℕ) → 4294967296 ≤ x → y < 4294967296 → x ≡ y → ⊥
    high_low x y h i e = absurd (omega (arith, h, i, e))

    by_first : sector ≡ first → Owed disk_logs segments r sector block → list_all (is_sealed_at disk_logs r) later ≡ true
    by_first is (Replays i) =
        absurd (high_low sector first (replayed_high segments sector (k.looked sector (Some block) i).1) (log_low r.dead (end_of disk_logs r.slots + 1) low) is)
    by_first is (SealsLater number i e b read unsealed) = absurd (of_later (among_mapped (λ n. end_of disk_logs r.slots + 2 + n) (below 63) number i))
      where
        of_later : (n : ℕ) × Among n (below 63) × (end_of disk_logs r.slots + 2 + n ≡ number) → ⊥
        of_later x = seal_apart r.dead (end_of disk_logs r.slots) x.0 (below_among 63 x.0 x.1) (ap (log_sector disk_logs r.dead) x.2 ∙ sym e ∙ is)
    by_first is (SealsFirst all e b read unsealed) = all

    go : (b : Bool) → nat_eq sector first ≡ b → (if b then true else is_written r first) ≡ true → list_all (is_sealed_at disk_logs r) later ≡ true
    go true f e = by_first (eqb-true sector first f) owed
    go false f e = k.seals e

-- ---- a slot is read, and a sector is looked at

pub turn_loaded : (logs : LogRules) (segments : ℕ) (r : Recovery) (slot : ℕ) (block : Block) → IsTrue (member slot (unread logs r.slots)) → InTurn logs segments r →
    InTurn logs segments (record r { slots = with_value r.slots slot block })
turn_loaded logs segments r slot block wants k = record {
  looked = λ sector wanted i. absurd (unread_slot logs r.slots slot wants (k.looked sector wanted i).0);
  early = λ e. none;
  seals = λ e. absurd (false≢true (sym (ap (λ xs. member (log_sector logs r.dead (end_of logs (with_value r.slots slot block) + 1)) xs) none) ∙ e));
}
  where
    none : r.written ≡ []
    none = go (is_read logs r.slots) refl
      where
        go : (b : Bool) → is_read logs r.slots ≡ b → r.written ≡ []
        go true e = absurd (unread_slot logs r.slots slot wants e)
        go false e = k.early e

pub none_open_unread : (logs : LogRules) (segments : ℕ) (r : Recovery) (slot sector : ℕ) (block : Block) → IsTrue (member slot (unread logs r.slots)) → InTurn logs segments r →
    IsOpen logs segments r sector block → ⊥
none_open_unread logs segments r slot sector block wants k o = unread_slot logs r.slots slot wants (owed_read logs segments r sector block k o.owed)

-- entries stay where another is put in
among_inserted : {V : Type 0} (es : List (ℕ × V)) (k : ℕ) (v : V) (one : ℕ × V) → value_at es k ≡ None → Among one es → Among one (with_value es k v)
among_inserted [] k v one none i = absurd i
among_inserted {V = V} (e ∷ es) k v one none i = go (nat_cmp k e.0) refl (among_inserted es k v one) none i
  where
    go : (o : Ordering) → nat_cmp k e.0 ≡ o → (value_at es k ≡ None → Among one es → Among one (with_value es k v)) → cond (is_eq o) (Some e.1) (value_at es k) ≡ None → Among one (e ∷ es) →
        Among one (match_ordering o ((k, v) ∷ e ∷ es) ((e.0, v) ∷ es) (e ∷ with_value es k v))
    go Less f rest none i = inr i
    go Equal f rest none i = absurd (none-some e.1 (sym none))
    go Greater f rest none (inl same) = inl same
    go Greater f rest none (inr i) = inr (rest none i)

-- and one that is there was there, or is that one
inserted_among : {V : Type 0} (es : List (ℕ × V)) (k : ℕ) (v : V) (one : ℕ × V) → value_at es k ≡ None → Among one (with_value es k v) → Among one es ⊎ (one ≡ (k, v))
inserted_among [] k v one none (inl e) = inr e
inserted_among [] k v one none (inr i) = absurd i
inserted_among {V = V} (e ∷ es) k v one none i = go (nat_cmp k e.0) refl (inserted_among es k v one) none i
  where
    go : (o : Ordering) → nat_cmp k e.0 ≡ o → (value_at es k ≡ None → Among one (with_value es k v) → Among one es ⊎ (one ≡ (k, v))) → cond (is_eq o) (Some e.1) (value_at es k) ≡ None →
        Among one (match_ordering o ((k, v) ∷ e ∷ es) ((e.0, v) ∷ es) (e ∷ with_value es k v)) → Among one (e ∷ es) ⊎ (one ≡ (k, v))
    go Less f rest none (inl is) = inr is
    go Less f rest none (inr i) = inl i
    go Equal f rest none i = absurd (none-some e.1 (sym none))
    go Greater f rest none (inl same) = inl (inl same)
    go Greater f rest none (inr i) = ⊎_elim (λ j. inl (inr j)) (λ is. inr is) (rest none i)

module _ (logs : LogRules) (segments : ℕ) (r : Recovery) (sector : ℕ) (wanted : Option Block) (wants : IsTrue (member sector (to_look logs segments r))) where
  record Unlooked : Type 0 where
    read : is_read logs r.slots ≡ true
    named : IsTrue (is_replayed (region_of segments sector))
    none : value_at r.looked sector ≡ None

  unlooked : Unlooked
  unlooked = go (is_read logs r.slots) refl (member_in sector (to_look logs segments r) wants)
    where
      no_value : (v : Option (Option Block)) → is_some v ≡ false → v ≡ None
      no_value None e = refl
      no_value (Some v) e = absurd (false≢true (sym e))

      go : (b : Bool) → is_read logs r.slots ≡ b → Among sector (if b then filter (λ s. not (is_some (value_at r.looked s))) (named_sectors segments (redos logs r)) else []) → Unlooked
      go true e i = record {
        read = e;
        named = (among_filtered (λ s. is_replayed (region_of segments s)) (ascending (flat_map (λ redo. map (λ change. change.sector.0) redo.changes) (redos logs r))) sector f.0).1;
        none = no_value (value_at r.looked sector) (not-true (is_some (value_at r.looked sector)) f.1);
      }
        where
          f : Among sector (named_sectors segments (redos logs r)) × (not (is_some (value_at r.looked sector)) ≡ true)
          f = among_filtered (λ s. not (is_some (value_at r.looked s))) (named_sectors segments (redos logs r)) sector i
      go false e i = absurd i

  pub turn_looked : InTurn logs segments r → InTurn logs segments (record r { looked = with_value r.looked sector wanted })
  turn_looked k = record {
    looked = λ other w i. ⊎_elim (λ j. k.looked other w j) (λ e. (unlooked.read, subst (λ n. IsTrue (is_replayed (region_of segments n))) (sym (ap (λ p. p.0) e)) unlooked.named))
        (inserted_among r.looked sector wanted (other, w) unlooked.none i);
    early = k.early;
    seals = k.seals;
  }

  pub open_looked : (other : ℕ) (block : Block) → IsOpen logs segments r other block → IsOpen logs segments (record r { looked = with_value r.looked sector wanted }) other block
  open_looked other block o = record { unwritten = o.unwritten; owed = go o.owed }
    where
      go : Owed logs segments r other block → Owed logs segments (record r { looked = with_value r.looked sector wanted }) other block
      go (Replays i) = Replays (among_inserted r.looked sector wanted (other, Some block) unlooked.none i)
      go (SealsLater number i e b read unsealed) = SealsLater number i e b read unsealed
      go (SealsFirst all e b read unsealed) = SealsFirst all e b read unsealed

pub looked_named : (logs : LogRules) (segments : ℕ) (r : Recovery) (sector : ℕ) → IsTrue (member sector (to_look logs segments r)) → IsTrue (is_replayed (region_of segments sector))
looked_named logs segments r sector wants = (unlooked logs segments r sector None wants).named
