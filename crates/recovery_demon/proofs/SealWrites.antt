-- The writes of a seal: where they lie, that there are some, and how they are gathered from the last on.
use Rattle.std.proofs.Common.{◌≡◌, ◌≢◌, ◌<◌, ◌≤◌, ◌+◌, ◌*◌, ◌%◌, ℕ, suc, Bool, true, false, if◌then◌else◌, List, [], ◌∷◌, drop, map, length, Some, nat_lt, nat_eq, refl, sym, ap, ◌∙◌, arith, add-one, drop-cons}
use Rattle.std.proofs.Math.Nat.{mod-lt}
use Rattle.std.proofs.lemmas.Bool.{and_from, lt-ltb, ltb-true}
use Rattle.std.proofs.lemmas.Bool.Decides.{nat_tests}
use Rattle.std.proofs.lemmas.Grind.{common_steps}
use Rattle.std.specs.BTreeMap.{is_at}
use Rattle.std.specs.Ordering.{nat_cmp}
use Rattle.frang_base.specs.Functions.{member}
use Rattle.frang_base.proofs.Tests.{at_only}
use Rattle.tree_definitions.specs.Numbers.{below}
use Rattle.sector_bytes.specs.Blocks.{Block}
use Rattle.sector_bytes.specs.SectorMaps.{value_at, with_value}
use Rattle.std.proofs.lemmas.Cmp.{nat_cmp_total}
use Rattle.sorted_entries.proofs.Sorted.{lookup-insert_entry}
use Rattle.disk_definitions.specs.declared.region.Region.TheVariants as region
use Rattle.disk_definitions.specs.Regions.{log_stride, logs_from, region_of, sector_of}
use Rattle.disk_definitions.specs.Replay.{is_replayed}
use Rattle.disk_definitions.proofs.Lists.{below_at, length_below}
use Rattle.disk_definitions.proofs.RegionLaws.{region_found}
use Rattle.core_definitions.specs.Logs.{is_none}
use Rattle.log_slots.specs.Reading.{log_rules}
use Rattle.recovery_demon.specs.Rules.{later_from, later_writes, seal}
use Rattle.log_slots.proofs.Maps.{below_member}

-- ---- where they lie

pub seal_sector : (dead number : ℕ) → (seal dead number).0 ≡ sector_of (region.Log dead (number % 256))
unfolding seal log_rules
seal_sector dead number = refl

-- no replay changes them
pub seal_apart : (segments dead number : ℕ) → segments ≤ 64 → dead < 256 → is_replayed (region_of segments (seal dead number).0) ≡ false
seal_apart segments dead number few server =
    ap (λ s. is_replayed (region_of segments s)) (seal_sector dead number)
    ∙ ap is_replayed (region_found segments (region.Log dead (number % 256)) few (and_from (nat_lt dead 256) (nat_lt (number % 256) 256) (lt-ltb dead 256 server) (lt-ltb (number % 256) 256 (mod-lt number (omega arith)))))

one_slot : (dead a b : ℕ) → logs_from + dead * log_stride + a ≡ logs_from + dead * log_stride + b → a ≡ b
one_slot dead a b e = omega (arith, e)

-- the first lies apart from the later ones
pub first_apart : (dead end k : ℕ) → k < 63 → (seal dead (end + 1)).0 ≢ (seal dead (end + 2 + k)).0
first_apart dead end k h same =
    let slots : (end + 1) % 256 ≡ (end + 2 + k) % 256 = one_slot dead ((end + 1) % 256) ((end + 2 + k) % 256) (sym (seal_sector dead (end + 1)) ∙ same ∙ seal_sector dead (end + 2 + k)) in
    absurd (omega (arith, slots, h))

-- ---- which they are

pub record IsLater (dead end sector : ℕ) : Type 0 where
  pub k : ℕ
  pub few : k < 63
  pub at : sector ≡ (seal dead (end + 2 + k)).0

record IsAmong (dead end sector : ℕ) (ks : List ℕ) : Type 0 where
  k : ℕ
  among : member k ks ≡ true
  at : sector ≡ (seal dead (end + 2 + k)).0

member_first : (k : ℕ) (ks : List ℕ) → member k (k ∷ ks) ≡ true
member_first k ks = grind (arith, nat_tests)

member_more : (k j : ℕ) (ks : List ℕ) → member k ks ≡ true → member k (j ∷ ks) ≡ true
member_more k j ks e = go (nat_eq j k) e
  where
    go : (b : Bool) → member k ks ≡ true → (if b then true else member k ks) ≡ true
    go true e = refl
    go false e = e

among_found : (dead end sector : ℕ) (block : Block) (ks : List ℕ) → value_at (map (seal dead) (map (λ k. end + 2 + k) ks)) sector ≡ Some block → IsAmong dead end sector ks
among_found dead end sector block [] e = cc e
among_found dead end sector block (k ∷ ks) e = go (is_at (nat_cmp sector) (seal dead (end + 2 + k)).0) refl e (among_found dead end sector block ks)
  where
    go : (b : Bool) → is_at (nat_cmp sector) (seal dead (end + 2 + k)).0 ≡ b → (if b then Some (seal dead (end + 2 + k)).1 else value_at (map (seal dead) (map (λ k. end + 2 + k) ks)) sector) ≡ Some block →
        (value_at (map (seal dead) (map (λ k. end + 2 + k) ks)) sector ≡ Some block → IsAmong dead end sector ks) → IsAmong dead end sector (k ∷ ks)
    go true is e rest = record { k = k; among = member_first k ks; at = at_only sector (seal dead (end + 2 + k)).0 is }
    go false is e rest = let f = rest e in record { k = f.k; among = member_more f.k k ks f.among; at = f.at }

-- the writes by their count
pub later_is : (dead end : ℕ) → later_from 63 0 dead end ≡ later_writes dead end
unfolding later_from later_writes log_rules
later_is dead end = refl

pub later_found : (dead end sector : ℕ) (block : Block) → value_at (later_writes dead end) sector ≡ Some block → IsLater dead end sector
unfolding later_from
later_found dead end sector block e =
    let f = among_found dead end sector block (drop 0 (below 63)) (ap (λ ws. value_at ws sector) (later_is dead end) ∙ e) in
    record { k = f.k; few = ltb-true f.k 63 (sym (below_member 63 f.k) ∙ f.among); at = f.at }

-- ---- from the last on

pub later_none : (count dead end : ℕ) → later_from count count dead end ≡ []
unfolding later_from
later_none count dead end = ap (λ ks. map (seal dead) (map (λ k. end + 2 + k) ks)) (drop_whole (below count) count (length_below count))
  where
    drop_whole : (xs : List ℕ) (n : ℕ) → length xs ≡ n → drop n xs ≡ []
    drop_whole xs n e = grind (arith, common_steps)

pub later_more : (count from dead end : ℕ) → from < count → later_from count from dead end ≡ seal dead (end + 2 + from) ∷ later_from count (from + 1) dead end
unfolding later_from
later_more count from dead end h =
    let inside : from < length (below count) = omega (arith, length_below count) in
    ap (λ ks. map (seal dead) (map (λ k. end + 2 + k) ks)) (drop-cons (below count) from 0 inside)
    ∙ ap (λ k. seal dead (end + 2 + k) ∷ map (seal dead) (map (λ k. end + 2 + k) (drop (suc from) (below count)))) (below_at count from h)
    ∙ ap (λ n. seal dead (end + 2 + from) ∷ map (seal dead) (map (λ k. end + 2 + k) (drop n (below count)))) (sym (add-one from))

pub later_some : (dead end : ℕ) → is_none (later_writes dead end) ≡ false
later_some dead end = ap is_none (sym (later_is dead end) ∙ later_more 63 0 dead end (omega arith))

pub later_put : (dead end left number : ℕ) (es : List (ℕ × Block)) → left < 63 → number ≡ end + 2 + left → ((sector : ℕ) → value_at es sector ≡ value_at (later_from 63 (left + 1) dead end) sector) →
    (sector : ℕ) → value_at (with_value es (seal dead number).0 (seal dead number).1) sector ≡ value_at (later_from 63 left dead end) sector
later_put dead end left number es few is kept sector =
    lookup-insert_entry nat_cmp_total (seal dead number).0 (seal dead number).1 sector es
    ∙ ap (λ o. if is_at (nat_cmp sector) (seal dead number).0 then Some (seal dead number).1 else o) (kept sector)
    ∙ ap (λ n. value_at (seal dead n ∷ later_from 63 (left + 1) dead end) sector) is
    ∙ sym (ap (λ ws. value_at ws sector) (later_more 63 left dead end few))
