-- Of the writes that a recovery wants no sector has two, so that the last at a sector is the one there.
use Rattle.std.proofs.Common.{◌≡◌, ℕ, zero, suc, ◌+◌, ◌*◌, ◌%◌, ◌<◌, ◌≤◌, Bool, true, false, not, ◌&&◌, if◌then◌else◌, cond, List, [], ◌∷◌, ◌++◌, append-nil, filter, map, Option, Some, None, is_some, nat_le, nat_lt, refl, sym, ap, ◌∙◌, arith}
use Rattle.std.proofs.lemmas.Bool.{and_from, and_parts, false≢true, le-leb, leb-true, lt-ltb, ltb-true}
use Rattle.std.proofs.lemmas.Map.Entries.{lookup-filter-keys}
use Rattle.std.proofs.lemmas.Option.{same_Some}
use Rattle.std.specs.BTreeMap.{is_at}
use Rattle.std.specs.List.{list_all}
use Rattle.std.specs.Option.{option_map, option_or}
use Rattle.std.specs.Ordering.{nat_cmp}
use Rattle.frang_base.specs.Functions.{member}
use Rattle.tree_definitions.specs.Numbers.{below}
use Rattle.sector_bytes.specs.Blocks.{Block}
use Rattle.sector_bytes.specs.SectorMaps.{Ascend, value_at}
use Rattle.sector_bytes.proofs.MapLaws.{found}
use Rattle.disk_definitions.specs.Regions.{log_stride, logs_from}
use Rattle.log_slots.specs.Reading.{log_rules}
use Rattle.core_definitions.specs.Flights.{OfRecovery}
use Rattle.core_definitions.specs.Logs.{end_of, is_none, is_read, is_sealed_by, later_seals, log_sector, seal_block}
use Rattle.core_definitions.specs.Recoveries.{Recovery, is_replay_done, is_sealed_at, recovery_writes, replay_writes, seal_writes, seals_from, to_look}
use Rattle.core_definitions.specs.Writes.{Write, rescue_writes}
use Rattle.recovery_demon.specs.Recovering.{writes_wanted}
use Rattle.recovery_demon.specs.Replays.{looked_writes}
use Rattle.recovery_demon.proofs.Wanted.{left_at, looked_at}
use Rattle.server_issues.specs.Doubled.{last_at}
use Rattle.server_issues.proofs.Doubled.{last-filter, last-made, last-map, or_none}

-- ---- the replay's

module _ (recovery : Recovery) (sorted : Ascend recovery.looked) (s : ℕ) where
  replay_once : last_at (replay_writes recovery) s ≡ value_at (replay_writes recovery) s
  replay_once =
      last-filter (λ k. not (member k recovery.written)) (looked_writes recovery.looked) s
      ∙ ap (λ o. if not (member s recovery.written) then o else None) (last-made (λ look. look.1) recovery.looked s sorted ∙ sym (looked_at recovery.looked s sorted))
      ∙ turned (member s recovery.written) (value_at (looked_writes recovery.looked) s) ∙ sym (left_at (looked_writes recovery.looked) recovery.written s)
    where
      turned : (b : Bool) (o : Option Block) → (if not b then o else None) ≡ (if b then None else o)
      turned true o = refl
      turned false o = refl

-- ---- the seal's

-- the numbers that a seal may want are e + 1 and some behind it
abbrev is_behind : ℕ → ℕ → Bool
is_behind end n = nat_le (end + 1) n && nat_lt n (end + 65)

sector_is : (dead n : ℕ) → log_sector log_rules dead n ≡ logs_from + dead * log_stride + n % 256
unfolding log_rules
sector_is dead n = refl

-- of these no two have one sector
apart : (dead end m n : ℕ) → is_behind end m ≡ true → is_behind end n ≡ true → log_sector log_rules dead m ≡ log_sector log_rules dead n → m ≡ n
apart dead end m n a b same =
    let slots : m % 256 ≡ n % 256 = one_slot (m % 256) (n % 256) (logs_from + dead * log_stride) (sym (sector_is dead m) ∙ same ∙ sector_is dead n) in
    let p : end + 1 ≤ m = leb-true (end + 1) m (and_parts (nat_le (end + 1) m) (nat_lt m (end + 65)) a).0 in
    let q : m < end + 65 = ltb-true m (end + 65) (and_parts (nat_le (end + 1) m) (nat_lt m (end + 65)) a).1 in
    let r : end + 1 ≤ n = leb-true (end + 1) n (and_parts (nat_le (end + 1) n) (nat_lt n (end + 65)) b).0 in
    let t : n < end + 65 = ltb-true n (end + 65) (and_parts (nat_le (end + 1) n) (nat_lt n (end + 65)) b).1 in
    omega (arith, slots)
  where
    one_slot : (x y base : ℕ) → base + x ≡ base + y → x ≡ y
    one_slot x y base e = omega (arith, e)

later_is : (end : ℕ) → later_seals log_rules end ≡ map (λ k. end + 2 + k) (below 63)
unfolding log_rules
later_is end = refl

all_append : (f : ℕ → Bool) (xs : List ℕ) (x : ℕ) → list_all f xs ≡ true → f x ≡ true → list_all f (xs ++ x ∷ []) ≡ true
all_append f [] x all e = ap (λ b. b && true) e
all_append f (y ∷ ys) x all e =
    let parts = and_parts (f y) (list_all f ys) all in
    ap (λ b. b && list_all f (ys ++ x ∷ [])) parts.0 ∙ all_append f ys x parts.1 e

all_below : (f : ℕ → Bool) (n : ℕ) → ((k : ℕ) → k < n → f k ≡ true) → list_all f (below n) ≡ true
all_below f zero each = refl
all_below f (suc n) each = all_append f (below n) n (all_below f n (λ k small. each k (omega arith))) (each n (omega arith))

all_mapped : (f : ℕ → Bool) (g : ℕ → ℕ) (xs : List ℕ) → list_all (λ k. f (g k)) xs ≡ true → list_all f (map g xs) ≡ true
all_mapped f g [] all = refl
all_mapped f g (x ∷ xs) all =
    let parts = and_parts (f (g x)) (list_all (λ k. f (g k)) xs) all in
    ap (λ b. b && list_all f (map g xs)) parts.0 ∙ all_mapped f g xs parts.1

all_chosen : (f p : ℕ → Bool) (xs : List ℕ) → list_all f xs ≡ true → list_all f (filter p xs) ≡ true
all_chosen f p [] all = refl
all_chosen f p (x ∷ xs) all = go (p x) (all_chosen f p xs parts.1)
  where
    parts : (f x ≡ true) × (list_all f xs ≡ true)
    parts = and_parts (f x) (list_all f xs) all

    go : (b : Bool) → list_all f (filter p xs) ≡ true → list_all f (cond b (x ∷ filter p xs) (filter p xs)) ≡ true
    go true rest = ap (λ b. b && list_all f (filter p xs)) parts.0 ∙ rest
    go false rest = rest

in_range : (end k : ℕ) → k < 63 → is_behind end (end + 2 + k) ≡ true
in_range end k small = and_from (nat_le (end + 1) (end + 2 + k)) (nat_lt (end + 2 + k) (end + 65)) (le-leb (end + 1) (end + 2 + k) (omega arith)) (lt-ltb (end + 2 + k) (end + 65) (omega arith))

first_in_range : (end : ℕ) → is_behind end (end + 1) ≡ true
first_in_range end = and_from (nat_le (end + 1) (end + 1)) (nat_lt (end + 1) (end + 65)) (le-leb (end + 1) (end + 1) (omega arith)) (lt-ltb (end + 1) (end + 65) (omega arith))

later_in_range : (end : ℕ) → list_all (is_behind end) (later_seals log_rules end) ≡ true
later_in_range end = ap (list_all (is_behind end)) (later_is end) ∙ all_mapped (is_behind end) (λ k. end + 2 + k) (below 63) (all_below (λ k. is_behind end (end + 2 + k)) 63 (in_range end))

abbrev seals_by : Recovery → ℕ → Bool → List ℕ
seals_by recovery end all = filter (λ number. not (is_sealed_at log_rules recovery number)) (if all then (end + 1) ∷ [] else later_seals log_rules end)

wanted_in_range : (recovery : Recovery) (end : ℕ) (all : Bool) → list_all (is_behind end) (seals_by recovery end all) ≡ true
wanted_in_range recovery end true = all_chosen (is_behind end) (λ number. not (is_sealed_at log_rules recovery number)) ((end + 1) ∷ []) (ap (λ b. b && true) (first_in_range end))
wanted_in_range recovery end false = all_chosen (is_behind end) (λ number. not (is_sealed_at log_rules recovery number)) (later_seals log_rules end) (later_in_range end)

module _ (dead end : ℕ) where
  abbrev seal_of : ℕ → ℕ × Block
  seal_of n = (log_sector log_rules dead n, seal_block n)

  record IsSealOf (s : ℕ) (block : Block) : Type 0 where
    n : ℕ
    behind : is_behind end n ≡ true
    at : log_sector log_rules dead n ≡ s
    is : seal_block n ≡ block

  found_seal : (ns : List ℕ) (s : ℕ) (block : Block) → list_all (is_behind end) ns ≡ true → value_at (map seal_of ns) s ≡ Some block → IsSealOf s block
  found_seal [] s block all e = absurd (cc)
  found_seal (n ∷ ns) s block all e = go (λ there. found_seal ns s block parts.1 there) (is_at (nat_cmp s) (log_sector log_rules dead n)) refl e
    where
      parts : (is_behind end n ≡ true) × (list_all (is_behind end) ns ≡ true)
      parts = and_parts (is_behind end n) (list_all (is_behind end) ns) all

      go : (value_at (map seal_of ns) s ≡ Some block → IsSealOf s block) → (b : Bool) → is_at (nat_cmp s) (log_sector log_rules dead n) ≡ b → (if b then Some (seal_block n) else value_at (map seal_of ns) s) ≡ Some block → IsSealOf s block
      go behind true at e = record { n = n; behind = parts.0; at = found s (log_sector log_rules dead n) at; is = same_Some (seal_block n) block e }
      go behind false at e = behind e

  seal_once : (ns : List ℕ) (s : ℕ) → list_all (is_behind end) ns ≡ true → last_at (map seal_of ns) s ≡ value_at (map seal_of ns) s
  seal_once [] s all = refl
  seal_once (n ∷ ns) s all = go (is_at (nat_cmp s) (log_sector log_rules dead n)) refl (value_at (map seal_of ns) s) refl (seal_once ns s parts.1)
    where
      parts : (is_behind end n ≡ true) × (list_all (is_behind end) ns ≡ true)
      parts = and_parts (is_behind end n) (list_all (is_behind end) ns) all

      go : (b : Bool) → is_at (nat_cmp s) (log_sector log_rules dead n) ≡ b → (o : Option Block) → value_at (map seal_of ns) s ≡ o → last_at (map seal_of ns) s ≡ value_at (map seal_of ns) s
          → option_or (last_at (map seal_of ns) s) (if b then Some (seal_block n) else None) ≡ (if b then Some (seal_block n) else value_at (map seal_of ns) s)
      go false at o is rest = or_none (last_at (map seal_of ns) s) ∙ rest
      go true at None is rest = ap (λ p. option_or p (Some (seal_block n))) (rest ∙ is)
      go true at (Some block) is rest =
          let other = found_seal ns s block parts.1 is in
          let same : other.n ≡ n = apart dead end other.n n other.behind parts.0 (other.at ∙ sym (found s (log_sector log_rules dead n) at)) in
          ap (λ p. option_or p (Some (seal_block n))) (rest ∙ is) ∙ ap (λ b. Some b) (sym other.is ∙ ap seal_block same)

-- ---- both

-- the write of a block for a recovery
abbrev pub rescue_of : Recovery → Block → Write
rescue_of recovery block = record { behalf = recovery.dead; block = block; purpose = OfRecovery; mark = None }

module _ (segments : ℕ) (recovery : Recovery) (sorted : Ascend recovery.looked) (s : ℕ) where
  nothing : {X : Type 0} (xs : List X) → is_none xs ≡ true → xs ≡ []
  nothing [] e = refl
  nothing (x ∷ xs) e = absurd (false≢true e)

  abbrev seals_at : Bool → List (ℕ × Block)
  seals_at wanted = map (seal_of recovery.dead (end_of log_rules recovery.slots)) (if wanted then seals_from log_rules recovery (end_of log_rules recovery.slots) else [])

  of_seals : (wanted : Bool) → last_at (seals_at wanted) s ≡ value_at (seals_at wanted) s
  of_seals false = refl
  of_seals true = seal_once recovery.dead (end_of log_rules recovery.slots) (seals_from log_rules recovery (end_of log_rules recovery.slots)) s
      (wanted_in_range recovery (end_of log_rules recovery.slots) (list_all (is_sealed_at log_rules recovery) (later_seals log_rules (end_of log_rules recovery.slots))))

  by_done : (done : Bool) → is_replay_done log_rules segments recovery ≡ done → last_at (recovery_writes log_rules segments recovery) s ≡ value_at (recovery_writes log_rules segments recovery) s
  by_done true is =
      let none : replay_writes recovery ≡ [] = nothing (replay_writes recovery)
      (and_parts (is_read log_rules recovery.slots && is_none (to_look log_rules segments recovery)) (is_none (replay_writes recovery)) is).1 in
      let sealed : recovery_writes log_rules segments recovery ≡ seal_writes log_rules segments recovery = ap (λ ws. ws ++ seal_writes log_rules segments recovery) none in
      ap (λ ws. last_at ws s) sealed ∙ of_seals (is_replay_done log_rules segments recovery && not (is_sealed_by log_rules recovery.slots)) ∙ ap (λ ws. value_at ws s) (sym sealed)
  by_done false is =
      let alone : recovery_writes log_rules segments recovery ≡ replay_writes recovery =
      ap (λ done. replay_writes recovery ++ seals_at (done && not (is_sealed_by log_rules recovery.slots))) is ∙ append-nil (replay_writes recovery) in
      ap (λ ws. last_at ws s) alone ∙ replay_once recovery sorted s ∙ ap (λ ws. value_at ws s) (sym alone)

  once : last_at (recovery_writes log_rules segments recovery) s ≡ value_at (recovery_writes log_rules segments recovery) s
  once = by_done (is_replay_done log_rules segments recovery) refl

  -- the write at a sector, by the block that is wanted there
  pub rescue_at : last_at (rescue_writes log_rules segments (Some recovery)) s ≡ option_map (rescue_of recovery) (value_at (recovery_writes log_rules segments recovery) s)
  rescue_at = last-map (rescue_of recovery) (recovery_writes log_rules segments recovery) s ∙ ap (option_map (rescue_of recovery)) once

-- what isn't issued is wanted as the definition says
pub unissued : (segments : ℕ) (recovery : Recovery) (issued : List (ℕ × Block)) (s : ℕ) → is_some (value_at issued s) ≡ false
    → value_at (writes_wanted segments recovery issued) s ≡ value_at (recovery_writes log_rules segments recovery) s
unfolding writes_wanted
unissued segments recovery issued s off =
    lookup-filter-keys (is_at (nat_cmp s)) (λ k. not (is_some (value_at issued k))) (not (is_some (value_at issued s))) (λ k h. ap (λ n. not (is_some (value_at issued n))) (found s k h)) (recovery_writes log_rules segments recovery)
    ∙ ap (λ b. cond (not b) (value_at (recovery_writes log_rules segments recovery) s) None) off

-- the write at a sector by the block that is handed out
pub by_bytes : (segments : ℕ) (recovery : Recovery) (issued : List (ℕ × Block)) (s : ℕ) → Ascend recovery.looked → (bytes : Option Block) → bytes ≡ value_at (writes_wanted segments recovery issued) s
    → is_some (value_at issued s) ≡ false → option_map (rescue_of recovery) bytes ≡ last_at (rescue_writes log_rules segments (Some recovery)) s
by_bytes segments recovery issued s sorted bytes is off = ap (option_map (rescue_of recovery)) (is ∙ unissued segments recovery issued s off) ∙ sym (rescue_at segments recovery sorted s)
