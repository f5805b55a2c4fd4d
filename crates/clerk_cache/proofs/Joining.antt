-- Two maps of the same sectors, seen as one: what an edit of both, or of one of them, makes of it.
use Rattle.std.proofs.Common.{◌≡◌, ℕ, Bool, true, false, if◌then◌else◌, List, [], ◌∷◌, Some, refl, sym, ap, ◌∙◌, subst}
use Rattle.std.specs.List.Sorted.{IsStrictlySortedBy}
use Rattle.std.specs.Map.{keys_of}
use Rattle.std.specs.BTreeMap.{is_at}
use Rattle.std.specs.Option.{option_map}
use Rattle.std.specs.Ordering.{nat_cmp, match_ordering}
use Rattle.std.specs.declared.cmp.Ordering.{Ordering}
use Rattle.std.specs.declared.cmp.Ordering.TheVariants.{Less, Equal, Greater}
use Rattle.sector_bytes.specs.Blocks.{Block}
use Rattle.sector_bytes.specs.SectorMaps.{value_at, with_value, without, adjusted, Ascend}
use Rattle.sector_bytes.proofs.MapLaws.{ascend_with, ascend_without, ascend_adjusted}
use Rattle.clerk_cache.specs.declared.state.SectorState.{SectorState}
use Rattle.cache_definitions.specs.Caches.{CachedSector, block_at, blocks_of}
use Rattle.clerk_cache.specs.Kept.{cached_of, joined, AreAlike, AreKept}

abbrev pub Blocks : Type 0
Blocks = List (ℕ × Block)

abbrev pub States : Type 0
States = List (ℕ × SectorState)

-- ---- look-ups

pub keys-joined : (blocks : Blocks) (states : States) → AreAlike blocks states → keys_of (joined blocks states) ≡ keys_of blocks
keys-joined [] [] alike = refl
keys-joined [] (s ∷ states) alike = elim alike [ ]
keys-joined (b ∷ blocks) [] alike = elim alike [ ]
keys-joined (block ∷ blocks) (state ∷ states) alike = ap (λ keys. block.0 ∷ keys) (keys-joined blocks states alike.1)

pub ascend_joined : (blocks : Blocks) (states : States) → AreKept blocks states → Ascend (joined blocks states)
ascend_joined blocks states kept = subst (λ keys. IsStrictlySortedBy nat_cmp keys) (sym (keys-joined blocks states kept.alike)) kept.ordered

pub blocks_of-joined : (blocks : Blocks) (states : States) → AreAlike blocks states → blocks_of (joined blocks states) ≡ blocks
blocks_of-joined [] [] alike = refl
blocks_of-joined [] (s ∷ states) alike = elim alike [ ]
blocks_of-joined (b ∷ blocks) [] alike = elim alike [ ]
blocks_of-joined (block ∷ blocks) (state ∷ states) alike = ap (λ rest. block ∷ rest) (blocks_of-joined blocks states alike.1)

pub block_at-joined : (blocks : Blocks) (states : States) (sector : ℕ) → AreAlike blocks states → value_at blocks sector ≡ block_at (joined blocks states) sector
block_at-joined [] [] sector alike = refl
block_at-joined [] (s ∷ states) sector alike = elim alike [ ]
block_at-joined (b ∷ blocks) [] sector alike = elim alike [ ]
block_at-joined (block ∷ blocks) (state ∷ states) sector alike = go (is_at (nat_cmp sector) block.0) (block_at-joined blocks states sector alike.1)
  where
    go : (b : Bool) → value_at blocks sector ≡ block_at (joined blocks states) sector
        → (if b then Some block.1 else value_at blocks sector) ≡ option_map (λ cached. cached.block) (if b then Some (cached_of block.1 state.1) else value_at (joined blocks states) sector)
    go true rest = refl
    go false rest = rest

pub state_at-joined : {X : Type 0} (f : SectorState → X) (g : CachedSector → X) → ((block : Block) (state : SectorState) → f state ≡ g (cached_of block state)) → (blocks : Blocks) (states : States) (sector : ℕ) → AreAlike blocks states
    → option_map f (value_at states sector) ≡ option_map g (value_at (joined blocks states) sector)
state_at-joined f g agree [] [] sector alike = refl
state_at-joined f g agree [] (s ∷ states) sector alike = elim alike [ ]
state_at-joined f g agree (b ∷ blocks) [] sector alike = elim alike [ ]
state_at-joined f g agree (block ∷ blocks) (state ∷ states) sector alike =
    ap (λ key. option_map f (if is_at (nat_cmp sector) key then Some state.1 else value_at states sector)) (sym alike.0)
    ∙ go (is_at (nat_cmp sector) block.0) (state_at-joined f g agree blocks states sector alike.1)
  where
    go : (b : Bool) → option_map f (value_at states sector) ≡ option_map g (value_at (joined blocks states) sector)
        → option_map f (if b then Some state.1 else value_at states sector) ≡ option_map g (if b then Some (cached_of block.1 state.1) else value_at (joined blocks states) sector)
    go true rest = ap Some (agree block.1 state.1)
    go false rest = rest

-- ---- a sector set in both

pub alike-with : (blocks : Blocks) (states : States) (sector : ℕ) (block : Block) (state : SectorState) → AreAlike blocks states → AreAlike (with_value blocks sector block) (with_value states sector state)
alike-with [] [] sector block state alike = (refl, tt)
alike-with [] (s ∷ states) sector block state alike = elim alike [ ]
alike-with (b ∷ blocks) [] sector block state alike = elim alike [ ]
alike-with (b ∷ blocks) (s ∷ states) sector block state alike =
    subst (λ key. AreAlike (with_value (b ∷ blocks) sector block) (match_ordering (nat_cmp sector key) ((sector, state) ∷ s ∷ states) ((s.0, state) ∷ states) (s ∷ with_value states sector state))) alike.0
    (go (nat_cmp sector b.0) (alike-with blocks states sector block state alike.1))
  where
    go : (o : Ordering) → AreAlike (with_value blocks sector block) (with_value states sector state)
        → AreAlike (match_ordering o ((sector, block) ∷ b ∷ blocks) ((b.0, block) ∷ blocks) (b ∷ with_value blocks sector block)) (match_ordering o ((sector, state) ∷ s ∷ states) ((s.0, state) ∷ states) (s ∷ with_value states sector state))
    go Less rest = (refl, alike)
    go Equal rest = alike
    go Greater rest = (alike.0, rest)

pub joined-with : (blocks : Blocks) (states : States) (sector : ℕ) (block : Block) (state : SectorState) → AreAlike blocks states
    → joined (with_value blocks sector block) (with_value states sector state) ≡ with_value (joined blocks states) sector (cached_of block state)
joined-with [] [] sector block state alike = refl
joined-with [] (s ∷ states) sector block state alike = elim alike [ ]
joined-with (b ∷ blocks) [] sector block state alike = elim alike [ ]
joined-with (b ∷ blocks) (s ∷ states) sector block state alike =
    ap (λ key. joined (with_value (b ∷ blocks) sector block) (match_ordering (nat_cmp sector key) ((sector, state) ∷ s ∷ states) ((s.0, state) ∷ states) (s ∷ with_value states sector state))) (sym alike.0)
    ∙ go (nat_cmp sector b.0) (joined-with blocks states sector block state alike.1)
  where
    go : (o : Ordering) → joined (with_value blocks sector block) (with_value states sector state) ≡ with_value (joined blocks states) sector (cached_of block state)
        → joined (match_ordering o ((sector, block) ∷ b ∷ blocks) ((b.0, block) ∷ blocks) (b ∷ with_value blocks sector block)) (match_ordering o ((sector, state) ∷ s ∷ states) ((s.0, state) ∷ states) (s ∷ with_value states sector state))
        ≡ match_ordering o ((sector, cached_of block state) ∷ (b.0, cached_of b.1 s.1) ∷ joined blocks states) ((b.0, cached_of block state) ∷ joined blocks states) ((b.0, cached_of b.1 s.1) ∷ with_value (joined blocks states) sector (cached_of block state))
    go Less rest = refl
    go Equal rest = refl
    go Greater rest = ap (λ tail. (b.0, cached_of b.1 s.1) ∷ tail) rest

pub kept_with : (blocks new_blocks : Blocks) (states new_states : States) (sector : ℕ) (block : Block) (state : SectorState) → AreKept blocks states
    → new_blocks ≡ with_value blocks sector block → new_states ≡ with_value states sector state → AreKept new_blocks new_states
kept_with blocks new_blocks states new_states sector block state kept a b = record {
  alike = subst (λ bs. AreAlike bs new_states) (sym a) (subst (λ ss. AreAlike (with_value blocks sector block) ss) (sym b) (alike-with blocks states sector block state kept.alike));
  ordered = subst Ascend (sym a) (ascend_with sector block blocks kept.ordered);
}

-- ---- a sector taken out of both

pub alike-without : (blocks : Blocks) (states : States) (sector : ℕ) → AreAlike blocks states → AreAlike (without blocks sector) (without states sector)
alike-without [] [] sector alike = tt
alike-without [] (s ∷ states) sector alike = elim alike [ ]
alike-without (b ∷ blocks) [] sector alike = elim alike [ ]
alike-without (b ∷ blocks) (s ∷ states) sector alike =
    subst (λ key. AreAlike (without (b ∷ blocks) sector) (if is_at (nat_cmp sector) key then states else s ∷ without states sector)) alike.0
    (go (is_at (nat_cmp sector) b.0) (alike-without blocks states sector alike.1))
  where
    go : (t : Bool) → AreAlike (without blocks sector) (without states sector) → AreAlike (if t then blocks else b ∷ without blocks sector) (if t then states else s ∷ without states sector)
    go true rest = alike.1
    go false rest = (alike.0, rest)

pub joined-without : (blocks : Blocks) (states : States) (sector : ℕ) → AreAlike blocks states → joined (without blocks sector) (without states sector) ≡ without (joined blocks states) sector
joined-without [] [] sector alike = refl
joined-without [] (s ∷ states) sector alike = elim alike [ ]
joined-without (b ∷ blocks) [] sector alike = elim alike [ ]
joined-without (b ∷ blocks) (s ∷ states) sector alike =
    ap (λ key. joined (without (b ∷ blocks) sector) (if is_at (nat_cmp sector) key then states else s ∷ without states sector)) (sym alike.0)
    ∙ go (is_at (nat_cmp sector) b.0) (joined-without blocks states sector alike.1)
  where
    go : (t : Bool) → joined (without blocks sector) (without states sector) ≡ without (joined blocks states) sector
        → joined (if t then blocks else b ∷ without blocks sector) (if t then states else s ∷ without states sector)
        ≡ (if t then joined blocks states else (b.0, cached_of b.1 s.1) ∷ without (joined blocks states) sector)
    go true rest = refl
    go false rest = ap (λ tail. (b.0, cached_of b.1 s.1) ∷ tail) rest

pub kept_without : (blocks new_blocks : Blocks) (states new_states : States) (sector : ℕ) → AreKept blocks states
    → new_blocks ≡ without blocks sector → new_states ≡ without states sector → AreKept new_blocks new_states
kept_without blocks new_blocks states new_states sector kept a b = record {
  alike = subst (λ bs. AreAlike bs new_states) (sym a) (subst (λ ss. AreAlike (without blocks sector) ss) (sym b) (alike-without blocks states sector kept.alike));
  ordered = subst Ascend (sym a) (ascend_without sector blocks kept.ordered);
}

-- ---- a sector made another in one of them

pub alike-blocks : (f : Block → Block) (blocks : Blocks) (states : States) (sector : ℕ) → AreAlike blocks states → AreAlike (adjusted f blocks sector) states
alike-blocks f [] [] sector alike = tt
alike-blocks f [] (s ∷ states) sector alike = elim alike [ ]
alike-blocks f (b ∷ blocks) [] sector alike = elim alike [ ]
alike-blocks f (b ∷ blocks) (s ∷ states) sector alike = go (is_at (nat_cmp sector) b.0) (alike-blocks f blocks states sector alike.1)
  where
    go : (t : Bool) → AreAlike (adjusted f blocks sector) states → AreAlike (if t then (b.0, f b.1) ∷ blocks else b ∷ adjusted f blocks sector) (s ∷ states)
    go true rest = alike
    go false rest = (alike.0, rest)

pub kept_changed : (f : Block → Block) (blocks new_blocks : Blocks) (states : States) (sector : ℕ) → AreKept blocks states → new_blocks ≡ adjusted f blocks sector → AreKept new_blocks states
kept_changed f blocks new_blocks states sector kept a = record {
  alike = subst (λ bs. AreAlike bs states) (sym a) (alike-blocks f blocks states sector kept.alike);
  ordered = subst Ascend (sym a) (ascend_adjusted f blocks sector kept.ordered);
}

pub joined-blocks : (f : Block → Block) (blocks : Blocks) (states : States) (sector : ℕ) → AreAlike blocks states
    → joined (adjusted f blocks sector) states ≡ adjusted (λ cached. record cached { block = f cached.block }) (joined blocks states) sector
joined-blocks f [] [] sector alike = refl
joined-blocks f [] (s ∷ states) sector alike = elim alike [ ]
joined-blocks f (b ∷ blocks) [] sector alike = elim alike [ ]
joined-blocks f (b ∷ blocks) (s ∷ states) sector alike = go (is_at (nat_cmp sector) b.0) (joined-blocks f blocks states sector alike.1)
  where
    go : (t : Bool) → joined (adjusted f blocks sector) states ≡ adjusted (λ cached. record cached { block = f cached.block }) (joined blocks states) sector
        → joined (if t then (b.0, f b.1) ∷ blocks else b ∷ adjusted f blocks sector) (s ∷ states)
        ≡ (if t then (b.0, cached_of (f b.1) s.1) ∷ joined blocks states else (b.0, cached_of b.1 s.1) ∷ adjusted (λ cached. record cached { block = f cached.block }) (joined blocks states) sector)
    go true rest = refl
    go false rest = ap (λ tail. (b.0, cached_of b.1 s.1) ∷ tail) rest

pub alike-states : (f : SectorState → SectorState) (blocks : Blocks) (states : States) (sector : ℕ) → AreAlike blocks states → AreAlike blocks (adjusted f states sector)
alike-states f [] [] sector alike = tt
alike-states f [] (s ∷ states) sector alike = elim alike [ ]
alike-states f (b ∷ blocks) [] sector alike = elim alike [ ]
alike-states f (b ∷ blocks) (s ∷ states) sector alike = go (is_at (nat_cmp sector) s.0) (alike-states f blocks states sector alike.1)
  where
    go : (t : Bool) → AreAlike blocks (adjusted f states sector) → AreAlike (b ∷ blocks) (if t then (s.0, f s.1) ∷ states else s ∷ adjusted f states sector)
    go true rest = alike
    go false rest = (alike.0, rest)

pub joined-states : (f : SectorState → SectorState) (g : CachedSector → CachedSector) → ((block : Block) (state : SectorState) → cached_of block (f state) ≡ g (cached_of block state)) → (blocks : Blocks) (states : States) (sector : ℕ) → AreAlike blocks states
    → joined blocks (adjusted f states sector) ≡ adjusted g (joined blocks states) sector
joined-states f g agree [] [] sector alike = refl
joined-states f g agree [] (s ∷ states) sector alike = elim alike [ ]
joined-states f g agree (b ∷ blocks) [] sector alike = elim alike [ ]
joined-states f g agree (b ∷ blocks) (s ∷ states) sector alike =
    ap (λ key. joined (b ∷ blocks) (if is_at (nat_cmp sector) key then (s.0, f s.1) ∷ states else s ∷ adjusted f states sector)) (sym alike.0)
    ∙ go (is_at (nat_cmp sector) b.0) (joined-states f g agree blocks states sector alike.1)
  where
    go : (t : Bool) → joined blocks (adjusted f states sector) ≡ adjusted g (joined blocks states) sector
        → joined (b ∷ blocks) (if t then (s.0, f s.1) ∷ states else s ∷ adjusted f states sector)
        ≡ (if t then (b.0, g (cached_of b.1 s.1)) ∷ joined blocks states else (b.0, cached_of b.1 s.1) ∷ adjusted g (joined blocks states) sector)
    go true rest = ap (λ cached. (b.0, cached) ∷ joined blocks states) (agree b.1 s.1)
    go false rest = ap (λ tail. (b.0, cached_of b.1 s.1) ∷ tail) rest

-- ---- the state of a sector that is there

ascend_states : (blocks : Blocks) (states : States) → AreAlike blocks states → keys_of blocks ≡ keys_of states
ascend_states [] [] alike = refl
ascend_states [] (s ∷ states) alike = elim alike [ ]
ascend_states (b ∷ blocks) [] alike = elim alike [ ]
ascend_states (b ∷ blocks) (s ∷ states) alike = λ i. alike.0 i ∷ ascend_states blocks states alike.1 i

pub states_ascend : {blocks : Blocks} {states : States} → AreKept blocks states → Ascend states
states_ascend {blocks} {states} kept = subst (IsStrictlySortedBy nat_cmp) (ascend_states blocks states kept.alike) kept.ordered
