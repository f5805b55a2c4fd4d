-- How an ordered map keeps its entries: in chunks, one after the other, none of them empty, with blank chunks beside them for what is to come.
use Rattle.std.specs.Prelude.{◌≡◌, ℕ, zero, suc, ◌+◌, ◌-◌, ◌*◌, ◌<◌, ◌≤◌, Bool, true, false, List, [], ◌∷◌, ◌++◌, length, take, drop, slice_index_or, Option, Some, None, Result, Ok, Err, refl}
use Rattle.std.specs.Coded.{Coded, code_by, coded×, coded_list, coded_ℕ}
use Rattle.std.specs.List.{AllByRecursion}
use Rattle.std.specs.List.Sorted.{IsStrictlySortedBy}
use Rattle.std.specs.Map.{keys_of}
use Rattle.std.specs.Ordering.{is_gt}
use Rattle.std.specs.declared.cmp.Ordering.{Ordering}
use Rattle.std.specs.declared.cmp.Ordering.TheVariants.{Less, Equal, Greater}
use Rattle.sorted_entries.specs.Places.{place_of}
pub use Rattle.sorted_entries.specs.Places.{overwritten, at_of}
use Rattle.ordered_map.specs.declared.chunk.TheConstants.{CHUNK, HALF, QUARTER}
use Rattle.ordered_map.specs.Entries.{Ordered}

-- the chunks, and how many blank ones there are
pub record Chunked (K V : Type 0) : Type 0 where
  pub chunks : List (List (K × V))
  pub blank : ℕ

abbrev pub chunked_code : {K V : Type 0} → Coded K → Coded V → Coded (Chunked K V)
chunked_code {K} {V} keys values =
    code_by (List (List (K × V)) × ℕ) (coded× (coded_list (coded_list (coded× keys values))) coded_ℕ) (λ m. (m.chunks, m.blank)) (λ p. record { chunks = p.0; blank = p.1 }) (λ _. refl)

-- all entries
abbrev pub joined : {E : Type 0} → List (List E) → List E
joined [] = []
joined (chunk ∷ chunks) = chunk ++ joined chunks

-- the chunk at a place
abbrev pub chunk_at : {E : Type 0} → List (List E) → ℕ → List E
chunk_at chunks c = slice_index_or chunks c []

-- the place among all entries of an entry's place in a chunk
abbrev pub flat : {E : Type 0} → List (List E) → ℕ → ℕ → ℕ
flat chunks c at = length (joined (take c chunks)) + at

-- the last key is below this one
abbrev pub ends_below : {K V : Type 0} → (K → K → Ordering) → K → List (K × V) → Bool
ends_below cmp key [] = false
ends_below cmp key (entry ∷ []) = is_gt (cmp key entry.0)
ends_below cmp key (entry ∷ next ∷ entries) = ends_below cmp key (next ∷ entries)

-- the chunks before this one end below the key
abbrev pub EndBelow : {K V : Type 0} → (K → K → Ordering) → K → List (List (K × V)) → ℕ → Type 0
EndBelow {K} {V} cmp key chunks c = (j : ℕ) (d : List (K × V)) → j < c → ends_below cmp key (slice_index_or chunks j d) ≡ true

-- the chunks from this one on don't end below the key
abbrev pub Reach : {K V : Type 0} → (K → K → Ordering) → K → List (List (K × V)) → ℕ → Type 0
Reach {K} {V} cmp key chunks c = (j : ℕ) (d : List (K × V)) → c ≤ j → j < length chunks → ends_below cmp key (slice_index_or chunks j d) ≡ false

-- the last key, where there are entries
abbrev pub last_key : {K V : Type 0} → List (K × V) → Option K
last_key [] = None
last_key (entry ∷ []) = Some entry.0
last_key (entry ∷ next ∷ entries) = last_key (next ∷ entries)

-- the chunk's memory has room for all that it may hold, and the key beside its entries is their last
pub record IsWhole {K V : Type 0} (most : ℕ) (entries : List (K × V)) (last : Option K) : Type 0 where
  pub room : CHUNK ≤ most
  pub key : last ≡ last_key entries

-- no chunk is empty, and none holds too many
abbrev pub AreFilled : {E : Type 0} → List (List E) → Type 0
AreFilled [] = Unit {0}
AreFilled (chunk ∷ chunks) = (0 < length chunk) × (length chunk ≤ CHUNK) × AreFilled chunks

-- any two neighbours hold more entries together than half a chunk
abbrev pub AreClose : {E : Type 0} → List (List E) → Type 0
AreClose [] = Unit {0}
AreClose (chunk ∷ []) = Unit {0}
AreClose (chunk ∷ next ∷ chunks) = (HALF < length chunk + length next) × AreClose (next ∷ chunks)

-- how many entries so many chunks always suffice for, in whatever order they come and go
abbrev pub capacity : ℕ → ℕ
capacity chunks = QUARTER * (chunks - 1)

-- a map of these chunks, of which so many are blank
abbrev pub map_of : {K V : Type 0} → Chunked K V → Ordered K V
map_of kept = record { entries = joined kept.chunks; spare = capacity (length kept.chunks + kept.blank) - length (joined kept.chunks) }

-- the keys ascend through all chunks, the chunks are filled well enough for what is promised, and the entries are counted
pub record IsChunked {K V : Type 0} (cmp : K → K → Ordering) (chunks : List (List (K × V))) (blank count : ℕ) : Type 0 where
  pub ordered : IsStrictlySortedBy cmp (keys_of (joined chunks))
  pub filled : AreFilled chunks
  pub close : AreClose chunks
  pub counted : count ≡ length (joined chunks)
  pub most : length (joined chunks) ≤ capacity (length chunks + blank)
  pub small : QUARTER * (length chunks + blank) ≤ 18446744073709551615

-- none of them has entries
abbrev pub AreBlank : {E : Type 0} → List (List E) → Type 0
AreBlank [] = Unit {0}
AreBlank (chunk ∷ chunks) = (chunk ≡ []) × AreBlank chunks

-- the blank chunks are blank, and each of the two lists has places for all chunks
pub record AreKept {E : Type 0} (chunks blanks : List (List E)) (most_chunks most_blanks : ℕ) : Type 0 where
  pub blank : AreBlank blanks
  pub places : length chunks + length blanks ≤ most_chunks
  pub shelves : length chunks + length blanks ≤ most_blanks

-- a place so many places further on
abbrev pub shifted : ℕ → Result ℕ ℕ → Result ℕ ℕ
shifted n (Ok at) = Ok (n + at)
shifted n (Err at) = Err (n + at)

-- the key is that of the entry at this place
abbrev pub IsKeyAt : {K V : Type 0} → (K → K → Ordering) → K → List (K × V) → ℕ → Type 0
IsKeyAt cmp key [] at = ⊥
IsKeyAt cmp key (entry ∷ entries) zero = cmp key entry.0 ≡ Equal
IsKeyAt cmp key (entry ∷ entries) (suc at) = IsKeyAt cmp key entries at

-- the key's chunk, its place there, and with that its place among all entries
pub record IsLocated {K V : Type 0} (cmp : K → K → Ordering) (key : K) (chunks : List (List (K × V))) (chunk : ℕ) (at : Result ℕ ℕ) : Type 0 where
  pub inside : chunk < length chunks
  pub within : at ≡ place_of cmp key (chunk_at chunks chunk)
  pub whole : shifted (length (joined (take chunk chunks))) at ≡ place_of cmp key (joined chunks)

-- the key lies above all entries
abbrev pub AreBelow : {K V : Type 0} → (K → K → Ordering) → K → List (K × V) → Type 0
AreBelow cmp key entries = AllByRecursion (λ k. cmp key k ≡ Greater) (keys_of entries)

-- the key lies below all entries
abbrev pub AreAbove : {K V : Type 0} → (K → K → Ordering) → K → List (K × V) → Type 0
AreAbove cmp key entries = AllByRecursion (λ k. cmp key k ≡ Less) (keys_of entries)

-- the chunks before this one lie below the key, and those after it above
pub record IsChunkOf {K V : Type 0} (cmp : K → K → Ordering) (key : K) (chunks : List (List (K × V))) (c : ℕ) : Type 0 where
  pub inside : c < length chunks
  pub below : AreBelow cmp key (joined (take c chunks))
  pub above : AreAbove cmp key (joined (drop (suc c) chunks))

-- the chunks are close but for one, which may lack one entry
pub record IsCloseBut {E : Type 0} (chunks : List (List E)) (c : ℕ) : Type 0 where
  pub first : AreClose (take c chunks)
  pub rest : AreClose (drop (suc c) chunks)
  pub left : (j : ℕ) → j + 1 ≡ c → HALF ≤ length (chunk_at chunks j) + length (chunk_at chunks c)
  pub right : (j : ℕ) → j ≡ c + 1 → j < length chunks → HALF ≤ length (chunk_at chunks c) + length (chunk_at chunks j)
