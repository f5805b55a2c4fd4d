-- How two blocks differ from place 8 on, which is behind their versions: as the longest runs of new bytes. Bytes at forced places count
-- as new even where they are the same.
use Rattle.std.specs.Prelude.{ℕ, ◌+◌, Bool, true, false, not, ◌&&◌, ◌||◌, ◌==◌, if◌then◌else◌, nat_le, nat_lt, List, [], ◌∷◌, length, drop}
use Rattle.frang_base.specs.declared.change.Patch.{Patch}

-- one byte more in front of the runs behind it: it joins a run that begins at the next place, or is one by itself
abbrev pub joined : ℕ → ℕ → List Patch → List Patch
joined at byte [] = record { at = at; bytes = byte ∷ [] } ∷ []
joined at byte (p ∷ ps) =
    if p.at == at + 1 then record { at = at; bytes = byte ∷ p.bytes } ∷ ps else record { at = at; bytes = byte ∷ [] } ∷ p ∷ ps

-- the runs in which the new bytes differ from the old ones or stand at forced places; the first bytes of both stand at a place
abbrev pub runs_from : (ℕ → Bool) → ℕ → List ℕ → List ℕ → List Patch
runs_from forced at [] new = []
runs_from forced at (a ∷ old) [] = []
runs_from forced at (a ∷ old) (b ∷ new) =
    if not (forced at) && a == b then runs_from forced (at + 1) old new else joined at b (runs_from forced (at + 1) old new)

-- the patches that make the new block of the old one but for its version, with the bytes at forced places among theirs
abbrev pub patches_with : (ℕ → Bool) → List ℕ → List ℕ → List Patch
patches_with forced old new = runs_from forced 8 (drop 8 old) (drop 8 new)

-- the patches with only the bytes that differ
abbrev pub patches_of : List ℕ → List ℕ → List Patch
patches_of old new = patches_with (λ at. false) old new

-- patches that lie between two places, ascend and don't touch
abbrev pub are_apart : ℕ → ℕ → List Patch → Bool
are_apart from to [] = true
are_apart from to (p ∷ ps) =
    nat_le from p.at && nat_le 1 (length p.bytes) && nat_le (p.at + length p.bytes) to && are_apart (p.at + length p.bytes + 1) to ps

-- each of these bytes, the first at a place, differs from the old one there or stands at a forced place
abbrev pub differ_or : (ℕ → Bool) → ℕ → List ℕ → List ℕ → Bool
differ_or forced at old [] = true
differ_or forced at [] (b ∷ bytes) = false
differ_or forced at (a ∷ old) (b ∷ bytes) = (forced at || not (a == b)) && differ_or forced (at + 1) old bytes

-- each byte of the patches differs from the old one at its place, or its place is forced
abbrev pub are_new_or : (ℕ → Bool) → List ℕ → List Patch → Bool
are_new_or forced old [] = true
are_new_or forced old (p ∷ ps) = differ_or forced p.at (drop p.at old) p.bytes && are_new_or forced old ps

-- each byte of the patches differs from the old one at its place
abbrev pub are_new : List ℕ → List Patch → Bool
are_new old ps = are_new_or (λ at. false) old ps

-- a patch lies over this place
abbrev pub is_patched : ℕ → List Patch → Bool
is_patched k [] = false
is_patched k (p ∷ ps) = (nat_le p.at k && nat_lt k (p.at + length p.bytes)) || is_patched k ps
