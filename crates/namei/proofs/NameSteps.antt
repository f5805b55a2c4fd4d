-- A step of a walk through links over cached sectors goes by the spot of its name.
use Rattle.std.proofs.Common.{◌≡◌, ◌==◌, ◌*◌, ◌&&◌, ℕ, Bool, true, false, if◌then◌else◌, Option, Some, None, List, [], ◌∷◌, ◌++◌, append_assoc, refl, sym, ap, ◌∙◌}
use Rattle.frang_base.specs.declared.reply.Reply.TheVariants as reply
use Rattle.disk_definitions.specs.Store.{StoredNode, StoredEntry}
use Rattle.disk_definitions.specs.Held.{Segments}
use Rattle.disk_definitions.specs.Ask.{Ask, Got, ReadInode, bind}
use Rattle.disk_definitions.specs.Walks.{Spot, AtRoot, AtName, AtGap, Lost, Found, Walked, search, is_named, spot_by, look_up, in_inode}
use Rattle.disk_definitions.specs.Written.{Cached}
use Rattle.disk_definitions.specs.Resolving.{Resolution, leads, refused, behind, passes, at_entry, at_gap, at_name, below_inode}
use Rattle.dir_lookup.specs.Reading.{Read, Lacks, Gives, reading, then_read}
use Rattle.dir_lookup.specs.Spots.{walked_in}
use Rattle.dir_lookup.proofs.Readings.{reading_bind}
use Rattle.dir_lookup.proofs.Searches.{goes_on}
use Rattle.namei.specs.declared.onward.Next.{Next}
use Rattle.namei.specs.declared.onward.Next.TheVariants as next
use Rattle.dir_lookup.specs.declared.spot.Refusal.TheVariants as refusal
use Rattle.namei.specs.Walks.{after, next_as, entry_as, gap_as, spot_as}

-- the spot of a name that was looked up
pub spot_looked : (dirs : List ℕ) (i : ℕ) (s : Spot) → (walked_in dirs i s).spot ≡ s
spot_looked dirs i AtRoot = refl
spot_looked dirs i (AtName j x name q e) = refl
spot_looked dirs i (AtGap j x name) = refl
spot_looked dirs i (Lost r) = refl

-- nodes in front of others
pub after_after : (way more : List ℕ) (r : Read Resolution) → after way (after more r) ≡ after (way ++ more) r
after_after way more (Lacks sector) = refl
after_after way more (Gives walk) = ap (λ (trail : List ℕ). Gives (record { end = walk.end; trail = trail })) (sym (append_assoc way more walk.trail))

module _ (cached : Cached) (held : Segments) where
  -- what a walk comes to over the cached sectors
  abbrev pub over : Ask Resolution → Read Resolution
  over ask = reading ask cached held

  -- a node first
  pub over_passes : (i : ℕ) (ask : Ask Resolution) → over (passes i ask) ≡ after (i ∷ []) (over ask)
  over_passes i ask = reading_bind ask (λ rest. Got (behind i rest)) cached held ∙ by_read (reading ask cached held)
    where
      by_read : (r : Read Resolution) → then_read r (λ rest. Gives (behind i rest)) ≡ after (i ∷ []) r
      by_read (Lacks sector) = refl
      by_read (Gives walk) = refl

  -- by what is done where a link is followed, and where a directory is gone into
  module _ (last : Bool) (follow into : ℕ → Ask Resolution) (here : List (List ℕ)) where
    abbrev by : ℕ → Next → Read Resolution
    by i n = next_as n i (λ j. over (follow j)) (λ j. over (into j)) here

    entry_step : (names : List (List ℕ)) (i : ℕ) (e : StoredEntry) → after (i ∷ []) (over (at_entry last follow into here names e)) ≡ by i (entry_as last names e)
    entry_step [] i e = by_kind (last && e.kind == 3)
      where
        by_kind : (c : Bool) → after (i ∷ []) (over (if c then follow e.inode else leads here (Some e.kind))) ≡ by i (if c then next.Follows e.inode else next.Ends (Some e.kind))
        by_kind true = refl
        by_kind false = refl
    entry_step (x ∷ xs) i e = by_kind (e.kind == 3) (e.kind == 2)
      where
        by_kind : (c d : Bool) → after (i ∷ []) (over (if c then follow e.inode else (if d then into e.inode else refused reply.NotDir))) ≡ by i (if c then next.Follows e.inode else (if d then next.Into e.inode else next.Stays refusal.NotDir))
        by_kind true d = refl
        by_kind false true = refl
        by_kind false false = refl

    gap_step : (names : List (List ℕ)) (i : ℕ) → after (i ∷ []) (over (at_gap here names)) ≡ by i (gap_as names)
    gap_step [] i = refl
    gap_step (x ∷ xs) i = refl

    found_step : (names : List (List ℕ)) (i : ℕ) (x : StoredNode) (name : List ℕ) (found : Option Found) → after (i ∷ []) (over (at_name last follow into here names found)) ≡ by i (spot_as last names (spot_by i x name found))
    found_step names i x name None = gap_step names i
    found_step names i x name (Some (q, None)) = gap_step names i
    found_step names i x name (Some (q, Some e)) = entry_step names i e

    -- of a walk of one name
    abbrev walked_by : List (List ℕ) → ℕ → Read Walked → Read Resolution
    walked_by names i (Lacks sector) = Lacks sector
    walked_by names i (Gives w) = by i (spot_as last names w.spot)

    looked_step : (names : List (List ℕ)) (i : ℕ) (x : StoredNode) (name : List ℕ) (r : Read (Option Found)) →
        after (i ∷ []) (then_read r (λ found. reading (at_name last follow into here names found) cached held)) ≡ walked_by names i (then_read r (λ found. Gives (record { spot = spot_by i x name found; dirs = i ∷ [] })))
    looked_step names i x name (Lacks sector) = refl
    looked_step names i x name (Gives found) = found_step names i x name found

    node_step : (names : List (List ℕ)) (i : ℕ) (name : List ℕ) (o : Option StoredNode) → over (below_inode last follow into here i name names o) ≡ walked_by names i (reading (in_inode [] i name o) cached held)
    node_step names i name None = refl
    node_step names i name (Some x) = by_kind (x.kind == 2)
      where
        by_kind : (c : Bool) →
            over (if c then passes i (bind (search x.small (is_named name) 0 (8 * x.blocks)) (at_name last follow into here names)) else refused reply.NotDir)
            ≡ walked_by names i (reading (if c then look_up [] i x name else Got (record { spot = Lost reply.NotDir; dirs = [] })) cached held)
        by_kind true =
            let look : Ask (Option Found) = search x.small (is_named name) 0 (8 * x.blocks) in
            over_passes i (bind look (at_name last follow into here names))
            ∙ ap (after (i ∷ [])) (reading_bind look (at_name last follow into here names) cached held)
            ∙ looked_step names i x name (reading look cached held)
            ∙ ap (walked_by names i) (sym (reading_bind look (λ found. Got (record { spot = spot_by i x name found; dirs = i ∷ [] })) cached held))
        by_kind false = refl

    read_step : (names : List (List ℕ)) (i : ℕ) (name : List ℕ) (r : Read (Option StoredNode)) →
        then_read r (λ o. reading (below_inode last follow into here i name names o) cached held) ≡ walked_by names i (then_read r (λ o. reading (in_inode [] i name o) cached held))
    read_step names i name (Lacks sector) = refl
    read_step names i name (Gives o) = node_step names i name o

    -- a walk through links goes on from a name by the walk of that name
    name_step : (names : List (List ℕ)) (i : ℕ) (name : List ℕ) → over (ReadInode i (below_inode last follow into here i name names)) ≡ walked_by names i (reading (ReadInode i (in_inode [] i name)) cached held)
    name_step names i name =
        sym (goes_on (ReadInode i Got) (below_inode last follow into here i name names) cached held (reading (ReadInode i Got) cached held) refl)
        ∙ read_step names i name (reading (ReadInode i Got) cached held)
        ∙ ap (walked_by names i) (goes_on (ReadInode i Got) (in_inode [] i name) cached held (reading (ReadInode i Got) cached held) refl)

    pub spot_step : (names : List (List ℕ)) (i : ℕ) (name : List ℕ) (s : Spot) → Gives (walked_in [] i s) ≡ reading (ReadInode i (in_inode [] i name)) cached held →
        over (ReadInode i (below_inode last follow into here i name names)) ≡ by i (spot_as last names s)
    spot_step names i name s e = name_step names i name ∙ ap (walked_by names i) (sym e) ∙ ap (λ s. by i (spot_as last names s)) (spot_looked [] i s)

    pub need_step : (names : List (List ℕ)) (i : ℕ) (name : List ℕ) (sector : ℕ) → Lacks sector ≡ reading (ReadInode i (in_inode [] i name)) cached held →
        over (ReadInode i (below_inode last follow into here i name names)) ≡ Lacks sector
    need_step names i name sector e = name_step names i name ∙ ap (walked_by names i) (sym e)
