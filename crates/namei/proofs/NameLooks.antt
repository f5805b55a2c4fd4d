-- What a walk through links looked at at a name, and what is looked at behind it.
use Rattle.std.proofs.Common.{◌≡◌, ◌==◌, ◌*◌, ◌&&◌, ℕ, Bool, true, false, if◌then◌else◌, Option, Some, None, List, [], ◌∷◌, ◌++◌, append_assoc, append-nil, refl, sym, ap, ◌∙◌}
use Rattle.frang_base.specs.declared.reply.Reply.TheVariants as reply
use Rattle.disk_definitions.specs.Store.{StoredNode, StoredEntry}
use Rattle.disk_definitions.specs.Held.{Segments}
use Rattle.disk_definitions.specs.Ask.{Ask, Got, ReadInode, bind}
use Rattle.disk_definitions.specs.Walks.{Spot, Lost, Found, Walked, search, is_named, spot_by, look_up, in_inode}
use Rattle.disk_definitions.specs.Written.{Cached}
use Rattle.disk_definitions.specs.Resolving.{Resolution, leads, refused, behind, passes, at_entry, at_gap, at_name, below_inode}
use Rattle.dir_lookup.specs.Looks.{looks_of}
use Rattle.dir_lookup.specs.Reading.{Read, Lacks, Gives, reading, then_read}
use Rattle.dir_lookup.specs.Spots.{walked_in}
use Rattle.dir_lookup.proofs.Looking.{looks_end, looks_on}
use Rattle.dir_lookup.proofs.Readings.{reading_bind}
use Rattle.dir_lookup.proofs.Searches.{goes_on}
use Rattle.dir_lookup.proofs.WalkLooks.{looks_got}
use Rattle.namei.specs.declared.onward.Next.{Next}
use Rattle.namei.specs.declared.onward.Next.TheVariants as next
use Rattle.dir_lookup.specs.declared.spot.Refusal.TheVariants as refusal
use Rattle.namei.specs.Looks.{next_looks}
use Rattle.namei.specs.Walks.{entry_as, gap_as, spot_as}
use Rattle.namei.proofs.NameSteps.{spot_looked}

-- what is looked at once a value is read
abbrev pub rest_of : {A : Type 0} → Read A → (A → List ℕ) → List ℕ
rest_of (Lacks sector) f = []
rest_of (Gives a) f = f a

pub looks_bind : {A B : Type 0} (p : Ask A) (f : A → Ask B) (cached : Cached) (held : Segments) (r : Read A) → r ≡ reading p cached held → looks_of (bind p f) cached held ≡ looks_of p cached held ++ rest_of r (λ a. looks_of (f a) cached held)
looks_bind p f cached held (Lacks s) e = looks_end p f cached held s e ∙ sym (append-nil (looks_of p cached held))
looks_bind p f cached held (Gives a) e = looks_on p f cached held a e

module _ (cached : Cached) (held : Segments) where
  abbrev pub seen : {A : Type 0} → Ask A → List ℕ
  seen ask = looks_of ask cached held

  -- a node in front of a trail is no look
  pub passes_looks : (i : ℕ) (ask : Ask Resolution) → seen (passes i ask) ≡ seen ask
  passes_looks i ask = sym (looks_got ask (behind i) cached held (reading ask cached held) refl)

  module _ (last : Bool) (follow into : ℕ → Ask Resolution) (here : List (List ℕ)) where
    abbrev pub by : Next → List ℕ
    by n = next_looks n (λ j. seen (follow j)) (λ j. seen (into j))

    entry_looks : (names : List (List ℕ)) (e : StoredEntry) → seen (at_entry last follow into here names e) ≡ by (entry_as last names e)
    entry_looks [] e = by_kind (last && e.kind == 3)
      where
        by_kind : (c : Bool) → seen (if c then follow e.inode else leads here (Some e.kind)) ≡ by (if c then next.Follows e.inode else next.Ends (Some e.kind))
        by_kind true = refl
        by_kind false = refl
    entry_looks (x ∷ xs) e = by_kind (e.kind == 3) (e.kind == 2)
      where
        by_kind : (c d : Bool) → seen (if c then follow e.inode else (if d then into e.inode else refused reply.NotDir)) ≡ by (if c then next.Follows e.inode else (if d then next.Into e.inode else next.Stays refusal.NotDir))
        by_kind true d = refl
        by_kind false true = refl
        by_kind false false = refl

    gap_looks : (names : List (List ℕ)) → seen (at_gap here names) ≡ by (gap_as names)
    gap_looks [] = refl
    gap_looks (x ∷ xs) = refl

    found_looks : (names : List (List ℕ)) (i : ℕ) (x : StoredNode) (name : List ℕ) (found : Option Found) → seen (at_name last follow into here names found) ≡ by (spot_as last names (spot_by i x name found))
    found_looks names i x name None = gap_looks names
    found_looks names i x name (Some (q, None)) = gap_looks names
    found_looks names i x name (Some (q, Some e)) = entry_looks names e

    -- behind a walk of one name
    abbrev walked_looks : List (List ℕ) → Read Walked → List ℕ
    walked_looks names (Lacks sector) = []
    walked_looks names (Gives w) = by (spot_as last names w.spot)

    searched_looks : (names : List (List ℕ)) (i : ℕ) (x : StoredNode) (name : List ℕ) (r : Read (Option Found)) →
        rest_of r (λ found. seen (at_name last follow into here names found)) ≡ walked_looks names (then_read r (λ found. Gives (record { spot = spot_by i x name found; dirs = i ∷ [] })))
    searched_looks names i x name (Lacks sector) = refl
    searched_looks names i x name (Gives found) = found_looks names i x name found

    node_looks : (names : List (List ℕ)) (i : ℕ) (name : List ℕ) (o : Option StoredNode) →
        seen (below_inode last follow into here i name names o) ≡ seen (in_inode [] i name o) ++ walked_looks names (reading (in_inode [] i name o) cached held)
    node_looks names i name None = refl
    node_looks names i name (Some x) = by_kind (x.kind == 2)
      where
        by_kind : (c : Bool) →
            seen (if c then passes i (bind (search x.small (is_named name) 0 (8 * x.blocks)) (at_name last follow into here names)) else refused reply.NotDir)
            ≡ seen (if c then look_up [] i x name else Got (record { spot = Lost reply.NotDir; dirs = [] }))
            ++ walked_looks names (reading (if c then look_up [] i x name else Got (record { spot = Lost reply.NotDir; dirs = [] })) cached held)
        by_kind true =
            let look : Ask (Option Found) = search x.small (is_named name) 0 (8 * x.blocks) in
            let to_spot : Option Found → Walked = λ found. record { spot = spot_by i x name found; dirs = i ∷ [] } in
            passes_looks i (bind look (at_name last follow into here names))
            ∙ looks_bind look (at_name last follow into here names) cached held (reading look cached held) refl
            ∙ ap (λ l. seen look ++ l) (searched_looks names i x name (reading look cached held))
            ∙ ap (λ r. seen look ++ walked_looks names r) (sym (reading_bind look (λ found. Got (to_spot found)) cached held))
            ∙ ap (λ l. l ++ walked_looks names (reading (look_up [] i x name) cached held)) (looks_got look to_spot cached held (reading look cached held) refl)
        by_kind false = refl

    read_looks : (names : List (List ℕ)) (i : ℕ) (name : List ℕ) (first : List ℕ) (r : Read (Option StoredNode)) →
        first ++ rest_of r (λ o. seen (below_inode last follow into here i name names o))
        ≡ (first ++ rest_of r (λ o. seen (in_inode [] i name o))) ++ walked_looks names (then_read r (λ o. reading (in_inode [] i name o) cached held))
    read_looks names i name first (Lacks sector) = sym (append-nil (first ++ []))
    read_looks names i name first (Gives o) = ap (λ l. first ++ l) (node_looks names i name o) ∙ sym (append_assoc first (seen (in_inode [] i name o)) (walked_looks names (reading (in_inode [] i name o) cached held)))

    name_looks : (names : List (List ℕ)) (i : ℕ) (name : List ℕ) →
        seen (ReadInode i (below_inode last follow into here i name names)) ≡ seen (ReadInode i (in_inode [] i name)) ++ walked_looks names (reading (ReadInode i (in_inode [] i name)) cached held)
    name_looks names i name =
        let r : Read (Option StoredNode) = reading (ReadInode i Got) cached held in
        looks_bind (ReadInode i Got) (below_inode last follow into here i name names) cached held r refl
        ∙ read_looks names i name (seen (ReadInode i Got)) r
        ∙ ap (λ l. l ++ walked_looks names (then_read r (λ o. reading (in_inode [] i name o) cached held))) (sym (looks_bind {B = Walked} (ReadInode i Got) (in_inode [] i name) cached held r refl))
        ∙ ap (λ q. seen (ReadInode i (in_inode [] i name)) ++ walked_looks names q) (goes_on (ReadInode i Got) (in_inode [] i name) cached held r refl)

    pub spot_looks : (names : List (List ℕ)) (i : ℕ) (name : List ℕ) (s : Spot) → Gives (walked_in [] i s) ≡ reading (ReadInode i (in_inode [] i name)) cached held →
        seen (ReadInode i (below_inode last follow into here i name names)) ≡ seen (ReadInode i (in_inode [] i name)) ++ by (spot_as last names s)
    spot_looks names i name s e =
        name_looks names i name
        ∙ ap (λ r. seen (ReadInode i (in_inode [] i name)) ++ walked_looks names r) (sym e)
        ∙ ap (λ s. seen (ReadInode i (in_inode [] i name)) ++ by (spot_as last names s)) (spot_looked [] i s)

    pub need_looks : (names : List (List ℕ)) (i : ℕ) (name : List ℕ) (sector : ℕ) → Lacks sector ≡ reading (ReadInode i (in_inode [] i name)) cached held →
        seen (ReadInode i (below_inode last follow into here i name names)) ≡ seen (ReadInode i (in_inode [] i name)) ++ []
    need_looks names i name sector e = name_looks names i name ∙ ap (λ r. seen (ReadInode i (in_inode [] i name)) ++ walked_looks names r) (sym e)
