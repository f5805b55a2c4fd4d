-- One step of a walk.
use Rattle.std.proofs.Common.{◌≡◌, ◌==◌, ℕ, Bool, true, false, cond, Option, Some, Result, Ok, Err, List, [], ◌∷◌, ◌++◌, ◌*◌, ◌≤◌, ◌<◌, length, drop, take, ◌-◌, get_or, arith, refl, sym, ap, ◌∙◌}
use Rattle.std.proofs.lemmas.List.{take_all}
use Rattle.frang_base.specs.declared.reply.Reply.{Reply}
use Rattle.frang_base.specs.declared.reply.Reply.TheVariants as reply
use Rattle.disk_definitions.specs.Store.{StoredNode}
use Rattle.disk_definitions.specs.Held.{Segments}
use Rattle.disk_definitions.specs.Ask.{Ask, Got, ReadInode}
use Rattle.disk_definitions.specs.Walks.{Found, Spot, AtRoot, AtName, AtGap, Lost, Walked, search, is_named, spot_by, look_up, in_inode, onward}
use Rattle.disk_definitions.specs.Written.{Cached}
use Rattle.dir_lookup.specs.declared.need.Need.{Need}
use Rattle.dir_lookup.specs.Reading.{Read, Lacks, Gives, reading, then_read, read_of}
use Rattle.dir_lookup.specs.Spots.{leads}
use Rattle.dir_lookup.proofs.Searches.{goes_on}

-- what a call said, by its answer
pub said_ok : {A B : Type 0} (meaning : A → B) (result : Result A Need) (a : A) (r : Read B) → result ≡ Ok a → read_of meaning result ≡ r → Gives (meaning a) ≡ r
said_ok meaning result a r e h = sym (ap (read_of meaning) e) ∙ h

pub said_err : {A B : Type 0} (meaning : A → B) (result : Result A Need) (need : Need) (r : Read B) → result ≡ Err need → read_of meaning result ≡ r → Lacks need.0.0 ≡ r
said_err meaning result need r e h = sym (ap (read_of meaning) e) ∙ h

-- ---- a name looked up
pub looked_up : (dirs : List ℕ) (i : ℕ) (x : StoredNode) (name : List ℕ) (cached : Cached) (held : Segments) (r : Read (Option Found))
    → r ≡ reading (search x.small (is_named name) 0 (8 * x.blocks)) cached held
    → then_read r (λ found. Gives (record { spot = spot_by i x name found; dirs = dirs ++ i ∷ [] })) ≡ reading (look_up dirs i x name) cached held
looked_up dirs i x name cached held r e = goes_on (search x.small (is_named name) 0 (8 * x.blocks)) (λ found. Got (record { spot = spot_by i x name found; dirs = dirs ++ i ∷ [] })) cached held r e

-- ---- the node at which the name is looked up
pub stepped : (dirs : List ℕ) (i : ℕ) (name : List ℕ) (cached : Cached) (held : Segments) (r : Read (Option StoredNode)) → r ≡ reading (ReadInode i Got) cached held
    → then_read r (λ o. reading (in_inode dirs i name o) cached held) ≡ reading (ReadInode i (in_inode dirs i name)) cached held
stepped dirs i name cached held r e = goes_on (ReadInode i Got) (in_inode dirs i name) cached held r e

pub in_directory : (dirs : List ℕ) (i : ℕ) (name : List ℕ) (x : StoredNode) (cached : Cached) (held : Segments) → (x.kind == 2) ≡ true
    → reading (look_up dirs i x name) cached held ≡ reading (in_inode dirs i name (Some x)) cached held
in_directory dirs i name x cached held k = ap (λ b. reading (cond b (look_up dirs i x name) (Got (record { spot = Lost reply.NotDir; dirs = dirs }))) cached held) (sym k)

pub in_no_directory : (dirs : List ℕ) (i : ℕ) (name : List ℕ) (x : StoredNode) (cached : Cached) (held : Segments) → (x.kind == 2) ≡ false
    → Gives (record { spot = Lost reply.NotDir; dirs = dirs }) ≡ reading (in_inode dirs i name (Some x)) cached held
in_no_directory dirs i name x cached held k = ap (λ b. reading (cond b (look_up dirs i x name) (Got (record { spot = Lost reply.NotDir; dirs = dirs }))) cached held) (sym k)

-- ---- on from a name on the way
abbrev pub led_on : (List ℕ → ℕ → Ask Walked) → List ℕ → Result ℕ Reply → Ask Walked
led_on next dirs (Ok i) = next dirs i
led_on next dirs (Err r) = Got (record { spot = Lost r; dirs = dirs })

pub onward_is : (next : List ℕ → ℕ → Ask Walked) (dirs : List ℕ) (s : Spot) → onward next dirs s ≡ led_on next dirs (leads s)
onward_is next dirs AtRoot = refl
onward_is next dirs (AtGap i x name) = refl
onward_is next dirs (Lost r) = refl
onward_is next dirs (AtName i x name q e) = go (e.kind == 2)
  where
    go : (b : Bool) → cond b (next dirs e.inode) (Got (record { spot = Lost reply.NotDir; dirs = dirs })) ≡ led_on next dirs (cond b (Ok e.inode) (Err reply.NotDir))
    go true = refl
    go false = refl

-- the names of a path, from the first
pub one_name : (names : List (List ℕ)) (name : List ℕ) → 1 ≤ length names → length names < 2 → name ≡ get_or names 0 name → names ≡ name ∷ []
one_name [] name a b e = absurd (omega arith)
one_name (n ∷ []) name a b e = ap (λ n. n ∷ []) (sym e)
one_name (n ∷ m ∷ ns) name a b e = absurd (omega arith)

pub record Names (names : List (List ℕ)) (name : List ℕ) (rest : List (List ℕ)) : Type 0 where
  pub next : List ℕ
  pub more : List (List ℕ)
  pub all : names ≡ name ∷ next ∷ more
  pub others : rest ≡ next ∷ more

pub more_names : (names : List (List ℕ)) (name : List ℕ) (rest : List (List ℕ)) → 2 ≤ length names → name ≡ get_or names 0 name → rest ≡ take (length names - 1) (drop 1 names) → Names names name rest
more_names [] name rest a e r = absurd (omega arith)
more_names (n ∷ []) name rest a e r = absurd (omega arith)
more_names (n ∷ m ∷ ns) name rest a e r = record { next = m; more = ns; all = ap (λ n. n ∷ m ∷ ns) (sym e); others = r ∙ take_all (length (n ∷ m ∷ ns) - 1) (m ∷ ns) (omega arith) }
