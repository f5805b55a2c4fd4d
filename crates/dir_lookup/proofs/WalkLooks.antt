-- What a walk looked at, name after name.
use Rattle.std.proofs.Common.{◌≡◌, ◌==◌, ◌*◌, ℕ, Bool, true, false, cond, Option, Some, None, Result, Ok, Err, List, [], ◌∷◌, ◌++◌, append-nil, refl, sym, ap, ◌∙◌}
use Rattle.frang_base.specs.declared.reply.Reply.{Reply}
use Rattle.frang_base.specs.declared.reply.Reply.TheVariants as reply
use Rattle.disk_definitions.specs.Store.{StoredNode}
use Rattle.disk_definitions.specs.Held.{Segments}
use Rattle.disk_definitions.specs.Ask.{Ask, Got, ReadInode, bind}
use Rattle.disk_definitions.specs.Walks.{Spot, Lost, Found, Walked, in_inode, is_named, look_up, onward, search, spot_by, walk_from}
use Rattle.disk_definitions.specs.Written.{Cached}
use Rattle.dir_lookup.specs.Looks.{looks_of}
use Rattle.dir_lookup.specs.Reading.{Read, Lacks, Gives, reading}
use Rattle.dir_lookup.specs.Spots.{leads, looked_in, walked_in}
use Rattle.dir_lookup.proofs.Looking.{looks_end, looks_on}
use Rattle.dir_lookup.proofs.Steps.{led_on, onward_is}
use Rattle.dir_lookup.proofs.Through.{walked_looked}

-- a computation, and its value changed
pub looks_got : {A B : Type 0} (p : Ask A) (g : A → B) (cached : Cached) (held : Segments) (r : Read A) → r ≡ reading p cached held → looks_of p cached held ≡ looks_of (bind p (λ a. Got (g a))) cached held
looks_got p g cached held (Lacks s) e = sym (looks_end p (λ a. Got (g a)) cached held s e)
looks_got p g cached held (Gives a) e = sym (looks_on p (λ a. Got (g a)) cached held a e ∙ append-nil (looks_of p cached held))

module _ (dirs : List ℕ) (i : ℕ) (name : List ℕ) (cached : Cached) (held : Segments) where
  abbrev pub search_in : StoredNode → Ask (Option Found)
  search_in x = search x.small (is_named name) 0 (8 * x.blocks)

  pub looked_up_at : (x : StoredNode) (r : Read (Option Found)) → r ≡ reading (search_in x) cached held → looks_of (search_in x) cached held ≡ looks_of (look_up dirs i x name) cached held
  looked_up_at x r e = looks_got {B = Walked} (search_in x) (λ found. record { spot = spot_by i x name found; dirs = dirs ++ i ∷ [] }) cached held r e

  pub in_directory_at : (x : StoredNode) → (x.kind == 2) ≡ true → looks_of (look_up dirs i x name) cached held ≡ looks_of (in_inode dirs i name (Some x)) cached held
  in_directory_at x k = ap (λ b. looks_of (cond b (look_up dirs i x name) (Got (record { spot = Lost reply.NotDir; dirs = dirs }))) cached held) (sym k)

  pub in_no_directory_at : (x : StoredNode) → (x.kind == 2) ≡ false → [] ≡ looks_of (in_inode dirs i name (Some x)) cached held
  in_no_directory_at x k = ap (λ b. looks_of (cond b (look_up dirs i x name) (Got (record { spot = Lost reply.NotDir; dirs = dirs }))) cached held) (sym k)

  -- a name below an inode, by what is read of it
  pub step_lacks : (s : ℕ) → Lacks s ≡ reading (ReadInode i Got) cached held → looks_of (ReadInode i Got) cached held ≡ looks_of (ReadInode i (in_inode dirs i name)) cached held
  step_lacks s e = sym (looks_end {B = Walked} (ReadInode i Got) (in_inode dirs i name) cached held s e)

  pub step_on : (o : Option StoredNode) → Gives o ≡ reading (ReadInode i Got) cached held →
      looks_of (ReadInode i Got) cached held ++ looks_of (in_inode dirs i name o) cached held ≡ looks_of (ReadInode i (in_inode dirs i name)) cached held
  step_on o e = sym (looks_on {B = Walked} (ReadInode i Got) (in_inode dirs i name) cached held o e)

  pub step_nowhere : Gives None ≡ reading (ReadInode i Got) cached held → looks_of (ReadInode i Got) cached held ≡ looks_of (ReadInode i (in_inode dirs i name)) cached held
  step_nowhere e = sym (append-nil (looks_of (ReadInode i Got) cached held)) ∙ step_on None e

  -- ---- a name before others

  abbrev first : Ask Walked
  first = ReadInode i (in_inode dirs i name)

  abbrev on : List ℕ → List (List ℕ) → Walked → Ask Walked
  on next names w = onward (λ more j. walk_from more j (next ∷ names)) w.dirs w.spot

  pub first_missing : (next : List ℕ) (names : List (List ℕ)) (s : ℕ) → Lacks s ≡ reading first cached held → looks_of first cached held ≡ looks_of (walk_from dirs i (name ∷ next ∷ names)) cached held
  first_missing next names s e = sym (looks_end first (on next names) cached held s e)

  looks_by : (next : List ℕ) (names : List (List ℕ)) (s : Spot) (o : Result ℕ Reply) → Gives (walked_in dirs i s) ≡ reading first cached held → leads s ≡ o →
      looks_of (walk_from dirs i (name ∷ next ∷ names)) cached held ≡ looks_of first cached held ++ looks_of (led_on (λ more j. walk_from more j (next ∷ names)) (dirs ++ looked_in i s) o) cached held
  looks_by next names s o e l =
      looks_on first (on next names) cached held (walked_in dirs i s) e
      ∙ ap (λ w. looks_of first cached held ++ looks_of (on next names w) cached held) (walked_looked dirs i s)
      ∙ ap (λ p. looks_of first cached held ++ looks_of p cached held) (onward_is (λ more j. walk_from more j (next ∷ names)) (dirs ++ looked_in i s) s)
      ∙ ap (λ o. looks_of first cached held ++ looks_of (led_on (λ more j. walk_from more j (next ∷ names)) (dirs ++ looked_in i s) o) cached held) l

  pub first_lost : (next : List ℕ) (names : List (List ℕ)) (s : Spot) (r : Reply) → Gives (walked_in dirs i s) ≡ reading first cached held → leads s ≡ Err r →
      looks_of first cached held ≡ looks_of (walk_from dirs i (name ∷ next ∷ names)) cached held
  first_lost next names s r e l = sym (looks_by next names s (Err r) e l ∙ append-nil (looks_of first cached held))

  pub first_goes : (next : List ℕ) (names : List (List ℕ)) (s : Spot) (j : ℕ) → Gives (walked_in dirs i s) ≡ reading first cached held → leads s ≡ Ok j →
      looks_of first cached held ++ looks_of (walk_from (dirs ++ looked_in i s) j (next ∷ names)) cached held ≡ looks_of (walk_from dirs i (name ∷ next ∷ names)) cached held
  first_goes next names s j e l = sym (looks_by next names s (Ok j) e l)
