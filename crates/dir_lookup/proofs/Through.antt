-- The walk of names, and the directories in which it looks, name after name.
use Rattle.std.proofs.Common.{◌≡◌, ◌==◌, ◌||◌, ℕ, Bool, false, Result, Ok, Err, List, [], ◌∷◌, ◌++◌, append_assoc, append-nil, length, ◌<◌, arith, refl, sym, ap, ◌∙◌}
use Rattle.std.proofs.lemmas.List.Folds.{list_any-append}
use Rattle.frang_base.specs.declared.reply.Reply.{Reply}
use Rattle.disk_definitions.specs.Held.{Segments}
use Rattle.disk_definitions.specs.Ask.{Ask, Got, ReadInode, bind}
use Rattle.disk_definitions.specs.Walks.{Spot, AtRoot, AtName, AtGap, Lost, Walked, in_inode, onward, walk, walk_from}
use Rattle.disk_definitions.specs.Written.{Cached}
use Rattle.dir_lookup.specs.Reading.{Read, Lacks, Gives, reading, then_read}
use Rattle.dir_lookup.specs.declared.need.Need.{Need}
use Rattle.dir_lookup.specs.declared.spot.Spot.{Spot as CodeSpot}
use Rattle.dir_lookup.specs.declared.spot.Spot.TheVariants as spot
use Rattle.dir_lookup.specs.declared.spot.Refusal.{Refusal}
use Rattle.dir_lookup.specs.Spots.{has_inode, leads, looked_in, reply_of, spot_of, walked_in}
use Rattle.dir_lookup.proofs.Searches.{goes_on}
use Rattle.dir_lookup.proofs.Steps.{led_on, onward_is}
use Rattle.dir_lookup.specs.Passing.{PassesFrom}

-- ---- a name on the way
pub walked_looked : (dirs : List ℕ) (i : ℕ) (s : Spot) → walked_in dirs i s ≡ record { spot = s; dirs = dirs ++ looked_in i s }
walked_looked dirs i AtRoot = ap (λ dirs. record { spot = AtRoot; dirs = dirs }) (sym (append-nil dirs))
walked_looked dirs i (AtName n x name q e) = refl
walked_looked dirs i (AtGap n x name) = refl
walked_looked dirs i (Lost r) = ap (λ dirs. record { spot = Lost r; dirs = dirs }) (sym (append-nil dirs))

pub no_names : (names : List (List ℕ)) → length names < 1 → names ≡ []
no_names [] l = refl
no_names (n ∷ ns) l = absurd (omega arith)

pub passes_none : (cached : Cached) (held : Segments) (from inode : ℕ) (dirs : List ℕ) → PassesFrom cached held from [] inode dirs (Ok (spot.AtRoot, false))
passes_none cached held from inode dirs = ([], refl, ap (λ dirs. Gives (record { spot = AtRoot; dirs = dirs })) (sym (append-nil dirs)))

module _ (cached : Cached) (held : Segments) (from inode : ℕ) (dirs : List ℕ) (name : List ℕ) where
  -- the last name
  pub passes_one : (s : CodeSpot) (b : Bool) → Gives (walked_in dirs from (spot_of s)) ≡ reading (ReadInode from (in_inode dirs from name)) cached held → b ≡ has_inode inode (looked_in from (spot_of s))
      → PassesFrom cached held from (name ∷ []) inode dirs (Ok (s, b))
  passes_one s b e h = (looked_in from (spot_of s), h, sym e ∙ ap Gives (walked_looked dirs from (spot_of s)))

  -- a name before others
  abbrev on : List ℕ → List (List ℕ) → Walked → Ask Walked
  on next names w = onward (λ more j. walk_from more j (next ∷ names)) w.dirs w.spot

  first : (next : List ℕ) (names : List (List ℕ)) (r : Read Walked) → r ≡ reading (ReadInode from (in_inode dirs from name)) cached held
      → reading (walk_from dirs from (name ∷ next ∷ names)) cached held ≡ then_read r (λ w. reading (on next names w) cached held)
  first next names r e = sym (goes_on (ReadInode from (in_inode dirs from name)) (on next names) cached held r e)

  pub first_lacks : (next : List ℕ) (names : List (List ℕ)) (n : ℕ) → Lacks n ≡ reading (ReadInode from (in_inode dirs from name)) cached held → reading (walk_from dirs from (name ∷ next ∷ names)) cached held ≡ Lacks n
  first_lacks next names n e = first next names (Lacks n) e

  on_by : (next : List ℕ) (names : List (List ℕ)) (s : Spot) (o : Result ℕ Reply) → Gives (walked_in dirs from s) ≡ reading (ReadInode from (in_inode dirs from name)) cached held → leads s ≡ o
      → reading (walk_from dirs from (name ∷ next ∷ names)) cached held ≡ reading (led_on (λ more j. walk_from more j (next ∷ names)) (dirs ++ looked_in from s) o) cached held
  on_by next names s o e l =
      first next names (Gives (walked_in dirs from s)) e
      ∙ ap (λ w. reading (on next names w) cached held) (walked_looked dirs from s)
      ∙ ap (λ p. reading p cached held) (onward_is (λ more j. walk_from more j (next ∷ names)) (dirs ++ looked_in from s) s)
      ∙ ap (λ o. reading (led_on (λ more j. walk_from more j (next ∷ names)) (dirs ++ looked_in from s) o) cached held) l

  pub passes_lost : (next : List ℕ) (names : List (List ℕ)) (s : CodeSpot) (b : Bool) (r : Refusal) → Gives (walked_in dirs from (spot_of s)) ≡ reading (ReadInode from (in_inode dirs from name)) cached held
      → b ≡ has_inode inode (looked_in from (spot_of s)) → leads (spot_of s) ≡ Err (reply_of r) → PassesFrom cached held from (name ∷ next ∷ names) inode dirs (Ok (spot.Lost r, b))
  passes_lost next names s b r e h l = (looked_in from (spot_of s), h, on_by next names (spot_of s) (Err (reply_of r)) e l)

  pub passes_lack : (next : List ℕ) (names : List (List ℕ)) (s : CodeSpot) (j n : ℕ) → Gives (walked_in dirs from (spot_of s)) ≡ reading (ReadInode from (in_inode dirs from name)) cached held → leads (spot_of s) ≡ Ok j
      → reading (walk_from (dirs ++ looked_in from (spot_of s)) j (next ∷ names)) cached held ≡ Lacks n → reading (walk_from dirs from (name ∷ next ∷ names)) cached held ≡ Lacks n
  passes_lack next names s j n e l ih = on_by next names (spot_of s) (Ok j) e l ∙ ih

  pub passes_more : (next : List ℕ) (names : List (List ℕ)) (s last : CodeSpot) (here there b : Bool) (j : ℕ) → Gives (walked_in dirs from (spot_of s)) ≡ reading (ReadInode from (in_inode dirs from name)) cached held
      → here ≡ has_inode inode (looked_in from (spot_of s)) → leads (spot_of s) ≡ Ok j → b ≡ (here || there)
      → PassesFrom cached held j (next ∷ names) inode (dirs ++ looked_in from (spot_of s)) (Ok (last, there)) → PassesFrom cached held from (name ∷ next ∷ names) inode dirs (Ok (last, b))
  passes_more next names s last here there b j e h l c ih =
      let looked : List ℕ = looked_in from (spot_of s) in
      let both : b ≡ has_inode inode (looked ++ ih.0) =
      c ∙ ap (λ here. here || there) h ∙ ap (λ there. has_inode inode looked || there) ih.1 ∙ sym (list_any-append (λ i. i == inode) looked ih.0) in (
        looked ++ ih.0,
        both,
        on_by next names (spot_of s) (Ok j) e l ∙ ih.2 ∙ ap (λ dirs. Gives (record { spot = spot_of last; dirs = dirs })) (append_assoc dirs looked ih.0),
      )

-- ---- the spot of the walk alone
pub spot_lacks : (cached : Cached) (held : Segments) (path : List (List ℕ)) (inode : ℕ) (need : Need) → PassesFrom cached held 0 path inode [] (Err need)
    → Lacks need.0.0 ≡ reading (bind (walk path) (λ w. Got w.spot)) cached held
spot_lacks cached held path inode need e = goes_on (walk path) (λ w. Got w.spot) cached held (Lacks need.0.0) (sym e)

pub spot_led : (cached : Cached) (held : Segments) (path : List (List ℕ)) (inode : ℕ) (p : CodeSpot × Bool) → PassesFrom cached held 0 path inode [] (Ok p)
    → Gives (spot_of p.0) ≡ reading (bind (walk path) (λ w. Got w.spot)) cached held
spot_led cached held path inode p e = goes_on (walk path) (λ w. Got w.spot) cached held (Gives (record { spot = spot_of p.0; dirs = e.0 })) (sym e.2)
