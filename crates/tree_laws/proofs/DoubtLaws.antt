-- A sector comes into doubt exactly where there is a last write of the server that nothing made sure.
use Rattle.std.proofs.Common.{ℕ, ◌≡◌, ◌==◌, Bool, true, false, not, ◌&&◌, cond, inl, inr, ◌⊎◌, List, [], ◌∷◌, ◌++◌, refl, sym, ◌∙◌, ap, subst}
use Rattle.std.specs.List.{list_any}
use Rattle.std.proofs.lemmas.Bool.{and_parts, and_from}
use Rattle.tree_definitions.specs.declared.history.Entry.{Entry}
use Rattle.tree_definitions.specs.Tree.{FileTree}
use Rattle.tree_definitions.specs.History.{Settled, Stays, InDoubt, after, after_all}
use Rattle.tree_definitions.specs.Touched.{touches, is_ok, is_sync}
use Rattle.tree_definitions.specs.Removal.{mounts, doubtful_after, is_doubtful}
use Rattle.tree_laws.specs.Doubts.{entry_writes, keeps_doubt, all_keep_doubt, LastWrite, DoubtHasALastWrite, ALastWriteLeavesDoubt}

-- one entry more: its own write, or doubt that stays
one_more : (w o m y t flag : Bool) → cond w (o && not m) (cond o (flag && not y) (flag && not t)) ≡ true → ((w ≡ true) × (o ≡ true) × (m ≡ false)) ⊎ ((flag ≡ true) × (not w && cond o (not y) (not t) ≡ true))
one_more true true true y t flag h = absurd (cc)
one_more true true false y t flag h = inl (refl, refl, refl)
one_more true false m y t flag h = absurd (cc)
one_more false true m y t true h = inr (refl, h)
one_more false true m y t false h = absurd (cc)
one_more false false m y t true h = inr (refl, h)
one_more false false m y t false h = absurd (cc)

still : (w o m y t : Bool) → not w && cond o (not y) (not t) ≡ true → cond w (o && not m) (cond o (true && not y) (true && not t)) ≡ true
still true o m y t h = absurd (cc)
still false true m y t h = h
still false false m y t h = h

begins : (w o m : Bool) (x : Bool) → w ≡ true → o ≡ true → m ≡ false → cond w (o && not m) x ≡ true
begins true true false x i j k = refl
begins true true true x i j k = absurd (cc)
begins true false m x i j k = absurd (cc)
begins false o m x i j k = absurd (cc)

module _ (server birth sector : ℕ) where
  abbrev Doubtful : Bool → FileTree → List Settled → Type 0
  Doubtful flag tree list = is_doubtful server birth sector flag tree list ≡ true

  -- a last write in the rest of a list is one in the list
  later_on : (tree : FileTree) (s : Settled) (list : List Settled) → LastWrite server birth sector (after tree s) list → LastWrite server birth sector tree (s ∷ list)
  later_on tree s list w = record { before = s ∷ w.before; entry = w.entry; rest = w.rest; splits = ap (λ l. s ∷ l) w.splits; own = w.own; writes = w.writes; mounted = w.mounted; later = w.later }

  found : (list : List Settled) (flag : Bool) (tree : FileTree) → Doubtful flag tree list → ((flag ≡ true) × (all_keep_doubt server birth sector tree list ≡ true)) ⊎ LastWrite server birth sector tree list
  found [] flag tree h = inl (h, refl)
  found (InDoubt runs ∷ rest) flag tree h = go (found rest flag (after tree (InDoubt runs)) h)
    where
      go : ((flag ≡ true) × (all_keep_doubt server birth sector (after tree (InDoubt runs)) rest ≡ true)) ⊎ LastWrite server birth sector (after tree (InDoubt runs)) rest → ((flag ≡ true) × (all_keep_doubt server birth sector (after tree (InDoubt runs)) rest ≡ true)) ⊎ LastWrite server birth sector tree (InDoubt runs ∷ rest)
      go (inl p) = inl p
      go (inr w) = inr (later_on tree (InDoubt runs) rest w)
  found (Stays e ∷ rest) flag tree h = go (found rest (doubtful_after server birth sector flag tree e rest) (after tree (Stays e)) h)
    where
      by_entry : all_keep_doubt server birth sector (after tree (Stays e)) rest ≡ true
          → ((entry_writes tree e birth sector ≡ true) × (e.server.0 == server ≡ true) × (list_any (mounts server) rest ≡ false)) ⊎ ((flag ≡ true) × (keeps_doubt server birth sector tree e ≡ true))
          → ((flag ≡ true) × (keeps_doubt server birth sector tree e && all_keep_doubt server birth sector (after tree (Stays e)) rest ≡ true)) ⊎ LastWrite server birth sector tree (Stays e ∷ rest)
      by_entry keep (inl p) = inr (record { before = []; entry = e; rest = rest; splits = refl; own = p.1; writes = p.0; mounted = p.2; later = keep })
      by_entry keep (inr p) = inl (p.0, and_from (keeps_doubt server birth sector tree e) (all_keep_doubt server birth sector (after tree (Stays e)) rest) p.1 keep)

      go : ((doubtful_after server birth sector flag tree e rest ≡ true) × (all_keep_doubt server birth sector (after tree (Stays e)) rest ≡ true)) ⊎ LastWrite server birth sector (after tree (Stays e)) rest
          → ((flag ≡ true) × (keeps_doubt server birth sector tree e && all_keep_doubt server birth sector (after tree (Stays e)) rest ≡ true)) ⊎ LastWrite server birth sector tree (Stays e ∷ rest)
      go (inl p) = by_entry p.1 (one_more (entry_writes tree e birth sector) (e.server.0 == server) (list_any (mounts server) rest) (is_sync e.op && is_ok e.reply) (touches tree e birth) flag p.0)
      go (inr w) = inr (later_on tree (Stays e) rest w)

  -- doubt that nothing ends stays
  kept : (list : List Settled) (tree : FileTree) → all_keep_doubt server birth sector tree list ≡ true → Doubtful true tree list
  kept [] tree h = refl
  kept (InDoubt runs ∷ rest) tree h = kept rest (after tree (InDoubt runs)) h
  kept (Stays e ∷ rest) tree h =
      let p = and_parts (keeps_doubt server birth sector tree e) (all_keep_doubt server birth sector (after tree (Stays e)) rest) h in
      ap (λ f. is_doubtful server birth sector f (after tree (Stays e)) rest)
      (still (entry_writes tree e birth sector) (e.server.0 == server) (list_any (mounts server) rest) (is_sync e.op && is_ok e.reply) (touches tree e birth) p.0)
      ∙ kept rest (after tree (Stays e)) p.1

  -- a last write leaves doubt, whatever was before
  leaves : (before : List Settled) (e : Entry) (rest : List Settled) (flag : Bool) (tree : FileTree) → e.server.0 == server ≡ true → entry_writes (after_all tree before) e birth sector ≡ true → list_any (mounts server) rest ≡ false
      → all_keep_doubt server birth sector (after (after_all tree before) (Stays e)) rest ≡ true → Doubtful flag tree (before ++ Stays e ∷ rest)
  leaves [] e rest flag tree own writes mounted later =
      ap (λ f. is_doubtful server birth sector f (after tree (Stays e)) rest)
      (begins (entry_writes tree e birth sector) (e.server.0 == server) (list_any (mounts server) rest) (cond (e.server.0 == server) (flag && not (is_sync e.op && is_ok e.reply)) (flag && not (touches tree e birth))) writes own mounted)
      ∙ kept rest (after tree (Stays e)) later
  leaves (InDoubt runs ∷ before) e rest flag tree own writes mounted later = leaves before e rest flag (after tree (InDoubt runs)) own writes mounted later
  leaves (Stays d ∷ before) e rest flag tree own writes mounted later = leaves before e rest (doubtful_after server birth sector flag tree d (before ++ Stays e ∷ rest)) (after tree (Stays d)) own writes mounted later

pub doubt_has_a_last_write : DoubtHasALastWrite
doubt_has_a_last_write server birth sector tree list h = go (found server birth sector list false tree h)
  where
    go : ((false ≡ true) × (all_keep_doubt server birth sector tree list ≡ true)) ⊎ LastWrite server birth sector tree list → LastWrite server birth sector tree list
    go (inl p) = absurd (let e : false ≡ true = p.0 in cc)
    go (inr w) = w

pub a_last_write_leaves_doubt : ALastWriteLeavesDoubt
a_last_write_leaves_doubt server birth sector tree list w =
    subst (λ l. is_doubtful server birth sector false tree l ≡ true) (sym w.splits) (leaves server birth sector w.before w.entry w.rest false tree w.own w.writes w.mounted w.later)
