-- The names of a directory, sector after sector and place after place.
use Rattle.std.proofs.Common.{◌≡◌, ℕ, suc, ◌+◌, ◌-◌, ◌*◌, ◌/◌, ◌%◌, ◌<◌, ◌≤◌, Option, Some, None, List, [], ◌∷◌, ◌++◌, refl, sym, ap, ◌∙◌, arith}
use Rattle.std.proofs.Math.Path.{fun_ext}
use Rattle.std.specs.List.{filter_map, fold}
use Rattle.std.specs.Map.{keys_of}
use Rattle.std.proofs.lemmas.List.Elements.{filter_map-append}
use Rattle.std.proofs.lemmas.List.Sums.{fold-append}
use Rattle.frang_base.specs.declared.reply.Reply.TheVariants as reply
use Rattle.tree_definitions.specs.Entries.{Entries}
use Rattle.tree_definitions.specs.Numbers.{below}
use Rattle.disk_definitions.specs.Store.{StoredNode, StoredEntry}
use Rattle.disk_definitions.specs.Held.{Segments}
use Rattle.disk_definitions.specs.Ask.{Ask, Got, ReadDirectory}
use Rattle.disk_definitions.specs.Plans.{Plan, refuse, refused}
use Rattle.disk_definitions.specs.LookPlans.{entries_of, read_entries, listing}
use Rattle.disk_definitions.specs.Written.{Cached}
use Rattle.dir_lookup.specs.Reading.{Read, Lacks, Gives, reading, then_read}
use Rattle.dir_lookup.proofs.Searches.{goes_on}
use Rattle.op_look.specs.Looks.{with_name, with_place}

-- ---- the places of a sector
last_place : (f : ℕ → Option StoredEntry) (p : ℕ) (m : Entries) (o : Option StoredEntry) → f p ≡ o → fold with_name m (filter_map f (p ∷ [])) ≡ with_place m o
last_place f p m o e = ap (λ o. fold with_name m (filter_map (λ n. o) (p ∷ []))) e ∙ go o
  where
    go : (o : Option StoredEntry) → fold with_name m (filter_map (λ (n : ℕ). o) (p ∷ [])) ≡ with_place m o
    go None = refl
    go (Some x) = refl

pub place_added : (f : ℕ → Option StoredEntry) (p : ℕ) (m before after : Entries) (o : Option StoredEntry) → o ≡ f p → before ≡ fold with_name m (filter_map f (below p)) → after ≡ with_place before o
    → after ≡ fold with_name m (filter_map f (below (p + 1)))
place_added f p m before after o e b a =
    let n : suc p ≡ p + 1 = omega arith in
    a ∙ ap (λ m. with_place m o) b
    ∙ sym (ap (λ (n : ℕ). fold with_name m (filter_map f (below n))) (sym n)
    ∙ ap (fold with_name m) (filter_map-append f (below p) (p ∷ []))
    ∙ fold-append with_name m (filter_map f (below p)) (filter_map f (p ∷ []))
    ∙ last_place f p (fold with_name m (filter_map f (below p))) o (sym e))

-- ---- the sectors of a directory
-- the plan that lists these names and those of further entries
abbrev pub listed : List ℕ → Entries → List StoredEntry → Ask Plan
listed touched m more = refused (reply.Names (keys_of (fold with_name m more))) touched

module _ (small : ℕ → ℕ) (cached : Cached) (held : Segments) (touched : List ℕ) (want : Read Plan) (j end : ℕ) (m : Entries) where
  opened : (r : Read (ℕ → Option StoredEntry)) → j < end → r ≡ reading (ReadDirectory (small (j / 8)) (j % 8) Got) cached held
      → then_read r (λ f. reading (read_entries small (j + 1) (end - (j + 1)) (λ more. listed touched m (entries_of f ++ more))) cached held) ≡ reading (read_entries small j (end - j) (listed touched m)) cached held
  opened r l e =
      let n : suc (end - (j + 1)) ≡ end - j = omega arith in
      goes_on (ReadDirectory (small (j / 8)) (j % 8) Got) (λ f. read_entries small (j + 1) (end - (j + 1)) (λ more. listed touched m (entries_of f ++ more))) cached held r e
      ∙ ap (λ n. reading (read_entries small j n (listed touched m)) cached held) n

  pub names_lack : (s : ℕ) → j < end → Lacks s ≡ reading (ReadDirectory (small (j / 8)) (j % 8) Got) cached held → reading (read_entries small j (end - j) (listed touched m)) cached held ≡ want → want ≡ Lacks s
  names_lack s l e w = sym (opened (Lacks s) l e ∙ w)

  pub names_more : (f : ℕ → Option StoredEntry) (after : Entries) → j < end → Gives f ≡ reading (ReadDirectory (small (j / 8)) (j % 8) Got) cached held → after ≡ fold with_name m (entries_of f)
      → reading (read_entries small j (end - j) (listed touched m)) cached held ≡ want → reading (read_entries small (j + 1) (end - (j + 1)) (listed touched after)) cached held ≡ want
  names_more f after l e a w =
      let same : listed touched after ≡ (λ more. listed touched m (entries_of f ++ more)) =
      fun_ext (λ more. ap (λ a. listed touched a more) a ∙ ap (λ es. refused (reply.Names (keys_of es)) touched) (sym (fold-append with_name m (entries_of f) more))) in
      ap (λ next. reading (read_entries small (j + 1) (end - (j + 1)) next) cached held) same ∙ opened (Gives f) l e ∙ w

  pub names_end : end ≤ j → reading (read_entries small j (end - j) (listed touched m)) cached held ≡ want → want ≡ Gives (refuse (reply.Names (keys_of m)) touched)
  names_end l w = let z : end - j ≡ 0 = omega arith in sym (ap (λ n. reading (read_entries small j n (listed touched m)) cached held) (sym z) ∙ w)

pub names_begin : (x : StoredNode) (cached : Cached) (held : Segments) (touched : List ℕ) (m : Entries) → m ≡ []
    → reading (read_entries x.small 0 (8 * x.blocks - 0) (listed touched m)) cached held ≡ reading (listing touched x) cached held
names_begin x cached held touched m e =
    let z : 8 * x.blocks - 0 ≡ 8 * x.blocks = omega arith in
    ap (λ n. reading (read_entries x.small 0 n (listed touched m)) cached held) z ∙ ap (λ m. reading (read_entries x.small 0 (8 * x.blocks) (listed touched m)) cached held) e
