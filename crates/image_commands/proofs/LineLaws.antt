-- The lines of logs one by one, and those of the tree of the replayed disk.
use Rattle.std.proofs.Common.{◌≡◌, ℕ, ◌+◌, Option, true, is_some, List, ◌∷◌, [], ◌++◌, refl, sym, ap, ◌∙◌, subst, add-one, append-nil}
use Rattle.std.specs.List.{flat_map}
use Rattle.std.proofs.lemmas.List.Concat.{flat_map-append}
use Rattle.frang_base.specs.declared.change.Redo.{Redo}
use Rattle.frang_base.specs.declared.sector.OpNo.{OpNo}
use Rattle.frang_base.specs.declared.said.Said.{Said}
use Rattle.frang_base.specs.declared.said.Said.TheVariants as said
use Rattle.tree_definitions.specs.Numbers.{below}
use Rattle.disk_definitions.specs.Params.{param_in}
use Rattle.sector_bytes.specs.Sectors.{Sectors, SameSectors, sectors_of}
use Rattle.image_file.specs.Images.{Blocks}
use Rattle.disk_definitions.specs.Standing.{StandsFor}
use Rattle.disk_definitions.specs.Replay.{replayed}
use Rattle.disk_replay.specs.Laid.{greatest_at, greatest_kept, records_at}
use Rattle.report_definitions.specs.Laws.{StandsForSome}
use Rattle.disk_check.proofs.Reported.{all_same, param_kept}
use Rattle.image_commands.specs.Lines.{recovered_below, recovered_by, recovered_line, records_in, EndsWithTree, IsTreeOf}

pub recovered_none : (sectors : Sectors) → recovered_below sectors 0 ≡ []
unfolding recovered_below
recovered_none sectors = refl

recovered_more : (sectors : Sectors) (n : ℕ) → recovered_below sectors (n + 1) ≡ recovered_below sectors n ++ recovered_by n (records_in sectors n)
unfolding recovered_below
recovered_more sectors n =
    let of_log = λ (server : ℕ). recovered_by server (records_in sectors server) in
    ap (λ k. flat_map of_log (below k)) (add-one n) ∙ flat_map-append of_log (below n) (n ∷ []) ∙ ap (λ ls. flat_map of_log (below n) ++ ls) (append-nil (of_log n))

by_greatest : (server : ℕ) (records : List Redo) → recovered_line server (greatest_kept records) ≡ recovered_by server records
by_greatest server [] = refl
by_greatest server (r ∷ rs) = refl

-- the line of a log more
pub line_more : (sectors : Sectors) (n : ℕ) (before lines : List Said) (held : Option OpNo) → before ≡ recovered_below sectors n → held ≡ greatest_at sectors n → lines ≡ before ++ recovered_line n held → lines ≡ recovered_below sectors (n + 1)
unfolding greatest_at records_at
line_more sectors n before lines held so is e =
    e ∙ ap (λ ls. ls ++ recovered_line n held) so ∙ ap (λ (o : Option OpNo). recovered_below sectors n ++ recovered_line n o) is
    ∙ ap (λ ls. recovered_below sectors n ++ ls) (by_greatest n (records_in sectors n)) ∙ sym (recovered_more sectors n)

module _ (blocks new : Blocks) (before : List Said) (same : SameSectors (sectors_of new) (replayed (sectors_of blocks))) where
  pub tree_told : (lines : List Said) → EndsWithTree (sectors_of new) before lines → IsTreeOf (sectors_of blocks) before lines
  tree_told lines r = record {
    tree = r.1.tree;
    stands = subst (λ (s : Sectors). StandsFor s r.1.tree) (all_same (sectors_of new) (replayed (sectors_of blocks)) same) r.1.stands;
    is = r.2 ∙ ap (λ (told : List Said). before ++ told ++ said.End ∷ []) r.1.is;
  }

  pub none_told : (StandsForSome (sectors_of new) → ⊥) → (lines : List Said) → IsTreeOf (sectors_of blocks) before lines → ⊥
  none_told never lines t = never (t.tree, subst (λ (s : Sectors). StandsFor s t.tree) (sym (all_same (sectors_of new) (replayed (sectors_of blocks)) same)) t.stands)

  -- a replay leaves the parameters
  pub has_param : is_some (param_in (sectors_of blocks 0)) ≡ true → is_some (param_in (sectors_of new 0)) ≡ true
  has_param h = ap (λ (s : Sectors). is_some (param_in (s 0))) (all_same (sectors_of new) (replayed (sectors_of blocks)) same) ∙ ap is_some (param_kept (sectors_of blocks)) ∙ h
