-- The plan of truncate fits the disk.
use Rattle.std.proofs.Common.{ℕ, ◌≡◌, ◌<◌, ◌≤◌, ◌+◌, ◌-◌, ◌*◌, ◌^◌, ◌==◌, ◌&&◌, not, Bool, true, false, nat_lt, nat_le, if◌then◌else◌, inl, None, List, [], ◌∷◌, ◌++◌, length, map, slice_index, refl, sym, subst, arith}
use Rattle.std.proofs.lemmas.Bool.Decides.{nat_tests}
use Rattle.frang_base.specs.declared.reply.Reply.TheVariants as reply
use Rattle.tree_definitions.specs.Tree.{small_blocks_of}
use Rattle.disk_definitions.proofs.Lists.{listed_at, length_listed}
use Rattle.disk_definitions.specs.Store.{Store, StoredNode}
use Rattle.disk_definitions.specs.Store.Use.{Fresh}
use Rattle.disk_definitions.specs.Standing.{IsMetadata}
use Rattle.disk_definitions.specs.Edits.{edited_all}
use Rattle.disk_definitions.specs.Edits.Edit.{SetUse, SetLarge}
use Rattle.disk_definitions.specs.Ask.{Got}
use Rattle.disk_definitions.specs.Plans.{Hand, refused}
use Rattle.disk_definitions.specs.Plans.Plan.{Finishes}
use Rattle.disk_definitions.specs.NamePlans.{finish_over}
use Rattle.disk_definitions.specs.FilePlans.{resized, file_dated, blocks_between, large_cut, cut_segments, cut_by, cutting}
use Rattle.plan_laws.proofs.Asking.{run-segments}
use Rattle.disk_definitions.specs.FitEdits.{IsFitNode}
use Rattle.plan_laws.proofs.Among.{is_among}
use Rattle.plan_laws.proofs.Setting.{all_set}
use Rattle.disk_definitions.specs.FitPlans.{IsFitFinish}
use Rattle.plan_fit.specs.FitFiles.{TruncateFits}
use Rattle.plan_fit.proofs.Refused.{Fits, refuse_fits}
use Rattle.plan_fit.proofs.FileNodes.{fit_file, resized_fits}
use Rattle.plan_fit.proofs.Changes.{fit_join, uses_fit, larges_fit, dated_fits, no_directory}
use Rattle.plan_fit.proofs.Aimed.{IsFile, file_fits}

module _ (h : Hand) (g : ℕ) (s : Store) (i : ℕ) (touched : List ℕ) (x : StoredNode) (file : IsFile g s i x) (when len : ℕ) (late : when < 2 ^ 64) where
  abbrev gone : List ℕ
  gone = blocks_between x (small_blocks_of len) x.blocks

  abbrev y : StoredNode
  y = resized x when len [] None

  abbrev end : Store
  end = edited_all s (cut_by when i touched x len).edits

  gone_within : (j : ℕ) → j < length gone → slice_index gone j < 1024 * g
  gone_within j l =
      let from = small_blocks_of len in
      let count : length gone ≡ x.blocks - from = length_listed (λ m. x.small (from + m)) (x.blocks - from) in
      let m : j < x.blocks - from = omega arith in
      subst (λ k. k < 1024 * g) (sym (listed_at (λ m. x.small (from + m)) (x.blocks - from) j m)) (file.owns.smalls (from + j) (omega arith)).0

  large_within : (j : ℕ) → j < length (large_cut x len) → slice_index (large_cut x len) j < g
  large_within j l = go (x.large == 0) refl (nat_le len 65536) j l
    where
      go : (b : Bool) → x.large == 0 ≡ b → (c : Bool) (j : ℕ) → j < length (if not b && c then (x.large - 1) ∷ [] else []) → slice_index (if not b && c then (x.large - 1) ∷ [] else []) j < g
      go true e c j l = absurd (omega arith)
      go false e false j l = absurd (omega arith)
      go false e true j l = let some : 0 < x.large = grind (arith, nat_tests) in let z : 0 ≡ j = omega arith in subst (λ k. slice_index ((x.large - 1) ∷ []) k < g) z (file.owns.larges some).0

  module _ (shorter : len ≤ x.size) where
    large_most : (b : Bool) → (if b then x.large else 0) < 2 ^ 32
    large_most true = file.fit.large
    large_most false = omega arith

    large_by : (b : Bool) → nat_lt 65536 len ≡ b → (c : Bool) → nat_lt 65536 x.size ≡ c → (if c then nat_lt 0 x.large else x.large == 0) ≡ true → (if b then nat_lt 0 (if b then x.large else 0) else (if b then x.large else 0) == 0) ≡ true
    large_by true e true f l = l
    large_by true e false f l = absurd (let a : 65536 < len = grind (arith, nat_tests) in let c : x.size ≤ 65536 = grind (arith, nat_tests) in omega arith)
    large_by false e c f l = refl

    y_fits : IsFitNode y
    y_fits =
        let f = fit_file x file.fit file.kind in
        resized_fits x when len [] None file.fit file.kind late (let m : x.size ≤ 1114112 = f.size in omega arith) (λ j. omega arith) (large_most (nat_lt 65536 len))
        (large_by (nat_lt 65536 len) refl (nat_lt 65536 x.size) refl f.large)

    cut_fits : IsFitFinish h g s (cut_by when i touched x len)
    cut_fits = record {
      edits = fit_join g end (map (λ k. SetUse k Fresh) gone ++ map (λ k. SetLarge k false) (large_cut x len)) (file_dated i y)
          (fit_join g end (map (λ k. SetUse k Fresh) gone) (map (λ k. SetLarge k false) (large_cut x len)) (uses_fit g end Fresh gone gone_within) (larges_fit g end false (large_cut x len) large_within))
          (dated_fits g end i y file.number y_fits);
      clear = λ k m. inl (no_directory Fresh (s.use_of k) (is_among k gone) (λ z. z) (subst IsMetadata ((all_set s Fresh gone false (large_cut x len) i y).uses k) m));
    }

  cutting_fits : Fits h g s (cutting when len i touched x)
  cutting_fits = go (nat_lt x.size len) refl
    where
      go : (b : Bool) → nat_lt x.size len ≡ b → Fits h g s (if b then refused reply.BadOffset touched else finish_over (cut_segments x len) (cut_by when i touched x len))
      go true e = refuse_fits h g s reply.BadOffset touched
      go false e = rw (run-segments (cut_segments x len) (Got (Finishes (cut_by when i touched x len))) s) (cut_fits (grind (arith, nat_tests)))

pub truncate_fits : TruncateFits
truncate_fits path len h s tree n birth when of hand fit small late allowed = file_fits h s tree n of fit (cutting when len) (λ i touched x file. cutting_fits h tree.segments s i touched x file when len late) path
