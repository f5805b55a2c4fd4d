-- Every plan is blind for the bytes of files, and so is the plan of every line.
use Rattle.std.proofs.Common.{ℕ, ◌≡◌, ◌<◌, ◌-◌, List, [], length, slice_index, refl, sym, ap, ◌∙◌}
use Rattle.std.proofs.lemmas.List.{append-nil}
use Rattle.frang_base.specs.declared.op.Op.{Op}
use Rattle.frang_base.specs.declared.op.Op.TheVariants as op
use Rattle.tree_definitions.specs.declared.node.Node.TheVariants.{Dir, File, Link}
use Rattle.tree_definitions.specs.Perform.{Step, Goes, Stops}
use Rattle.disk_definitions.specs.Store.{Store}
use Rattle.disk_definitions.specs.Ask.{InodeAt, DirectoryAt, SegmentAt, Ask, Got, bind, run, looks}
use Rattle.disk_definitions.specs.Plans.{Hand, Plan, Lacks, Clears, Finishes}
use Rattle.disk_definitions.specs.FilePlans.{cutting}
use Rattle.disk_definitions.specs.PlanOf.{plan_of}
use Rattle.plan_laws.proofs.Asking.{run-bind, looks-bind}
use Rattle.line_laws.specs.Stores.{with_bytes}
use Rattle.disk_definitions.specs.Lines.{resolved, with_trail, plan_step, plan_of_line}
use Rattle.line_histories.specs.Planners.{plan_shape, BytesDontDecide}
use Rattle.line_histories.proofs.Asking.{AsksOnly}
use Rattle.line_histories.proofs.AskedNames.{made_asks, linked_asks, unlinked_asks, removed_asks, renamed_asks}
use Rattle.line_histories.proofs.AskedFiles.{described_asks, timed_asks, listed_asks, target_asks, file_asks, cutting_asks}
use Rattle.line_histories.proofs.AskedLines.{resolved_asks}
use Rattle.line_histories.proofs.Blind.{IsNoBytes, IsBlind, plain_blind, blind_bind, write_blind, read_blind}

pub no_inode : (i : ℕ) → IsNoBytes (InodeAt i)
no_inode i = tt

pub no_directory : (k part : ℕ) → part < 8 → IsNoBytes (DirectoryAt k part)
no_directory k part l = tt

pub no_segment : (k : ℕ) → IsNoBytes (SegmentAt k)
no_segment k = tt

-- the operations that read no bytes, and their plans
abbrev pub ReadsNoBytes : Op → Type 0
ReadsNoBytes (op.Write path off bytes) = ⊥
ReadsNoBytes (op.Fill path off len byte) = ⊥
ReadsNoBytes (op.Read path off len) = ⊥
ReadsNoBytes _ = Unit {0}

pub plan_plain : (o : Op) → ReadsNoBytes o → (h : Hand) (birth when : ℕ) → AsksOnly IsNoBytes (plan_of h birth when o)
plan_plain (op.Create path) r h birth when = made_asks IsNoBytes no_inode no_directory h (λ k c. no_segment k) birth (File [] 1 0) path
plan_plain (op.Mkdir path) r h birth when = made_asks IsNoBytes no_inode no_directory h (λ k c. no_segment k) birth (Dir [] 0) path
plan_plain (op.Symlink path target) r h birth when = made_asks IsNoBytes no_inode no_directory h (λ k c. no_segment k) birth (Link target 1) path
plan_plain (op.Link path to) r h birth when = linked_asks IsNoBytes no_inode no_directory h (λ k c. no_segment k) path to
plan_plain (op.Unlink path) r h birth when = unlinked_asks IsNoBytes no_inode no_directory no_segment path
plan_plain (op.Rmdir path) r h birth when = removed_asks IsNoBytes no_inode no_directory no_segment path
plan_plain (op.Rename path to) r h birth when = renamed_asks IsNoBytes no_inode no_directory h (λ k c. no_segment k) no_segment path to
plan_plain (op.Write path off bytes) r h birth when = absurd r
plan_plain (op.Fill path off len value) r h birth when = absurd r
plan_plain (op.Truncate path len) r h birth when = file_asks IsNoBytes no_inode no_directory (cutting when len) (cutting_asks IsNoBytes no_inode no_directory no_segment when len) path
plan_plain (op.Read path off len) r h birth when = absurd r
plan_plain (op.Stat path) r h birth when = described_asks IsNoBytes no_inode no_directory path
plan_plain (op.List path) r h birth when = listed_asks IsNoBytes no_inode no_directory path
plan_plain (op.Readlink path) r h birth when = target_asks IsNoBytes no_inode no_directory path
plan_plain (op.Time path) r h birth when = timed_asks IsNoBytes no_inode no_directory path
plan_plain op.Sync r h birth when = tt
plan_plain op.Mount r h birth when = tt
plan_plain op.Unmount r h birth when = tt
plan_plain op.Crash r h birth when = tt
plan_plain (op.CrashAt k) r h birth when = tt
plan_plain (op.CutAt k) r h birth when = tt
plan_plain op.Stall r h birth when = tt

-- a trail in front changes nothing but locks
trail_shape : (trail : List ℕ) (p : Plan) → plan_shape (with_trail trail p) ≡ with_trail trail (plan_shape p)
trail_shape trail Lacks = refl
trail_shape trail (Clears k locks) = refl
trail_shape trail (Finishes f) = refl

module _ (s : Store) (byte large_byte : ℕ → ℕ → ℕ) where
  abbrev t : Store
  t = with_bytes s byte large_byte

  abbrev Blind : Ask Plan → Type 0
  Blind p = IsBlind s byte large_byte p

  plain : (o : Op) → ReadsNoBytes o → (h : Hand) (birth when : ℕ) → Blind (plan_of h birth when o)
  plain o r h birth when = plain_blind s byte large_byte (plan_of h birth when o) (plan_plain o r h birth when)

  pub plan_blind : (o : Op) (h : Hand) (birth when : ℕ) → Blind (plan_of h birth when o)
  plan_blind (op.Create path) h birth when = plain (op.Create path) tt h birth when
  plan_blind (op.Mkdir path) h birth when = plain (op.Mkdir path) tt h birth when
  plan_blind (op.Symlink path target) h birth when = plain (op.Symlink path target) tt h birth when
  plan_blind (op.Link path to) h birth when = plain (op.Link path to) tt h birth when
  plan_blind (op.Unlink path) h birth when = plain (op.Unlink path) tt h birth when
  plan_blind (op.Rmdir path) h birth when = plain (op.Rmdir path) tt h birth when
  plan_blind (op.Rename path to) h birth when = plain (op.Rename path to) tt h birth when
  plan_blind (op.Write path off bytes) h birth when = write_blind s byte large_byte h (record { off = off; len = length bytes; when = when; byte = λ j. slice_index bytes (j - off) }) path
  plan_blind (op.Fill path off len value) h birth when = write_blind s byte large_byte h (record { off = off; len = len; when = when; byte = λ j. value }) path
  plan_blind (op.Truncate path len) h birth when = plain (op.Truncate path len) tt h birth when
  plan_blind (op.Read path off len) h birth when = read_blind s byte large_byte off len path
  plan_blind (op.Stat path) h birth when = plain (op.Stat path) tt h birth when
  plan_blind (op.List path) h birth when = plain (op.List path) tt h birth when
  plan_blind (op.Readlink path) h birth when = plain (op.Readlink path) tt h birth when
  plan_blind (op.Time path) h birth when = plain (op.Time path) tt h birth when
  plan_blind op.Sync h birth when = plain op.Sync tt h birth when
  plan_blind op.Mount h birth when = plain op.Mount tt h birth when
  plan_blind op.Unmount h birth when = plain op.Unmount tt h birth when
  plan_blind op.Crash h birth when = plain op.Crash tt h birth when
  plan_blind (op.CrashAt k) h birth when = plain (op.CrashAt k) tt h birth when
  plan_blind (op.CutAt k) h birth when = plain (op.CutAt k) tt h birth when
  plan_blind op.Stall h birth when = plain op.Stall tt h birth when

  -- ---- lines

  trailed : (trail : List ℕ) (p : Ask Plan) → Blind p → Blind (bind p (λ plan. Got (with_trail trail plan)))
  trailed trail p b =
      let f : Plan → Ask Plan = λ plan. Got (with_trail trail plan) in
      record {
        looked = looks-bind p f t ∙ append-nil (looks p t) ∙ b.looked ∙ sym (append-nil (looks p s)) ∙ sym (looks-bind p f s);
        comes = ap plan_shape (run-bind p f t) ∙ trail_shape trail (run p t) ∙ ap (with_trail trail) b.comes ∙ sym (trail_shape trail (run p s)) ∙ ap plan_shape (sym (run-bind p f s));
      }

  step_blind : (h : Hand) (birth when : ℕ) (trail : List ℕ) (step : Step) → Blind (plan_step h birth when trail step)
  step_blind h birth when trail (Goes o) = trailed trail (plan_of h birth when o) (plan_blind o h birth when)
  step_blind h birth when trail (Stops r) = record { looked = refl; comes = refl }

  line_blind : (o : Op) (h : Hand) (birth when : ℕ) → Blind (plan_of_line h birth when o)
  line_blind o h birth when =
      blind_bind s byte large_byte (resolved o) (λ w. plan_step h birth when w.trail w.step) (resolved_asks IsNoBytes no_inode no_directory o) (λ w. step_blind h birth when w.trail w.step)

pub bytes_dont_decide : BytesDontDecide plan_of_line
bytes_dont_decide o h s birth when byte large_byte = let b = line_blind s byte large_byte o h birth when in (b.looked, b.comes)
