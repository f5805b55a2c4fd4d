-- Plans of lines look at the eight parts of small blocks, over any disk.
use Rattle.std.proofs.Common.{ℕ, ◌<◌, ◌-◌, ⊎_elim, List, [], ◌∷◌, length, slice_index, subst}
use Rattle.std.specs.List.{AllByRecursion, Contains}
use Rattle.frang_base.specs.declared.op.Op.{Op}
use Rattle.frang_base.specs.declared.op.Op.TheVariants as op
use Rattle.tree_definitions.specs.declared.node.Node.TheVariants.{Dir, File, Link}
use Rattle.tree_definitions.specs.Perform.{Step, Goes, Stops}
use Rattle.disk_definitions.specs.Ask.{Sector, InodeAt, DirectoryAt, SegmentAt, BytesAt, LargeAt, Got, looks}
use Rattle.disk_definitions.specs.Plans.{Hand}
use Rattle.disk_definitions.specs.FilePlans.{Writing, writing, cutting, showing, plan_of_file}
use Rattle.disk_definitions.specs.PlanOf.{plan_of}
use Rattle.plan_laws.proofs.Covering.{has_cases, not_in_none}
use Rattle.disk_definitions.specs.Lines.{resolved, with_trail, plan_step, plan_of_line}
use Rattle.line_histories.specs.Planners.{IsPart, LooksAtParts}
use Rattle.line_histories.proofs.Asking.{AsksOnly, asks_bind, asked}
use Rattle.line_histories.proofs.AskedNames.{made_asks, linked_asks, unlinked_asks, removed_asks, renamed_asks}
use Rattle.line_histories.proofs.AskedFiles.{described_asks, timed_asks, listed_asks, target_asks, file_asks, cutting_asks, showing_asks, writing_asks}
use Rattle.line_histories.proofs.AskedLines.{resolved_asks}

an_inode : (i : ℕ) → IsPart (InodeAt i)
an_inode i = tt

a_directory : (k part : ℕ) → part < 8 → IsPart (DirectoryAt k part)
a_directory k part l = l

a_segment : (k : ℕ) → IsPart (SegmentAt k)
a_segment k = tt

a_small : (k part : ℕ) → part < 8 → IsPart (BytesAt k part)
a_small k part l = l

a_large : (g part : ℕ) → IsPart (LargeAt g part)
a_large g part = tt

write_parts : (h : Hand) (w : Writing) (path : List (List ℕ)) → AsksOnly IsPart (plan_of_file path (writing h w))
write_parts h w path = file_asks IsPart an_inode a_directory (writing h w) (λ i touched x. writing_asks IsPart an_inode a_directory a_small a_large h (λ k c. a_segment k) w i touched x) path

plan_parts : (o : Op) (h : Hand) (birth when : ℕ) → AsksOnly IsPart (plan_of h birth when o)
plan_parts (op.Create path) h birth when = made_asks IsPart an_inode a_directory h (λ k c. a_segment k) birth (File [] 1 0) path
plan_parts (op.Mkdir path) h birth when = made_asks IsPart an_inode a_directory h (λ k c. a_segment k) birth (Dir [] 0) path
plan_parts (op.Symlink path target) h birth when = made_asks IsPart an_inode a_directory h (λ k c. a_segment k) birth (Link target 1) path
plan_parts (op.Link path to) h birth when = linked_asks IsPart an_inode a_directory h (λ k c. a_segment k) path to
plan_parts (op.Unlink path) h birth when = unlinked_asks IsPart an_inode a_directory a_segment path
plan_parts (op.Rmdir path) h birth when = removed_asks IsPart an_inode a_directory a_segment path
plan_parts (op.Rename path to) h birth when = renamed_asks IsPart an_inode a_directory h (λ k c. a_segment k) a_segment path to
plan_parts (op.Write path off bytes) h birth when = write_parts h (record { off = off; len = length bytes; when = when; byte = λ j. slice_index bytes (j - off) }) path
plan_parts (op.Fill path off len value) h birth when = write_parts h (record { off = off; len = len; when = when; byte = λ j. value }) path
plan_parts (op.Truncate path len) h birth when = file_asks IsPart an_inode a_directory (cutting when len) (cutting_asks IsPart an_inode a_directory a_segment when len) path
plan_parts (op.Read path off len) h birth when = file_asks IsPart an_inode a_directory (showing off len) (showing_asks IsPart an_inode a_directory a_small a_large off len) path
plan_parts (op.Stat path) h birth when = described_asks IsPart an_inode a_directory path
plan_parts (op.List path) h birth when = listed_asks IsPart an_inode a_directory path
plan_parts (op.Readlink path) h birth when = target_asks IsPart an_inode a_directory path
plan_parts (op.Time path) h birth when = timed_asks IsPart an_inode a_directory path
plan_parts op.Sync h birth when = tt
plan_parts op.Mount h birth when = tt
plan_parts op.Unmount h birth when = tt
plan_parts op.Crash h birth when = tt
plan_parts (op.CrashAt k) h birth when = tt
plan_parts (op.CutAt k) h birth when = tt
plan_parts op.Stall h birth when = tt

step_parts : (h : Hand) (birth when : ℕ) (trail : List ℕ) (step : Step) → AsksOnly IsPart (plan_step h birth when trail step)
step_parts h birth when trail (Goes o) = asks_bind IsPart (plan_of h birth when o) (λ plan. Got (with_trail trail plan)) (plan_parts o h birth when) (λ plan. tt)
step_parts h birth when trail (Stops r) = tt

line_parts : (o : Op) (h : Hand) (birth when : ℕ) → AsksOnly IsPart (plan_of_line h birth when o)
line_parts o h birth when =
    asks_bind IsPart (resolved o) (λ w. plan_step h birth when w.trail w.step) (resolved_asks IsPart an_inode a_directory o) (λ w. step_parts h birth when w.trail w.step)

one_of : (P : Sector → Type 0) (xs : List Sector) (x : Sector) → AllByRecursion P xs → Contains xs x → P x
one_of P [] x a c = absurd (not_in_none x c)
one_of P (y ∷ xs) x a c = ⊎_elim (λ q. subst P q a.0) (λ i. one_of P xs x a.1 i) (has_cases y x xs c)

pub lines_look_at_parts : LooksAtParts plan_of_line
lines_look_at_parts o h s birth when x c = one_of IsPart (looks (plan_of_line h birth when o) s) x (asked IsPart (plan_of_line h birth when o) s (line_parts o h birth when)) c
