-- What a soak's script is: its first draws and lines from 7 on, and how many lines it has from anywhere.
use Rattle.std.proofs.Common.{codes, lit<, ◌≡◌, ℕ, [], ◌∷◌, length, length-append, refl}
use Rattle.std.proofs.lemmas.List.FromFn.{length-map-range_with_len}
use Rattle.frang_base.specs.declared.op.Op.TheVariants as op
use Rattle.frang_base.specs.declared.script.Line.{Line}
use Rattle.frang_soak.specs.Draws.{draw_at, state_after}
use Rattle.frang_soak.specs.Scripts.{drawn_line, in_directory, lines_at, server_line, soak_script}
use Rattle.frang_soak.proofs.Numbering.{one_digit, two_digits}

pub first_state : state_after 7 1 ≡ 9098160460397411210
unfolding state_after
first_state = refl

pub first_draw : draw_at 7 0 ≡ 1059165278
unfolding state_after
first_draw = refl

pub eighth_draw : draw_at 7 7 ≡ 691615764
unfolding state_after
eighth_draw = refl

-- 0 link /w0/f19 /w0/h19
pub line_10 : drawn_line 7 0 ≡ server_line 10 0 (op.Link (in_directory 0 102 19) (in_directory 0 104 19))
unfolding state_after
line_10 = refl

-- 1 sync
pub line_11 : drawn_line 7 1 ≡ server_line 11 1 op.Sync
unfolding state_after
line_11 = refl

-- 2 create /w2/f14
pub line_12 : drawn_line 7 2 ≡ server_line 12 2 (op.Create (in_directory 2 102 14))
unfolding state_after
line_12 = refl

-- 1 rename /w1/f32 /w1/g32
pub line_15 : drawn_line 7 5 ≡ server_line 15 1 (op.Rename (in_directory 1 102 32) (in_directory 1 103 32))
unfolding state_after
line_15 = refl

-- 3 fill /w3/f10 0 813 0a
pub line_17 : drawn_line 7 7 ≡ server_line 17 3 (op.Fill (in_directory 3 102 10) 0 813 10)
unfolding state_after
line_17 = refl

-- 2 truncate /w2/f3 0
pub line_24 : drawn_line 7 14 ≡ server_line 24 2 (op.Truncate (in_directory 2 102 3) 0)
unfolding state_after
line_24 = refl

-- /w3/f10
pub its_path : in_directory 3 102 10 ≡ codes "w3" ∷ codes "f10" ∷ []
its_path = rw (one_digit 3 (lit< tt), two_digits 10 (lit< tt) (lit< tt)) refl

length-lines_at : (line : ℕ → Line) (count : ℕ) → length (lines_at line count) ≡ count
unfolding lines_at
length-lines_at line count = length-map-range_with_len line 0 count

-- each has 4,014 lines
pub length-soak_script : (n : ℕ) → length (soak_script n) ≡ 4014
length-soak_script n = simp (length-append, length-lines_at)
