-- The script of a soak: four servers, each in a directory of its own, and 4,000 lines by draws.
use Rattle.std.specs.Prelude.{ℕ, ◌+◌, ◌/◌, ◌%◌, ◌==◌, ◌||◌, if◌then◌else◌, List, [], ◌∷◌, ◌++◌, map}
use Rattle.std.specs.Fmt.{decimal}
use Rattle.std.specs.List.{range_with_len}
use Rattle.frang_base.specs.declared.op.HostOp.{HostOp}
use Rattle.frang_base.specs.declared.op.HostOp.TheVariants as host
use Rattle.frang_base.specs.declared.op.Op.{Op}
use Rattle.frang_base.specs.declared.op.Op.TheVariants as op
use Rattle.frang_base.specs.declared.op.What.TheVariants as what
use Rattle.frang_base.specs.declared.script.Line.{Line}
use Rattle.frang_soak.specs.Draws.{draw_at}

-- a letter, and a number in decimal digits
abbrev pub numbered : ℕ → ℕ → List ℕ
numbered letter number = letter ∷ decimal number

-- the directory of a server: `/w` and its number
abbrev pub directory : ℕ → List (List ℕ)
directory server = numbered 119 server ∷ []

-- a file in it: a letter and the file's number
abbrev pub in_directory : ℕ → ℕ → ℕ → List (List ℕ)
in_directory server letter file = numbered 119 server ∷ numbered letter file ∷ []

-- the number of the file that a draw names
abbrev pub file_of : ℕ → ℕ
file_of draw = draw / 8 % 40

-- the bytes that a draw lets a `fill` write
abbrev pub fill_bytes : ℕ → ℕ
fill_bytes draw = 1 + draw / 512 % 9000

-- the operation of each kind, 0 to 7, of a server, on a file; `f`, `g` and `h` are the letters of its names
abbrev pub op_of_kind : ℕ → ℕ → ℕ → ℕ → Op
op_of_kind kind server file bytes =
    if kind == 0 || kind == 1 then op.Create (in_directory server 102 file)
    else (if kind == 2 then op.Unlink (in_directory server 102 file)
    else (if kind == 3 then op.Rename (in_directory server 102 file) (in_directory server 103 file)
    else (if kind == 4 then op.Fill (in_directory server 102 file) 0 bytes file
    else (if kind == 5 then op.Truncate (in_directory server 102 file) 0
    else (if kind == 6 then op.Link (in_directory server 102 file) (in_directory server 104 file)
    else op.Sync)))))

-- the operation that a draw gives a server
abbrev pub drawn_op : ℕ → ℕ → Op
drawn_op server draw = op_of_kind (draw % 8) server (file_of draw) (fill_bytes draw)

-- a line of a server, and one of the host
abbrev pub server_line : ℕ → ℕ → Op → Line
server_line number server op = record { number = number; who = record { 0 = server }; what = what.Server op }

abbrev pub host_line : ℕ → HostOp → Line
host_line number op = record { number = number; who = record { 0 = 255 }; what = what.Host op }

-- a line for each of so many places
unfoldable pub lines_at : (ℕ → Line) → ℕ → List Line
lines_at line count = map line (range_with_len 0 count)

abbrev pub mount_line : ℕ → Line
mount_line server = server_line (1 + server) server op.Mount

abbrev pub mkdir_line : ℕ → Line
mkdir_line server = server_line (5 + server) server (op.Mkdir (directory server))

-- the line by the draw at a place
abbrev pub drawn_line : ℕ → ℕ → Line
drawn_line n place = server_line (10 + place) (place % 4) (drawn_op (place % 4) (draw_at n place))

abbrev pub unmount_line : ℕ → Line
unmount_line server = server_line (4011 + server) server op.Unmount

-- each server mounts, then makes its directory
abbrev pub opening_lines : List Line
opening_lines = lines_at mount_line 4 ++ (lines_at mkdir_line 4 ++ host_line 9 host.Barrier ∷ [])

-- so many lines by draws
abbrev pub drawn_lines : ℕ → ℕ → List Line
drawn_lines n count = lines_at (drawn_line n) count

-- each server unmounts
abbrev pub closing_lines : List Line
closing_lines = host_line 4010 host.Barrier ∷ lines_at unmount_line 4

-- the lines of the script that begins with this state
abbrev pub soak_script : ℕ → List Line
soak_script n = opening_lines ++ (drawn_lines n 4000 ++ closing_lines)
