-- The text that prints a script.
use Rattle.std.specs.Prelude.{ℕ, ◌+◌, ◌-◌, List, [], ◌∷◌, ◌++◌, codes, replicate}
use Rattle.std.specs.Fmt.{decimal}
use Rattle.std.specs.List.{flat_map, join_with_byte}
use Rattle.frang_base.specs.declared.op.Op.{Op}
use Rattle.frang_base.specs.declared.op.Op.TheVariants as op
use Rattle.frang_base.specs.declared.op.HostOp.TheVariants as host
use Rattle.frang_base.specs.declared.op.What.{What}
use Rattle.frang_base.specs.declared.op.What.TheVariants.{Server, Host}
use Rattle.frang_base.specs.declared.script.Line.{Line}
use Rattle.tree_definitions.specs.SaidLines.{hex_byte}

-- a path: `/` alone, or `/` before each name
abbrev pub path_text : List (List ℕ) → List ℕ
path_text [] = 47 ∷ []
path_text (name ∷ names) = flat_map (λ n. 47 ∷ n) (name ∷ names)

-- the words of what a server is asked
abbrev pub op_words : Op → List (List ℕ)
op_words (op.Create path) = codes "create" ∷ path_text path ∷ []
op_words (op.Mkdir path) = codes "mkdir" ∷ path_text path ∷ []
op_words (op.Link path to) = codes "link" ∷ path_text path ∷ path_text to ∷ []
op_words (op.Symlink path target) = codes "symlink" ∷ path_text path ∷ target ∷ []
op_words (op.Unlink path) = codes "unlink" ∷ path_text path ∷ []
op_words (op.Rmdir path) = codes "rmdir" ∷ path_text path ∷ []
op_words (op.Rename path to) = codes "rename" ∷ path_text path ∷ path_text to ∷ []
op_words (op.Write path off bytes) = codes "write" ∷ path_text path ∷ decimal off ∷ bytes ∷ []
op_words (op.Fill path off len byte) = codes "fill" ∷ path_text path ∷ decimal off ∷ decimal len ∷ hex_byte byte ∷ []
op_words (op.Truncate path len) = codes "truncate" ∷ path_text path ∷ decimal len ∷ []
op_words (op.Read path off len) = codes "read" ∷ path_text path ∷ decimal off ∷ decimal len ∷ []
op_words (op.Stat path) = codes "stat" ∷ path_text path ∷ []
op_words (op.List path) = codes "list" ∷ path_text path ∷ []
op_words (op.Readlink path) = codes "readlink" ∷ path_text path ∷ []
op_words (op.Time path) = codes "time" ∷ path_text path ∷ []
op_words op.Sync = codes "sync" ∷ []
op_words op.Mount = codes "mount" ∷ []
op_words op.Unmount = codes "unmount" ∷ []
op_words op.Crash = codes "crash" ∷ []
op_words (op.CrashAt k) = codes "crash" ∷ decimal k ∷ []
op_words (op.CutAt k) = codes "cut" ∷ decimal k ∷ []
op_words op.Stall = codes "stall" ∷ []

-- the words of a line
abbrev pub line_words : ℕ → What → List (List ℕ)
line_words who (Server o) = decimal who ∷ op_words o
line_words who (Host host.Barrier) = codes "barrier" ∷ []
line_words who (Host (host.Tick n)) = codes "tick" ∷ decimal n ∷ []
line_words who (Host host.Halt) = codes "halt" ∷ []

-- a line: its words with single spaces between them
abbrev pub line_text : ℕ → What → List ℕ
line_text who what = join_with_byte 32 (line_words who what)

-- lines from a number on: empty ones up to each line's own number, and each with a line feed
abbrev pub printed_from : ℕ → List Line → List ℕ
printed_from number [] = []
printed_from number (line ∷ lines) = replicate (line.number - number) 10 ++ (line_text line.who.0 line.what ++ 10 ∷ printed_from (line.number + 1) lines)

-- a script
abbrev pub printed : List Line → List ℕ
printed script = printed_from 1 script
