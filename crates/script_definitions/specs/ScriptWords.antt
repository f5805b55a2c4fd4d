-- The words of a line, and what they ask.
use Rattle.std.specs.Prelude.{ℕ, ◌+◌, ◌-◌, ◌*◌, Bool, true, false, ◌&&◌, ◌||◌, ◌==◌, if◌then◌else◌, nat_lt, nat_le, List, [], ◌∷◌, length, codes, filter, find, Option, Some, None, Result, Ok, Err}
use Rattle.std.specs.List.{list_all, slice_split}
use Rattle.std.specs.Str.{bytes_eq}
use Rattle.frang_base.specs.declared.limits.TheConstants.{FILE_BYTES_MAX, LINE_TICKS_MAX, READ_BYTES_MAX, TARGET_BYTES_MAX, WRITE_BYTES_MAX}
use Rattle.frang_base.specs.PathText.{path_of}
use Rattle.frang_base.specs.declared.fault.PathFault.{PathFault}
use Rattle.frang_base.specs.declared.op.Op.{Op}
use Rattle.frang_base.specs.declared.op.Op.TheVariants as op
use Rattle.frang_base.specs.declared.op.HostOp.{HostOp}
use Rattle.frang_base.specs.declared.op.HostOp.TheVariants as host
use Rattle.frang_base.specs.declared.op.What.TheVariants.{Server, Host}
use Rattle.frang_base.specs.declared.sector.ServerId.{ServerId}
use Rattle.script_definitions.specs.Numerals.{is_digit, number_in}
use Rattle.script_definitions.specs.ScriptFaults.{◌>>=◌}
use Rattle.script_definitions.specs.declared.asked.Asked.{Asked}
use Rattle.script_definitions.specs.declared.fault.LineFault.{LineFault}
use Rattle.script_definitions.specs.declared.fault.LineFault.TheVariants as fault
use Rattle.script_definitions.specs.declared.word.ServerWord.{ServerWord}
use Rattle.script_definitions.specs.declared.word.ServerWord.TheVariants as word

-- a space or a tab
abbrev pub is_blank : ℕ → Bool
is_blank b = b == 32 || b == 9

abbrev pub is_some_word : List ℕ → Bool
is_some_word [] = false
is_some_word (b ∷ word) = true

-- the words of a line: what stands between blanks and isn't empty
abbrev pub words_of : List ℕ → List (List ℕ)
words_of line = filter is_some_word (slice_split is_blank line)

-- exactly so many words
abbrev pub no_words : List (List ℕ) → Result (Unit {0}) LineFault
no_words [] = Ok tt
no_words (a ∷ words) = Err fault.ExtraWord

abbrev pub one_word : List (List ℕ) → Result (List ℕ) LineFault
one_word [] = Err fault.MissingWord
one_word (a ∷ []) = Ok a
one_word (a ∷ b ∷ words) = Err fault.ExtraWord

abbrev pub two_words : List (List ℕ) → Result (List ℕ × List ℕ) LineFault
two_words [] = Err fault.MissingWord
two_words (a ∷ words) = one_word words >>= λ b. Ok (a, b)

abbrev pub three_words : List (List ℕ) → Result (List ℕ × List ℕ × List ℕ) LineFault
three_words [] = Err fault.MissingWord
three_words (a ∷ words) = two_words words >>= λ w. Ok (a, w.0, w.1)

abbrev pub four_words : List (List ℕ) → Result (List ℕ × List ℕ × List ℕ × List ℕ) LineFault
four_words [] = Err fault.MissingWord
four_words (a ∷ words) = three_words words >>= λ w. Ok (a, w.0, w.1, w.2)

-- this value, or the fault where there is none
abbrev pub or_fault : {A : Type 0} → LineFault → Option A → Result A LineFault
or_fault f None = Err f
or_fault f (Some x) = Ok x

-- the path of a word
abbrev pub path_or_fault : Result (List (List ℕ)) PathFault → Result (List (List ℕ)) LineFault
path_or_fault (Ok names) = Ok names
path_or_fault (Err f) = Err fault.BadPath

abbrev pub path_at : List ℕ → Result (List (List ℕ)) LineFault
path_at word = path_or_fault (path_of word)

-- a number from low to high
abbrev pub number_at : ℕ → ℕ → List ℕ → Result ℕ LineFault
number_at low high word = or_fault fault.BadNumber (number_in low high word)

-- an offset or a length, which has 32 bits
abbrev pub offset_at : List ℕ → Result ℕ LineFault
offset_at word = number_at 0 4294967295 word

-- a text of at most so many bytes
abbrev pub text_at : ℕ → List ℕ → Result (List ℕ) LineFault
text_at most word = if nat_lt most (length word) then Err fault.TextTooLong else Ok word

-- a hexadecimal digit of either case
abbrev pub digit_value : ℕ → Option ℕ
digit_value b =
    if nat_le 48 b && nat_le b 57 then Some (b - 48)
    else (if nat_le 97 b && nat_le b 102 then Some (b - 87)
    else (if nat_le 65 b && nat_le b 70 then Some (b - 55) else None))

-- a byte by two such digits
abbrev pub byte_at : List ℕ → Result ℕ LineFault
byte_at [] = Err fault.BadNumber
byte_at (high ∷ []) = Err fault.BadNumber
byte_at (high ∷ low ∷ []) = do
  h ← or_fault fault.BadNumber (digit_value high)
  l ← or_fault fault.BadNumber (digit_value low)
  Ok (h * 16 + l)
byte_at (high ∷ low ∷ more ∷ digits) = Err fault.BadNumber

-- the text of a server's word
abbrev pub word_text : ServerWord → List ℕ
word_text word.Create = codes "create"
word_text word.Mkdir = codes "mkdir"
word_text word.Unlink = codes "unlink"
word_text word.Rmdir = codes "rmdir"
word_text word.Stat = codes "stat"
word_text word.List = codes "list"
word_text word.Readlink = codes "readlink"
word_text word.Time = codes "time"
word_text word.Link = codes "link"
word_text word.Rename = codes "rename"
word_text word.Symlink = codes "symlink"
word_text word.Write = codes "write"
word_text word.Fill = codes "fill"
word_text word.Truncate = codes "truncate"
word_text word.Read = codes "read"
word_text word.Sync = codes "sync"
word_text word.Mount = codes "mount"
word_text word.Unmount = codes "unmount"
word_text word.Crash = codes "crash"
word_text word.Cut = codes "cut"
word_text word.Stall = codes "stall"

-- the words that a path follows alone
abbrev pub path_words : List ServerWord
path_words = word.Create ∷ word.Mkdir ∷ word.Unlink ∷ word.Rmdir ∷ word.Stat ∷ word.List ∷ word.Readlink ∷ word.Time ∷ []

-- the words that a path and more follow
abbrev pub longer_words : List ServerWord
longer_words = word.Link ∷ word.Rename ∷ word.Symlink ∷ word.Write ∷ word.Fill ∷ word.Truncate ∷ word.Read ∷ []

-- the words that no path follows
abbrev pub bare_words : List ServerWord
bare_words = word.Sync ∷ word.Mount ∷ word.Unmount ∷ word.Crash ∷ word.Cut ∷ word.Stall ∷ []

-- the one of these words that has this text
abbrev pub word_among : List ServerWord → List ℕ → Option ServerWord
word_among words text = find (λ w. bytes_eq text (word_text w)) words

-- the first of two that is there
abbrev pub first_word : Option ServerWord → Option ServerWord → Option ServerWord
first_word None other = other
first_word (Some w) other = Some w

-- the server's word of this text
abbrev pub server_word : List ℕ → Option ServerWord
server_word text = first_word (word_among path_words text) (first_word (word_among longer_words text) (word_among bare_words text))

-- one path
abbrev pub path_alone : List (List ℕ) → Result (List (List ℕ)) LineFault
path_alone words = one_word words >>= path_at

-- two paths
abbrev pub paths : List (List ℕ) → Result (List (List ℕ) × List (List ℕ)) LineFault
paths words = do
  w ← two_words words
  path ← path_at w.0
  to ← path_at w.1
  Ok (path, to)

unfoldable pub symlink_of : List (List ℕ) → Result Op LineFault
symlink_of words = do
  w ← two_words words
  path ← path_at w.0
  target ← text_at TARGET_BYTES_MAX w.1
  Ok (op.Symlink path target)

unfoldable pub write_of : List (List ℕ) → Result Op LineFault
write_of words = do
  w ← three_words words
  path ← path_at w.0
  off ← offset_at w.1
  text ← text_at WRITE_BYTES_MAX w.2
  Ok (op.Write path off text)

unfoldable pub fill_of : List (List ℕ) → Result Op LineFault
fill_of words = do
  w ← four_words words
  path ← path_at w.0
  off ← offset_at w.1
  len ← number_at 1 FILE_BYTES_MAX w.2
  byte ← byte_at w.3
  Ok (op.Fill path off len byte)

unfoldable pub truncate_of : List (List ℕ) → Result Op LineFault
truncate_of words = do
  w ← two_words words
  path ← path_at w.0
  len ← offset_at w.1
  Ok (op.Truncate path len)

unfoldable pub read_of : List (List ℕ) → Result Op LineFault
read_of words = do
  w ← three_words words
  path ← path_at w.0
  off ← offset_at w.1
  len ← number_at 1 READ_BYTES_MAX w.2
  Ok (op.Read path off len)

-- a count of writes, 1 to 1,000,000
abbrev pub writes_of : List (List ℕ) → Result ℕ LineFault
writes_of words = one_word words >>= number_at 1 1000000

-- a crash at once, or at a write
abbrev pub crash_of : List (List ℕ) → Result Op LineFault
crash_of [] = Ok op.Crash
crash_of (k ∷ words) = writes_of (k ∷ words) >>= λ n. Ok (op.CrashAt n)

-- what a word asks with those that follow it
abbrev pub op_with : ServerWord → List (List ℕ) → Result Op LineFault
op_with word.Create words = path_alone words >>= λ path. Ok (op.Create path)
op_with word.Mkdir words = path_alone words >>= λ path. Ok (op.Mkdir path)
op_with word.Unlink words = path_alone words >>= λ path. Ok (op.Unlink path)
op_with word.Rmdir words = path_alone words >>= λ path. Ok (op.Rmdir path)
op_with word.Stat words = path_alone words >>= λ path. Ok (op.Stat path)
op_with word.List words = path_alone words >>= λ path. Ok (op.List path)
op_with word.Readlink words = path_alone words >>= λ path. Ok (op.Readlink path)
op_with word.Time words = path_alone words >>= λ path. Ok (op.Time path)
op_with word.Link words = paths words >>= λ p. Ok (op.Link p.0 p.1)
op_with word.Rename words = paths words >>= λ p. Ok (op.Rename p.0 p.1)
op_with word.Symlink words = symlink_of words
op_with word.Write words = write_of words
op_with word.Fill words = fill_of words
op_with word.Truncate words = truncate_of words
op_with word.Read words = read_of words
op_with word.Sync words = no_words words >>= λ u. Ok op.Sync
op_with word.Mount words = no_words words >>= λ u. Ok op.Mount
op_with word.Unmount words = no_words words >>= λ u. Ok op.Unmount
op_with word.Crash words = crash_of words
op_with word.Cut words = writes_of words >>= λ k. Ok (op.CutAt k)
op_with word.Stall words = no_words words >>= λ u. Ok op.Stall

-- what a server is asked
abbrev pub op_of : List (List ℕ) → Result Op LineFault
op_of [] = Err fault.MissingWord
op_of (text ∷ words) = or_fault fault.UnknownWord (server_word text) >>= λ w. op_with w words

-- what the host is asked
abbrev pub host_op_of : List ℕ → List (List ℕ) → Result HostOp LineFault
host_op_of text words =
    if bytes_eq text (codes "barrier") then (no_words words >>= λ u. Ok host.Barrier)
    else (if bytes_eq text (codes "halt") then (no_words words >>= λ u. Ok host.Halt)
    else (if bytes_eq text (codes "tick") then (one_word words >>= number_at 1 LINE_TICKS_MAX >>= λ n. Ok (host.Tick n))
    else Err fault.UnknownWord))

-- the server that a word of digits names
abbrev pub server_of : List ℕ → Result ServerId LineFault
server_of text = or_fault fault.BadServer (number_in 0 15 text) >>= λ s. Ok (record { 0 = s })

-- a line of a server, by the word that names it
abbrev pub server_line : List ℕ → List (List ℕ) → Result Asked LineFault
server_line text words = do
  who ← server_of text
  o ← op_of words
  Ok (record { who = who; what = Server o })

-- a line of the host
abbrev pub host_line : List ℕ → List (List ℕ) → Result Asked LineFault
host_line text words = host_op_of text words >>= λ o. Ok (record { who = record { 0 = 255 }; what = Host o })

-- what a line's words ask, or their first fault
abbrev pub asked_of : List (List ℕ) → Result Asked LineFault
asked_of [] = Err fault.MissingWord
asked_of (text ∷ words) = if list_all is_digit text then server_line text words else host_line text words
