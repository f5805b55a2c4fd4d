-- Said lines as texts: which lines can be said, and which line a text is.
use Rattle.std.specs.Prelude.{◌≡◌, ◌≤◌, ◌<◌, ◌^◌, ℕ, ◌+◌, ◌*◌, Bool, true, false, ◌-◌, ◌&&◌, ◌==◌, if◌then◌else◌, nat_lt, nat_le, ◌⊎◌, List, [], ◌∷◌, length, take, slice_index, codes, Option, Some, None, option_and_then, option_map, find, IsTrue}
use Rattle.std.specs.List.{list_all, slice_split}
use Rattle.std.specs.Str.{bytes_eq}
use Rattle.frang_base.specs.Name.{is_name, is_target}
use Rattle.frang_base.specs.declared.limits.TheConstants.{RUN_LINES_END}
use Rattle.frang_base.specs.declared.reply.Reply.{Reply}
use Rattle.frang_base.specs.declared.reply.Reply.TheVariants as reply
use Rattle.frang_base.specs.declared.said.Said.{Said}
use Rattle.frang_base.specs.declared.said.Said.TheVariants as said
use Rattle.frang_base.specs.declared.sector.ServerId.{ServerId}
use Rattle.frang_base.specs.declared.sector.OpNo.{OpNo}
use Rattle.tree_definitions.specs.SaidLines.{reply_word}
use Rattle.script_definitions.specs.Numerals.{number_in, count_at}

-- a server, 0 to 15, or the host
abbrev pub IsWho : ℕ → Type 0
IsWho server = (server ≤ 15) ⊎ (server ≡ 255)

-- `/` alone, or `/` before each of some names
abbrev pub is_path_text : List ℕ → Bool
is_path_text [] = false
is_path_text (b ∷ []) = b == 47
is_path_text (b ∷ c ∷ text) = b == 47 && list_all is_name (slice_split (λ d. d == 47) (c ∷ text))

-- what can stand in a reply
abbrev pub IsProperReply : Reply → Type 0
IsProperReply (reply.Shown bytes) = IsTrue (list_all (λ b. nat_lt b 256) bytes)
IsProperReply (reply.File size links) = (size < 2 ^ 32) × (links < 2 ^ 32)
IsProperReply (reply.Dir entries) = entries < 2 ^ 32
IsProperReply (reply.Symlink len) = len < 2 ^ 32
IsProperReply (reply.Names names) = IsTrue (list_all is_name names)
IsProperReply (reply.Target target) = IsTrue (is_target target)
IsProperReply (reply.Time run tick) = (run < 2 ^ 32) × (tick < 2 ^ 32)
IsProperReply (reply.NoBlock m) = m < 2 ^ 32
IsProperReply _ = Unit {0}

-- a file with its links, a directory or a symbolic link
abbrev pub IsNodeKind : ℕ → ℕ → Type 0
IsNodeKind kind links = ((kind ≡ 1) × (links < 2 ^ 32)) ⊎ (((kind ≡ 2) ⊎ (kind ≡ 3)) × (links ≡ 0))

-- what can stand in a line; a report line is none
abbrev pub IsProperSaid : Said → Type 0
IsProperSaid (said.Answer server line r) = IsWho server.0 × (line < 2 ^ 32) × IsProperReply r
IsProperSaid (said.Dead server) = server.0 ≤ 15
IsProperSaid (said.Recovering server by) = (server.0 ≤ 15) × IsWho by.0
IsProperSaid (said.Recovered server keeps) = (server.0 ≤ 255) × (keeps.0 < 2 ^ 64)
IsProperSaid (said.Renewed server) = server.0 ≤ 15
IsProperSaid (said.Node path kind size links) = IsTrue (is_path_text path) × IsNodeKind kind links × (size < 2 ^ 32)
IsProperSaid (said.Redo op) = op.0 < 2 ^ 64
IsProperSaid (said.Backup line) = line < 2 ^ 32
IsProperSaid (said.Locks line) = line < 2 ^ 32
IsProperSaid (said.Shown text) = ⊥
IsProperSaid said.End = Unit {0}

-- the parts of a text between its blanks
abbrev pub parts_of : List ℕ → List (List ℕ)
parts_of text = slice_split (λ b. b == 32) text

-- the part that is left alone
abbrev pub sole_part : List (List ℕ) → Option (List ℕ)
sole_part [] = None
sole_part (part ∷ []) = Some part
sole_part (part ∷ next ∷ parts) = None

-- what the one part that is left says
abbrev pub sole : {A : Type 0} → (List ℕ → Option A) → List (List ℕ) → Option A
sole read parts = option_and_then read (sole_part parts)

-- what a part says with those behind it
abbrev pub first_of_parts : {A : Type 0} → (List ℕ → List (List ℕ) → Option A) → List (List ℕ) → Option A
first_of_parts read [] = None
first_of_parts read (part ∷ parts) = read part parts

-- no part is left
abbrev pub is_end : List (List ℕ) → Bool
is_end [] = true
is_end (part ∷ parts) = false

-- this value, where no part is left
abbrev pub at_end : {A : Type 0} → Option A → List (List ℕ) → Option A
at_end value parts = if is_end parts then value else None

-- a server, 0 to 15
abbrev pub server_at : List ℕ → Option ServerId
server_at part = option_map (λ n. record { 0 = n }) (number_in 0 15 part)

-- a server, or `-` for the host
abbrev pub who_at : List ℕ → Option ServerId
who_at part = if bytes_eq part (codes "-") then Some (record { 0 = 255 }) else server_at part

-- a log, 0 to 255
abbrev pub log_at : List ℕ → Option ServerId
log_at part = option_map (λ n. record { 0 = n }) (number_in 0 255 part)

-- two counts
abbrev pub two_counts : List (List ℕ) → Option (ℕ × ℕ)
two_counts [] = None
two_counts (part ∷ parts) = option_and_then (λ m. option_map (λ n. (m, n)) (sole count_at parts)) (count_at part)

-- two counts with a dot between them
abbrev pub point_at : List ℕ → Option (ℕ × ℕ)
point_at part = two_counts (slice_split (λ b. b == 46) part)

-- an operation number, by its run and its line
abbrev pub op_at : List ℕ → Option OpNo
op_at part = option_map (λ p. record { 0 = p.0 * RUN_LINES_END + p.1 }) (point_at part)

-- a lower-case hexadecimal digit
abbrev pub hex_value : ℕ → Option ℕ
hex_value b =
    if nat_le 48 b && nat_le b 57 then Some (b - 48)
    else (if nat_le 97 b && nat_le b 102 then Some (b - 87) else None)

-- a byte by two such digits
abbrev pub byte_at : ℕ → ℕ → Option ℕ
byte_at high low = option_and_then (λ h. option_map (λ l. h * 16 + l) (hex_value low)) (hex_value high)

-- bytes by two digits each
abbrev pub hex_bytes : List ℕ → Option (List ℕ)
hex_bytes [] = Some []
hex_bytes (high ∷ []) = None
hex_bytes (high ∷ low ∷ digits) = option_and_then (λ b. option_map (λ bytes. b ∷ bytes) (hex_bytes digits)) (byte_at high low)

-- one byte or more
abbrev pub some_bytes : List ℕ → Option (List ℕ)
some_bytes part = if length part == 0 then None else hex_bytes part

-- the bytes that are shown: none, or those of one part
abbrev pub shown_of : List (List ℕ) → Option (List ℕ)
shown_of parts = if is_end parts then Some [] else sole some_bytes parts

-- names, all that are left
abbrev pub names_of : List (List ℕ) → Option (List (List ℕ))
names_of parts = if list_all is_name parts then Some parts else None

-- a target
abbrev pub target_at : List ℕ → Option (List ℕ)
target_at part = if is_target part then Some part else None

-- replies of one word: on the state of a server
abbrev pub state_replies : List Reply
state_replies = reply.Ok ∷ reply.Mounted ∷ reply.Down ∷ reply.Expired ∷ reply.Io ∷ reply.Already ∷ []

-- on what stands at a path
abbrev pub place_replies : List Reply
place_replies = reply.Exist ∷ reply.NoEnt ∷ reply.NotDir ∷ reply.IsDir ∷ reply.NotEmpty ∷ reply.Loop ∷ []

-- on what isn't possible or within a limit
abbrev pub limit_replies : List Reply
limit_replies = reply.Inval ∷ reply.MLink ∷ reply.DirFull ∷ reply.BadOffset ∷ reply.TooBig ∷ []

-- the one of these replies that has this word
abbrev pub reply_among : List Reply → List ℕ → Option Reply
reply_among replies part = find (λ r. bytes_eq part (reply_word r)) replies

-- the first of two that is there
abbrev pub first_some : {A : Type 0} → Option A → Option A → Option A
first_some None other = other
first_some (Some x) other = Some x

-- the reply of this word
abbrev pub plain_at : List ℕ → Option Reply
plain_at part = first_some (reply_among state_replies part) (first_some (reply_among place_replies part) (reply_among limit_replies part))

-- what there is no space for
abbrev pub full_at : List ℕ → Option Reply
full_at part =
    if bytes_eq part (codes "inode") then Some reply.NoInode
    else (if bytes_eq part (codes "dir") then Some reply.NoDirBlock
    else (if bytes_eq part (codes "large") then Some reply.NoLarge else None))

-- after `nospace`
abbrev pub nospace_of : List ℕ → List (List ℕ) → Option Reply
nospace_of part parts = if bytes_eq part (codes "data") then option_map reply.NoBlock (sole count_at parts) else at_end (full_at part) parts

-- a reply with numbers, or of one word
abbrev pub short_reply_from : List ℕ → List (List ℕ) → Option Reply
short_reply_from part parts =
    if bytes_eq part (codes "file") then option_map (λ p. reply.File p.0 p.1) (two_counts parts)
    else (if bytes_eq part (codes "dir") then option_map reply.Dir (sole count_at parts)
    else (if bytes_eq part (codes "link") then option_map reply.Symlink (sole count_at parts)
    else (if bytes_eq part (codes "time") then option_map (λ p. reply.Time p.0 p.1) (sole point_at parts)
    else (if bytes_eq part (codes "nospace") then first_of_parts nospace_of parts
    else at_end (plain_at part) parts))))

-- a reply by its first word
abbrev pub reply_from : List ℕ → List (List ℕ) → Option Reply
reply_from part parts =
    if bytes_eq part (codes "data") then option_map reply.Shown (shown_of parts)
    else (if bytes_eq part (codes "names") then option_map reply.Names (names_of parts)
    else (if bytes_eq part (codes "target") then option_map reply.Target (sole target_at parts)
    else short_reply_from part parts))

-- a reply
abbrev pub reply_of : List (List ℕ) → Option Reply
reply_of parts = first_of_parts reply_from parts

-- after the number of a line: who was asked, and the reply
abbrev pub answer_of : ℕ → List (List ℕ) → Option Said
answer_of line [] = None
answer_of line (part ∷ parts) = option_and_then (λ who. option_map (λ r. said.Answer who line r) (reply_of parts)) (who_at part)

-- after the server that is recovered: by whom
abbrev pub by_of : List (List ℕ) → Option ServerId
by_of [] = None
by_of (part ∷ parts) = if bytes_eq part (codes "by") then sole who_at parts else None

-- after `recovering`
abbrev pub recovering_of : List (List ℕ) → Option Said
recovering_of [] = None
recovering_of (part ∷ parts) = option_and_then (λ server. option_map (λ by. said.Recovering server by) (by_of parts)) (server_at part)

-- after the log that is recovered: what it kept
abbrev pub keeps_of : List (List ℕ) → Option OpNo
keeps_of [] = None
keeps_of (part ∷ parts) = if bytes_eq part (codes "keeps") then sole op_at parts else None

-- after `recovered`
abbrev pub recovered_of : List (List ℕ) → Option Said
recovered_of [] = None
recovered_of (part ∷ parts) = option_and_then (λ log. option_map (λ op. said.Recovered log op) (keeps_of parts)) (log_at part)

-- after `!`
abbrev pub note_from : List ℕ → List (List ℕ) → Option Said
note_from part parts =
    if bytes_eq part (codes "dead") then option_map said.Dead (sole server_at parts)
    else (if bytes_eq part (codes "recovering") then recovering_of parts
    else (if bytes_eq part (codes "recovered") then recovered_of parts
    else (if bytes_eq part (codes "renewed") then option_map said.Renewed (sole server_at parts)
    else (if bytes_eq part (codes "backup") then option_map said.Backup (sole count_at parts)
    else (if bytes_eq part (codes "locks") then option_map said.Locks (sole count_at parts)
    else (if bytes_eq part (codes "end") then at_end (Some said.End) parts
    else None))))))

-- the kind of a node with its size and links: a file, a directory or a link
abbrev pub kind_from : List ℕ → List (List ℕ) → Option (ℕ × ℕ × ℕ)
kind_from part parts =
    if bytes_eq part (codes "file") then option_map (λ p. (1, p.0, p.1)) (two_counts parts)
    else (if bytes_eq part (codes "dir") then option_map (λ n. (2, n, 0)) (sole count_at parts)
    else (if bytes_eq part (codes "link") then option_map (λ n. (3, n, 0)) (sole count_at parts)
    else None))

-- after `=`
abbrev pub node_from : List ℕ → List (List ℕ) → Option Said
node_from path parts = if is_path_text path then option_map (λ k. said.Node path k.0 k.1 k.2) (first_of_parts kind_from parts) else None

-- a line by its first part
abbrev pub said_from : List ℕ → List (List ℕ) → Option Said
said_from part parts =
    if bytes_eq part (codes "!") then first_of_parts note_from parts
    else (if bytes_eq part (codes "=") then first_of_parts node_from parts
    else (if bytes_eq part (codes "#") then option_map said.Redo (sole op_at parts)
    else option_and_then (λ line. answer_of line parts) (count_at part)))

-- the line that a text without its line feed is
abbrev pub said_in : List ℕ → Option Said
said_in text = first_of_parts said_from (parts_of text)

-- a text without the line feed at its end
abbrev pub without_feed : List ℕ → Option (List ℕ)
without_feed bytes = if slice_index bytes (length bytes - 1) == 10 then Some (take (length bytes - 1) bytes) else None

-- the line that these bytes are
abbrev pub said_of : List ℕ → Option Said
said_of bytes = option_and_then said_in (without_feed bytes)
