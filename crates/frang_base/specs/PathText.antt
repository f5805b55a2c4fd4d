-- The text of a path: `/` alone, or `/` before each name.
use Rattle.std.specs.Prelude.{◌≡◌, ℕ, ◌+◌, Bool, true, false, not, ◌&&◌, ◌||◌, ◌==◌, if◌then◌else◌, nat_lt, List, [], ◌∷◌, length, Option, Some, None, Result, Ok, Err}
use Rattle.std.specs.List.{list_all, slice_split}
use Rattle.frang_base.specs.Name.{is_dots, is_name_byte}
use Rattle.frang_base.specs.declared.limits.TheConstants.{NAME_BYTES_MAX, PATH_BYTES_MAX, PATH_NAMES_MAX}
use Rattle.frang_base.specs.declared.fault.PathFault.{PathFault}
use Rattle.frang_base.specs.declared.fault.PathFault.TheVariants as fault

-- a text is cut at each such byte; where no text is left, there are no parts
abbrev pub parts_left : ℕ → Option (List ℕ) → List (List ℕ)
parts_left separator None = []
parts_left separator (Some text) = slice_split (λ b. b == separator) text

-- a name, if it is preceded by fewer than 32: not empty, without a forbidden byte, not `.` or `..`, of at most 64 bytes
abbrev pub name_fault : ℕ → List ℕ → Option PathFault
name_fault before name =
    if not (nat_lt before PATH_NAMES_MAX) then Some fault.TooDeep
    else (if (length name == 0) || not (list_all is_name_byte name) || is_dots name then Some fault.BadName
    else (if nat_lt NAME_BYTES_MAX (length name) then Some fault.TooLong else None))

-- a name before the others
abbrev pub with_name : List ℕ → Result (List (List ℕ)) PathFault → Result (List (List ℕ)) PathFault
with_name name (Ok names) = Ok (name ∷ names)
with_name name (Err f) = Err f

-- the first fault of a name, or the names that follow
abbrev pub unless_fault : Option PathFault → Result (List (List ℕ)) PathFault → Result (List (List ℕ)) PathFault
unless_fault None rest = rest
unless_fault (Some f) rest = Err f

-- the names from the left, or the first fault; so many names stand before
abbrev pub names_from : ℕ → List (List ℕ) → Result (List (List ℕ)) PathFault
names_from before [] = Ok []
names_from before (name ∷ names) = unless_fault (name_fault before name) (with_name name (names_from (before + 1) names))

-- the names after the first `/`: none at the root
abbrev pub names_below_root : List ℕ → Result (List (List ℕ)) PathFault
names_below_root [] = Ok []
names_below_root (b ∷ text) = names_from 0 (slice_split (λ c. c == 47) (b ∷ text))

-- the names of a text that begins with `/`
abbrev pub names_from_root : List ℕ → Result (List (List ℕ)) PathFault
names_from_root [] = Err fault.BadName
names_from_root (b ∷ text) = if b == 47 then names_below_root text else Err fault.BadName

-- the path of a text of at most 1,024 bytes, or its first fault
abbrev pub path_of : List ℕ → Result (List (List ℕ)) PathFault
path_of text = if nat_lt PATH_BYTES_MAX (length text) then Err fault.TooLong else names_from_root text

-- what a reader of paths answers, unless memory is short
abbrev pub IsPathAnswer : Result (List (List ℕ)) PathFault → Result (List (List ℕ)) PathFault → Type 0
IsPathAnswer path (Err fault.NoMemory) = Unit {0}
IsPathAnswer path answer = path ≡ answer
