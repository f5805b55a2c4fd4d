-- Frames: how records follow one another in packed sectors. A frame is an operation, the length of a record's body, and the body.
use Rattle.std.specs.Prelude.{ℕ, zero, suc, ◌+◌, ◌-◌, ◌&&◌, ◌==◌, if◌then◌else◌, nat_le, Option, Some, None, List, [], ◌++◌, length, option_and_then}
use Rattle.std.specs.List.{cons_option}
use Rattle.std.specs.Option.{option_map}
use Rattle.frang_base.specs.declared.limits.TheConstants.{RECORD_BYTES_MAX}
use Rattle.byteorder.specs.Endian.{little_bytes}
use Rattle.frang_base.specs.declared.change.Redo.{Redo}
use Rattle.disk_definitions.specs.Records.{Read, bytes_read, number_read, record_bytes, record_in}

-- the frame of a record
abbrev pub frame_bytes : Redo → List ℕ
frame_bytes redo = little_bytes 8 redo.op.0 ++ little_bytes 2 (length (record_bytes redo.changes)) ++ record_bytes redo.changes

-- an operation and the body of a record
abbrev pub Frame : Type 0
Frame = ℕ × List ℕ

-- the bytes of a frame before the body
abbrev pub frame_head : ℕ
frame_head = 10

-- the bytes of its frame
abbrev pub frame_length : Frame → ℕ
frame_length frame = frame_head + length frame.1

-- no frame has more
abbrev pub frame_most : ℕ
frame_most = frame_head + RECORD_BYTES_MAX

-- a body of so many bytes, 1 to 4,096
abbrev pub body_read : ℕ → List ℕ → Read (List ℕ)
body_read n bytes = if nat_le 1 n && nat_le n RECORD_BYTES_MAX then bytes_read n bytes else None

-- the first frame of these bytes, where they have a whole one
unfoldable pub frame_read : List ℕ → Read Frame
frame_read bytes =
    option_and_then (λ op. option_and_then (λ n. option_map (λ body. ((op.0, body.0), body.1)) (body_read n.0 n.1)) (number_read 2 op.1)) (number_read 8 bytes)

-- the record of a frame, where its body is that of one
abbrev pub framed_record : Frame → Option Redo
framed_record frame = option_map (λ changes. record { op = record { 0 = frame.0 }; changes = changes }) (record_in frame.1)

-- the record of the first frame, if it has one, and the others; none where there is no whole frame
abbrev pub next_frames : (ℕ → List ℕ → List Redo) → ℕ → Read Frame → List Redo
next_frames others left None = []
next_frames others left (Some (frame, rest)) = cons_option (framed_record frame) (others (left - frame_length frame) rest)

-- the records of the frames that begin among the first bytes, so many, one behind the other; at most n frames
abbrev pub frames_among : ℕ → ℕ → List ℕ → List Redo
frames_among zero left bytes = []
frames_among (suc n) left bytes = if left == 0 then [] else next_frames (frames_among n) left (frame_read bytes)
