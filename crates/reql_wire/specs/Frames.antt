-- Frames: a query token and a body's length in front of a body, numbers little endian (RethinkDB's
-- guide on writing drivers, serialization).
use Rattle.std.specs.Prelude.{◌≡◌, ℕ, ◌+◌, ◌<◌, ◌≤◌, ◌^◌, nat_lt, if◌then◌else◌, Bool, true, false, List, ◌++◌, length, take, drop, get_or}
use Rattle.std.specs.List.{AllByRecursion, flat_map}
use Rattle.byteorder.specs.Endian.{little_bytes, little_number}
use Rattle.reql_wire.specs.declared.frame.Frame.{Frame}

-- eight bytes of token and four of the body's length (the same guide)
unfoldable pub header : ℕ → ℕ → List ℕ
header token len = little_bytes 8 token ++ little_bytes 4 len

-- a frame as bytes
abbrev pub spelling : Frame → List ℕ
spelling frame = header frame.token (length frame.body) ++ frame.body

abbrev pub spellings : List Frame → List ℕ
spellings frames = flat_map spelling frames

-- a frame whose body is within the limit
pub record Fits (limit : ℕ) (frame : Frame) : Type 0 where
  pub token : frame.token < 2 ^ 64
  pub body : length frame.body ≤ limit

-- no prefix of these bytes is a spelling of a frame within the limit
abbrev pub NoFrame : ℕ → List ℕ → Type 0
NoFrame limit bytes =
    (frame : Frame) (rest : List ℕ) → Fits limit frame → bytes ≡ spelling frame ++ rest → ⊥

-- these bytes are these frames, and then a rest that begins no further one
pub record Frames (limit : ℕ) (bytes : List ℕ) (list : List Frame) (rest : List ℕ) : Type 0 where
  pub each : AllByRecursion (Fits limit) list
  pub joined : bytes ≡ spellings list ++ rest
  pub no_more : NoFrame limit rest

-- frames within the limit begin with these others, and the rest of their bytes are those of the frames that are left
pub record BeginsWith (limit : ℕ) (list first_ones : List Frame) (rest : List ℕ) : Type 0 where
  pub left : List Frame
  pub each : AllByRecursion (Fits limit) left
  pub first : list ≡ first_ones ++ left
  pub spelled : rest ≡ spellings left

abbrev pub length_of : List ℕ → ℕ
length_of bytes = little_number 4 (drop 8 bytes)

abbrev pub token_of : List ℕ → ℕ
token_of bytes = little_number 8 bytes

-- a header stands here whose length is above the limit
pub record Over (limit : ℕ) (bytes : List ℕ) (len : ℕ) : Type 0 where
  pub room : 12 ≤ length bytes
  pub field : length_of bytes ≡ len
  pub above : limit < len

-- what stands at the front of some bytes: too little, a frame and what is after it, or a header
-- whose length is above the limit
pub data Front : Type 0 where
  More : Front
  Whole : Frame → List ℕ → Front
  TooLong : ℕ → Front

unfoldable pub front : ℕ → List ℕ → Front
front limit bytes =
    if nat_lt (length bytes) 12 then More
    else if nat_lt limit (length_of bytes) then TooLong (length_of bytes)
    else if nat_lt (length bytes) (12 + length_of bytes) then More
    else Whole
    (record { token = token_of bytes; body = take (length_of bytes) (drop 12 bytes) })
    (drop (12 + length_of bytes) bytes)

-- a whole frame stands at the front of these bytes
abbrev pub is_whole : Front → Bool
is_whole More = false
is_whole (Whole frame rest) = true
is_whole (TooLong len) = false

abbrev pub HoldsFrame : ℕ → List ℕ → Type 0
HoldsFrame limit bytes = is_whole (front limit bytes) ≡ true

-- numbers that a byte can hold
abbrev pub IsBytes : List ℕ → Type 0
IsBytes bytes = (i : ℕ) → get_or bytes i 0 < 256
