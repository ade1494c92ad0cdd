-- Defined by this project: the messages of one direction of a connection, followed from outside. Frames are those of
-- RFC 8323 section 3.2.
use Rattle.std.specs.Prelude.{◌≡◌, ℕ, ◌+◌, ◌-◌, ◌≤◌, ◌^◌, Bool, true, false, ◌==◌, nat_le, nat_lt, min, List, [], ◌∷◌}
use Rattle.std.specs.Prelude.{◌++◌, length, take, if◌then◌else◌}
use Rattle.coap_print.specs.Levels.{level_number}
use Rattle.coap_print.specs.declared.level.LogLevel.{LogLevel}
use Rattle.coap_wire.specs.Reading.{declared_of}
use Rattle.coap_wire.specs.declared.sizes.TheConstants.{LARGEST_MESSAGE}
use Rattle.coap_wire.specs.declared.declaration.Declared.{Declared}
use Rattle.coap_wire.specs.declared.declaration.Declared.TheVariants.{Unknown, Size, BadToken}

-- The model value of a tap. `room` is the number of bytes that it keeps of a frame. `kept` are these first bytes of the
-- present frame, of which `passed` bytes passed. `messages` and `bytes` count what passed.
pub record TapValue : Type 0 where
  pub room : ℕ
  pub kept : List ℕ
  pub passed : ℕ
  pub is_whole : Bool
  pub is_silent : Bool
  pub messages : ℕ
  pub bytes : ℕ

-- The invariant of a tap. The first eight bytes of a frame declare its size, so they are always kept.
pub record IsTap (v : TapValue) : Type 0 where
  pub room : 8 ≤ v.room
  pub kept : length v.kept ≡ min v.room v.passed
  pub passed : v.passed ≤ LARGEST_MESSAGE

-- A tap before the first byte.
abbrev pub new_tap : ℕ → TapValue
new_tap room = record {
  room = room;
  kept = [];
  passed = 0;
  is_whole = false;
  is_silent = false;
  messages = 0;
  bytes = 0;
}

-- The number of bytes that a tap keeps of a frame for a log of this level. From the level 3 on, lines describe messages
-- by at most 2,048 bytes. Below it, only the code is needed.
abbrev pub room_of : LogLevel → ℕ
room_of level = if nat_le 3 (level_number level) then 2048 else 16

-- A count of 64 bits after more were counted.
abbrev pub counted : ℕ → ℕ → ℕ
counted count more = min (count + more) (2 ^ 64 - 1)

-- The tap before the next byte: a whole frame is discarded.
abbrev pub begun : TapValue → TapValue
begun v = if v.is_whole then record v { kept = []; passed = 0; is_whole = false } else v

-- The tap after these bytes of its frame.
abbrev pub with_bytes : TapValue → List ℕ → TapValue
with_bytes v bytes = record v { kept = take v.room (v.kept ++ bytes); passed = v.passed + length bytes }

-- The tap after bytes of a frame of this size.
abbrev pub ended_at : ℕ → TapValue → TapValue
ended_at size v = if v.passed == size then record v { is_whole = true; messages = counted v.messages 1 } else v

-- The tap after malformed input.
abbrev pub silenced : TapValue → TapValue
silenced v = record v { is_silent = true }

-- The number of bytes that a tap takes of a piece, if its frame declares this.
abbrev pub taken_at : TapValue → List ℕ → Declared → ℕ
taken_at v piece Unknown = length piece
taken_at v piece BadToken = length piece
taken_at v piece (Size size) = if nat_lt LARGEST_MESSAGE size then length piece else min (size - v.passed)
    (length piece)

-- The tap after these bytes of a piece, apart from the count of bytes, if its frame declares this.
abbrev pub followed_at : TapValue → List ℕ → Declared → TapValue
followed_at v taken Unknown = with_bytes v taken
followed_at v taken BadToken = silenced v
followed_at v taken (Size size) = if nat_lt LARGEST_MESSAGE size then silenced v else ended_at size (with_bytes v taken)

-- The size that the kept bytes and a piece declare.
abbrev pub declared_after : TapValue → List ℕ → Declared
declared_after v piece = declared_of (v.kept ++ piece)

-- The number of bytes that a tap without a whole frame takes of a piece: up to the end of the frame, or all.
unfoldable pub taken_by : TapValue → List ℕ → ℕ
taken_by v piece = if v.is_silent then length piece else taken_at v piece (declared_after v piece)

-- The tap after them, apart from the count of bytes.
unfoldable pub followed_by : TapValue → List ℕ → TapValue
followed_by v piece = if v.is_silent then v else followed_at v (take (taken_by v piece) piece) (declared_after v piece)

-- The number of bytes that a tap takes of a piece.
abbrev pub taken : TapValue → List ℕ → ℕ
taken v piece = taken_by (begun v) piece

-- The tap after them.
abbrev pub tap_after : TapValue → List ℕ → TapValue
tap_after v piece =
    record (followed_by (begun v) piece) { bytes = counted (followed_by (begun v) piece).bytes (taken v piece) }

-- ---- lists of pieces

-- A frame as a tap shows it: its first bytes and its size.
pub record Glimpse : Type 0 where
  pub head : List ℕ
  pub size : ℕ

-- The glimpse of a frame.
abbrev pub glimpse : ℕ → List ℕ → Glimpse
glimpse room frame = record { head = take room frame; size = length frame }

-- The bytes that a tap took of a list of pieces, and the frames that it showed. Each piece is passed to one call. The
-- bytes of a piece that are not taken may be the next piece.
pub record TapOutput : Type 0 where
  pub taken : List ℕ
  pub frames : List Glimpse

-- The output of a tap, if it takes these bytes first and is `now` after them, and the other calls give `others`.
abbrev pub output_then : List ℕ → TapValue → TapOutput → TapOutput
output_then bytes now others = record {
  taken = bytes ++ others.taken;
  frames = if now.is_whole then record { head = now.kept; size = now.passed } ∷ others.frames else others.frames;
}

-- The output of a tap for these pieces.
unfoldable pub output_of : TapValue → List (List ℕ) → TapOutput
output_of v [] = record { taken = []; frames = [] }
output_of v (piece ∷ pieces) =
    output_then (take (taken v piece) piece) (tap_after v piece) (output_of (tap_after v piece) pieces)

-- A tap after a list of pieces, each passed to one call.
unfoldable pub after_pieces : TapValue → List (List ℕ) → TapValue
after_pieces v [] = v
after_pieces v (piece ∷ pieces) = after_pieces (tap_after v piece) pieces
