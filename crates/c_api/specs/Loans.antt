-- Defined by this project: the bytes that a call on a handle lends. A span is the place of bytes in memory, and has the
-- bytes of the slice that it was made for. Only the bytes of an input have a place that contracts know.
use Rattle.std.specs.Prelude.{◌≡◌, ℕ, List, [], ◌++◌, length, take, Option, Some, None}
use denote.RawPtr.{Ptr, null_ptr, block_ptr}
use denote.Ref.{Bor}
use Rattle.c_handle.specs.Spans.{span_at}
use Rattle.c_handle.specs.declared.span.Parts.{Parts}
use Rattle.c_handle.specs.declared.span.Span.{Span}

-- The address is not null.
abbrev pub IsAddress : Ptr → Type 0
IsAddress null_ptr = ⊥
IsAddress (block_ptr b o) = Unit {0}

-- The span was made for these bytes: it has their number, and its address is not null.
abbrev pub HasBytes : List ℕ → Span → Type 0
HasBytes bytes s = (s.bytes ≡ bytes) × ((s.count ≡ length bytes) × IsAddress s.at)

-- The two parts were made for these bytes: those of the first, followed by those of the second.
abbrev pub HaveBytes : List ℕ → Parts → Type 0
HaveBytes bytes p = (p.first.bytes ++ p.second.bytes ≡ bytes)
    × (HasBytes p.first.bytes p.first × HasBytes p.second.bytes p.second)

-- A frame that the first `bytes` bytes of `piece` end, if it has no other bytes, is these bytes.
unfoldable pub IsInPiece : List ℕ → ℕ → Option (List ℕ) → Type 0
IsInPiece piece bytes None = Unit {0}
IsInPiece piece bytes (Some frame) = length frame ≡ bytes → take bytes piece ≡ frame

-- The span of a frame that the first `bytes` bytes of `piece` end, or of no bytes. A frame that has no other bytes is
-- these bytes, and the span is their place. If earlier calls accepted bytes of the frame, the span was made for the
-- frame, and its place is not specified.
abbrev pub LendsFrame : Bor (List ℕ) → ℕ → Span → Option (List ℕ) → Type 0
LendsFrame piece bytes s None = HasBytes [] s
LendsFrame piece bytes s (Some frame) =
    HasBytes frame s × (length frame ≡ bytes → (s ≡ span_at piece 0 bytes) × (take bytes piece.now ≡ frame))
