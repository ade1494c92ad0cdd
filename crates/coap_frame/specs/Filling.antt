-- Defined by this project: the effect of filling a buffer with bytes of a chunk.
use Rattle.std.specs.Prelude.{◌≡◌, ℕ, ◌+◌, ◌≤◌, List, ◌++◌, length, take, ◌⊎◌}
use Rattle.coap_wire.specs.Reading.{declared_of}
use Rattle.coap_wire.specs.Layout.{IsLaidOut}
use Rattle.coap_wire.specs.StreamPrefix.{Unfinished, Whole, Faulty, prefix_kind, fault_bytes}
use Rattle.coap_wire.specs.declared.declaration.Declared.{Declared}
use Rattle.coap_wire.specs.declared.declaration.Declared.TheVariants.{Unknown}
use Rattle.coap_frame.specs.declared.filling.FrameStatus.{FrameStatus}
use Rattle.coap_frame.specs.declared.filling.FrameStatus.TheVariants as status

-- The first `taken` bytes of the chunk are appended, one at a time while the size is not known.
pub record IsTakenTo (old piece new : List ℕ) (taken : ℕ) (size : Declared) : Type 0 where
  pub within : taken ≤ length piece
  pub bytes : new ≡ old ++ take taken piece
  pub size_is : size ≡ declared_of new
  pub first : (taken ≡ 0) ⊎ ((before : ℕ) × (taken ≡ before + 1) × (declared_of (old ++ take before piece) ≡ Unknown))

-- Bytes of the chunk are appended until the size is known, or all of them.
pub record IsHead (old piece new : List ℕ) (taken : ℕ) (size : Declared) : Type 0 where
  pub taken_to : IsTakenTo old piece new taken size
  pub all : size ≡ Unknown → taken ≡ length piece

-- The status describes the old bytes followed by the chunk, as one stream of frames of at most `M` bytes.
abbrev pub HasStatus : ℕ → List ℕ → List ℕ → List ℕ → ℕ → FrameStatus → Type 0
HasStatus M old piece new taken status.Unfinished =
    (prefix_kind M (old ++ piece) ≡ Unfinished) × (taken ≡ length piece) × (new ≡ old ++ piece)
HasStatus M old piece new taken (status.Whole layout) =
    (rest : List ℕ) × (prefix_kind M (old ++ piece) ≡ Whole new rest) × (taken + length rest ≡ length piece)
    × IsLaidOut new layout
HasStatus M old piece new taken (status.Fault fault) =
    (prefix_kind M (old ++ piece) ≡ Faulty fault) × (length old + taken ≡ length (fault_bytes (old ++ piece)))

-- The buffer is filled: these bytes of the chunk are taken, and the status describes the buffer.
pub record IsFilled (M : ℕ) (old piece new : List ℕ) (taken : ℕ) (s : FrameStatus) : Type 0 where
  pub within : taken ≤ length piece
  pub has_status : HasStatus M old piece new taken s
