-- Defined by this project: the first error of bytes that encode no message, in the order in which errors are looked
-- for.
use Rattle.std.specs.Prelude.{◌≡◌, ◌≢◌, ℕ, ◌+◌, ◌/◌, ◌%◌, ◌<◌, ◌≤◌, List, [], ◌∷◌, length, ◌⊎◌}
use Rattle.coap_wire.specs.Message.{CoapOption, last_number}
use Rattle.coap_wire.specs.Forms.{option_extension}
use Rattle.coap_wire.specs.Spelling.{IsOptionHead, IsOptionBytes, IsHeadAndBody}
use Rattle.coap_wire.specs.Size.{IsFrame, HasBadToken}
use Rattle.coap_wire.specs.declared.fault.FormatFault.{FormatFault}
use Rattle.coap_wire.specs.declared.fault.FormatFault.TheVariants.{TokenLength, OptionDelta, OptionLength, OptionCut}
use Rattle.coap_wire.specs.declared.fault.FormatFault.TheVariants.{OptionNumber, EmptyPayload, NotOneFrame}

-- The bytes `s` are the start of an option, and end before the two extensions are complete.
pub record IsOptionHeadCut (s : List ℕ) : Type 0 where
  pub first : ℕ
  pub after : List ℕ
  pub bytes : s ≡ first ∷ after
  pub delta : first / 16 < 15
  pub len : first % 16 < 15
  pub cut : length after < option_extension (first / 16) + option_extension (first % 16)

-- The bytes `s` are the start of an option, and end before its value is complete. The number of the option is `base`
-- plus the delta, and at most 65,535.
pub record IsValueCut (base : ℕ) (s : List ℕ) : Type 0 where
  pub delta : ℕ
  pub len : ℕ
  pub after : List ℕ
  pub head : IsOptionHead s delta len after
  pub number : base + delta ≤ 65535
  pub cut : length after < len

-- The bytes `s` begin with the head of an option whose number, `base` plus the delta, is above 65,535.
pub record IsNumberTooGreat (base : ℕ) (s : List ℕ) : Type 0 where
  pub delta : ℕ
  pub len : ℕ
  pub after : List ℕ
  pub head : IsOptionHead s delta len after
  pub number : 65535 < base + delta

-- The bytes `s` have this error at their start, where an option or the marker is expected. The delta of the option
-- counts from `base`.
abbrev pub IsOptionFault : ℕ → List ℕ → FormatFault → Type 0
IsOptionFault base s EmptyPayload = s ≡ 255 ∷ []
IsOptionFault base s OptionDelta = (b : ℕ) × (after : List ℕ) × (s ≡ b ∷ after) × (b ≢ 255) × (b / 16 ≡ 15)
IsOptionFault base s OptionLength = (b : ℕ) × (after : List ℕ) × (s ≡ b ∷ after) × (b / 16 < 15) × (b % 16 ≡ 15)
IsOptionFault base s OptionCut = IsOptionHeadCut s ⊎ IsValueCut base s
IsOptionFault base s OptionNumber = IsNumberTooGreat base s
IsOptionFault base s TokenLength = ⊥
IsOptionFault base s NotOneFrame = ⊥

-- The bytes `s` are a frame. Its body is these options, followed by bytes that have this error at their start.
pub record HasOptionFault (s : List ℕ) (fault : FormatFault) : Type 0 where
  pub code : ℕ
  pub token : List ℕ
  pub body : List ℕ
  pub head : IsHeadAndBody s code token body
  pub options : List CoapOption
  pub rest : List ℕ
  pub bytes : IsOptionBytes 0 options body rest
  pub wrong : IsOptionFault (last_number 0 options) rest fault

-- The first error of bytes `s` that encode no message. The order is: an invalid token length, bytes that are not
-- exactly one frame, the first malformed option.
abbrev pub IsFirstFault : List ℕ → FormatFault → Type 0
IsFirstFault s TokenLength = HasBadToken s
IsFirstFault s NotOneFrame = (HasBadToken s → ⊥) × (IsFrame s → ⊥)
IsFirstFault s EmptyPayload = HasOptionFault s EmptyPayload
IsFirstFault s OptionDelta = HasOptionFault s OptionDelta
IsFirstFault s OptionLength = HasOptionFault s OptionLength
IsFirstFault s OptionCut = HasOptionFault s OptionCut
IsFirstFault s OptionNumber = HasOptionFault s OptionNumber
