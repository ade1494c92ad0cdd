-- Defined by this project: a line of limited length, and text appended to it.
use Rattle.std.specs.Prelude.{◌≡◌, ℕ, ◌+◌, ◌-◌, ◌≤◌, Bool, true, nat_le, nat_lt, List, ◌++◌, length, take, codes}
use Rattle.std.specs.Prelude.{if◌then◌else◌}
use Rattle.coap_print.specs.Texts.{is_text}

-- The bytes are a line: each is printable ASCII, and there are at most `limit`.
pub record IsLine (limit : ℕ) (bytes : List ℕ) : Type 0 where
  pub printable : is_text bytes ≡ true
  pub bounded : length bytes ≤ limit

-- The end of a line that was cut.
abbrev pub ellipsis : List ℕ
ellipsis = codes "..."

-- True if a line is closed: it has no space for an ellipsis of three bytes, because it has one.
abbrev pub is_closed : ℕ → List ℕ → Bool
is_closed limit line = nat_lt limit (length line + 3)

-- The number of bytes that can be appended to a line before its ellipsis.
abbrev pub room : ℕ → List ℕ → ℕ
room limit line = limit - (length line + 3)

-- The line after `piece` is appended to `line`. A closed line stays as it is. A piece that does not fit is cut, and an
-- ellipsis follows it, so that the line has `limit` bytes and is closed.
unfoldable pub appended : ℕ → List ℕ → List ℕ → List ℕ
appended limit line piece =
    if is_closed limit line then line
    else (if nat_le (length piece) (room limit line) then line ++ piece
    else line ++ take (room limit line) piece ++ ellipsis)

-- A text of at most `limit` bytes: an ellipsis replaces the bytes that do not fit.
abbrev pub cut_text : ℕ → List ℕ → List ℕ
cut_text limit text = if nat_le (length text) (limit - 3) then text else take (limit - 3) text ++ ellipsis
