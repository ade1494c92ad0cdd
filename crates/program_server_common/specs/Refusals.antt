-- Defined by this project: responses that refuse a request because of a limit, and the level of a message in the log.
use Rattle.std.specs.Prelude.{ℕ, Bool, ◌==◌, ◌&&◌, ◌||◌, List, Option, Some, None, if◌then◌else◌}
use Rattle.coap_print.specs.declared.level.LogLevel.{LogLevel}
use Rattle.coap_print.specs.declared.level.LogLevel.TheVariants.{Warnings, Messages}
use Rattle.coap_log.specs.Glimpses.{head_code}

-- RFC 7252 section 12.1.2: the codes of responses that refuse a request because of a limit. They are 4.13 Request
-- Entity Too Large, 5.00 Internal Server Error, and 5.03 Service Unavailable. If the maximum number of resources is
-- stored, 4.06 Not Acceptable is one too.
abbrev pub is_refusal : ℕ → (is_full : Bool) → Bool
is_refusal code is_full = (is_full && (code == 134)) || (code == 141) || (code == 160) || (code == 163)

-- The level of a message with this code, if it has one: a refusal is a warning.
abbrev pub level_of_code : (is_full : Bool) → Option ℕ → LogLevel
level_of_code is_full None = Messages
level_of_code is_full (Some code) = if is_refusal code is_full then Warnings else Messages

-- The level of a message with these first bytes.
abbrev pub message_level : (is_full : Bool) → List ℕ → LogLevel
message_level is_full head = level_of_code is_full (head_code head)
