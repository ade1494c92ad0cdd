-- Defined by this project: the effect of the lines of a record.
use Rattle.std.specs.Prelude.{◌≡◌, ℕ, ◌+◌, ◌-◌, ◌^◌, Bool, true, false, min, List, [], ◌∷◌, ◌++◌, Option, Some, None}
use Rattle.std.specs.Prelude.{Ok, Err}
use Rattle.coap_model.specs.Configs.{ConfigValues}
use Rattle.coap_script.specs.script.Events.{ScriptEventValue}
use Rattle.coap_script.specs.script.Script.{script_of}
use Rattle.coap_server_engine.specs.script.Replay.{replayed}
use Rattle.coap_server_engine.specs.values.Servers.{ServerValue, new_server}
use Rattle.program_explain.specs.Explanations.{ExplainsEvents, first_lines}
use Rattle.program_explain.specs.Header.{AreUtf8, HasNoConfig, config_said, options_in, words_of}
use Rattle.program_explain.specs.Printed.{OutputLine}
use Rattle.program_explain.specs.declared.explainer.Explainer.{Explainer}
use Rattle.program_explain.specs.declared.trouble.Trouble.{Trouble}
use Rattle.program_explain.specs.declared.trouble.Trouble.TheVariants.{Read, Write, Memory, NoEvent, TooLong, Torn}
use Rattle.program_explain.specs.declared.trouble.Trouble.TheVariants.{Options}

-- The number of the line after this number of lines. It fits in 64 bits.
abbrev pub next_number : ℕ → ℕ
next_number lines = min (lines + 1) (2 ^ 64 - 1)

-- The text of a line, with its newline.
abbrev pub whole_line : List ℕ → List ℕ
whole_line line = line ++ 10 ∷ []

-- The server after the events of a line. They are those of a script with this line alone.
abbrev pub RunsEvents : List ℕ → ServerValue → ServerValue → Type 0
RunsEvents line before after =
    (events : List ScriptEventValue) × (script_of (whole_line line) ≡ Ok events)
    × (after ≡ (replayed before events).server)

-- The lines before those of the first event, and before those of any other one.
abbrev pub lines_at_start : Bool → ServerValue → List OutputLine
lines_at_start true v = []
lines_at_start false v = first_lines v.shared.now

-- An explainer has printed the events of a line, after the first line if no event came before.
abbrev pub PrintsEvents : {O : Type 0} → (O → Option (List ℕ)) → Bool → List ℕ → Explainer O → Explainer O → Type 0
PrintsEvents written begun line before after =
    (events : List ScriptEventValue) × (script_of (whole_line line) ≡ Ok events)
    × ExplainsEvents written before after line events (lines_at_start begun before.server)

-- The line is no line of a script.
abbrev pub SaysNoEvent : List ℕ → Type 0
SaysNoEvent line = (number : ℕ) × (script_of (whole_line line) ≡ Err number)

-- The server after a line that may have options. They count only if the server is not configured yet.
abbrev pub IsConfiguredBy : Bool → Option (List ℕ) → ServerValue → ServerValue → Type 0
IsConfiguredBy true options before after = after ≡ before
IsConfiguredBy false None before after = after ≡ before
IsConfiguredBy false (Some options) before after =
    (config : ConfigValues) × (config_said (words_of options) ≡ Some config) × (after ≡ new_server config)

-- The line has options that `coap-server` does not have.
abbrev pub HasBadOptions : List ℕ → Type 0
HasBadOptions line =
    (options : List ℕ) × (options_in line ≡ Some options)
    × (AreUtf8 (words_of options) → HasNoConfig (words_of options))

-- The error is a failed write or allocation.
abbrev pub IsOfDevice : Trouble → Type 0
IsOfDevice Write = Unit {0}
IsOfDevice Memory = Unit {0}
IsOfDevice Read = ⊥
IsOfDevice (NoEvent number) = ⊥
IsOfDevice (TooLong number) = ⊥
IsOfDevice (Torn number) = ⊥
IsOfDevice (Options number) = ⊥

-- The reason for which a line ended an explanation is true of the line. A failed write or allocation can
-- come at any line.
abbrev pub IsTrueOf : List ℕ → Trouble → Type 0
IsTrueOf line Write = Unit {0}
IsTrueOf line Memory = Unit {0}
IsTrueOf line (NoEvent number) = SaysNoEvent line
IsTrueOf line (Options number) = HasBadOptions line
IsTrueOf line Read = ⊥
IsTrueOf line (TooLong number) = ⊥
IsTrueOf line (Torn number) = ⊥
