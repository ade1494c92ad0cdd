-- Defined by this project: the value of a target, and the invariant of the type `Target`.
use Rattle.std.specs.Prelude.{ℕ, ◌<◌, ◌≤◌, List, length, map, Vec}
use Rattle.std.specs.List.{AllByRecursion}
use Rattle.coap_client_request.specs.Targets.{TargetValue}
use Rattle.coap_client_request.specs.declared.target.TargetParts.{TargetParts}
use Rattle.coap_client_request.specs.declared.target.Target.TheInside.{Inside}

-- The bytes of each vector of a list.
abbrev pub byte_lists : {A : Type 0} → List (Vec ℕ A) → List (List ℕ)
byte_lists parts = map (λ part. part.items) parts

-- The value of the decoded parts of a URI.
abbrev pub named_value : TargetParts → TargetValue
named_value n = record {
  host = n.host.items;
  is_address = n.is_address;
  port = n.port;
  segments = byte_lists n.segments.items;
  arguments = byte_lists n.arguments.items;
}

-- The value of a target.
abbrev pub target_value : Inside → TargetValue
target_value t = named_value t.named

-- Says that a part has at most 255 bytes (RFC 7252 section 5.10).
abbrev pub IsShort : List ℕ → Type 0
IsShort part = length part ≤ 255

-- The invariant of a target: its sizes are in range, and the host has at least one byte (RFC 7252 section 5.10.1).
pub record IsTarget (t : TargetValue) : Type 0 where
  pub host : IsShort t.host
  pub some_host : 0 < length t.host
  pub few_segments : length t.segments ≤ 16
  pub segments : AllByRecursion IsShort t.segments
  pub few_arguments : length t.arguments ≤ 16
  pub arguments : AllByRecursion IsShort t.arguments

abbrev pub is_target : Inside → Type 0
is_target t = IsTarget (target_value t)
