-- Defined by this project: the request and the URI that a C program names.
use Rattle.std.specs.Prelude.{◌≡◌, ℕ, ◌+◌, Bool, true, false, List, ◌∷◌, ◌++◌, length, drop, Option, Some, None, Result}
use Rattle.std.specs.Prelude.{Ok, Err, nat_lt, ◌==◌, if◌then◌else◌, ◌⊎◌}
use Rattle.std.specs.Str.{IsUtf8}
use Rattle.coap_client_request.specs.Requests.{ExtrasValue, no_extras}
use Rattle.coap_client_request.specs.Targets.{TargetValue, target_of}
use Rattle.coap_client_request.specs.declared.request.Method.{Method}
use Rattle.coap_client_request.specs.declared.request.Method.TheVariants as method
use Rattle.coap_client_request.specs.declared.target.TargetFault.{TargetFault}
use Rattle.c_api.specs.Numbers.{target_code}
use Rattle.c_api.specs.PathTexts.{format_named}
use Rattle.c_api.specs.declared.requests.Place.{Place}
use Rattle.c_api.specs.declared.requests.Request.{Request}

-- The method whose code has this detail.
abbrev pub method_named : ℕ → Option Method
method_named n =
    if n == 1 then Some method.Get else (if n == 2 then Some method.Post
    else (if n == 3 then Some method.Put else (if n == 4 then Some method.Delete else None)))

abbrev pub flag_named : ℕ → Option Bool
flag_named n = if n == 0 then Some false else (if n == 1 then Some true else None)

-- The flags of a request: bit 0 registers as an observer, and bit 1 sends no Uri-Host. No other bit is set.
abbrev pub flags_named : ℕ → Option (Bool × Bool)
flags_named n =
    if n == 0 then Some (false, false) else (if n == 1 then Some (true, false)
    else (if n == 2 then Some (false, true) else (if n == 3 then Some (true, true) else None)))

abbrev pub call_with : Request → List ℕ → Option Method → Option (Bool × Bool) → Option (Method × ExtrasValue)
call_with r payload (Some m) (Some flags) = Some (
  m,
  record no_extras {
    observe = flags.0;
    plain = flags.1;
    content_format = format_named r.content_format;
    accept = format_named r.accept;
    payload = payload;
  },
)
call_with r payload None flags = None
call_with r payload (Some m) None = None

-- The method and the extras of a request, if each of its values is one of those allowed.
abbrev pub call_of : Request → List ℕ → Option (Method × ExtrasValue)
call_of r payload = call_with r payload (method_named r.method) (flags_named r.flags)

-- The number of the error of a URI: 2 for memory, 144 if the text is not UTF-8, otherwise that of its first error.
abbrev pub IsUriRefusal : List ℕ → ℕ → Type 0
IsUriRefusal uri r =
    (r ≡ 2) ⊎ (((r ≡ 144) × ¬ (IsUtf8 uri))
    ⊎ (IsUtf8 uri × ((why : TargetFault) × ((target_of uri ≡ Err why) × (r ≡ target_code why)))))

-- The target of a URI, or the number of its error.
abbrev pub GivesTarget : List ℕ → Result TargetValue ℕ → Type 0
GivesTarget uri (Ok t) = IsUtf8 uri × (target_of uri ≡ Ok t)
GivesTarget uri (Err r) = IsUriRefusal uri r

-- The host of a target and a zero byte, at the start of a buffer that has room for them, and its other parts.
abbrev pub HasPlace : Bool → TargetValue → (host host' : List ℕ) → (p p' : Place) → ℕ → Type 0
HasPlace false t host host' p p' r = (r ≡ 7) × ((host' ≡ host) × (p' ≡ p))
HasPlace true t host host' p p' r =
    (r ≡ 0) × ((host' ≡ t.host ++ (0 ∷ drop (length t.host + 1) host)) × ((p'.host ≡ length t.host)
    × ((p'.is_address ≡ (if t.is_address then 1 else 0)) × (p'.port ≡ t.port))))

abbrev pub IsLocated : List ℕ → (host host' : List ℕ) → (p p' : Place) → ℕ → Type 0
IsLocated uri host host' p p' r = (IsUriRefusal uri r × ((host' ≡ host) × (p' ≡ p)))
    ⊎ (IsUtf8 uri × ((t : TargetValue)
    × ((target_of uri ≡ Ok t) × HasPlace (nat_lt (length t.host) (length host)) t host host' p p' r)))
