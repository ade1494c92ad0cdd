-- Lemmas on the decoded parts of a URI.
use Rattle.std.proofs.Common.{◌≡◌, ℕ, ◌-◌, ◌<◌, Bool, true, false, ◌||◌, List, [], ◌∷◌, ◌++◌, length, Vec, Option, Some}
use Rattle.std.proofs.Common.{None, Result, Ok, Err, refl, ap, append-nil, length-append, length-drop, take_at, arith}
use Rattle.std.proofs.Common.{lit≤, ne_eqb, suc}
use Rattle.coap_client_request.specs.Prelude.{is_ok, not, slice_range, unwrap_or, MatchOption, list_any, AllByRecursion}
use Rattle.coap_client_request.specs.Prelude.{to_ascii_lowercase, Ipv4Addr, IsDotted, IsIpv4Text, Parses, whole_value}
use Rattle.coap_client_request.specs.Prelude.{read_ipv4, hex, groups_text, hex_groups_text, Host, Domain, Ipv4, Ipv6}
use Rattle.coap_client_request.specs.Prelude.{Parts, IsValid, kind_of, has_host, host_or_empty, percent_decode}
use Rattle.coap_client_request.specs.Prelude.{is_empty_host, IsHostOf, is_special, SchemeType, TargetValue, is_dotted}
use Rattle.coap_client_request.specs.Prelude.{domain_named, host_named, is_long, has_long_part, has_many_parts}
use Rattle.coap_client_request.specs.Prelude.{form_refusal, byte_lists, IsShort, IsTarget}
use Rattle.std.proofs.lemmas.Bool.{or_parts, ltb-false}
use Rattle.std.proofs.lemmas.Bool.Decides.{nat_tests}
use Rattle.std.proofs.lemmas.List.{length-map}
use Rattle.std.proofs.NetLemmas.Ipv4.{read_ipv4_complete, read_ipv4_sound}
use Rattle.percent_encoding.proofs.PercentLemmas.{length-percent_decode}

-- ---- four decimal numbers

-- A text in dotted form is parsed.
pub dotted_is_read : (text octets : List ℕ) → IsDotted text octets → whole_value (read_ipv4 text) ≡ Some octets
dotted_is_read text octets spelled =
    let read = rw append-nil at (read_ipv4_complete text octets [] spelled (lit≤ tt)) in rw read refl

-- A text that is parsed is in dotted form.
pub not_dotted : (text : List ℕ) (read : Option (List ℕ × List ℕ)) → read_ipv4 text ≡ read
    → ((octets : List ℕ) → ¬ (IsDotted text octets)) → whole_value read ≡ None
not_dotted text None is never = refl
not_dotted text (Some (octets, [])) is never =
    let sound = read_ipv4_sound text octets [] is in absurd (never octets (rw (sound.1, append-nil) sound.2))
not_dotted text (Some (octets, b ∷ rest)) is never = rw (ne_eqb (suc (length rest)) 0 (omega arith)) refl

-- The result of the parser of the standard library.
pub parsed_is_dotted : {E : Type 0} (text : List ℕ) (r : Result Ipv4Addr E) → Parses IsIpv4Text text r
    → is_ok r ≡ is_dotted text
parsed_is_dotted text (Ok a) spelled = rw (dotted_is_read text a.octets spelled) refl
parsed_is_dotted text (Err e) never =
    rw (not_dotted text _ refl (λ octets. never (record { octets = octets }))) refl

-- ---- lists of parts

pub any_part : {A : Type 0} (test : List ℕ → Bool) (parts : List (Vec ℕ A))
    → list_any test (byte_lists parts) ≡ list_any (λ part. test part.items) parts
any_part test [] = refl
any_part test (part ∷ parts) = ap (λ others. test part.items || others) (any_part test parts)

-- ---- the host

-- The brackets around an IPv6 address are two bytes.
pub in_brackets : (text inner : List ℕ) → text ≡ 91 ∷ (inner ++ 93 ∷ []) → slice_range text 1 (length text - 1) ≡ inner
in_brackets text inner is = rw is (take_at inner (93 ∷ []) _ (omega (arith, length-append inner (93 ∷ []))))

-- ---- the invariant of a target

some_hex : (n : ℕ) → 0 < length (hex n)
unfolding hex
some_hex n = grind (arith, nat_tests, length-drop)

-- The text of an IPv6 address is not empty.
some_groups : (segments : List ℕ) → 0 < length segments → 0 < length (groups_text segments)
some_groups [] some = absurd (omega (arith, some))
some_groups (s ∷ rest) some = grind (arith, length-append, some_hex s)

some_ipv6 : (segments : List ℕ) → 0 < length segments → 0 < length (hex_groups_text segments)
unfolding hex_groups_text
some_ipv6 segments some = grind (arith, nat_tests, length-append, some_groups segments some)

-- A host that is not empty decodes to one that is not empty.
some_named : (kind : SchemeType) (host : Host (List ℕ)) → not (is_empty_host host) ≡ true → IsHostOf kind host
    → 0 < length (host_named host)
unfolding host_named domain_named
some_named kind (Domain text) some valid =
    grind (arith, nat_tests, length-map (percent_decode text) to_ascii_lowercase, length-percent_decode text)
some_named kind (Ipv4 address) some valid = simp length-append (omega arith)
some_named kind (Ipv6 address) some valid = some_ipv6 address.segments (omega (arith, valid.0))

-- The invariant of the crate `url`.
host_is_valid : (kind : SchemeType) (host : Option (Host (List ℕ)))
    → MatchOption host (is_special kind ≡ false) (IsHostOf kind)
    → not (is_empty_host (unwrap_or host (Domain []))) ≡ true → IsHostOf kind (unwrap_or host (Domain []))
host_is_valid kind None valid some = cc some
host_is_valid kind (Some host) valid some = valid

pub some_host : (url : Parts) → has_host url ≡ true → IsValid url → 0 < length (host_named (host_or_empty url))
some_host url some valid =
    some_named (kind_of url) (host_or_empty url) some (host_is_valid (kind_of url) url.host valid.head.host some)

-- A URI without an error of form has a host.
pub form_has_host : (url : Parts) → form_refusal url ≡ None → has_host url ≡ true
unfolding form_refusal
form_has_host url none = grind (arith, nat_tests)

pub all_short : (parts : List (List ℕ)) → list_any is_long parts ≡ false → AllByRecursion IsShort parts
all_short [] none = tt
all_short (part ∷ parts) none =
    (ltb-false 255 (length part) (or_parts _ _ none).0, all_short parts (or_parts _ _ none).1)

-- Parts without an error satisfy the invariant of a target.
pub named_is_target : (t : TargetValue) → has_long_part t ≡ false → has_many_parts t ≡ false
    → 0 < length t.host → IsTarget t
named_is_target t short few some =
    let parts = or_parts _ _ short in
    let first = or_parts _ _ parts.0 in
    let counts = or_parts _ _ few in
    record {
      host = ltb-false 255 (length t.host) first.0;
      some_host = some;
      few_segments = ltb-false 16 (length t.segments) counts.0;
      segments = all_short t.segments first.1;
      few_arguments = ltb-false 16 (length t.arguments) counts.1;
      arguments = all_short t.arguments parts.1;
    }
