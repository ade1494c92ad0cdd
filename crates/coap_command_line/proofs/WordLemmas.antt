-- Lemmas on the results of `clap`, and on the texts of addresses.
use Rattle.std.proofs.Common.{◌≡◌, ◌∙◌, ◌==◌, ◌≤◌, ℕ, List, [], ◌∷◌, length, Option, Some, None, Result, Ok, Err, sym}
use Rattle.std.proofs.Common.{suc, ap, refl, subst, option_map, true, append-nil, ne_eqb, arith, lit≤}
use Rattle.coap_command_line.specs.Prelude.{result_ok, ipv4_octets, ipv6_segments, IsColonHex, IsIpText}
use Rattle.coap_command_line.specs.Prelude.{Parses}
use Rattle.coap_command_line.specs.Prelude.{Read, read_ipv6, whole_value, IpAddr, Text, first_of}
use Rattle.coap_command_line.specs.Prelude.{first_value, rows_of, Found, list_any, Bor, AreHalves, is_comma}
use Rattle.coap_command_line.specs.Prelude.{address_of, three_in}
use Rattle.coap_command_line.specs.CommandLines.{comma}
use Rattle.coap_command_line.specs.ServerWords.{three_of}
use Rattle.coap_text.specs.Words.{parts}
use Rattle.std.proofs.lemmas.List.Splits.{length-slice_split}
use Rattle.std.specs.declared.net.ip_addr.IpAddr.TheVariants as ip
use Rattle.coap_client_request.proofs.TargetLemmas.{dotted_is_read, not_dotted}
use Rattle.std.proofs.NetLemmas.Ipv6.{EndsGroups-nil, IsDotted-not_colon_hex, read_ipv6_complete, read_ipv6_sound}
use Rattle.clap.proofs.WalkLemmas.{first_value-rows, raw_values-rows}
use Rattle.clap.specs.Words.{all_of, matched_of, raw_values}
use Rattle.std.proofs.lemmas.Str.Pattern.{IsSplitOnceResult, split_once_first, split_parts}
use Rattle.clap.proofs.CutLemmas.{list_any-Lacks, list_any-at}

-- The text that `clap` keeps for an option is that of its row.
pub first_text : (f : Found) (name : Text) (said : Option Text) → said ≡ first_value f name
    → said ≡ first_of name (rows_of f)
first_text f name said e = e ∙ first_value-rows f name

-- The texts that `clap` keeps for an option are those of its row.
pub all_texts : (f : Found) (name : Text) (said : Option (List Text)) → said ≡ option_map raw_values (matched_of f name)
    → said ≡ all_of name (rows_of f)
all_texts f name said e = e ∙ raw_values-rows f name

-- ---- addresses

not_whole : {A : Type 0} (read : Read A) → ((value : A) → read ≡ Some (value, []) → ⊥) → whole_value read ≡ None
not_whole None none = refl
not_whole (Some (value, [])) none = absurd (none value refl)
not_whole (Some (value, byte ∷ rest)) none = rw (ne_eqb (suc (length rest)) 0 (omega arith)) refl

v6_found : (text segments : List ℕ) → IsColonHex text segments → whole_value (read_ipv6 text) ≡ Some segments
v6_found text segments h =
    let read = rw append-nil at (read_ipv6_complete text segments [] h EndsGroups-nil) in rw read refl

v6_none : (text : List ℕ) → ((segments : List ℕ) → IsColonHex text segments → ⊥) → whole_value (read_ipv6 text) ≡ None
v6_none text none =
    not_whole (read_ipv6 text) (λ segments e.
    let sound = read_ipv6_sound text segments [] e in none segments (rw (sound.1, append-nil) sound.2))

-- The parser of the standard library accepts the addresses of `address_of`.
pub address_read : {E : Type 0} (text : List ℕ) (answer : Result IpAddr E) → Parses IsIpText text answer
    → result_ok answer ≡ address_of text
unfolding address_of
address_read text (Ok (ip.V4 a)) h = rw (dotted_is_read text (ipv4_octets a) h) refl
address_read text (Ok (ip.V6 a)) h =
    rw (
      not_dotted text _ refl (λ octets dotted. IsDotted-not_colon_hex text octets (ipv6_segments a) dotted h),
      v6_found text (ipv6_segments a) h,
    ) refl
address_read text (Err e) none =
    rw (
      not_dotted text _ refl (λ octets dotted. none (ip.V4 (record { octets = octets })) dotted),
      v6_none text (λ segments groups. none (ip.V6 (record { segments = segments })) groups),
    ) refl

-- ---- the extra option

-- The parts of a text at its first comma, as the standard library gives them.
pub comma_parts : (text : List ℕ) (parts : Option (Bor (List ℕ) × Bor (List ℕ))) → IsSplitOnceResult 44 text parts
    → AreHalves text (option_map (λ x. (x.0.now, x.1.now)) parts)
comma_parts text None h = list_any-Lacks 44 text (split_parts 44 text None h (lit≤ tt))
comma_parts text (Some x) h =
    let parts = split_parts 44 text (Some x) h (lit≤ tt) in
    let firsts = split_once_first 44 text (Some x) h (lit≤ tt) in
    (subst (λ t. list_any is_comma t ≡ true) (sym parts.0) (list_any-at 44 x.0.now x.1.now), firsts.1, firsts.2)

-- ---- start values

more_than_three : (first second third : Text) (more : List Text) → 1 ≤ length more
    → three_of (first ∷ second ∷ third ∷ more) ≡ None
more_than_three first second third [] some = absurd (omega (arith, some))
more_than_three first second third (fourth ∷ more) some = refl

-- A text with three commas or more has no three parts.
pub three_commas : (text first rest second others third last : Text) → parts comma text ≡ first ∷ parts comma rest
    → parts comma rest ≡ second ∷ parts comma others → parts comma others ≡ third ∷ parts comma last
    → three_in text ≡ None
unfolding three_in
three_commas text first rest second others third last e1 e2 e3 =
    ap three_of (e1 ∙ ap (λ ps. first ∷ ps) (e2 ∙ ap (λ ps. second ∷ ps) e3))
    ∙ more_than_three first second third (parts comma last) (omega (arith, length-slice_split (λ b. b == comma) last))
