-- The CSM and the Release of the local endpoint are small.
use Rattle.std.proofs.Common.{◌≡◌, ℕ, zero, suc, ◌+◌, ◌-◌, ◌≤◌, List, [], ◌∷◌, ◌++◌, length, refl, arith}
use Rattle.coap_conn.specs.Prelude.{w64, to_be_bytes, CoapOption, Message, length_form, option_form, token_form}
use Rattle.coap_conn.specs.Prelude.{spelling, option_spelling, body_spelling, head_spelling, bytes_of_uint}
use Rattle.coap_conn.specs.Prelude.{without_leading_zeros, own_csm, own_token_length, first_csm, release}
use Rattle.std.proofs.lemmas.List.{append-nil, length-append}
use Rattle.coap_wire.specs.Codes as code
use Rattle.coap_conn.specs.SignalOptions as option

abbrev HasShortForm : ℕ → ℕ × List ℕ → Type 0
HasShortForm most form = length form.1 ≤ most

length_extension : (n : ℕ) → HasShortForm 4 (length_form n)
length_extension n = grind arith

option_extension : (n : ℕ) → HasShortForm 2 (option_form n)
option_extension n = grind arith

option_size : (base : ℕ) (o : CoapOption) → length (option_spelling base o) ≤ 5 + length o.value
option_size base o =
    omega (
      arith,
      option_extension (o.number - base),
      option_extension (length o.value),
      length-append (option_form (o.number - base)).1 ((option_form (length o.value)).1 ++ o.value),
      length-append (option_form (length o.value)).1 o.value,
    )

head_size : (code : ℕ) (token : List ℕ) (n : ℕ) → length (head_spelling code token n) ≤ 8 + length token
head_size code token n =
    let extension = (token_form (length token)).1 in
    omega (
      arith,
      length_extension n,
      option_extension (length token),
      length-append (length_form n).1 (code ∷ (extension ++ token)),
      length-append extension token,
    )

one_option : (code : ℕ) (token : List ℕ) (o : CoapOption)
    → length (spelling (record { code = code; token = token; options = o ∷ []; payload = [] }))
    ≤ 13 + (length token + length o.value)
unfolding spelling
one_option code token o =
    let m : Message = record { code = code; token = token; options = o ∷ []; payload = [] } in
    omega (
      arith,
      head_size code token (length (body_spelling m)),
      option_size 0 o,
      length-append (head_spelling code token (length (body_spelling m))) (body_spelling m),
      length-append (option_spelling 0 o ++ []) [],
      length-append (option_spelling 0 o) [],
    )

few_zeros : (s : List ℕ) → length (without_leading_zeros s) ≤ length s
few_zeros [] = omega arith
few_zeros (zero ∷ s) = let h = few_zeros s in omega (arith, few_zeros s)
few_zeros (suc b ∷ s) = omega arith

pub csm_small : (M : ℕ) → length (spelling (own_csm M)) ≤ 24
unfolding bytes_of_uint
csm_small M = omega (
  arith,
  one_option code.csm [] (record { number = option.max_message_size; value = bytes_of_uint M }),
  few_zeros (to_be_bytes w64 M),
)

pub first_csm_small : (M : ℕ) → length (spelling (first_csm M)) ≤ 32
unfolding spelling bytes_of_uint
first_csm_small M =
    let size : CoapOption = record { number = option.max_message_size; value = bytes_of_uint M } in
    let body = body_spelling (first_csm M) in
    let last = option_spelling option.max_message_size own_token_length ++ [] in
    omega (
      arith,
      head_size code.csm [] (length body),
      option_size 0 size,
      option_size option.max_message_size own_token_length,
      few_zeros (to_be_bytes w64 M),
      length-append (head_spelling code.csm [] (length body)) body,
      length-append (option_spelling 0 size ++ last) [],
      length-append (option_spelling 0 size) last,
      length-append (option_spelling option.max_message_size own_token_length) [],
    )

pub release_small : length (spelling release) ≡ 2
unfolding spelling
release_small = refl

pub csm_bytes_small : (M : ℕ) → length (spelling (own_csm M) ++ []) ≤ 24
csm_bytes_small M = rw append-nil (csm_small M)

pub first_csm_bytes_small : (M : ℕ) → length (spelling (first_csm M) ++ []) ≤ 32
first_csm_bytes_small M = rw append-nil (first_csm_small M)

pub release_bytes_small : length (spelling release ++ []) ≡ 2
release_bytes_small = rw append-nil release_small
