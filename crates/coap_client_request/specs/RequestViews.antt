-- Defined by this project: the values of the extras, the formats and the options of a request.
use Rattle.std.specs.Prelude.{◌≡◌, ℕ, ◌≤◌, List, Vec, is_some, option_map}
use Rattle.std.specs.Borrow.{Bor}
use Rattle.std.specs.List.{AllByRecursion}
use Rattle.coap_wire.specs.Message.{CoapOption, AreOrdered, last_number}
use Rattle.coap_wire.specs.Spelling.{HasOptionForm}
use Rattle.coap_client_request.specs.Requests.{ExtrasValue, uint_sent}
use Rattle.coap_client_request.specs.declared.plan.ClientPlan.{ClientPlan}
use Rattle.coap_client_request.specs.declared.request.Extras.{Extras}
use Rattle.coap_client_request.specs.declared.request.Formats.{Formats}

-- The value of an option that the caller gives.
abbrev pub given_option : ℕ × Bor (List ℕ) → CoapOption
given_option o = record { number = o.0; value = o.1.now }

-- The value of the extras.
abbrev pub extras_value : Extras → ExtrasValue
extras_value e = record {
  observe = e.observe;
  plain = e.plain;
  content_format = e.content_format;
  accept = e.accept;
  extra = option_map given_option e.option;
  payload = e.payload.now;
}

-- The extra option of a plan.
abbrev pub planned_option : {A : Type 0} → ℕ × Vec ℕ A → CoapOption
planned_option o = record { number = o.0; value = o.1.items }

-- The extras of the request that a plan describes.
abbrev pub planned_extras : ClientPlan → ExtrasValue
planned_extras plan = record {
  observe = is_some plan.observe;
  plain = plan.plain;
  content_format = plan.content_format;
  accept = plan.accept;
  extra = option_map planned_option plan.option;
  payload = plan.payload.items;
}

-- Says that `f` holds the encoded content formats of these extras.
pub record AreFormatsOf (e : ExtrasValue) (f : Formats) : Type 0 where
  pub content_format : option_map (λ bytes. bytes.items) f.content_format ≡ uint_sent e.content_format
  pub accept : option_map (λ bytes. bytes.items) f.accept ≡ uint_sent e.accept

-- Says that options are valid and in order, and that none has a number above `number`.
pub record IsRow (number : ℕ) (os : List CoapOption) : Type 0 where
  pub ordered : AreOrdered 0 os
  pub last : last_number 0 os ≤ number
  pub each : AllByRecursion HasOptionForm os
