-- RFC 7252 section 5.10.8: the conditions of a request, and the answers that reject a request.
use Rattle.std.specs.Prelude.{◌≡◌, ◌≢◌, ◌⊎◌, ◌≤◌, Bool, true, not, ◌||◌, ◌==◌, [], filter, Option, is_some, IfSome}
use Rattle.std.specs.List.{AllByRecursion}
use Rattle.coap_wire.specs.Message.{CoapOption, Message}
use Rattle.coap_wire.specs.Codes.{class_of}
use Rattle.coap_wire.specs.OptionNumbers as numbers
use Rattle.coap_store.specs.Store.{Representation}
use Rattle.coap_store.specs.Requests.{values_of, has_option, etag_of}
use Rattle.coap_store.specs.Answer.{Answer, Nothing}
use Rattle.coap_store.specs.declared.plan.Watch.TheVariants as watch

-- The request has If-Match, and fails it: the resource does not exist, or no value is empty or the current ETag
-- (section 5.10.8.1).
pub record FailsIfMatch (state : Option Representation) (m : Message) : Type 0 where
  pub given : has_option numbers.if_match m ≡ true
  pub other : IfSome state (λ r. AllByRecursion (λ value. (value ≢ []) × (value ≢ etag_of r))
      (values_of numbers.if_match m))

-- The request has If-None-Match, and fails it: the resource exists (section 5.10.8.2).
pub record FailsIfNoneMatch (state : Option Representation) (m : Message) : Type 0 where
  pub given : has_option numbers.if_none_match m ≡ true
  pub present : is_some state ≡ true

-- A condition of the request fails for this state of its path.
abbrev pub FailsCondition : Option Representation → Message → Type 0
FailsCondition state m = FailsIfMatch state m ⊎ FailsIfNoneMatch state m

-- The option is a condition.
abbrev pub is_condition : CoapOption → Bool
is_condition o = o.number == numbers.if_match || o.number == numbers.if_none_match

-- The request without its conditions.
abbrev pub without_conditions : Message → Message
without_conditions m = record m { options = filter (λ o. not (is_condition o)) m.options }

-- The answer performs no method: the class of its code is 4 or more, it changes nothing, and adds no observer.
pub record IsRejection (a : Answer) : Type 0 where
  pub error : 4 ≤ class_of a.response.code
  pub quiet : a.change ≡ Nothing
  pub unwatched : a.watch ≢ watch.Add
