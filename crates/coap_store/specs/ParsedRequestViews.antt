-- Defined by this project: the model value and the invariant of the type `ParsedRequest`, which contracts see
-- as its message.
use Rattle.std.specs.Prelude.{◌≡◌, is_some}
use Rattle.coap_wire.specs.Message.{Message}
use Rattle.coap_wire.specs.Recognition.{first_critical}
use Rattle.coap_store.specs.OptionScan.{AreOptionsOf, options_value}
use Rattle.coap_store.specs.declared.request.ParsedRequest.TheInside.{Inside}

abbrev pub message_of : Inside → Message
message_of a = a.request.now

pub record IsParsed (a : Inside) : Type 0 where
  pub known : AreOptionsOf a.request.now (options_value a.known.now)
  pub bad : a.has_bad_option ≡ is_some (first_critical a.request.now.options)
