-- RFC 7252 section 5.10.1: the path in options.
use Rattle.std.specs.Prelude.{List, map, filter, ◌==◌}
use Rattle.coap_wire.specs.Message.{CoapOption, BodyValue}
use Rattle.coap_wire.specs.Recognition.{known_options}
use Rattle.coap_wire.specs.OptionNumbers as numbers
use Rattle.coap_path.specs.Paths.{Path}

-- The value of each Uri-Path option, in order.
abbrev pub uri_segments : List CoapOption → Path
uri_segments os = map (λ o. o.value) (filter (λ o. o.number == numbers.uri_path) os)

-- The path in the recognised options of a body.
abbrev pub body_path : BodyValue → Path
body_path body = uri_segments (known_options body.options)
