-- Defined by this project: the value of an `Outstanding` in contracts.
use Rattle.coap_conn.specs.Outstanding.{OutstandingValue}
use Rattle.coap_conn.specs.Outstanding as value
use Rattle.coap_conn.specs.declared.outstanding.Outstanding.{Outstanding}
use Rattle.coap_conn.specs.declared.outstanding.Outstanding.TheVariants.{Request, Observation, Ping}

-- The value of an outstanding entry, with the token as a list of bytes.
abbrev pub outstanding_value : Outstanding → OutstandingValue
outstanding_value (Request token) = value.Request token.items
outstanding_value (Observation token cancelled) = value.Observation token.items cancelled
outstanding_value (Ping token) = value.Ping token.items
