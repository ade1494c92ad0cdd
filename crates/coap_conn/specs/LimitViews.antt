-- Defined by this project: the values of `Limits` and `LimitsBuilder` in contracts.
use Rattle.coap_conn.specs.Limits.{LimitValues, AreInRange}
use Rattle.coap_conn.specs.declared.limits.Limits.TheInside.{Inside}
use Rattle.coap_conn.specs.declared.limits.builder.LimitsBuilder.TheInside as builder

-- The value of a `Limits`.
abbrev pub limit_values : Inside → LimitValues
limit_values l = record {
  max_message = l.max_message;
  max_sent = l.max_sent;
  queue = l.queue;
  pending = l.pending;
  observers = l.observers;
  outstanding = l.outstanding;
}

-- The invariant of `Limits`.
abbrev pub are_limits : Inside → Type 0
are_limits l = AreInRange (limit_values l)

-- The fields of the `Limits` with this value.
abbrev pub limit_fields : LimitValues → Inside
limit_fields l = record {
  max_message = l.max_message;
  max_sent = l.max_sent;
  queue = l.queue;
  pending = l.pending;
  observers = l.observers;
  outstanding = l.outstanding;
}

-- The value of a `LimitsBuilder`: the limits so far.
abbrev pub builder_values : builder.Inside → LimitValues
builder_values l = record {
  max_message = l.max_message;
  max_sent = l.max_sent;
  queue = l.queue;
  pending = l.pending;
  observers = l.observers;
  outstanding = l.outstanding;
}

-- The fields of the `LimitsBuilder` with this value.
abbrev pub builder_fields : LimitValues → builder.Inside
builder_fields l = record {
  max_message = l.max_message;
  max_sent = l.max_sent;
  queue = l.queue;
  pending = l.pending;
  observers = l.observers;
  outstanding = l.outstanding;
}
