-- Defined by this project: the model value and the invariant of the type `Framer`.
use Rattle.std.specs.Prelude.{◌≤◌}
use Rattle.std.specs.Vec.{vec_capacity}
use Rattle.coap_frame.specs.Framing.{FramerValue, IsFramer}
use Rattle.coap_frame.specs.BufferViews.{framer_of}
use Rattle.coap_frame.specs.declared.framer.Framer.TheInside.{Inside}

abbrev pub framer_value : Inside → FramerValue
framer_value f = framer_of f.max f.content f.buffer.items f.copied

abbrev pub is_framer : Inside → Type 0
is_framer f = IsFramer (framer_value f) × (f.max ≤ vec_capacity f.buffer)
