-- Defined by this project: the types `RepresentationRef` and `RequestTarget` as values of the model.
use Rattle.std.specs.Prelude.{Some, None, option_map, if◌then◌else◌}
use Rattle.coap_wire.specs.Message.{Message}
use Rattle.coap_store.specs.Requests.{path_of}
use Rattle.coap_store.specs.Store.{Representation}
use Rattle.coap_store.specs.State as state
use Rattle.coap_store.specs.PlanViews.{bytes_in}
use Rattle.coap_store.specs.declared.found.RepresentationRef.{RepresentationRef}
use Rattle.coap_store.specs.declared.target.RequestTarget.{RequestTarget}

abbrev pub found_value : RepresentationRef → Representation
found_value f = record { version = f.version; format = f.format; bytes = bytes_in f.bytes }

-- The target of a request, which has the path.
abbrev pub target_value : Message → RequestTarget → state.RequestTarget
target_value m t = record {
  key = if t.is_path then Some (path_of m) else None;
  place = t.place;
  state = option_map found_value t.state;
}
