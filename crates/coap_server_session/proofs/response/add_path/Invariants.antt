use Rattle.std.proofs.Common.{◌≡◌, ◌≤◌, ◌+◌, ◌++◌}
use Rattle.coap_server_session.specs.Prelude.{last_number, encoded_size, path_size, written_length, each_at}
use Rattle.coap_wire.specs.OptionNumbers as numbers
use Rattle.coap_server_session.proofs.response.add_path.Given as goal

-- The options so far, followed by those of the remaining segments, are the final options. There is space for the
-- latter.
abbrev pub invariant-loop-segment : goal.invariant-loop-segment
invariant-loop-segment g l = record {
  goes : (goal.iterator-loop-segment g).can_next l.segment-iterator;
  ends : (goal.iterator-loop-segment g).is_finite l.segment-iterator;
  added : record l.response { options = l.response.options ++ each_at numbers.location_path l.segment-iterator }
      ≡ record l.fn.response { options = l.fn.response.options ++ each_at numbers.location_path l.fn.path };
  order : last_number 0 l.response.options ≤ 8;
  few : encoded_size l.response + path_size l.segment-iterator ≤ encoded_size l.fn.response + path_size l.fn.path;
  short : written_length l.segment-iterator ≤ 255;
}
