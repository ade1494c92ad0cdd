use Rattle.std.proofs.Common.{◌≡◌, ◌+◌, ◌++◌, length, take}
use Rattle.coap_client_request.specs.Prelude.{coap_options, options_with, IsRow, byte_lists}
use Rattle.coap_client_request.proofs.request.push_each.Given as goal

-- The options of the values so far follow the options that were in the list before.
abbrev pub invariant-loop-value : goal.invariant-loop-value
invariant-loop-value l =
    record {
      added : coap_options l.options.items
          ≡ coap_options l.fn.options.items ++ options_with l.number (byte_lists (take l.value-index l.values));
      row : IsRow l.number (coap_options l.options.items);
      count : length l.options.items ≡ length l.fn.options.items + l.value-index;
    }
