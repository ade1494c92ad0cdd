use Rattle.std.proofs.Common.{◌≡◌, ◌+◌, ◌++◌, length, take}
use Rattle.coap_wire.specs.Prelude.{last_number, options_spelling, coap_options}
use Rattle.coap_wire.proofs.encode.write_options.Given as goal

abbrev pub invariant-loop-option : goal.invariant-loop-option
invariant-loop-option g l =
    record {
      appended : g.S.Sink.contents l.out
          ≡ g.S.Sink.contents l.fn.out ++ options_spelling 0 (coap_options (take l.option-index l.options));
      room : g.S.Sink.space l.out + length (options_spelling 0 (coap_options (take l.option-index l.options)))
          ≡ g.S.Sink.space l.fn.out;
      base : l.base ≡ last_number 0 (coap_options (take l.option-index l.options));
    }
