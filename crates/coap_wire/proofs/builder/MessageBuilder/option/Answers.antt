use Rattle.std.proofs.Common.{arith, ◌≡◌, ◌∷◌, [], ◌++◌, length, ap}
use Rattle.std.proofs.lemmas.List.{map_push, length-append, length-map}
use Rattle.coap_wire.specs.Prelude.{OptionRef, last_number, coap_option, coap_options, options_spelling}
use Rattle.coap_wire.specs.Prelude.{option_spelling}
use Rattle.coap_wire.proofs.OptionLists.{spelling-push, ordered-push, forms-push}
use Rattle.coap_wire.proofs.builder.MessageBuilder.option.Goals as goal

pub invariant_of-self : goal.invariant_of-self
invariant_of-self g c =
    let xs = c.self.inside.options.items in
    let os = coap_options xs in
    let ref : OptionRef = record { number = c.args.number; value = c.args.value } in
    let o = coap_option ref in
    let more : coap_options c.push.new.self.items ≡ os ++ o ∷ [] =
    rw c.push.ensures.items (map_push coap_option xs ref) in
    let last : c.last_number-last.result ≡ last_number 0 os = rw c.deref.ensures.0 at c.last_number-last.ensures in
    let can = c.self.invariant.can in
    record {
      can = record {
        token = can.token;
        ordered = rw more (ordered-push 0 os o can.ordered (omega arith));
        each = rw more (forms-push os o can.each (omega arith, c.if-value-gt-MAX_EXTENDED_LENGTH.false));
        few = omega (
          arith,
          ap length more,
          length-append os (o ∷ []),
          can.few,
          c.len.ensures.value,
          c.if-len-ge-MAX_OPTIONS.false,
          length-map xs coap_option,
        );
        payload = can.payload;
      };
      size =
          rw (more, spelling-push 0 os o, ← last)
          (omega (
            arith,
            c.self.invariant.size,
            c.option_size.ensures.size,
            length-append (options_spelling 0 os) (option_spelling c.last_number-last.result o),
          ));
      bound = omega (arith, c.self.invariant.bound, c.option_size.ensures.bound, c.push.ensures.len);
    }
