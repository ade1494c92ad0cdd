use Rattle.std.proofs.Common.{arith, refl}
use Rattle.std.proofs.lemmas.List.{length-append}
use Rattle.coap_wire.specs.Prelude.{CoapOption, last_number, option_spelling, options_spelling, options_in}
use Rattle.coap_wire.proofs.OptionLists.{spelling-push}
use Rattle.coap_wire.proofs.CompactLemmas.{option_pushed}
use Rattle.coap_wire.proofs.HeadSizes.{option_size_bound}
use Rattle.coap_wire.proofs.compact.CompactBuilder.option.Goals as goal

pub invariant_of-self : goal.invariant_of-self
invariant_of-self g c = record {
  options =
      (option_pushed c.self.inside c.args.self.now c.write_option.new.out.items
      (record { number = c.args.number; value = c.args.value.now }) c.self.invariant c.self.view_is c.requires.order
      (omega arith) c.requires.room c.write_option.ensures.appended).1;
  token = c.self.invariant.token;
  payload = c.self.invariant.payload;
  few = c.self.invariant.few;
}

pub returns-clause-added : goal.returns-clause-added
returns-clause-added g c =
    let k = option_pushed c.self.inside c.args.self.now c.write_option.new.out.items
    (record { number = c.args.number; value = c.args.value.now }) c.self.invariant c.self.view_is c.requires.order
    (omega arith) c.requires.room c.write_option.ensures.appended in
    rw (← c.self.view_is, k.0) refl

pub returns-clause-size : goal.returns-clause-size
returns-clause-size g c =
    let o : CoapOption = record { number = c.args.number; value = c.args.value.now } in
    let os = options_in 0 c.self.inside.options.items in
    let last = last_number 0 os in
    let k = option_pushed c.self.inside c.args.self.now c.write_option.new.out.items o c.self.invariant c.self.view_is
    c.requires.order (omega arith) c.requires.room c.write_option.ensures.appended in
    rw (← c.self.view_is, k.0, spelling-push 0 os o)
    (omega (arith, option_size_bound last o, length-append (options_spelling 0 os) (option_spelling last o)))
