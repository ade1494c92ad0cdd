use Rattle.std.proofs.Common.{◌≡◌, rules, tests, sym, ◌∙◌}
use Rattle.coap_conn.specs.Prelude.{is_none, coap_option}
use Rattle.coap_conn.proofs.CsmLemmas.{announced_is}
use Rattle.coap_conn.proofs.signal_options.announced_size.Goals as goal

pub returns-in-None-bad_option-clause-size : goal.returns-in-None-bad_option-clause-size
returns-in-None-bad_option-clause-size c =
    let none : is_none c.uint_value-bytes.result ≡ c.is_none.result = search (rules, tests) in
    announced_is c.args.message.now (coap_option c.in-Some.size) c.uint_value-bytes.result
    (rw c.in-Some.is at (sym c.first_size.ensures))
    c.uint_value-bytes.ensures.within c.uint_value-bytes.ensures.above
    (rw none (sym c.bad_option-2.ensures ∙ c.in-None-bad_option.is))
