use Rattle.coap_store.specs.Prelude.{options_after, coap_option, options_value}
use Rattle.std.proofs.Common.{rules}
use Rattle.coap_store.proofs.OptionScanLemmas.{or_none_more, or_one, not_given, nothing_noted}
use Rattle.coap_store.proofs.request_options.RequestOptions.note.Goals as goal

pub returns-in-11 : goal.returns-in-11
unfolding options_after
returns-in-11 c = rw (c.in-11.is, c.with-self.ensures) (simp (or_none_more, not_given))

pub returns-in-1 : goal.returns-in-1
unfolding options_after
returns-in-1 c = rw c.in-1.is (simp (or_none_more, or_one, not_given))

pub returns-in-4 : goal.returns-in-4
unfolding options_after
returns-in-4 c = rw c.in-4.is (simp (or_none_more, or_one, not_given))

pub returns-in-5 : goal.returns-in-5
unfolding options_after
returns-in-5 c = rw c.in-5.is (simp (or_none_more, or_one, not_given))

pub returns-in-35 : goal.returns-in-35
unfolding options_after
returns-in-35 c = rw c.in-35.is (simp (or_none_more, or_one, not_given))

pub returns-in-39 : goal.returns-in-39
unfolding options_after
returns-in-39 c = rw c.in-39.is (simp (or_none_more, or_one, not_given))

pub returns-in_default : goal.returns-in_default
returns-in_default c =
    nothing_noted (options_value c.args.self.now) (coap_option c.args.option.now) (search rules) (search rules)
    (search rules) (search rules) (search rules) (search rules) (search rules) (search rules)
    (search rules) (search rules)
