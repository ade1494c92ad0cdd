use Rattle.std.proofs.Common.{sym, ◌∙◌, ◌==◌}
use Rattle.std.proofs.lemmas.Bool.{cond-false, ne_eqb}
use Rattle.coap_wire.specs.Codes.{class_of}
use Rattle.coap_print.specs.Names.{known_option, signalling_option, option_in, options}
use Rattle.coap_print.proofs.names.option_row.Goals as goal

pub returns-else-class-eq7-clause-row : goal.returns-else-class-eq7-clause-row
unfolding known_option
returns-else-class-eq7-clause-row c =
    let code = c.args.code in
    let number = c.args.number in
    c.find_option.ensures.row ∙ sym (cond-false (class_of code == 7) (signalling_option code number)
    (option_in options number) (ne_eqb (class_of code) 7 (λ e. c.if-class-eq7.false (c.class.ensures ∙ e))))
