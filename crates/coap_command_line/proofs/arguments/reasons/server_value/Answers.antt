use Rattle.std.proofs.Common.{◌∙◌, sym, ap, codes, bytes_eq, option_map, Some, if◌then◌else◌}
use Rattle.std.proofs.lemmas.Bool.{cond-false}
use Rattle.coap_command_line.specs.Prelude.{found_of, rows_of, applications_said, refused_value}
use Rattle.coap_command_line.specs.Reasons.{line_of, server_value, server_values, row_in, row_text, given_for}
use Rattle.coap_command_line.specs.Reasons.{queue_text, least_queue, application_text}
use Rattle.coap_command_line.proofs.arguments.reasons.server_value.Goals as goal

pub returns : goal.returns
unfolding server_value
returns c =
    let name = c.args.name.now in
    let rows = rows_of (found_of c.args.matches.now) in
    let row = row_text (row_in server_values name) (given_for name rows) in
    let entry = option_map application_text (refused_value (applications_said rows)) in
    c.row_line.ensures
    ∙ ap (λ g. option_map line_of (row_text (row_in server_values name) g)) c.given_for-given.ensures
    ∙ sym (ap (option_map line_of)
    (cond-false (bytes_eq name (codes "--application")) entry row (sym c.eq-2.ensures ∙ c.if-eq-2.false)))
    ∙ sym (ap (option_map line_of)
    (cond-false (bytes_eq name (codes "--queue")) (Some (queue_text (least_queue rows) (given_for name rows)))
    (if bytes_eq name (codes "--application") then entry else row) (sym c.eq.ensures ∙ c.if-eq.false)))
