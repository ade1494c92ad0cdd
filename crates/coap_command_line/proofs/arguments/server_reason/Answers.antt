use Rattle.std.proofs.Common.{◌≡◌, ◌∙◌, List, [], map, option_map, refl, subst}
use Rattle.std.proofs.lemmas.Result.{IfOk-weaker}
use Rattle.coap_command_line.specs.Prelude.{App, Row, Text, WordsFault, fault_of, matches_of, found_of, rows_of}
use Rattle.coap_command_line.specs.Prelude.{server_app}
use Rattle.coap_command_line.specs.Reasons.{line_of, server_reason, server_reason_in}
use Rattle.coap_command_line.proofs.ReasonLemmas.{reason_read, rejected}
use Rattle.coap_command_line.proofs.arguments.server_reason.Goals as goal

-- The command is compared with that of the code here, since the search would compare its results.
server_found : (app : App) (words : List Text) (rows : List Row) (fault : WordsFault) → app ≡ server_app
    → fault_of app words ≡ [] → rows ≡ matches_of app words
    → option_map line_of (server_reason_in rows fault) ≡ option_map line_of (server_reason words fault)
unfolding server_reason
server_found app words rows fault is taken found =
    reason_read (fault_of server_app words) rows (matches_of server_app words)
    (λ (r : List Row). server_reason_in r fault)
    (subst (λ (a : App). fault_of a words ≡ []) is taken) (subst (λ (a : App). rows ≡ matches_of a words) is found)

pub returns-in-Ok : goal.returns-in-Ok
returns-in-Ok g c =
    let found =
    server_found _ (map g.S.AsStr.text c.args.words.now) (rows_of (found_of c.in-Ok.matches)) c.args.fault.now refl
    c.in-Ok.ensures.kinds c.in-Ok.ensures.rows in
    IfOk-weaker c.server_line.result _ _ (λ line is. is ∙ found) c.server_line.ensures

pub returns-in-Err-Usage : goal.returns-in-Err-Usage
unfolding server_reason
returns-in-Err-Usage g c = rejected _ _ _ _ c.in-Err-Usage.field-0-is c.in-Err-Usage.ensures.refusal
