-- The command of a program, from the table of its arguments.
use Rattle.std.proofs.Common.{◌≡◌, ◌∙◌, ◌<◌, ◌+◌, ℕ, List, [], ◌∷◌, length, drop, get_or, map, sym, ap, append_assoc}
use Rattle.std.proofs.Common.{append-nil}
use Rattle.std.proofs.lemmas.List.{at_drop_more}
use Rattle.coap_command_line.specs.Prelude.{App, Rule, Text, Bor, with_rule}
use Rattle.coap_command_line.specs.CommandLines.{row_rule, with_rules}
use Rattle.coap_command_line.specs.declared.arguments.tables.Form.{Form}

pub no_more_rules : (app : App) → with_rules app [] ≡ app
no_more_rules app = ap (λ all. record app { top = record app.top { rules = all } }) (append-nil app.top.rules)

one_more_rule : (app next : App) (rule : Rule) (rules : List Rule) → next ≡ with_rule app rule
    → with_rules next rules ≡ with_rules app (rule ∷ rules)
one_more_rule app next rule rules is =
    ap (λ (a : App). with_rules a rules) is
    ∙ ap (λ all. record app { top = record app.top { rules = all } }) (append_assoc app.top.rules (rule ∷ []) rules)

-- The command with the argument of the next row.
pub row_added : (all app next : App) (rows : List (Bor Text × Form × Bor Text)) (index : ℕ)
    (other : Bor Text × Form × Bor Text) → index < length rows
    → with_rules app (map row_rule (drop index rows)) ≡ all → next ≡ with_rule app (row_rule (get_or rows index other))
    → with_rules next (map row_rule (drop (index + 1) rows)) ≡ all
row_added all app next rows index other within same is =
    one_more_rule app next (row_rule (get_or rows index other)) (map row_rule (drop (index + 1) rows)) is
    ∙ sym (at_drop_more (λ left. with_rules app (map row_rule left)) rows index other within) ∙ same
