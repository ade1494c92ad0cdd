use Rattle.std.proofs.Common.{ap, ◌∙◌, refl, sym, subst}
use Rattle.std.specs.Prelude.{map}
use Rattle.std.proofs.lemmas.List.Folds.{flat_map-map}
use Rattle.coap_command_line.specs.declared.arguments.tables.TheConstants.{VERSION}
use Rattle.coap_print.specs.Texts.{is_text}
use Rattle.coap_record.specs.Prelude.{SaysNoEvent}
use Rattle.program_server_common.proofs.HeaderLemmas.{header_says_nothing}
use Rattle.program_server_common.proofs.header.header.Goals as goal

pub returns-clause-text : goal.returns-clause-text
returns-clause-text c =
    rw c.new-text.ensures.items at
    (c.in_ok-append_header.ensures c.args.config.now (c.as_slice.ensures.value ∙ c.in_ok-options.ensures.text))

pub returns-clause-comments : goal.returns-clause-comments
returns-clause-comments c =
    subst SaysNoEvent (sym (returns-clause-text c))
    (header_says_nothing c.args.program.now VERSION.now c.args.name.now c.args.config.now
    (map (λ e. e.now) c.args.entries.now) c.requires.program refl
    (rw c.in_ok-options.ensures.text at c.in_ok-options.ensures.printable)
    (ap is_text (flat_map-map (λ e. e) (λ e. e.now) c.args.entries.now) ∙ c.requires.entries))
