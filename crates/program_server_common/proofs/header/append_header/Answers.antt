use Rattle.std.proofs.Common.{◌≡◌, ◌++◌, [], codes, subst, OnOk}
use Rattle.std.specs.List.{flat_map}
use Rattle.std.specs.Prelude.{map}
use Rattle.std.proofs.lemmas.List.Folds.{flat_map-map}
use Rattle.coap_command_line.specs.declared.arguments.tables.TheConstants.{VERSION}
use Rattle.program_server_common.specs.RecordHeaders.{entry_text, header_text, options_text, shown_name}
use Rattle.program_server_common.proofs.HeaderLemmas.{laid_out}
use Rattle.program_server_common.proofs.header.append_header.Goals as goal

pub returns : goal.returns
unfolding header_text
returns c config is =
    let entries = c.args.entries.now in
    let bare = flat_map (λ e. entry_text [] e.now) entries in
    let quoted = flat_map (λ e. entry_text (codes "'") e.now) entries in
    let wrote : c.append_entries-2.new.text.items ++ (codes "\n" ++ []) ≡ c.args.text.now.items
    ++ header_text c.args.program.now VERSION.now c.args.name.now config (map (λ e. e.now) entries) =
    rw (
      c.in_ok-append_entries-2.ensures,
      c.in_ok-append-3.ensures,
      c.in_ok-append_entries.ensures,
      c.in_ok-append-2.ensures,
      c.in_ok-append.ensures,
      c.shown_name.ensures,
      c.as_bytes.ensures.value,
      c.as_bytes-2.ensures.value,
      c.as_bytes-3.ensures.value,
      is,
      flat_map-map (entry_text []) (λ e. e.now) entries,
      flat_map-map (entry_text (codes "'")) (λ e. e.now) entries,
    )
    (laid_out c.args.text.now.items (codes "# Record of ") c.args.program.now (codes " ") VERSION.now
    (codes ", format 1\n") (codes "# options: ") (options_text config) bare (codes "\n")
    (codes "# replay: coap-server --script ") (shown_name c.args.name.now) quoted) in
    subst (λ text. OnOk c.append-4.result (c.append-4.new.text.items ≡ text)) wrote c.append-4.ensures
