use Rattle.std.proofs.Common.{sym, ◌∙◌}
use Rattle.coap_server_engine.specs.Prelude.{Concerned}
use Rattle.coap_server_engine.proofs.values.ConcernedLemmas.{covered_full}
use Rattle.coap_server_engine.proofs.server.concerned.Concerned.new.Goals as goal

pub returns : goal.returns
returns c =
    let sets : Concerned = record { paths = c.in_ok-vec.field-0; time = c.full-2.result } in
    let e = c.in_ok-vec.ensures in
    let many = sym c.in_ok-vec.field-0.ok.0 ∙ e.len in
    covered_full sets _ c.full.ensures many (e.items_if_clones_equal (λ y same. same)) c.full-2.ensures
