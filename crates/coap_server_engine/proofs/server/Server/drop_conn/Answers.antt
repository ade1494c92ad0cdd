use Rattle.std.proofs.Common.{ap, sym, ◌∙◌}
use Rattle.std.proofs.lemmas.List.{length-map}
use Rattle.indexmap.proofs.SetLemmas.{map-remove}
use Rattle.coap_server_engine.specs.Prelude.{IsMarked, unmarked, unmarked_entry}
use Rattle.coap_server_engine.proofs.values.ServerLemmas.{dropped_server, dropped_value, is_there_at}
use Rattle.coap_server_session.proofs.values.TagLemmas.{all_remove}
use Rattle.coap_server_engine.proofs.world.ShowLaws.{drop_shows}
use Rattle.coap_server_engine.proofs.server.Server.drop_conn.Goals as goal

pub follow_removal-requires-clause-many : goal.follow_removal-requires-clause-many
follow_removal-requires-clause-many c = c.self.invariant.covered.many

pub invariant_of-self : goal.invariant_of-self
invariant_of-self c =
    let es = c.self.inside.sessions.entries in
    let removed = ap unmarked c.shift_remove_index.ensures.entries ∙ map-remove unmarked_entry es _ in
    record {
      server = dropped_server _ _ _ _ c.self.invariant.server c.in-Some.ensures.some removed;
      marked =
          rw c.shift_remove_index.ensures.entries
          (all_remove (λ e. IsMarked c.self.inside.shared e.1) es _ c.self.invariant.marked);
      covered =
          rw removed (c.follow_removal.ensures (unmarked es) (length-map es unmarked_entry ∙ sym c.len.ensures.len)
          c.self.invariant.covered);
    }

pub returns : goal.returns
returns c =
    let es = c.self.inside.sessions.entries in
    let there = is_there_at _ _ _ c.in-Some.ensures.some in
    let ok = dropped_value _ _ _ _ c.self.invariant.server c.in-Some.ensures.some
    (ap unmarked c.shift_remove_index.ensures.entries ∙ map-remove unmarked_entry es c.in-Some.at) in
    rw (← c.self.view_is) (assumption (there, ok, drop_shows _ _ _ there ok))
