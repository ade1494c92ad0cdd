use Rattle.std.proofs.Common.{refl}
use Rattle.coap_server_engine.specs.Prelude.{IsSettled, IsMarked, session_written}
use Rattle.coap_server_engine.proofs.values.ServerLemmas.{settled_call, unmarked_at, one_of_all}
use Rattle.coap_server_engine.proofs.server.sessions.written_at.Goals as goal

pub written_and_settled-requires : goal.written_and_settled-requires
written_and_settled-requires c =
    let shared = c.args.shared.now in
    let here = unmarked_at _ c.args.at _ c.index_mut.ensures.value in
    record {
      within = rw here at c.requires.waiting;
      settled = one_of_all (IsSettled shared) _ _ _ c.requires.settled here;
      marked = one_of_all (IsMarked shared) _ _ _ c.requires.marked c.index_mut.ensures.value;
    }

pub returns : goal.returns
returns c =
    let e = c.written_and_settled.ensures in
    assumption (settled_call (λ s. session_written s c.args.count) c.written_and_settled.new.self c.requires.marked
    c.index_mut.ensures.value refl e.after e.marked)
