use Rattle.std.proofs.Common.{refl, sym, ◌∙◌}
use Rattle.std.proofs.lemmas.List.{nil_from_length}
use Rattle.coap_server_engine.specs.Prelude.{session_written}
use Rattle.coap_io.proofs.streams.DeviceLemmas.{bytes_none}
use Rattle.coap_io.proofs.streams.WriteLemmas.{on_any_fault}
use Rattle.coap_server_engine.proofs.values.ServerLemmas.{written_back, settled_call, unmarked_at, all_written}
use Rattle.coap_server_engine.proofs.values.ServerLemmas.{one_of_all, same_session, for_one_on_fault}
use Rattle.coap_server_engine.proofs.server.sessions.flush_at.Goals as goal

pub returns-then-count-eq0-clause-ok : goal.returns-then-count-eq0-clause-ok
returns-then-count-eq0-clause-ok g c s here =
    let old = c.index_mut-session.result.now in
    let none = nil_from_length old.session.link.waiting (sym c.waiting-count.ensures ∙ c.if-count-eq0.true) in
    rw (← same_session _ _ s (unmarked_at _ c.args.at _ c.index_mut-session.ensures.value) here)
    (none, rw (written_back _ _ _ _ c.index_mut-session.ensures.value refl), bytes_none _)

pub returns-then-count-eq0-clause-marked : goal.returns-then-count-eq0-clause-marked
returns-then-count-eq0-clause-marked g c =
    rw (written_back _ _ _ _ c.index_mut-session.ensures.value refl) c.requires.marked

pub returns-in_err-write_parts-clause-part : goal.returns-in_err-write_parts-clause-part
returns-in_err-write_parts-clause-part g c =
    for_one_on_fault _ _ _ _ (unmarked_at _ c.args.at _ c.index_mut-session.ensures.value)
    (rw c.parts.ensures at c.in_err-write_parts.ensures.part)

pub returns-in_err-write_parts-clause-err : goal.returns-in_err-write_parts-clause-err
returns-in_err-write_parts-clause-err g c =
    on_any_fault _ _ (written_back _ _ _ _ c.index_mut-session.ensures.value refl)

pub returns-in_err-write_parts-clause-marked : goal.returns-in_err-write_parts-clause-marked
returns-in_err-write_parts-clause-marked g c =
    rw (written_back _ _ _ _ c.index_mut-session.ensures.value refl) c.requires.marked

pub settle-requires : goal.settle-requires
settle-requires g c =
    rw c.written.ensures (one_of_all _ _ _ _ c.requires.marked c.index_mut-session.ensures.value)

pub returns-clause-ok : goal.returns-clause-ok
returns-clause-ok g c s here =
    let old = c.index_mut-session.result.now in
    let call = settled_call (λ u. session_written u _) _
    c.requires.marked c.index_mut-session.ensures.value (rw (c.written.ensures, c.waiting-count.ensures))
    c.settle.ensures.after c.settle.ensures.marked in
    rw (← same_session _ _ s (unmarked_at _ c.args.at _ c.index_mut-session.ensures.value)
    here) (call.after, rw c.parts.ensures at c.in_ok-write_parts.ensures.ok)

pub returns-clause-marked : goal.returns-clause-marked
returns-clause-marked g c = all_written _ _ _ _ c.requires.marked c.settle.ensures.marked
