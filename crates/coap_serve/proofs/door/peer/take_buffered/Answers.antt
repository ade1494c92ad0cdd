use Rattle.std.proofs.Common.{sym, ◌∙◌}
use Rattle.coap_serve.specs.Prelude.{session_of, stop_on}
use Rattle.coap_serve.proofs.listener.ConfigLemmas.{partly_keys}
use Rattle.coap_serve.proofs.listener.ServingLemmas.{none_kept, none_left, rest_kept, taken_in_part}
use Rattle.coap_serve.proofs.door.peer.take_buffered.Goals as goal

pub returns-in_default-clause-keys : goal.returns-in_default-clause-keys
returns-in_default-clause-keys g c = partly_keys c.in_default.ensures.partly

pub returns-then-is_empty-clause-taken : goal.returns-then-is_empty-clause-taken
returns-then-is_empty-clause-taken _ c =
    taken_in_part _ _ _ _ _ _ _ _ (rw c.bytes.ensures at c.in-Ok.ensures.served) (none_left (stop_on (session_of _ _))
    (sym c.is_empty.ensures ∙ c.if-is_empty.true) c.advance.ensures)

pub returns-then-has_stopped-clause-taken : goal.returns-then-has_stopped-clause-taken
returns-then-has_stopped-clause-taken g c =
    taken_in_part _ _ _ _ _ _ _ _ (rw c.bytes.ensures at c.in-Ok.ensures.served) (none_kept (stop_on (session_of _ _)) _
    (sym c.has_stopped.ensures ∙ c.if-has_stopped.true) c.clear.ensures)

pub returns-else-has_stopped-clause-taken : goal.returns-else-has_stopped-clause-taken
returns-else-has_stopped-clause-taken g c =
    taken_in_part _ _ _ _ _ _ _ _ (rw c.bytes.ensures at c.in-Ok.ensures.served) (rest_kept (stop_on (session_of _ _))
    (sym c.has_stopped.ensures ∙ c.if-has_stopped.false) c.advance.ensures)
