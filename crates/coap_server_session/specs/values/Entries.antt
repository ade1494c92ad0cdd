-- The observer entries of a connection, as the code finds and changes them by index (RFC 7641 section 4), and the
-- framer after a stop.
use Rattle.std.specs.Prelude.{◌≡◌, ℕ, Bool, ◌&&◌, List, [], ◌∷◌, length, Option, Some, None, is_some, option_map}
use Rattle.std.specs.Prelude.{slice_get, suc, ◌==◌, if◌then◌else◌}
use Rattle.coap_wire.specs.Message.{Message}
use Rattle.coap_frame.specs.Framing.{FramerValue}
use Rattle.coap_conn.specs.Fit.{fit, bare_response}
use Rattle.coap_conn.specs.LinkValue.{LinkValue, limit_in}
use Rattle.coap_conn.specs.Calls.{link_after}
use Rattle.coap_conn.specs.Calls as call
use Rattle.coap_store.specs.Messages.{response_with_observe}
use Rattle.coap_store.specs.Notifications.{notification_of}
use Rattle.coap_server_session.specs.declared.server_state.ServerState.{ServerState}
use Rattle.coap_server_session.specs.declared.observers.StaleObserver.{StaleObserver}
use Rattle.coap_model.specs.world.Connections.{moment_after, Delay, hold_call}
use Rattle.coap_model.specs.world.Observers.{has_place, is_whole, with_entry, goes_on, first_becomes}
use Rattle.coap_server_session.specs.values.Sessions.{ObserverValue, SessionValue, frame_on, new_entry, answer_on}
use Rattle.coap_server_session.specs.values.Sessions.{entry_left, mark_of, state_on, is_stale, notification_on}
use Rattle.coap_server_session.specs.values.Sessions.{session_settled}

-- The index of the first element for which `due` is `true`.
unfoldable pub first_index : {O : Type 0} → (O → Bool) → List O → Option ℕ
first_index due [] = None
first_index due (o ∷ os) = if due o then Some 0 else option_map (λ i. suc i) (first_index due os)

-- Holds if `found` is the first stale observer, with the mark of the current state of its path.
pub record IsFirstStale (shared : ServerState) (observers : List ObserverValue) (found : StaleObserver) : Type 0 where
  pub first : first_index (is_stale shared) observers ≡ Some found.index
  pub mark : (o : ObserverValue) → slice_get observers found.index ≡ Some o
      → found.mark ≡ mark_of shared.now (state_on shared o.path)

-- Holds if `found` is the first observer with a changed mark, with that mark.
pub record IsFirstMarked (marks : List (Option ℕ)) (found : StaleObserver) : Type 0 where
  pub first : first_index is_some marks ≡ Some found.index
  pub mark : slice_get marks found.index ≡ Some (Some found.mark)

-- ---- a request (RFC 7641 section 4.1)

-- `true` if the response to a request has Observe: the request asks for an entry, and there are fewer than `room`
-- others.
abbrev pub is_observed : ServerState → ℕ → List ObserverValue → Message → Bool
is_observed shared room others m = has_place room others (answer_on shared m).watch

-- The response to a request that is answered at once.
abbrev pub response_on : ServerState → ℕ → List ObserverValue → Message → Message
response_on shared room others m =
    response_with_observe m.token (is_observed shared room others m) (answer_on shared m).response

-- `true` if a response is sent whole.
abbrev pub is_sent : LinkValue → Message → Bool
is_sent l m = is_whole (fit (limit_in l) m (bare_response m))

-- The entries after a request that is answered at once. `others` are the entries with other tokens.
abbrev pub entries_requested : ServerState → LinkValue → ℕ → List ObserverValue → Message → List ObserverValue
entries_requested shared l room others m =
    with_entry (is_observed shared room others m && is_sent l (response_on shared room others m)) others
    (new_entry shared m)

-- The link after a request: its response is sent at once, or is delayed.
abbrev pub link_replied : ServerState → LinkValue → ℕ → List ObserverValue → Message → Option Delay → LinkValue
link_replied shared l room others m None = link_after l (call.Reply (response_on shared room others m))
link_replied shared l room others m (Some d) = link_after l (hold_call d.by m.token (moment_after shared.now d.seconds))

-- The entries after a request. A request whose response is delayed has no entry.
abbrev pub entries_replied : ServerState → LinkValue → ℕ → List ObserverValue → Message
    → Option Delay → List ObserverValue
entries_replied shared l room others m None = entries_requested shared l room others m
entries_replied shared l room others m (Some d) = others

-- ---- a notification (RFC 7641 section 4.2)

-- The entries after a notification of `o`, the first stale observer among them.
abbrev pub entries_notified : ServerState → LinkValue → List ObserverValue → ObserverValue → List ObserverValue
entries_notified shared l entries o =
    first_becomes (is_stale shared) (entry_left shared o
    (goes_on (notification_of shared.store shared.now o.path o.format) && is_sent l (notification_on shared o))) entries

-- ---- pending entries

-- The connection after it settles, which it does only if an entry is pending.
abbrev pub settled_pending : ServerState → SessionValue → SessionValue
settled_pending shared v = if length v.link.pending == 0 then v else session_settled shared v

-- ---- a stop

-- The framer of a link: without the bytes of an unfinished frame if the link no longer accepts messages. The split
-- frame that it returned last stays.
abbrev pub framer_on : LinkValue → FramerValue → FramerValue
framer_on l f = record f { kept = frame_on l f.kept }
