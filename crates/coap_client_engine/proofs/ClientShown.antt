-- If the clauses of a call hold for the value of a client, `ClientShows` holds for the client after the call.
use Rattle.std.proofs.Common.{◌≡◌, ℕ, List, [], ◌∷◌, ◌++◌, take, Option, Result, Ok, Err, ap, subst, sym, refl, ◌∙◌}
use Rattle.coap_client_engine.specs.Prelude.{OnOk, Client, LimitValues, LinkValue, link_of, ClientValue, taking}
use Rattle.coap_client_engine.specs.Prelude.{ClientEventValue, new_client, ClientCall, Took, client_after, takes}
use Rattle.coap_client_engine.specs.Prelude.{event_of, IsAccepted, AreAccepted, client_of, ClientShows}
use Rattle.coap_conn.proofs.LinkLemmas.{new_shown}
use Rattle.coap_client_engine.proofs.ClientSteps.{stream_first, client_first, accepted_no_call, accepted_with_call}
use Rattle.coap_client_engine.proofs.ClientReached.{limits_same, Accepts, client_by, bare_left, IsTakenAndReported}
use Rattle.coap_client_engine.proofs.ClientReached.{takes_and_reports, accepted_reach}

client_limits : (limits : LimitValues) (tokens : ℕ) (calls : List ClientCall)
    → (client_of limits tokens calls).link.limits ≡ limits
unfolding client_of
client_limits limits tokens calls = limits_same limits tokens calls

-- `ClientShows` holds for the client after accepted calls.
shows_client_of : (limits : LimitValues) (tokens : ℕ) (calls : List ClientCall) (v : ClientValue)
    → v ≡ client_of limits tokens calls → AreAccepted limits tokens calls → ClientShows v tokens calls
shows_client_of limits tokens calls v is all =
    let same : limits ≡ v.link.limits = sym (client_limits limits tokens calls) ∙ cc in
    record {
      accepted = subst (λ (l : LimitValues). AreAccepted l tokens calls) same all;
      same = is ∙ ap (λ (l : LimitValues). client_of l tokens calls) same;
    }

-- ---- open

client_opened : (limits : LimitValues) (tokens : ℕ) → new_client limits tokens ≡ client_of limits tokens []
unfolding client_of
client_opened limits tokens = rw (client_first, stream_first) (cc ((new_shown Client limits tokens _ refl).same))

pub opened_shown : (v : ClientValue) (limits : LimitValues) (tokens : ℕ) → v ≡ new_client limits tokens
    → ClientShows v tokens []
opened_shown v limits tokens is =
    shows_client_of limits tokens [] v (is ∙ client_opened limits tokens) (accepted_no_call limits tokens)

-- ---- one more call

-- A call that accepts no bytes.
is_accepted : (limits : LimitValues) (tokens : ℕ) (calls : List ClientCall) (c : ClientCall)
    → Accepts (link_of (client_after limits tokens calls)) c → IsAccepted limits tokens calls c
unfolding IsAccepted
is_accepted limits tokens calls (Took bytes) may = absurd may
is_accepted limits tokens calls c may = may

client_link : (limits : LimitValues) (tokens : ℕ) (calls : List ClientCall)
    → (client_of limits tokens calls).link ≡ link_of (client_after limits tokens calls)
unfolding client_of
client_link limits tokens calls = refl

pub call_shown : (v new : ClientValue) (c : ClientCall) → Accepts v.link c → new ≡ client_by c v
    → (tokens : ℕ) (calls : List ClientCall) → ClientShows v tokens calls → ClientShows new tokens (calls ++ c ∷ [])
call_shown v new c may is tokens calls shows =
    let limits : LimitValues = v.link.limits in
    let link : v.link ≡ link_of (client_after limits tokens calls) =
    ap (λ (u : ClientValue). u.link) shows.same ∙ client_link limits tokens calls in
    let accepts = subst (λ (l : LinkValue). Accepts l c) link may in
    shows_client_of limits tokens (calls ++ c ∷ []) new
    (is ∙ ap (client_by c) shows.same
    ∙ bare_left limits tokens calls (accepted_reach limits tokens calls shows.accepted) c accepts)
    (accepted_with_call limits tokens calls c shows.accepted (is_accepted limits tokens calls c accepts))

-- The same if the call may fail.
pub ok_shown : {T F : Type 0} (r : Result T F) (v new : ClientValue) (c : ClientCall) → OnOk r (Accepts v.link c)
    → OnOk r (new ≡ client_by c v) → OnOk r ((tokens : ℕ) (calls : List ClientCall) → ClientShows v tokens calls
    → ClientShows new tokens (calls ++ c ∷ []))
ok_shown (Ok x) v new c may is = call_shown v new c may is
ok_shown (Err e) v new c may is = tt

-- ---- take

module _ (v : ClientValue) (piece : List ℕ) (n : ℕ) (count : n ≡ (taking v piece).count) (tokens : ℕ)
    (calls : List ClientCall) (shows : ClientShows v tokens calls) where
  -- The result of a `take` is the one that the definitions give.
  reported : IsTakenAndReported v.link.limits tokens calls piece
      (take (takes v.link.limits tokens calls piece) piece)
  reported =
      takes_and_reports v.link.limits tokens calls (accepted_reach v.link.limits tokens calls shows.accepted) piece

  -- The number of accepted bytes.
  pub took_takes : n ≡ takes v.link.limits tokens calls piece
  took_takes = cc (count, shows.same, reported.count)

  -- The event.
  pub took_reported : (e : Option ClientEventValue) → e ≡ (taking v piece).event
      → e ≡ event_of v.link.limits tokens calls (Took (take n piece))
  took_reported e is = rw took_takes (cc (is, shows.same, reported.event))

  -- The client after the call.
  pub took_shown : ClientShows (taking v piece).client tokens (calls ++ Took (take n piece) ∷ [])
  took_shown =
      rw took_takes (shows_client_of v.link.limits tokens _ _ (cc (shows.same, reported.client))
      (accepted_with_call v.link.limits tokens calls _ shows.accepted reported.accepted))
