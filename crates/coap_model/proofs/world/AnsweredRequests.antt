-- A message that the caller answers is a request. A server asks its caller to answer each request, or stops.
use Rattle.std.proofs.Common.{Bool, None, Option, Some, arith, cond, false, inl, inr, is_none, refl, rules, true, ℕ}
use Rattle.std.proofs.Common.{◌==◌, ◌≡◌, ◌⊎◌}
use Rattle.std.proofs.lemmas.Bool.{and_from, both_ways, cond_both}
use Rattle.std.proofs.lemmas.Grind.{common_steps}
use Rattle.coap_model.specs.Prelude.{Bare, ConnectionState, Message, Reaction, Reason, Reply, Server, Stopped, Whole}
use Rattle.coap_model.specs.Prelude.{has_stopped, is_asking, is_request, live_reaction, react, reaction_unless, stop_of}
use Rattle.coap_model.specs.Prelude.{takes_messages}
use Rattle.coap_conn.specs.Reaction.{answered, csm_reaction, open_reaction, ping_reaction, reply_verdict}
use Rattle.coap_conn.specs.Outstanding.{OutstandingValue, is_last}
use Rattle.coap_conn.specs.Phases.{is_waiting}
use Rattle.coap_conn.proofs.ReactionLaws.{live_so}
use Rattle.coap_conn.specs.Verdicts as verdict
use Rattle.coap_wire.specs.Codes as code

-- ---- a message that the caller answers

-- The caller does not answer the message.
abbrev IsNoRequest : Reaction → Type 0
IsNoRequest r = is_request r.verdict ≡ false

reply_none : (r : Reply) → is_request (reply_verdict r) ≡ false
reply_none Whole = refl
reply_none Bare = refl
reply_none Stopped = refl

opened_none : (waiting : Bool) → is_request (cond waiting verdict.Opened verdict.Done) ≡ false
opened_none true = refl
opened_none false = refl

csm_none : (s : ConnectionState) (bad : Option ℕ) → IsNoRequest (csm_reaction s bad)
csm_none s None = opened_none (is_waiting s.phase)
csm_none s (Some number) = refl

ping_none : (s : ConnectionState) (m : Message) → IsNoRequest (ping_reaction s m)
ping_none s m = search (rules, cond_both, reply_none)

answered_none : (s : ConnectionState) (m : Message) (e : Option OutstandingValue) → IsNoRequest (answered s m e)
answered_none s m None = refl
answered_none s m (Some e) = cond_both (is_last m e) _ _ IsNoRequest (λ last. refl) (λ other. refl)

module _ (s : ConnectionState) (m : Message) where
  -- If the caller answers the message, it is a request.
  abbrev Asks : Reaction → Type 0
  Asks r = is_request r.verdict ≡ true → is_asking m ≡ true

  open_asks : (m.code == code.empty) ≡ false → Asks (open_reaction s m)
  open_asks some = search (rules, cond_both, both_ways, ping_none, and_from, answered_none)

  live_asks : Asks (live_reaction s m)
  unfolding live_reaction
  live_asks = grind (arith, common_steps, cond_both, both_ways, csm_none, open_asks)

  unless_asks : (over : Option Reason) → Asks (reaction_unless s m over)
  unless_asks None = live_asks
  unless_asks (Some why) = λ asks. absurd cc

  pub answered_is_request : is_request (react s m).verdict ≡ true → is_asking m ≡ true
  unfolding react
  answered_is_request = unless_asks (stop_of s.phase)

-- ---- a request

-- The caller answers the request, or the connection stops.
abbrev IsRequestedOrOver : Reaction → Type 0
IsRequestedOrOver r = (is_request r.verdict ≡ true) ⊎ (has_stopped r.effect.phase ≡ true)

pub requested_or_over : (s : ConnectionState) (m : Message) → s.role ≡ Server → takes_messages s.phase ≡ true
    → is_asking m ≡ true → IsRequestedOrOver (react s m)
unfolding react
requested_or_over s m server live asks = by (stop_of s.phase) live
  where
    by : (over : Option Reason) → is_none over ≡ true → IsRequestedOrOver (reaction_unless s m over)
    by None none = live_so s m IsRequestedOrOver (record {
      requested = inl refl;
      silent = λ now outstanding what other may on. absurd (both_ways (is_asking m) other asks);
      stops = λ why farewell what plain one may. inr refl;
      queues = λ n what may. absurd (both_ways (is_asking m) (may.plain server).1 asks);
      keeps = λ now other ping custody some. absurd (both_ways (is_asking m) other asks);
    })
    by (Some why) none = absurd cc
