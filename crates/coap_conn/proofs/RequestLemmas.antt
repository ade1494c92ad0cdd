-- A request changes nothing, and the caller can respond at once.
use Rattle.std.proofs.Common.{◌≡◌, Bool, true, false, cond, [], Option, None, refl, arith, ap, sym, ◌∙◌}
use Rattle.coap_conn.specs.Prelude.{Message, Reason, Phase, stop_of, takes_messages, IsLive, IsAnswering, is_waiting}
use Rattle.coap_conn.specs.Prelude.{announcement, token_announcement, ConnectionState, ReactionResult, Reaction, react}
use Rattle.coap_conn.specs.Prelude.{live_reaction, LinkValue, state_in, link_handled, link_received, link_after}
use Rattle.coap_conn.specs.Prelude.{VerdictValue}
use Rattle.std.proofs.lemmas.List.{append-nil}
use Rattle.coap_conn.specs.Verdicts as verdict
use Rattle.coap_conn.specs.Calls as call
use Rattle.coap_conn.proofs.ReactionLaws.{Reacts, Requests, reacts}

-- ---- messages that are accepted

pub react_live : (s : ConnectionState) (m : Message) → stop_of s.phase ≡ None → react s m ≡ live_reaction s m
unfolding react
react_live s m live = rw live refl

pub handled_is : (v : LinkValue) (m : Message) → IsLive v.phase → link_after v (call.Handle m) ≡ link_handled v m
unfolding react
handled_is v m live = rw live refl

-- ---- requests

-- For a request nothing is queued, the phase and all entries are unchanged, and the message announces nothing.
pub record IsQuiet (s : ConnectionState) (m : Message) (e : ReactionResult) : Type 0 where
  pub nothing : e.queued ≡ []
  pub same : e.phase ≡ s.phase
  pub kept : e.pending ≡ s.pending
  pub kept_requested : e.outstanding ≡ s.outstanding
  pub not_waiting : is_waiting s.phase ≡ false
  pub announces : announcement m ≡ None
  pub reports_none : token_announcement m ≡ None

-- The effect is such if the verdict is `Request`.
abbrev Asks : ConnectionState → Message → Reaction → Type 0
Asks s m r = r.verdict ≡ verdict.Request → IsQuiet s m r.effect

pub react_asks : (s : ConnectionState) (m : Message) → Asks s m (react s m)
react_asks s m = by (reacts s m)
  where
    by : {over : Option Reason} {r : Reaction} → Reacts s m over r → Asks s m r
    by (Requests now other) is = record {
      nothing = refl;
      same = refl;
      kept = refl;
      kept_requested = refl;
      not_waiting = now;
      announces = rw other refl;
      reports_none = rw other refl;
    }
    by _ is = absurd cc

stays_by : (v : LinkValue) (m : Message) (e : ReactionResult) (takes : Bool) → IsQuiet (state_in v) m e
    → cond takes (link_received v m e) v ≡ v
stays_by v m e true quiet =
    rw (
      quiet.nothing,
      quiet.same,
      quiet.kept,
      quiet.kept_requested,
      quiet.announces,
      quiet.reports_none,
      append-nil v.waiting,
    ) refl
stays_by v m e false quiet = refl

-- A request leaves the link unchanged.
pub request_stays : (v : LinkValue) (m : Message) → (react (state_in v) m).verdict ≡ verdict.Request
    → link_after v (call.Handle m) ≡ v
request_stays v m requested =
    stays_by v m (react (state_in v) m).effect (takes_messages v.phase) (react_asks (state_in v) m requested)

answering_at : (p : Phase) → IsLive p → is_waiting p ≡ false → IsAnswering p
answering_at p live e = grind arith

-- The link may then send a response.
pub request_left : (v new : LinkValue) (m : Message) (what : VerdictValue) → IsLive v.phase
    → what ≡ (live_reaction (state_in v) m).verdict → new ≡ link_handled v m → what ≡ verdict.Request
    → (new ≡ v) × IsAnswering v.phase
request_left v new m what live reported handled requested =
    let asked = ap (λ r. r.verdict) (react_live (state_in v) m live) ∙ sym reported ∙ requested in (
      handled ∙ sym (handled_is v m live) ∙ request_stays v m asked,
      answering_at v.phase live (react_asks (state_in v) m asked).not_waiting,
    )
