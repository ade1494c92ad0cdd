-- The first message is a CSM, in both directions.
use Rattle.std.proofs.Common.{◌≡◌, Bool, cond, List, [], ◌∷◌, ◌++◌, Option, None, ap, refl}
use Rattle.coap_conn.specs.Prelude.{Message, bad_csm_option, is_waiting, ConnectionState, Reaction, react, own_csm}
use Rattle.coap_conn.specs.Prelude.{first_csm, Call, CallEffect, Handles, Does, Holds, Asks, Announces, Writes, Doing}
use Rattle.coap_conn.specs.Prelude.{call_effect, History, AnnouncedFirst, link_of, with_deed, after, Reason}
use Rattle.coap_conn.specs.declared.phase.Phase.TheVariants as phase
use Rattle.coap_conn.specs.Verdicts as verdict
use Rattle.coap_wire.specs.Codes as code
use Rattle.coap_conn.proofs.RequestLemmas.{react_asks}
use Rattle.coap_conn.proofs.ReactionLaws.{Opens, Reacts, Reopens, reacts}
use Rattle.std.proofs.lemmas.Bool.{cond_both}

-- A message that is queued later does not change the first one.
pub first_stays : (h : History) (more : List Message) → AnnouncedFirst h
    → (others : List Message) × (h.queued ++ more ≡ first_csm h.limits.max_message ∷ others)
first_stays h more first = (first.0 ++ more, rw first.1 refl)

-- The same if nothing is queued.
pub guarded_first : (does : Bool) (h after : History) → AnnouncedFirst after → AnnouncedFirst h
    → AnnouncedFirst (cond does after h)
guarded_first does h after then first = cond_both does after h AnnouncedFirst (λ e. then) (λ e. first)

deed_first : (h : History) (d : CallEffect) → AnnouncedFirst h → AnnouncedFirst (with_deed h d)
deed_first h (Handles m e) first = first_stays h e.queued first
deed_first h (Does e) first = first_stays h e.queued first
deed_first h (Holds e) first = first
deed_first h (Asks m outstanding tokens) first = first_stays h (m ∷ []) first
deed_first h (Announces size) first = first_stays h (own_csm size ∷ []) first
deed_first h (Writes n) first = first

-- No call changes the first message.
pub call_first : (h : History) (c : Call) → AnnouncedFirst h → AnnouncedFirst (after h c)
call_first h c first =
    let d : Doing = call_effect (link_of h) c in
    guarded_first d.so h (with_deed h d.deed) (deed_first h d.deed first) first

-- ---- before the peer's first CSM

pub no_request_waiting : (s : ConnectionState) (m : Message) → s.phase ≡ phase.Waiting
    → (react s m).verdict ≡ verdict.Request → ⊥
no_request_waiting s m waits requested =
    cc ((react_asks s m requested).not_waiting, ap is_waiting waits)

-- A message that opens a waiting connection is a valid CSM.
pub opened_by_csm : (s : ConnectionState) (m : Message) → s.phase ≡ phase.Waiting
    → (react s m).effect.phase ≡ phase.Open → (m.code ≡ code.csm) × (bad_csm_option m ≡ None)
opened_by_csm s m waits = by (reacts s m)
  where
    by : {over : Option Reason} {r : Reaction} → Reacts s m over r → r.effect.phase ≡ phase.Open
        → (m.code ≡ code.csm) × (bad_csm_option m ≡ None)
    by (Opens csm none) is = (csm, none)
    by (Reopens csm none) is = (csm, none)
    by _ is = absurd cc
