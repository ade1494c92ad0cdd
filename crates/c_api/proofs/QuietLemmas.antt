-- A take that handles nothing leaves the output of each connection. One that accepts no byte handles nothing.
use Rattle.std.proofs.Common.{◌≡◌, ◌≢◌, inl, inr, ℕ, true, false, List, [], take, Option, Some, None, Result, Ok, Err}
use Rattle.std.proofs.Common.{refl, sym, ap, ◌∙◌, arith, slice_get}
use Rattle.std.proofs.lemmas.Bool.{and_parts, cases_Bool, cases_eq}
use Rattle.std.proofs.lemmas.Bool.Decides.{nat_tests}
use Rattle.std.proofs.lemmas.Map.Entries.{length-values_of}
use denote.Ref.{Bor}
use Rattle.coap_frame.specs.Framing.{FrameEventValue, Nothing, AFrame, AFault, Framing, framing}
use Rattle.coap_conn.specs.Prelude.{abort, link_with, state_in}
use Rattle.coap_conn.specs.declared.phase.Reject.{Reject}
use Rattle.coap_conn.specs.declared.phase.Reject.TheVariants as reject
use Rattle.coap_model.specs.declared.answers.Handled.{Handled}
use Rattle.coap_model.specs.declared.answers.Handled.TheVariants as handled
use Rattle.coap_model.proofs.OptionLemmas.{there_at}
use Rattle.coap_model.proofs.world.StepLaws.{world_same}
use Rattle.coap_model.proofs.world.TookLaws.{no_bytes_steps}
use Rattle.coap_server_session.specs.values.Sessions.{session_ready, session_max, next_pending_in, next_stale}
use Rattle.coap_server_session.proofs.values.SettleLemmas.{none_is_pending, settled_quiet, settled_stays}
use Rattle.coap_server_session.proofs.values.TakenLemmas.{refused_changes_nothing, refused_kept, shared_stays}
use Rattle.coap_server_engine.specs.Prelude.{AreSettled, LiesAt, ServerValue, Shows, count_taken, handled_by}
use Rattle.coap_server_engine.specs.Prelude.{handled_so, keys_of, server_taken, server_taken_on, server_taken_so}
use Rattle.coap_server_engine.specs.Prelude.{session_of, stop_on, values_of, waiting_at, Message, message_of, OfFrame}
use Rattle.coap_server_engine.specs.Prelude.{FormatFault, takes_messages, stop_of, reject_of, reject_reason, Reason}
use Rattle.coap_server_engine.specs.Prelude.{Change, ConfigValues, Connection, AcceptedCall, Took, world_after}
use Rattle.coap_server_engine.specs.Prelude.{handled_between, handled_in, side_of, ServerState, SessionValue}
use Rattle.coap_server_engine.specs.Prelude.{TakeOutcome, IsSettled, RefusesPiece, taking, session_takes}
use Rattle.coap_server_engine.specs.Prelude.{session_rejected, session_settled, shared_changed, taking_found}
use Rattle.coap_server_engine.specs.Prelude.{taking_read, RefusesPieceOn}
use Rattle.coap_server_engine.specs.values.Flushes.{waiting_in}
use Rattle.coap_server_engine.proofs.values.ServerLemmas.{one_of_all}
use Rattle.coap_server_engine.proofs.values.WorkLemmas.{keeps_others}
use Rattle.coap_server_engine.proofs.world.AtOnceLaws.{becomes_settled}
use Rattle.coap_server_engine.proofs.world.HandledLaws.{take_says}
use Rattle.coap_server_engine.proofs.world.ShowLaws.{taking_stopped}
use Rattle.c_api.specs.Numbers.{handled_code}
use Rattle.c_api.specs.ServerCalls.{IsTakenOn}
use Rattle.c_api.specs.declared.server.Took.{Took as TookResult}

-- The ids and the output of the connections are the same.
pub record IsQuiet (v after : ServerValue) : Type 0 where
  pub keys : keys_of after.sessions ≡ keys_of v.sessions
  pub same : (id : ℕ) → waiting_at id after ≡ waiting_at id v

-- ---- a connection

-- The take changes at most the kept bytes.
pub record IsUnhandled (s : SessionValue) (t : TakeOutcome) : Type 0 where
  pub frame : List ℕ
  pub session : t.session ≡ record s { frame = frame }
  pub change : t.change ≡ Change.Nothing

still_settled : (shared : ServerState) (s : SessionValue) (frame : List ℕ) → IsSettled shared s
    → IsSettled shared (record s { frame = frame })
unfolding next_pending_in next_stale
still_settled shared s frame settled = settled

-- A connection that rejected its input stays stopped when it settles.
rejected_stops : (shared : ServerState) (s : SessionValue) (fault : Reject) → takes_messages s.link.phase ≡ true
    → stop_of (session_settled shared (session_rejected s fault)).link.phase ≡ Some (reject_reason fault)
rejected_stops shared s fault live =
    let stopped : SessionValue =
    record {
      frame = [];
      link = link_with s.link (abort (state_in s.link) (reject_reason fault));
      observers = [];
    } in
    let is : session_rejected s fault ≡ stopped = rw live in
    let settled : IsSettled shared stopped =
    settled_quiet shared stopped (none_is_pending shared.now [] (omega arith)) refl in
    rw is (ap (λ (t : SessionValue). stop_of t.link.phase) (settled_stays shared stopped settled))

message_handled : (stop : Option Reason) → handled_so true true stop ≡ handled.Nothing → ⊥
message_handled stop nothing = grind arith

module _ (v : ServerValue) (id i : ℕ) (piece : List ℕ) (settled : AreSettled v.shared v.sessions)
    (lies : LiesAt id i v.sessions) where
  one : (s : SessionValue) × (slice_get (values_of v.sessions) i ≡ Some s)
  one = there_at (values_of v.sessions) i (omega (arith, lies.within, length-values_of v.sessions))

  abbrev s : SessionValue
  s = one.0

  here : session_of id v.sessions ≡ Some s
  here = lies.found ∙ one.1

  -- The server after a take with this effect.
  abbrev Results : TakeOutcome → Type 0
  Results t = handled_so (session_takes s) t.handled (stop_on (session_of id (server_taken_so v id t).sessions))
      ≡ handled.Nothing

  quiet_so : (t : TakeOutcome) → IsUnhandled s t → IsQuiet v (server_taken_so v id t)
  quiet_so t unhandled =
      let f : SessionValue → SessionValue = λ _. t.session in
      let shared : shared_changed v.shared t.change ≡ v.shared =
      shared_stays v.shared t.change (rw unhandled.change refl) in
      let others = keeps_others v id f settled in
      let own : IsSettled v.shared t.session =
      rw unhandled.session
      (still_settled v.shared s unhandled.frame (one_of_all (IsSettled v.shared) i v.sessions s settled one.1)) in
      rw shared (record {
        keys = others.keys;
        same =
            λ other.
            elim (cases_eq other id) [
              | inl same ↦ rw (
                same,
                becomes_settled v.shared id f v.sessions s here,
                here,
                settled_stays v.shared t.session own,
                unhandled.session,
              )
              | inr apart ↦ ap waiting_in (others.same other apart)
            ];
      })

  module _ (takes : session_takes s ≡ true) where
    live : takes_messages s.link.phase ≡ true
    live = (and_parts (takes_messages s.link.phase) (session_ready s) takes).0

    -- A connection that rejected its input has handled something.
    rejects : (count : ℕ) (fault : Reject)
        → Results (record {
          count = count;
          handled = false;
          session = session_rejected s fault;
          change = Change.Nothing;
        }) → ⊥
    rejects count fault nothing =
        let stop = ap stop_on (becomes_settled v.shared id (λ _. session_rejected s fault) v.sessions s here)
        ∙ rejected_stops v.shared s fault live in
        cc (rw (takes, stop) at nothing)

    read_unhandled : (count : ℕ) (r : Result Message FormatFault) → Results (taking_read v.shared s count r)
        → IsUnhandled s (taking_read v.shared s count r)
    read_unhandled count (Ok m) nothing = absurd (message_handled _ (rw takes at nothing))
    read_unhandled count (Err e) nothing = absurd (rejects count reject.Format nothing)

    found_unhandled : (f : Framing) (found : FrameEventValue) → Results (taking_found v.shared s f found)
        → IsUnhandled s (taking_found v.shared s f found)
    found_unhandled f Nothing nothing = record { frame = f.kept; session = refl; change = refl }
    found_unhandled f (AFault fault) nothing = absurd (rejects f.taken (reject_of (OfFrame fault)) nothing)
    found_unhandled f (AFrame frame) nothing = read_unhandled f.taken (message_of frame) nothing

    abbrev framed : Framing
    framed = framing (session_max s) s.frame piece

    taking_is : taking v.shared s piece ≡ taking_found v.shared s framed framed.finding
    unfolding taking
    taking_is = rw takes refl

    takes_unhandled : Results (taking v.shared s piece) → IsUnhandled s (taking v.shared s piece)
    takes_unhandled nothing =
        rw taking_is (found_unhandled framed framed.finding (rw taking_is at nothing))

  unhandled : Results (taking v.shared s piece) → IsUnhandled s (taking v.shared s piece)
  unhandled nothing = elim (cases_Bool (session_takes s)) [
    | inl takes ↦ takes_unhandled takes nothing
    | inr stopped ↦
        rw (taking_stopped v.shared s piece stopped) (record { frame = s.frame; session = refl; change = refl })
  ]

  after_take : (bytes : List ℕ) → server_taken v id bytes ≡ server_taken_so v id (taking v.shared s bytes)
  unfolding server_taken
  after_take bytes = ap (server_taken_on v id bytes) here

  -- A take that handles nothing.
  nothing_quiet : handled_by v id piece ≡ handled.Nothing → IsQuiet v (server_taken v id piece)
  unfolding handled_by
  nothing_quiet nothing =
      rw (after_take piece) (quiet_so (taking v.shared s piece) (unhandled (rw (here, after_take piece) at nothing)))

  -- A take in which an allocation failed.
  refused_quiet : (count : ℕ) → RefusesPieceOn v piece count (session_of id v.sessions)
      → IsQuiet v (server_taken v id (take count piece))
  refused_quiet count refuses =
      let on : RefusesPiece v.shared s piece count = rw here at refuses in
      let kept = refused_kept v.shared s piece count on
      (λ (w : SessionValue). (frame : List ℕ) × (w ≡ record s { frame = frame })) (λ frame. (frame, refl)) in
      let change = refused_changes_nothing v.shared s piece count on in
      rw (after_take (take count piece))
      (quiet_so (taking v.shared s (take count piece)) (record { frame = kept.0; session = kept.1; change = change }))

-- ---- the result of a take

code_nothing : (h : Handled) → handled_code h ≡ 0 → h ≡ handled.Nothing
code_nothing h zero = grind arith

-- If it reports that nothing was handled, no output changed.
pub taken_quiet : (id i : ℕ) (piece : Bor (List ℕ)) (t : TookResult) (v after : ServerValue)
    → AreSettled v.shared v.sessions → LiesAt id i v.sessions → IsTakenOn id piece t v after → t.handled ≡ 0
    → IsQuiet v after
taken_quiet id i piece t v after settled lies (inl (m, (o, (n, (says, (why, (lent, (changed, (is, shows))))))))) none =
    rw is (nothing_quiet v id i piece.now settled lies (code_nothing _ (sym says ∙ none)))
taken_quiet id i piece t v after settled lies (inr (refuses, (took, (is, shows)))) none =
    rw is (refused_quiet v id i piece.now settled lies t.bytes refuses)

-- If it reports that something was handled, the server is that after the take.
pub taken_whole : (id : ℕ) (piece : Bor (List ℕ)) (t : TookResult) (v after : ServerValue)
    → IsTakenOn id piece t v after → t.handled ≢ 0 → after ≡ server_taken v id piece.now
taken_whole id piece t v after (inl (m, (there, (n, (says, (why, (lent, (changed, (is, shows))))))))) some = is
taken_whole id piece t v after (inr (refuses, ((bytes, (says, rest)), does))) some = absurd (some says)

-- ---- no bytes

same_handles_nothing : (o : Option Connection) → handled_between o o ≡ handled.Nothing
same_handles_nothing None = refl
same_handles_nothing (Some c) = grind (arith, nat_tests)

no_bytes_handle_nothing : (c : ConfigValues) (events : List AcceptedCall) (id : ℕ)
    → handled_in c events (Took id []) id ≡ handled.Nothing
no_bytes_handle_nothing c events id =
    rw (world_same c events (Took id []) (no_bytes_steps c.limits.max_message id events))
    (same_handles_nothing (side_of id (world_after c events).sides))

-- A take that accepts no byte, on a server that shows events, handles nothing.
nothing_without_bytes : (v : ServerValue) (id : ℕ) (piece : List ℕ) (events : List AcceptedCall) → Shows v events
    → count_taken v id piece ≡ 0 → handled_by v id piece ≡ handled.Nothing
nothing_without_bytes v id piece events shows none =
    take_says (Ok (record { bytes = count_taken v id piece; handled = handled_by v id piece })) v id piece refl refl
    events shows ∙ rw none (no_bytes_handle_nothing v.config events id)

pub taken_nothing : (id : ℕ) (piece : Bor (List ℕ)) (t : TookResult) (v after : ServerValue)
    → IsTakenOn id piece t v after → (events : List AcceptedCall) → Shows v events → t.bytes ≡ 0 → t.handled ≡ 0
taken_nothing id piece t v after (inl (memory, (there, (bytes, (says, rest))))) events shows none =
    says ∙ ap handled_code (nothing_without_bytes v id piece.now events shows (sym bytes ∙ none))
taken_nothing id piece t v after (inr (refuses, ((bytes, (says, rest)), does))) events shows none = says
