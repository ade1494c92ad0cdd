-- After input that changes no resource, a connection has nothing to settle but its pending entries.
use Rattle.std.proofs.Common.{◌≤◌, ◌≡◌, ℕ, ◌+◌, ◌-◌, Bool, true, false, List, [], ◌++◌, length, take, Option, Some}
use Rattle.std.proofs.Common.{None, refl, sym, ap, ◌∙◌, arith, not, find, Result, Ok, Err, inl, inr, if◌then◌else◌}
use Rattle.std.proofs.lemmas.Bool.{and_parts, cond_both, cases_Bool}
use Rattle.std.proofs.lemmas.List.{length-append, take-append-le}
use Rattle.std.proofs.Math.Seq.{take-append-add}
use Rattle.coap_wire.specs.StreamPrefix.{Whole}
use Rattle.coap_wire.proofs.StreamSteps.{whole_parts, whole_itself}
use Rattle.coap_frame.proofs.FramingLemmas.{front_unfinished}
use Rattle.coap_frame.specs.Framing.{Nothing}
use Rattle.coap_store.specs.Answer as answer
use Rattle.coap_model.proofs.world.EntryLemmas.{all_filter, all_entered, none_due, none_found}
use Rattle.coap_server_session.specs.Prelude.{AllByRecursion, Message, StreamPrefix, Unfinished, Faulty, prefix_kind}
use Rattle.coap_server_session.specs.Prelude.{FormatFault, message_of, Framing, FrameEventValue, AFrame, AFault}
use Rattle.coap_server_session.specs.Prelude.{framing_at, framing, without_last, LinkValue, same_bytes, Change, changes}
use Rattle.coap_server_session.specs.Prelude.{IsPut, ServerState, asks_entry, with_entry, ObserverValue, SessionValue}
use Rattle.coap_server_session.specs.Prelude.{TakeOutcome, is_stale, session_takes, session_max, without_entry}
use Rattle.coap_server_session.specs.Prelude.{new_entry, answer_on, Delay, session_replied, link_after, delay_in}
use Rattle.coap_server_session.specs.Prelude.{delay_on}
use Rattle.coap_conn.specs.Calls as call
use Rattle.coap_server_session.specs.Prelude.{asks_this, session_handled, taking_read, taking_found, taking}
use Rattle.coap_server_session.specs.Prelude.{shared_changed, next_pending_in, next_stale, session_settled, IsSettled}
use Rattle.coap_server_session.specs.Prelude.{RefusesPiece, settled_pending}
use Rattle.coap_server_session.proofs.values.AnsweringLemmas.{nothing_changed, may_watch}
use Rattle.coap_server_session.proofs.values.SettleLemmas.{none_is_pending, settled_quiet, settled_stays, marked_now}
use Rattle.coap_server_session.proofs.values.SettleLemmas.{found_ready}

-- ---- the observers after an input slice

-- They are none, or those before, or those with another token than a request, perhaps with an entry that it asks for.
module _ (P : List ObserverValue → Type 0) (shared : ServerState) (v : SessionValue) (none : P [])
    (same : P v.observers)
    (replied : (m : Message) (enters : Bool) → (enters ≡ true → asks_entry (answer_on shared m).watch ≡ true)
    → P (with_entry enters (without_entry m.token v.observers) (new_entry shared m))) where
  if_open : (stays : Bool) (os : List ObserverValue) → P os → P (if stays then os else [])
  if_open stays os all = cond_both stays os [] P (λ _. all) (λ _. none)

  after_request : (l : LinkValue) (m : Message) (hold : Option Delay)
      → P (session_replied shared l (without_entry m.token v.observers) m hold).observers
  after_request l m None =
      if_open _ _
      (replied m _ (λ enters. (and_parts (asks_entry (answer_on shared m).watch) _ (and_parts _ _ enters).0).0))
  after_request l m (Some d) = if_open _ _ (replied m false (λ enters. absurd cc))

  after_message : (count : ℕ) (r : Result Message FormatFault) → P (taking_read shared v count r).session.observers
  unfolding session_handled
  after_message count (Ok m) =
      let l = link_after v.link (call.Handle m) in
      elim (cases_Bool (asks_this v.link m)) [
        | inl is ↦ rw is (after_request l m (delay_in l (delay_on shared m)))
        | inr other ↦ rw other (if_open _ v.observers same)
      ]
  after_message count (Err e) = if_open _ v.observers same

  after_frame : (f : Framing) (what : FrameEventValue) → P (taking_found shared v f what).session.observers
  after_frame f Nothing = same
  after_frame f (AFrame frame) = after_message f.taken (message_of frame)
  after_frame f (AFault fault) = if_open _ v.observers same

  pub observers_taken : (piece : List ℕ) → P (taking shared v piece).session.observers
  unfolding taking
  observers_taken piece =
      let f = framing (session_max v) v.frame piece in
      elim (cases_Bool (session_takes v)) [
        | inl takes ↦ rw takes (after_frame f f.finding)
        | inr other ↦ rw other same
      ]

-- The entry that a request adds is not stale.
none_stale_taken : (shared : ServerState) (v : SessionValue) (piece : List ℕ)
    → AllByRecursion (λ o. is_stale shared o ≡ false) v.observers
    → AllByRecursion (λ o. is_stale shared o ≡ false) (taking shared v piece).session.observers
unfolding without_entry
none_stale_taken shared v piece none =
    let fresh : ObserverValue → Type 0 = λ o. is_stale shared o ≡ false in
    observers_taken (AllByRecursion fresh) shared v tt none
    (λ m enters asks. all_entered fresh enters _ (new_entry shared m)
    (all_filter fresh (λ o. not (same_bytes o.token m.token)) v.observers none)
    (λ e. let may = may_watch shared m (asks e) in
    marked_now shared (new_entry shared m) may.representation may.there)) piece

-- If no observer is stale, a connection settles only if an entry is pending.
pending_settles : (shared : ServerState) (v : SessionValue) → find (is_stale shared) v.observers ≡ None
    → settled_pending shared v ≡ session_settled shared v
pending_settles shared v fresh =
    let stays = λ (few : length v.link.pending ≤ 0).
    settled_stays shared v (settled_quiet shared v (none_is_pending shared.now v.link.pending few) fresh) in
    grind (arith, stays)

-- A connection that was settled has only its pending entries to settle, if the server state is unchanged.
pub taking_settles_pending : (shared : ServerState) (v : SessionValue) (piece : List ℕ) → IsSettled shared v
    → settled_pending shared (taking shared v piece).session ≡ session_settled shared (taking shared v piece).session
unfolding taking
taking_settles_pending shared v piece settled = elim (cases_Bool (session_takes v)) [
  | inl takes ↦
      (let ready = (and_parts _ _ takes).1 in
      pending_settles shared _ (none_found (is_stale shared) _ (none_stale_taken shared v piece
      (none_due (is_stale shared) v.observers (sym (found_ready shared v ready).1 ∙ settled.1)))))
  | inr other ↦ (
      let stays = settled_stays shared v settled in
      rw other (grind (arith, stays)))
]

-- ---- allocation failed

-- Input that lacks the last byte of a frame is unfinished.
before_whole : (M : ℕ) (kept piece frame rest : List ℕ) (count : ℕ) → prefix_kind M (kept ++ piece) ≡ Whole frame rest
    → length piece - length rest ≡ count + 1 → prefix_kind M (kept ++ take count piece) ≡ Unfinished
before_whole M kept piece frame rest count whole taken =
    let parts = whole_parts M (kept ++ piece) frame rest whole in
    let size : length kept + count ≡ length frame - 1 =
    omega (arith, taken, ap length parts.bytes, length-append kept piece, length-append frame rest) in
    let front : kept ++ take count piece ≡ without_last frame =
    rw (← take-append-add kept piece count, parts.bytes, size)
    (take-append-le (length frame - 1) frame rest (omega arith)) in
    rw front (front_unfinished M frame (whole_itself M (kept ++ piece) frame rest whole))

-- The effect of an input slice, from the result of `prefix_kind`.
abbrev taking_begun : ServerState → SessionValue → List ℕ → StreamPrefix → TakeOutcome
taking_begun shared v piece b = taking_found shared v (framing_at v.frame piece b) (framing_at v.frame piece b).finding

put_is_whole : (shared : ServerState) (v : SessionValue) (piece : List ℕ) (b : StreamPrefix) (count : ℕ)
    → (taking_begun shared v piece b).count ≡ count + 1 → IsPut (taking_begun shared v piece b).change
    → (frame : List ℕ) × (rest : List ℕ) × (b ≡ Whole frame rest) × (length piece - length rest ≡ count + 1)
put_is_whole shared v piece Unfinished count last puts = absurd puts
put_is_whole shared v piece (Faulty fault) count last puts = absurd puts
put_is_whole shared v piece (Whole frame rest) count last puts = (frame, rest, refl, counted (message_of frame) last)
  where
    counted : (r : Result Message FormatFault) → (taking_read shared v (length piece - length rest) r).count ≡ count + 1
        → length piece - length rest ≡ count + 1
    counted r is = grind arith

taking_where_takes : (shared : ServerState) (v : SessionValue) (piece : List ℕ) → session_takes v ≡ true
    → taking shared v piece ≡ taking_begun shared v piece (prefix_kind (session_max v) (v.frame ++ piece))
unfolding taking framing
taking_where_takes shared v piece takes = rw takes refl

-- Without its last byte, the message is not processed, and its bytes are kept.
module _ (shared : ServerState) (v : SessionValue) (piece : List ℕ) (count : ℕ)
    (refuses : RefusesPiece shared v piece count) where
  whole_piece : (frame : List ℕ) × (rest : List ℕ) × (prefix_kind (session_max v) (v.frame ++ piece) ≡ Whole frame rest)
      × (length piece - length rest ≡ count + 1)
  whole_piece =
      let all = taking_where_takes shared v piece refuses.takes in
      put_is_whole shared v piece (prefix_kind (session_max v) (v.frame ++ piece)) count
      (rw all at refuses.last) (rw all at refuses.stores)

  -- The accepted bytes are fewer than those of the slice.
  pub refused_within : count + 1 ≤ length piece
  refused_within = let whole = whole_piece in omega (arith, whole.3)

  front_taken : taking shared v (take count piece) ≡ taking_begun shared v (take count piece) Unfinished
  front_taken =
      let whole = whole_piece in
      rw (
        taking_where_takes shared v (take count piece) refuses.takes,
        before_whole (session_max v) v.frame piece whole.0 whole.1 count whole.2 whole.3,
      ) refl

  pub refused_changes_nothing : (taking shared v (take count piece)).change ≡ answer.Nothing
  refused_changes_nothing = rw front_taken refl

  pub refused_kept : (P : SessionValue → Type 0) → ((frame : List ℕ) → P (record v { frame = frame }))
      → P (taking shared v (take count piece)).session
  refused_kept P still = rw front_taken (still _)

  pub refused_stays_settled : IsSettled shared v → IsSettled shared (taking shared v (take count piece)).session
  unfolding next_pending_in next_stale
  refused_stays_settled settled = refused_kept (IsSettled shared) (λ frame. settled)

-- ---- the server state

pub shared_stays : (shared : ServerState) (c : Change) → changes c ≡ false → shared_changed shared c ≡ shared
shared_stays shared c quiet = ap (shared_changed shared) (nothing_changed c quiet)
