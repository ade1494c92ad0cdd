-- A failed allocation in a take: the bytes before the last one of the message make no step. This byte completes the
-- message, which stores a representation.
use Rattle.std.proofs.Common.{◌≡◌, ℕ, suc, ◌+◌, ◌<◌, List, [], ◌∷◌, ◌++◌, length, take, drop, get_or, Some, None, sym}
use Rattle.std.proofs.Common.{◌∙◌, append_assoc, arith, subst}
use Rattle.coap_server_engine.specs.Prelude.{Message, Stream, split, split_on, IsPut, ConfigValues, SessionValue}
use Rattle.coap_server_engine.specs.Prelude.{RefusesPiece, ServerValue, session_of, count_taken, Connection, World}
use Rattle.coap_server_engine.specs.Prelude.{Handled, AcceptedCall, stream_on, beyond, world_after, size_on, steps_by}
use Rattle.coap_server_engine.specs.Prelude.{change_made, session_shown, Shows, IsNotTaken, TakeFault, IsRefusedStored}
use Rattle.coap_server_engine.specs.Prelude.{IsRefusedFor, StoresNothing, ServerState, change_by}
use Rattle.std.proofs.lemmas.Grind.{take_at_read}
use Rattle.std.proofs.lemmas.List.{take-append-drop}
use Rattle.std.proofs.Math.Seq.{drop-cons}
use Rattle.coap_frame.proofs.FrontLaws.{added_front}
use Rattle.coap_model.proofs.world.TookLaws.{Adds, adds_nothing, piece_adds_message, front_within, but_last_unfinished}
use Rattle.coap_server_session.proofs.world.SideShown.{change_shown}
use Rattle.coap_server_engine.proofs.world.ShowLaws.{session_there, shared_shown, sessions_shown, takes_shown}
use Rattle.coap_server_engine.proofs.world.ShowLaws.{refused_on, refused_unfinished, refused_message, refused_front}
use Rattle.coap_model.proofs.world.StepLaws.{stream_more}
use Rattle.coap_model.proofs.OptionLemmas.{none_made}
use Rattle.coap_model.specs.world.World as world
use Rattle.coap_model.specs.declared.answers.TakeFault.TheVariants as fault

-- The stream of a connection, continued with more bytes.
abbrev gone_on_with : ConfigValues → List AcceptedCall → ℕ → List ℕ → Stream
gone_on_with c es id more = split_on (size_on c.limits.max_message id es) (stream_on c.limits.max_message id es) more

-- Allocation failed for the message that ends with the byte after the first `n` bytes of a slice.
pub record RefusesLast (v : ServerValue) (es : List AcceptedCall) (id : ℕ) (piece : List ℕ) (n : ℕ) : Type 0 where
  pub last : ℕ
  pub later : List ℕ
  pub all : piece ≡ take n piece ++ last ∷ later
  pub quiet : beyond id (stream_on v.config.limits.max_message id es) (gone_on_with v.config es id (take n piece)) ≡ []
  pub message : Message
  pub ends : beyond id (stream_on v.config.limits.max_message id es) (gone_on_with v.config es id (take (n + 1) piece))
      ≡ world.Handled id message ∷ []
  pub one_more : split_on (size_on v.config.limits.max_message id es)
      (gone_on_with v.config es id (take n piece)) (last ∷ []) ≡ record {
        messages = (gone_on_with v.config es id (take n piece)).messages ++ message ∷ [];
        rest = [];
        fault = None;
      }
  pub stores : IsPut (change_made (world_after v.config es) id message)

-- ---- a failed allocation

-- If allocation fails for a slice, it fails for the message that the next byte would complete.
pub refuses_last : (v : ServerValue) (es : List AcceptedCall) (id : ℕ) (piece : List ℕ) (n : ℕ) (s : SessionValue)
    → Shows v es → session_of id v.sessions ≡ Some s → RefusesPiece v.shared s piece n → RefusesLast v es id piece n
unfolding steps_by
refuses_last v es id piece n s shows e refused =
    let w : World = world_after v.config es in
    let M : ℕ = v.config.limits.max_message in
    let N : ℕ = size_on M id es in
    let so_far : Stream = stream_on M id es in
    let at = session_there v es id s shows e in
    let t : Connection = at.side in
    let refuses : RefusesPiece v.shared (session_shown so_far.rest t) piece n = rw at.shown at refused in
    let front : List ℕ = take n piece in
    let clean = refused_unfinished v es id piece n t shows at.there refuses in
    let stored = refused_message v es id piece n t shows at.there refuses in
    let all = refused_front v es id piece n t shows at.there refuses in
    let within : n < length piece =
    omega (arith, front_within N so_far.rest piece stored.frame n clean.1 stored.is all) in
    let nothing : Adds M id es front (record { messages = []; rest = so_far.rest ++ front; fault = None }) =
    adds_nothing M id es front clean.0
    (rw (but_last_unfinished N so_far.rest piece stored.frame n clean.1 stored.is all)) in
    let message : Stream = record { messages = stored.message ∷ []; rest = []; fault = None } in
    let one : Adds M id es (take (n + 1) piece) message =
    rw all at (piece_adds_message M id es piece clean.0 stored.frame stored.message stored.is stored.reads) in
    let spelled : split N (so_far.rest ++ take (n + 1) piece) ≡ message =
    rw (all, stored.is, stored.reads) at (added_front N so_far.rest piece clean.1) in
    record {
      last = get_or piece n 0;
      later = drop (suc n) piece;
      all = rw (← drop-cons piece n 0 within) (sym (take-append-drop n piece));
      quiet = rw (stream_more M id es front) at nothing.steps;
      message = stored.message;
      ends = rw (stream_more M id es (take (n + 1) piece)) at one.steps;
      one_more = rw (
        sym (stream_more M id es front) ∙ nothing.stream,
        append_assoc so_far.rest front (get_or piece n 0 ∷ []),
        ← (take_at_read piece n 0 within).1,
        spelled,
      );
      stores = rw (at.there, change_shown w.store w.now t stored.message refuses.takes)
          (subst (λ (h : ServerState). IsPut (change_by h (session_shown so_far.rest t).link stored.message))
          (shared_shown v es shows) stored.puts);
    }

-- ---- the message for which allocation failed, from the events: the next byte of the slice would complete it

-- This message stores a representation.
pub refused_is_stored : (v after : ServerValue) (es : List AcceptedCall) (id : ℕ) (piece : List ℕ) (n : ℕ) → Shows v es
    → IsNotTaken v id piece (fault.Memory n) after → IsRefusedStored v.config es id piece n
unfolding count_taken steps_by
refused_is_stored v after es id piece n shows not =
    let M = v.config.limits.max_message in
    let refused = refused_on v piece n _ not.0 in
    let last = refuses_last v es id piece n refused.0 shows refused.1 refused.2 in
    record {
      last = rw (← takes_shown v es id piece shows, refused.1) (sym refused.2.last);
      quiet = rw (stream_more M id es _) last.quiet;
      message = last.message;
      ends = rw (stream_more M id es _) last.ends;
      stores = last.stores;
    }

-- Allocation fails for no other message.
pub other_not_refused : (v after : ServerValue) (es : List AcceptedCall) (id : ℕ) (piece : List ℕ) (n : ℕ) → Shows v es
    → StoresNothing v.config es id piece → IsNotTaken v id piece (fault.Memory n) after → ⊥
other_not_refused v after es id piece n shows nothing not =
    let refused = refused_is_stored v after es id piece n shows not in
    (rw (← refused.last, refused.ends) at nothing).0 refused.stores

-- ---- the clause of a take

pub refused_for : (why : TakeFault) (v new : ServerValue) (id : ℕ) (piece : List ℕ) → IsNotTaken v id piece why new
    → (es : List AcceptedCall) → Shows v es → IsRefusedFor v.config es id piece why
refused_for fault.NoSuch v new id piece not es shows = none_made _ _ (sym (sessions_shown v es id shows) ∙ not.0)
refused_for (fault.Memory n) v new id piece not es shows = refused_is_stored v new es id piece n shows not
