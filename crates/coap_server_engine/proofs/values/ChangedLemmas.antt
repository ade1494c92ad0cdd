-- The frame that a take completes, as it is lent: the request for the application, and the request that changes the
-- store. The stores before and after differ at the path of the latter.
use Rattle.std.proofs.Common.{arith, ◌≡◌, ℕ, Bool, false, cond, List, take, Option, Some, sym, ◌∙◌, map, slice_get, ap}
use Rattle.std.proofs.Common.{◌+◌, true, ◌&&◌, [], ◌∷◌, ◌++◌, None, Result, Ok, Err, refl, inl, inr, ◌⊎◌, is_none}
use Rattle.std.proofs.Common.{is_some, IfSome, if◌then◌else◌, subst}
use Rattle.coap_server_engine.specs.Prelude.{values_of, set_value_at, stop_of, Reason, changes, ServerState}
use Rattle.coap_server_engine.specs.Prelude.{SessionValue, TakeOutcome, session_takes, taking, shared_changed}
use Rattle.coap_server_engine.specs.Prelude.{IsSettled, RefusesPiece, settled_pending, ServerValue, LiesAt, session_of}
use Rattle.coap_server_engine.specs.Prelude.{changed_at, session_becomes, settled_entry, AreSettled, server_taken}
use Rattle.coap_server_engine.specs.Prelude.{count_taken, handled_so, handled_by, IsServer, handed_on, handed_frame}
use Rattle.coap_server_engine.specs.Prelude.{changing_on, changing_frame, Change, Message, message_of, FormatFault}
use Rattle.coap_server_engine.specs.Prelude.{Path, StoreValue, changed, taking_found, taking_read, FrameEventValue}
use Rattle.coap_server_engine.specs.Prelude.{AFrame, AFault, Framing, framing, handed, completed, found_frame}
use Rattle.coap_server_engine.specs.Prelude.{server_taken_on, frame_key, DifferBy, ChangesBy, AcceptedCall, Took}
use Rattle.coap_server_engine.specs.Prelude.{world_after, Shows}
use Rattle.coap_store.specs.Answer as store_change
use Rattle.std.proofs.lemmas.Bool.{cond_both, cases_Bool}
use Rattle.coap_server_engine.proofs.values.ServerLemmas.{Entries, one_of_all, written_at_index, changed_one}
use Rattle.coap_server_engine.proofs.values.ServerLemmas.{changed_written, one_settles, all_settled_stay, all_still}
use Rattle.coap_server_engine.proofs.values.ServerLemmas.{taken_server_with, lies_where_taken}
use Rattle.coap_server_session.proofs.values.TakenLemmas.{shared_stays, refused_changes_nothing, refused_stays_settled}
use Rattle.coap_server_session.proofs.values.TakenLemmas.{taking_settles_pending}
use Rattle.std.specs.Prelude.{option_and_then}
use Rattle.coap_server_session.specs.Prelude.{session_max, asks_this, answer_on}
use Rattle.coap_frame.specs.Framing.{Nothing}
use Rattle.coap_store.specs.Answer.{Answer}
use Rattle.coap_store.specs.Prelude.{Representation, found_in, key_for, stored_at, target_of, path_of, stored_under}
use Rattle.coap_store.specs.Prelude.{deletion, answer_at, answer_of, prompt_answer, removes_watch}
use Rattle.coap_store.proofs.AnswerLaws.{answer_cases, get_cases, store_cases, state_dynamic, change_finally}
use Rattle.coap_store.proofs.ApplicationLaws.{prompt_cases}
use Rattle.coap_store.proofs.HoldLaws.{same_change}
use Rattle.coap_store.proofs.ChangeLaws.{put_is_stored, other_is_kept_on_put, other_is_kept_on_delete, deleted_is_gone}
use Rattle.coap_store.proofs.ChangeLaws.{unchanged}
use Rattle.coap_model.proofs.world.KnownLaws.{IsVersioned}
use Rattle.coap_model.proofs.world.EndOfInputLaws.{world_known}
use Rattle.coap_server_engine.proofs.world.ShowLaws.{shared_shown}
use Rattle.coap_server_engine.proofs.scripting.ShownLemmas.{config_stays}

-- After input that changes no resource, a server only has to settle the connection that received it, and only if an
-- entry is pending.

-- The connections of a server after a take, which had the connection `s` before.
pub record IsTaken (v : ServerValue) (id i : ℕ) (s : SessionValue) (piece : List ℕ) (shared : ServerState)
    (entries : Entries) : Type 0 where
  pub server : IsServer (record v { shared = shared; sessions = entries })
  pub value : record v { shared = shared; sessions = entries } ≡ server_taken v id piece
  pub lies : LiesAt id i entries
  pub was : session_of id v.sessions ≡ Some s

-- ---- the server

module _ {v : ServerValue} {id i : ℕ} {s : SessionValue} (piece : List ℕ) (server : IsServer v)
    (lies : LiesAt id i v.sessions) (here : slice_get (values_of v.sessions) i ≡ Some s) where
  abbrev taking_here : TakeOutcome
  taking_here = taking v.shared s piece

  abbrev shared_after : ServerState
  shared_after = shared_changed v.shared taking_here.change

  abbrev with_it : Entries
  with_it = map (session_becomes id (λ _. taking_here.session)) v.sessions

  pub count_is : count_taken v id piece ≡ taking_here.count
  unfolding count_taken
  count_is = rw (lies.found ∙ here)

  written_is : set_value_at v.sessions i taking_here.session ≡ with_it
  written_is =
      written_at_index (λ _. taking_here.session) _ i s here
      ∙ changed_one id (λ _. taking_here.session) v.sessions i lies.distinct lies.index lies.within

  -- If no resource changed, the other connections are settled.
  quiet_is : changes taking_here.change ≡ false
      → changed_at i (settled_pending shared_after) (set_value_at v.sessions i taking_here.session)
      ≡ map (settled_entry shared_after) with_it
  quiet_is quiet =
      let last : SessionValue → SessionValue = λ _. taking_here.session in
      let settled = one_of_all _ i v.sessions s server.settled here in
      rw (
        shared_stays v.shared taking_here.change quiet,
        changed_written i _ v.sessions taking_here.session,
        taking_settles_pending v.shared s piece settled,
      ) (changed_one id _ v.sessions i lies.distinct lies.index lies.within
      ∙ one_settles v.shared id last _ server.settled)

  -- The same if this connection is still settled.
  still_is : changes taking_here.change ≡ false → IsSettled v.shared taking_here.session
      → set_value_at v.sessions i taking_here.session ≡ map (settled_entry shared_after) with_it
  still_is quiet still =
      let settled : AreSettled shared_after with_it = rw (shared_stays v.shared taking_here.change quiet)
      (all_still (λ e. IsSettled v.shared e.1) id (λ _. taking_here.session) (λ e _. still) _
      server.settled) in
      written_is ∙ sym (all_settled_stay shared_after with_it settled)

  -- A server with these connections.
  becomes : {shared : ServerState} {entries : Entries} → shared ≡ shared_after
      → entries ≡ map (settled_entry shared_after) with_it → IsTaken v id i s piece shared entries
  unfolding server_taken
  becomes shared_is all = rw (shared_is, all) (record {
    server = taken_server_with v id (λ _. taking_here.session) shared_after server;
    value = rw (lies.found ∙ here);
    lies = lies_where_taken id i (λ _. taking_here.session) shared_after _ lies;
    was = lies.found ∙ here;
  })

  -- All connections settle if a resource changed, otherwise this one, if an entry is pending.
  pub taken : {shared : ServerState} {after : SessionValue} {changed : Bool} {entries : Entries}
      → after ≡ taking_here.session → shared ≡ shared_after → changed ≡ changes taking_here.change
      → entries ≡ cond changed (map (settled_entry shared) (set_value_at v.sessions i after))
      (changed_at i (settled_pending shared) (set_value_at v.sessions i after)) → IsTaken v id i s piece shared entries
  taken after_is shared_is changed_is entries_are =
      let left = cond_both _ _ _ (λ es. es ≡ map (settled_entry shared_after) with_it)
      (λ _. ap (map _) written_is) quiet_is in
      becomes shared_is (cc left)

-- A change of the store keeps the applications.
pub applications_stay : (shared : ServerState) (c : Change)
    → (shared_changed shared c).store.applications ≡ shared.store.applications
applications_stay shared c = grind arith

-- ---- the results of the call

module _ {v : ServerValue} {id i : ℕ} {s : SessionValue} {piece : List ℕ} {shared : ServerState} {entries : Entries}
    (is : IsTaken v id i s piece shared entries) where
  -- From the state of the connection after it.
  pub taken_handled : {takes message : Bool} {stop : Option Reason} {now : SessionValue} → takes ≡ session_takes s
      → message ≡ (taking v.shared s piece).handled → slice_get (values_of entries) i ≡ Some now
      → stop ≡ stop_of now.link.phase → handled_so takes message stop ≡ handled_by v id piece
  unfolding handled_by
  taken_handled takes_is message_is there stop_is = cc (is.lies.found, is.value, is.was)

  -- The request that it hands to the application.
  pub taken_request : {stop : Option Reason} {now : SessionValue} → slice_get (values_of entries) i ≡ Some now
      → stop ≡ stop_of now.link.phase → handed_on v piece (Some s) stop ≡ handed_frame v id piece
  unfolding handed_frame
  taken_request there stop_is = cc (is.lies.found, is.value, is.was)

  -- The request that changes the store.
  pub taken_change : changing_on v piece (Some s) ≡ changing_frame v id piece
  unfolding changing_frame
  taken_change = rw is.was

-- ---- the server after allocation failed

pub refused : {v : ServerValue} {id i : ℕ} {s : SessionValue} {piece : List ℕ} {count : ℕ} → IsServer v
    → LiesAt id i v.sessions → slice_get (values_of v.sessions) i ≡ Some s → RefusesPiece v.shared s piece count
    → {shared : ServerState} {after : SessionValue} → after ≡ (taking v.shared s (take count piece)).session
    → shared ≡ v.shared → IsTaken v id i s (take count piece) shared (set_value_at v.sessions i after)
refused {v = v} {i = i} {s = s} {piece = piece} {count = count} server lies here refuses after_is shared_is =
    let nothing =
    refused_changes_nothing v.shared s piece count refuses in
    becomes (take count piece) server lies here (rw nothing shared_is)
    (rw after_is (still_is _ server lies here (rw nothing)
    (refused_stays_settled v.shared s piece count refuses
    (one_of_all (IsSettled v.shared) i v.sessions s server.settled here))))

-- ---- the change of an answer

-- The change is at this path. It deletes only a resource that exists.
abbrev IsOwn : StoreValue → Path → Change → Type 0
IsOwn s path store_change.Nothing = Unit {0}
IsOwn s path (store_change.Put q format bytes) = key_for path ≡ Some q
IsOwn s path (store_change.Delete q) = (key_for path ≡ Some q) × (is_some (found_in s.resources q) ≡ true)

stored_own : (s : StoreValue) (path : Path) (key : Option Path) (state : Option Representation) (m : Message)
    → key_for path ≡ key → IsOwn s path (stored_under key state m).change
stored_own s path key state m is = grind arith

deletion_own : (s : StoreValue) (path : Path) (key : Option Path) (state : Option Representation) → key_for path ≡ key
    → state ≡ stored_at s key → IsOwn s path (deletion key state)
deletion_own s path key state is there = grind arith

own_at : (s : StoreValue) (now : ℕ) (path : Path) (m : Message)
    → IsOwn s path (answer_at s (target_of s now path) m).change
own_at s now path m =
    let t = target_of s now path in
    let P : Answer → Type 0 = λ a. IsOwn s path a.change in
    answer_cases P s t m (λ c e. tt) (record {
      read = λ r is. get_cases P t.place r m (λ c e. tt) (record { valid = λ among. tt; late = tt; content = tt });
      deleted = λ dynamic is. deletion_own s path t.key t.state refl (state_dynamic s now t.key t.place dynamic);
      stored = λ dynamic is. store_cases P s t m (λ c e. tt) tt (λ can. stored_own s path t.key t.state m refl);
    })

own_answer : (s : StoreValue) (now : ℕ) (m : Message) → IsOwn s (path_of m) (answer_of s now m).change
unfolding answer_of
own_answer s now m =
    rw (change_finally (removes_watch m) (answer_at s (target_of s now (path_of m)) m)) (own_at s now (path_of m) m)

own : (s : StoreValue) (now : ℕ) (m : Message) → IsOwn s (path_of m) (prompt_answer s now m).change
own s now m =
    prompt_cases s now m (λ a. IsOwn s (path_of m) a.change) tt (rw (same_change s now m) (own_answer s now m))

-- The stores before and after such a change differ at this path.
own_differs : (s : StoreValue) (path : Path) (c : Change) → IsVersioned s → IsOwn s path c → changes c ≡ true
    → DifferBy s (changed s c) (key_for path)
own_differs s path store_change.Nothing is mine does = absurd cc
own_differs s path (store_change.Put q format bytes) is mine does =
    rw mine (record {
      here = λ same. omega (
        arith,
        is.given q (record { version = s.versions + 1; format = format; bytes = bytes })
            (sym same ∙ put_is_stored s q format bytes),
      );
      elsewhere = λ other apart. other_is_kept_on_put s q other format bytes apart;
    })
own_differs s path (store_change.Delete q) is mine does =
    rw mine.0 (record {
      here = λ same. (let bad = rw (← same, deleted_is_gone s q is.distinct) at mine.1 in absurd cc);
      elsewhere = λ other apart. other_is_kept_on_delete s q other apart;
    })

-- ---- the change of a take

-- The change is that of the message of this frame.
record ComesFrom (shared : ServerState) (frame : Option (List ℕ)) (c : Change) : Type 0 where
  bytes : List ℕ
  completes : frame ≡ Some bytes
  message : Message
  reads : message_of bytes ≡ Ok message
  change : c ≡ (answer_on shared message).change

-- There is no change, or it is that of the message.
abbrev MayCome : ServerState → Option (List ℕ) → Change → Type 0
MayCome shared frame c = (changes c ≡ false) ⊎ ComesFrom shared frame c

read_change : (shared : ServerState) (v : SessionValue) (n : ℕ) (frame : List ℕ) (read : Result Message FormatFault)
    → message_of frame ≡ read → MayCome shared (Some frame) (taking_read shared v n read).change
read_change shared v n frame (Ok m) reads =
    cond_both (asks_this v.link m) _ _ (MayCome shared (Some frame))
    (λ _. inr (record { bytes = frame; completes = refl; message = m; reads = reads; change = refl })) (λ _. inl refl)
read_change shared v n frame (Err e) reads = inl refl

found_change : (shared : ServerState) (v : SessionValue) (f : Framing) (found : FrameEventValue)
    → MayCome shared (found_frame found) (taking_found shared v f found).change
found_change shared v f Nothing = inl refl
found_change shared v f (AFault fault) = inl refl
found_change shared v f (AFrame frame) = read_change shared v f.taken frame _ refl

take_change : (shared : ServerState) (v : SessionValue) (piece : List ℕ)
    → MayCome shared (completed v piece) (taking shared v piece).change
unfolding taking completed
take_change shared v piece =
    let f : Framing = framing (session_max v) v.frame piece in
    elim (cases_Bool (session_takes v)) [
      | inl takes ↦ rw takes (found_change shared v f f.finding)
      | inr stopped ↦ rw stopped (inl refl)
    ]

-- ---- the stores before and after a take

module _ (shared : ServerState) (s : SessionValue) (piece : List ℕ) where
  abbrev change_here : Change
  change_here = (taking shared s piece).change

  -- The change has a frame.
  change_completes : changes change_here ≡ true → ComesFrom shared (completed s piece) change_here
  change_completes does = elim (take_change shared s piece) [ inl quiet ↦ absurd cc | inr from ↦ from ]

  stores_differ : IsVersioned shared.store → DifferBy shared.store (changed shared.store change_here)
      (option_and_then frame_key (if changes change_here then completed s piece else None))
  stores_differ is = elim (cases_Bool (changes change_here)) [
    | inl does ↦
        let from = change_completes does in
        rw (does, from.completes, from.reads) (own_differs shared.store (path_of from.message) change_here is
        (rw from.change (own shared.store shared.now from.message)) does)
    | inr quiet ↦ rw quiet (unchanged shared.store change_here quiet)
  ]

taken_differs : (v : ServerValue) (id : ℕ) (piece : List ℕ) → IsVersioned v.shared.store
    → DifferBy v.shared.store (server_taken v id piece).shared.store
    (option_and_then frame_key (changing_frame v id piece))
unfolding server_taken changing_frame
taken_differs v id piece is =
    elim (session_of id v.sessions) as (λ o. DifferBy v.shared.store (server_taken_on v id piece o).shared.store
    (option_and_then frame_key (changing_on v piece o))) [
      | None ↦ refl
      | Some s ↦ stores_differ v.shared s piece is
    ]

-- The worlds before and after the event of a take have stores that differ at the path of the request that is lent.
pub take_alters : (v new : ServerValue) (id : ℕ) (piece : List ℕ) (n : ℕ) (frame : Option (List ℕ))
    → frame ≡ changing_frame v id piece → new ≡ server_taken v id piece
    → ((es : List AcceptedCall) → Shows v es → Shows new (es ++ Took id (take n piece) ∷ []))
    → (es : List AcceptedCall) → Shows v es
    → ChangesBy v.config es (Took id (take n piece)) (option_and_then frame_key frame)
take_alters v new id piece n frame is new_is becomes es shows =
    let after : List AcceptedCall = es ++ Took id (take n piece) ∷ [] in
    let before : (world_after v.config es).store ≡ v.shared.store =
    sym (ap (λ (h : ServerState). h.store) (shared_shown v es shows)) in
    let config : new.config ≡ v.config = ap (λ (u : ServerValue). u.config) new_is ∙ config_stays v id piece in
    let later : (world_after v.config after).store ≡ (server_taken v id piece).shared.store =
    ap (λ c. (world_after c after).store) (sym config)
    ∙ sym (ap (λ (h : ServerState). h.store) (shared_shown new after (becomes es shows)))
    ∙ ap (λ (u : ServerValue). u.shared.store) new_is in
    let versioned : IsVersioned v.shared.store =
    subst IsVersioned before (world_known v.config es shows.moment).versioned in
    rw (before, later, is) (taken_differs v id piece versioned)

-- ---- the frame that is lent

-- The frame of a request for the application is the one that the slice completes.
handed_completes : (shared : ServerState) (v : SessionValue) (piece frame : List ℕ) → handed shared v piece ≡ Some frame
    → completed v piece ≡ Some frame
unfolding handed completed
handed_completes shared v piece frame e = grind arith

module _ (v : ServerValue) (piece : List ℕ) (s : SessionValue) (given : List ℕ)
    (shown : IfSome (completed s piece) (λ frame. given ≡ frame)) where
  given_is : (frame : List ℕ) → completed s piece ≡ Some frame → given ≡ frame
  given_is frame is = rw is at shown

  -- It is lent if the request is handed over, and the connection has not stopped.
  pub handed_given : (flag : Bool) (stop : Option Reason) → flag ≡ is_some (handed v.shared s piece)
      → (if flag && is_none stop then Some given else None) ≡ handed_on v piece (Some s) stop
  handed_given flag stop counted = grind (arith, given_is, handed_completes v.shared s piece)

  -- It is lent if its message changes the store.
  pub changing_given : (flag : Bool) → flag ≡ changes (taking v.shared s piece).change
      → (if flag then Some given else None) ≡ changing_on v piece (Some s)
  changing_given flag counted = rw counted (elim (cases_Bool _) [
    | inl does ↦
        let from = change_completes v.shared s piece does in
        rw (does, from.completes, given_is from.bytes from.completes)
    | inr quiet ↦ rw quiet
  ])
