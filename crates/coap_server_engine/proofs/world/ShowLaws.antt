-- Each call of a server shows its event: the value of a server is determined by its events.
use Rattle.std.proofs.Common.{◌≡◌, ◌≢◌, ℕ, ◌+◌, ◌≤◌, Bool, true, false, List, [], ◌∷◌, ◌++◌, length, map, take, Some}
use Rattle.std.proofs.Common.{None, Result, Ok, Err, refl, sym, ap, subst, ◌∙◌, take-take, arith, not, filter}
use Rattle.std.proofs.Common.{option_map, ◌==◌, if◌then◌else◌, ◌<◌, Option, inl, inr, ◌^◌, nat_le, IfOk, IfSome, OnOk}
use Rattle.std.proofs.lemmas.Bool.Decides.{nat_tests}
use Rattle.std.proofs.lemmas.Bool.{cases_Bool, leb-true}
use Rattle.std.proofs.lemmas.List.{length-take-le, length-map, map-append}
use Rattle.coap_server_engine.specs.Prelude.{ShowsMore, Message, message_of, Unfinished, prefix_kind, StreamFault}
use Rattle.coap_server_engine.specs.Prelude.{OfFrame, Format, Stream, FormatFault, Framing, FrameEventValue, AFrame}
use Rattle.coap_server_engine.specs.Prelude.{AFault, framing, reject_of, StoreValue, put_in, removed_in, changed, IsPut}
use Rattle.coap_server_engine.specs.Prelude.{ConfigValues, ServerState, SessionValue, session_takes, session_handled}
use Rattle.coap_server_engine.specs.Prelude.{session_rejected, change_by, TakeOutcome, taking_read, taking_found}
use Rattle.coap_server_engine.specs.Prelude.{taking, RefusesPiece, new_session, session_raises, session_of}
use Rattle.coap_server_engine.specs.Prelude.{session_becomes, on_session, settled_entry, server_settled}
use Rattle.coap_server_engine.specs.Prelude.{server_taken_so, ServerValue, server_opened, server_taken_on, server_taken}
use Rattle.coap_server_engine.specs.Prelude.{count_on, count_taken, server_written, server_ticked, server_put}
use Rattle.coap_server_engine.specs.Prelude.{server_removed, server_ended, server_released, server_announced}
use Rattle.coap_server_engine.specs.Prelude.{server_dropped, RefusesPieceOn, Connection, handles, side_after}
use Rattle.coap_server_engine.specs.Prelude.{side_faulted, IsUpToDate, new_side, ConnectionEntry, World, Step, side_of}
use Rattle.coap_server_engine.specs.Prelude.{on_side, stored_after, acted, settled_place, all_settled, ticks}
use Rattle.coap_server_engine.specs.Prelude.{AcceptedCall, Took, taken_in, stream_on, steps_by, world_after, size_on}
use Rattle.coap_server_engine.specs.Prelude.{Opened, Wrote, Ticked, Stored, Removed, Ended, Released, Dropped, takes_of}
use Rattle.coap_server_engine.specs.Prelude.{takes, OnSide, Responded, response_refusal, server_responded, IsAccepted}
use Rattle.coap_server_engine.specs.Prelude.{Announced, session_shown, place_shown, server_shown, server_of, Shows}
use Rattle.coap_server_engine.specs.Prelude.{Server, LinkValue, new_link, IsHistory, release_refusal, Path, put_refusal}
use Rattle.coap_server_engine.specs.Prelude.{remove_refusal, handed, handed_found, handed_read, kept_on}
use Rattle.coap_server_engine.specs.Prelude.{normalised_steps, kept_at, RefusedBy, fits, new_server, is_there}
use Rattle.coap_server_engine.specs.Prelude.{open_refusal, written_refusal, written_refusal_on, released_refusal}
use Rattle.coap_server_engine.specs.Prelude.{released_refusal_on, release_fault, announced_refusal_on, IsAnnounced}
use Rattle.coap_server_engine.specs.Prelude.{IsNotTaken, TakeFault, ReleaseFault, AnnounceFault, ResponseFault}
use Rattle.coap_server_engine.specs.Prelude.{response_fault, frame_refusal, OnMessage, session_given, session_given_by}
use Rattle.coap_server_engine.specs.Prelude.{server_given, response_event, responded_refusal, responded_refusal_on}
use Rattle.coap_server_engine.specs.Prelude.{AreAcceptedAfter, ShowsRefused}
use Rattle.coap_frame.specs.Framing.{Nothing}
use Rattle.coap_frame.proofs.FrontLaws.{front_kept}
use Rattle.coap_model.specs.world.World.{changed_at}
use Rattle.coap_model.specs.world.Events.{front_of}
use Rattle.coap_model.proofs.world.StepLaws.{world_same, world_step, streams_same, stream_elsewhere, rest_unfinished}
use Rattle.coap_model.proofs.world.StepLaws.{accepted_more, world_first}
use Rattle.coap_model.proofs.world.TookLaws.{Adds, no_bytes_stream, no_bytes_steps, but_last_unfinished, front_within}
use Rattle.coap_model.proofs.world.TookLaws.{piece_adds_message, piece_adds_bad, piece_adds_nothing, piece_adds_fault}
use Rattle.coap_model.proofs.world.PlaceLaws.{AreDistinct, of_number, of_each, places_unchanged}
use Rattle.coap_model.proofs.world.EntryLemmas.{all_to, maps_alike, mapped_filter}
use Rattle.coap_model.proofs.world.ReachedLaws.{IsReached, handling_goes_on, accepted_is, takes_there, piece_accepted}
use Rattle.coap_model.proofs.world.ReachedLaws.{events_distinct, opens}
use Rattle.coap_model.proofs.world.SideLaws.{IsKnownSide, handles_parts}
use Rattle.coap_server_session.proofs.world.SideShown.{shared_of, faulted_shown, handled_shown, change_shown}
use Rattle.coap_server_session.proofs.world.SideShown.{written_shown, ended_side_shown, released_shown, given_shown}
use Rattle.coap_server_session.proofs.world.SideShown.{announced_shown, settled_shown}
use Rattle.coap_model.proofs.world.EndOfInputLaws.{world_stays, IsKnownPlace, IsKnownWorld, acted_known, world_known}
use Rattle.coap_model.proofs.world.EndOfInputLaws.{world_hears, each_same, same_received}
use Rattle.coap_model.proofs.OptionLemmas.{one_made, none_made}
use Rattle.coap_conn.proofs.LinkLemmas.{new_shown}
use Rattle.coap_store.specs.Answer as store_change
use Rattle.coap_model.specs.world.World as world
use Rattle.coap_model.specs.declared.answers.TakeFault.TheVariants as taken
use Rattle.coap_model.specs.declared.answers.WrittenFault.TheVariants as writing
use Rattle.coap_model.specs.declared.answers.ReleaseFault.TheVariants as releasing
use Rattle.coap_model.specs.declared.answers.ResponseFault.TheVariants as responding
use Rattle.coap_model.specs.declared.answers.AnnounceFault.TheVariants as announcing

-- ---- connections by id

-- The connection of a server with this id represents that of the model.
session_found : (M id : ℕ) (es : List AcceptedCall) (ps : List ConnectionEntry)
    → session_of id (map (place_shown M es) ps) ≡ option_map (session_shown (stream_on M id es).rest) (side_of id ps)
unfolding session_of side_of
session_found M id es [] = refl
session_found M id es (p ∷ ps) = grind (arith, nat_tests, session_found M id es ps)

-- ---- a change of one connection

-- Ids are distinct. So it is enough that `g` maps the value of `t` after `es` to its value after `fs`, and that the
-- other streams are equal.
one_becomes : (M id : ℕ) (es fs : List AcceptedCall) (f : Connection → Connection) (g : SessionValue → SessionValue)
    (t : Connection) (ps : List ConnectionEntry) → AreDistinct ps → side_of id ps ≡ Some t
    → ((n : ℕ) → id ≢ n → stream_on M n fs ≡ stream_on M n es)
    → session_shown (stream_on M id fs).rest (f t) ≡ g (session_shown (stream_on M id es).rest t)
    → map (place_shown M fs) (map (changed_at id f) ps) ≡ map (session_becomes id g) (map (place_shown M es) ps)
one_becomes M id es fs f g t ps distinct there same becomes =
    maps_alike (changed_at id f) (place_shown M fs) (place_shown M es) (session_becomes id g) ps
    (of_each (λ n s. let p : ConnectionEntry = record { id = n; side = s } in
    place_shown M fs (changed_at id f p) ≡ session_becomes id g (place_shown M es p)) ps distinct
    (λ n s at. grind (arith, nat_tests, there, at, becomes, same n)))

-- ---- settling

-- A server settles as its model does.
pub server_after_settling : (c : ConfigValues) (es : List AcceptedCall) (w : World) → IsKnownWorld w
    → server_shown c es (all_settled w) ≡ server_settled (server_shown c es w)
server_after_settling c es w known =
    let shown = place_shown c.limits.max_message es in
    let shared = shared_of w.store w.now in
    ap (λ (os : List (ℕ × SessionValue)). record (server_shown c es w) { sessions = os })
    (maps_alike (settled_place w.store w.now) shown shown (settled_entry shared) w.sides
    (all_to (IsKnownPlace w.store) (λ p. shown (settled_place w.store w.now p) ≡ settled_entry shared (shown p))
    (λ p is. ap (λ (v : SessionValue). (p.id, v))
    (settled_shown w.store w.now known.moment known.versioned (stream_on c.limits.max_message p.id es).rest p.side is))
    w.sides known.places))

-- The history of a connection of a reached world is valid.
pub history_there : (c : ConfigValues) (es : List AcceptedCall) (id : ℕ) (t : Connection)
    → c.starts.moment ≤ 18446744073709551615 → side_of id (world_after c es).sides ≡ Some t → IsHistory t.history
history_there c es id t small there =
    (of_number (λ n s. IsKnownSide (world_after c es).store s) id t (world_after c es).sides
    (world_known c es small).places there).is_history

-- ---- the bytes that a session accepts

-- No byte is accepted.
abbrev pub taking_nothing : SessionValue → TakeOutcome
taking_nothing s = record { count = 0; handled = false; session = s; change = store_change.Nothing }

pub taking_stopped : (shared : ServerState) (s : SessionValue) (piece : List ℕ) → session_takes s ≡ false
    → taking shared s piece ≡ taking_nothing s
unfolding taking
taking_stopped shared s piece stopped = rw stopped

handed_stopped : (shared : ServerState) (s : SessionValue) (piece : List ℕ) → session_takes s ≡ false
    → handed shared s piece ≡ None
unfolding handed
handed_stopped shared s piece stopped = rw stopped

-- A connection that accepts bytes finds in the kept bytes and the slice the frame or error that `framing` finds.
pub taking_front : (shared : ServerState) (M : ℕ) (rest piece : List ℕ) (t : Connection)
    → t.history.own_max ≡ M → handles t ≡ true → taking shared (session_shown rest t) piece
    ≡ taking_found shared (session_shown rest t) (framing M rest piece) (framing M rest piece).finding
unfolding taking
taking_front shared M rest piece t most does = rw ((handles_parts t does).0, (handles_parts t does).1, most)

handed_front : (shared : ServerState) (M : ℕ) (rest piece : List ℕ) (t : Connection)
    → t.history.own_max ≡ M → handles t ≡ true → handed shared (session_shown rest t) piece
    ≡ handed_found shared (session_shown rest t) (framing M rest piece).finding
unfolding handed
handed_front shared M rest piece t most does = rw ((handles_parts t does).0, (handles_parts t does).1, most)

-- The framing of the unfinished frame and the slice.
abbrev pub front_found : ℕ → ℕ → List AcceptedCall → List ℕ → Framing
front_found M id es piece = framing (size_on M id es) (stream_on M id es).rest piece

-- The value of a connection of the model.
abbrev pub session_after : ℕ → ℕ → List AcceptedCall → Connection → SessionValue
session_after M id es t = session_shown (stream_on M id es).rest t

abbrev AddsFront : ℕ → ℕ → List AcceptedCall → List ℕ → Stream → Type 0
AddsFront M id es piece = Adds M id es (take (front_found M id es piece).taken piece)

-- The effect of a slice on a connection, and the frame that it hands to the application. No byte is accepted, or the
-- accepted bytes complete nothing, a message, or an error.
pub data Accepts (M id : ℕ) (es : List AcceptedCall) (piece : List ℕ) (t : Connection) (shared : ServerState)
    : TakeOutcome → Option (List ℕ) → Type 0 where
  NoByte : handles t ≡ false → Accepts M id es piece t shared (taking_nothing (session_after M id es t)) None
  NoFrame : handles t ≡ true → (front_found M id es piece).finding ≡ Nothing → AddsFront M id es piece (record {
    messages = [];
    rest = (stream_on M id es).rest ++ take (front_found M id es piece).taken piece;
    fault = None;
  }) → Accepts M id es piece t shared
      (taking_found shared (session_after M id es t) (front_found M id es piece) Nothing) None
  Completes : handles t ≡ true → (frame : List ℕ) (m : Message) → message_of frame ≡ Ok m
      → AddsFront M id es piece (record { messages = m ∷ []; rest = []; fault = None }) → Accepts M id es piece t shared
      (taking_read shared (session_after M id es t) (front_found M id es piece).taken (Ok m))
      (handed_read shared (session_after M id es t) frame (Ok m))
  Fails : handles t ≡ true → (fault : StreamFault) (rest : List ℕ)
      → AddsFront M id es piece (record { messages = []; rest = rest; fault = Some fault })
      → Accepts M id es piece t shared (record {
        count = (front_found M id es piece).taken;
        handled = false;
        session = session_rejected (session_after M id es t) (reject_of fault);
        change = store_change.Nothing;
      }) None

module _ (c : ConfigValues) (es : List AcceptedCall) (id : ℕ) (piece : List ℕ) (t : Connection) (is : IsReached c es)
    (there : side_of id (world_after c es).sides ≡ Some t) (shared : ServerState) where
  abbrev limit : ℕ
  limit = c.limits.max_message

  abbrev AcceptsSo : TakeOutcome → Option (List ℕ) → Type 0
  AcceptsSo = Accepts limit id es piece t shared

  frame_accepted : handles t ≡ true → (frame : List ℕ) (read : Result Message FormatFault)
      → (front_found limit id es piece).finding ≡ AFrame frame → message_of frame ≡ read
      → AcceptsSo (taking_read shared (session_after limit id es t) (front_found limit id es piece).taken read)
      (handed_read shared (session_after limit id es t) frame read)
  frame_accepted does frame (Ok m) e reads =
      Completes does frame m reads
      (piece_adds_message limit id es piece (handling_goes_on c es id t is there does) frame m e reads)
  frame_accepted does frame (Err f) e reads =
      Fails does Format frame
      (piece_adds_bad limit id es piece (handling_goes_on c es id t is there does) frame f e reads)

  found_accepted : handles t ≡ true → (found : FrameEventValue) → (front_found limit id es piece).finding ≡ found
      → AcceptsSo (taking_found shared (session_after limit id es t) (front_found limit id es piece) found)
      (handed_found shared (session_after limit id es t) found)
  found_accepted does Nothing e =
      NoFrame does e (piece_adds_nothing limit id es piece (handling_goes_on c es id t is there does) e)
  found_accepted does (AFrame frame) e = frame_accepted does frame (message_of frame) e refl
  found_accepted does (AFault fault) e =
      Fails does (OfFrame fault) _
      (piece_adds_fault limit id es piece (handling_goes_on c es id t is there does) fault e)

  pub accepts : AcceptsSo (taking shared (session_after limit id es t) piece)
      (handed shared (session_after limit id es t) piece)
  accepts = elim (cases_Bool (handles t)) [
    | inl does ↦
        rw (taking_front _ _ _ _ t (is.sizes id t there) does, handed_front _ _ _ _ t (is.sizes id t there) does)
        (found_accepted does (front_found limit id es piece).finding refl)
    | inr stopped ↦
        let v = session_after limit id es t in
        rw (taking_stopped _ v _ stopped, handed_stopped _ v _ stopped) (NoByte stopped)
  ]

-- The number of bytes that it accepts.
count_found : (shared : ServerState) (s : SessionValue) (f : Framing) (found : FrameEventValue)
    → (taking_found shared s f found).count ≡ f.taken
count_found shared s f found = grind arith

pub taking_count : (shared : ServerState) (M : ℕ) (rest piece : List ℕ) (t : Connection) → t.history.own_max ≡ M
    → (taking shared (session_shown rest t) piece).count ≡ (if handles t then front_of M rest piece else 0)
taking_count shared M rest piece t most =
    let s = session_shown rest t in
    let f = framing M rest piece in
    grind (
      arith,
      taking_front shared M rest piece t most,
      count_found shared s f f.finding,
      taking_stopped shared s piece,
    )

-- A representation is stored only by a frame whose message stores it.
pub record StoresBy (shared : ServerState) (s : SessionValue) (found : FrameEventValue) : Type 0 where
  pub frame : List ℕ
  pub message : Message
  pub is : found ≡ AFrame frame
  pub reads : message_of frame ≡ Ok message
  pub puts : IsPut (change_by shared s.link message)

stores_by : (shared : ServerState) (s : SessionValue) (f : Framing) (found : FrameEventValue)
    → IsPut (taking_found shared s f found).change → StoresBy shared s found
stores_by shared s f (AFrame frame) put = by _ refl put
  where
    by : (read : Result Message FormatFault) → message_of frame ≡ read
        → IsPut (taking_read shared s f.taken read).change → StoresBy shared s (AFrame frame)
    by (Ok m) e puts = record { frame = frame; message = m; is = refl; reads = e; puts = puts }
    by (Err fault) e puts = absurd puts
stores_by shared s f other put = absurd put

-- ---- the bytes that a server accepts

module _ (c : ConfigValues) (es : List AcceptedCall) (id : ℕ) (piece : List ℕ) (t : Connection)
    (small : c.starts.moment ≤ 18446744073709551615) (is : IsReached c es)
    (there : side_of id (world_after c es).sides ≡ Some t) where
  abbrev most : ℕ
  most = c.limits.max_message

  abbrev so_far : List ℕ
  so_far = (stream_on c.limits.max_message id es).rest

  abbrev session_then : SessionValue
  session_then = session_shown so_far t

  abbrev world_then : World
  world_then = world_after c es

  abbrev shared_then : ServerState
  shared_then = shared_of world_then.store world_then.now

  -- The server after this effect is that after the accepted bytes.
  abbrev TakesAs : TakeOutcome → Type 0
  TakesAs k = server_taken_so (server_of c es) id k ≡ server_of c (es ++ Took id (take k.count piece) ∷ [])

  -- Bytes that change the connection by `f`, whose value is `v` then.
  took : (bytes : List ℕ) (f : Connection → Connection) (v : SessionValue) (store : StoreValue)
      → IsKnownWorld (record (on_side id f world_then) { store = store })
      → world_after c (es ++ Took id bytes ∷ []) ≡ all_settled (record (on_side id f world_then) { store = store })
      → session_shown (stream_on most id (es ++ Took id bytes ∷ [])).rest (f t) ≡ v
      → server_settled (record (on_session id (λ s. v) (server_of c es)) { shared = shared_of store world_then.now })
      ≡ server_of c (es ++ Took id bytes ∷ [])
  unfolding server_of
  took bytes f v store known settles shown =
      let fs : List AcceptedCall = es ++ Took id bytes ∷ [] in
      sym (ap (server_shown c fs) settles
      ∙ server_after_settling c fs (record (on_side id f world_then) { store = store }) known
      ∙ ap (λ (os : List (ℕ × SessionValue)).
      server_settled (record (server_shown c es world_then) { shared = shared_of store world_then.now; sessions = os }))
      (one_becomes most id es fs f (λ s. v) t world_then.sides (events_distinct c es) there
      (λ k apart. stream_elsewhere most k id es bytes apart) shown))

  -- Bytes that make no step.
  took_quietly : (bytes : List ℕ) (v : SessionValue) → steps_by most es (Took id bytes) ≡ []
      → session_shown (stream_on most id (es ++ Took id bytes ∷ [])).rest t ≡ v
      → server_settled (on_session id (λ s. v) (server_of c es)) ≡ server_of c (es ++ Took id bytes ∷ [])
  unfolding server_of
  took_quietly bytes v none shown =
      let still : on_side id (λ s. s) world_then ≡ world_then =
      ap (λ (ps : List ConnectionEntry). record world_then { sides = ps }) (places_unchanged id world_then.sides) in
      took bytes (λ s. s) v world_then.store (rw still (world_known c es small))
      (world_same c es (Took id bytes) none ∙ sym (world_stays world_then (world_hears c es))
      ∙ ap all_settled (sym still)) shown

  -- The effect on the server.
  takes_as : (k : TakeOutcome) (lent : Option (List ℕ)) → Accepts most id es piece t shared_then k lent → TakesAs k
  unfolding server_of acted world.step
  takes_as k lent (NoByte stopped) =
      took_quietly [] session_then (no_bytes_steps most id es)
      (ap (λ (u : Stream). session_shown u.rest t) (no_bytes_stream most id es))
  takes_as k lent (NoFrame does e adds) =
      took_quietly _ (record session_then { frame = (front_found most id es piece).kept }) adds.steps
      (ap (λ (u : Stream). session_shown u.rest t) adds.stream
      ∙ rw ((handles_parts t does).0, front_kept (size_on most id es) so_far piece e))
  takes_as k lent (Completes does frame m reads adds) =
      let w : World = world_then in
      let st : Step = world.Handled id m in
      let known : IsKnownWorld w = world_known c es small in
      let store : StoreValue = changed w.store (change_by shared_then session_then.link m) in
      let acts : acted c.limits w st ≡ record (on_side id (λ u. side_after w.store w.now u m) w) { store = store } =
      ap (λ (s : StoreValue). record (on_side id (λ u. side_after w.store w.now u m) w) { store = s })
      (ap (stored_after w m) there ∙ ap (changed w.store) (change_shown w.store w.now t m does)) in
      took _ (λ u. side_after w.store w.now u m) (session_handled shared_then session_then m) store
      (subst IsKnownWorld acts (acted_known c.limits w st known))
      (world_step c es _ st adds.steps ∙ ap all_settled acts)
      (ap (λ (u : Stream). session_shown u.rest (side_after w.store w.now t m)) adds.stream
      ∙ handled_shown w.store w.now known.moment known.versioned so_far t m (history_there c es id t small there) does)
  takes_as k lent (Fails does fault rest adds) =
      let st : Step = world.Faulted id fault in
      took _ (λ u. side_faulted u fault) (session_rejected session_then (reject_of fault)) world_then.store
      (acted_known c.limits world_then st (world_known c es small)) (world_step c es _ st adds.steps)
      (ap (λ (u : Stream). session_shown u.rest (side_faulted t fault)) adds.stream
      ∙ faulted_shown so_far rest t fault (history_there c es id t small there) does)

  server_takes : TakesAs (taking shared_then session_then piece)
  server_takes = takes_as _ _ (accepts c es id piece t is there shared_then)

-- The connection of the model that a session represents.
pub record SessionThere (v : ServerValue) (events : List AcceptedCall) (id : ℕ) (s : SessionValue) : Type 0 where
  pub side : Connection
  pub there : side_of id (world_after v.config events).sides ≡ Some side
  pub shown : s ≡ session_shown (stream_on v.config.limits.max_message id events).rest side

module _ (v : ServerValue) (es : List AcceptedCall) where
  abbrev config : ConfigValues
  config = v.config

  abbrev largest : ℕ
  largest = config.limits.max_message

  abbrev model : World
  model = world_after v.config es

  -- The bytes kept of a connection's unfinished frame.
  abbrev rest_on : ℕ → List ℕ
  rest_on id = (stream_on largest id es).rest

  -- ---- the connections of a server are those of its model

  -- A server has a connection with an id if and only if its model has, and their values correspond.
  pub sessions_shown : (id : ℕ) → Shows v es
      → session_of id v.sessions ≡ option_map (session_shown (rest_on id)) (side_of id model.sides)
  unfolding server_of
  sessions_shown id shows =
      ap (λ u. session_of id u.sessions) shows.same ∙ session_found largest id es model.sides

  pub session_there : (id : ℕ) (s : SessionValue) → Shows v es → session_of id v.sessions ≡ Some s
      → SessionThere v es id s
  session_there id s shows e =
      let made = one_made _ _ s (sym (sessions_shown id shows) ∙ e) in
      record { side = made.0; there = made.1; shown = sym made.2 }

  -- The session of a connection of the model.
  pub side_there : (id : ℕ) (t : Connection) → Shows v es → side_of id model.sides ≡ Some t
      → session_of id v.sessions ≡ Some (session_shown (rest_on id) t)
  side_there id t shows e = sessions_shown id shows ∙ rw e

  -- A server has no connection with an id if its model has none.
  pub no_session : (id : ℕ) → Shows v es → side_of id model.sides ≡ None → session_of id v.sessions ≡ None
  no_session id shows e = sessions_shown id shows ∙ rw e

  -- The resources and the time.
  pub shared_shown : Shows v es → v.shared ≡ shared_of model.store model.now
  unfolding server_of
  shared_shown shows = ap (λ u. u.shared) shows.same

  -- A connection is up to date if its queue has room, since the one of the model is.
  pub no_change_is_lost : (id : ℕ) (s : SessionValue) (t : Connection) → Shows v es → session_of id v.sessions ≡ Some s
      → side_of id model.sides ≡ Some t → IsUpToDate v.shared.store v.shared.now t
  no_change_is_lost id s t shows e there =
      rw (shared_shown shows)
      (of_number (λ n u. IsUpToDate model.store model.now u) id t model.sides (world_hears config es) there)

  -- ---- calls that accept no byte

  -- A server with the value after one more accepted event shows that event too.
  shows_event : (new : ServerValue) (e : AcceptedCall) → Shows v es → IsAccepted config es e
      → new ≡ server_of config (es ++ e ∷ []) → Shows new (es ++ e ∷ [])
  unfolding server_of
  shows_event new e shows accepted same =
      rw same (record {
        accepted = accepted_more config es e shows.accepted accepted;
        same = refl;
        moment = shows.moment;
        deadline = shows.deadline;
      })

  -- An event without bytes that makes one step, where `g` changes the server as the step changes its model.
  shows_step : (e : AcceptedCall) (st : Step) (g : ServerValue → ServerValue) → Shows v es → IsAccepted config es e
      → steps_by largest es e ≡ st ∷ [] → ((id : ℕ) → taken_in id e ≡ [])
      → server_shown config es (acted config.limits model st) ≡ g (server_of config es)
      → Shows (server_settled (g v)) (es ++ e ∷ [])
  unfolding server_of world.step
  shows_step e st g shows accepted one none becomes =
      let did : World = acted config.limits model st in
      let fs : List AcceptedCall = es ++ e ∷ [] in
      let streams : server_shown config fs did ≡ server_shown config es did =
      ap (λ (streams : ℕ → Stream). record (server_shown config es did) {
        sessions = map (λ p. (p.id, session_shown (streams p.id).rest p.side)) did.sides;
      }) (streams_same largest es e none) in
      shows_event (server_settled (g v)) e shows accepted (ap (λ (u : ServerValue). server_settled (g u)) shows.same
      ∙ sym (ap (server_shown config fs) (world_step config es e st one)
      ∙ server_after_settling config fs did (acted_known config.limits model st (world_known config es shows.moment))
      ∙ ap server_settled (streams ∙ becomes)))

  -- The same for a step that changes only one connection, which has the property `P`.
  shows_on : (id : ℕ) (s : SessionValue) (e : AcceptedCall) (st : Step) (f : Connection → Connection)
      (g : SessionValue → SessionValue) (P : SessionValue → Type 0)
      → Shows v es → session_of id v.sessions ≡ Some s → P s → steps_by largest es e ≡ st ∷ []
      → ((k : ℕ) → taken_in k e ≡ []) → acted config.limits model st ≡ on_side id f model
      → (OnSide id model (λ t. P (session_shown (rest_on id) t)) → IsAccepted config es e)
      → ((t : Connection) → IsHistory t.history → P (session_shown (rest_on id) t)
      → session_shown (rest_on id) (f t) ≡ g (session_shown (rest_on id) t))
      → Shows (server_settled (on_session id g v)) (es ++ e ∷ [])
  unfolding server_of
  shows_on id s e st f g P shows there holds one none acts allows becomes =
      let at = session_there id s shows there in
      let here : P (session_shown (rest_on id) at.side) = rw at.shown at holds in
      shows_step e st (on_session id g) shows (allows (rw at.there here)) one none (ap (server_shown config es) acts
      ∙ ap (λ (os : List (ℕ × SessionValue)). record (server_shown config es model) { sessions = os })
      (one_becomes largest id es es f g at.side model.sides (events_distinct config es) at.there (λ n apart. refl)
      (becomes at.side (history_there config es id at.side shows.moment at.there) here)))

  -- `written`.
  pub shows_written : (id n : ℕ) (s : SessionValue) → Shows v es → session_of id v.sessions ≡ Some s
      → n ≤ length s.link.waiting → Shows (server_written v id n) (es ++ Wrote id n ∷ [])
  unfolding IsAccepted acted steps_by
  shows_written id n s shows there within =
      shows_on id s _ _ _ _ (λ u. n ≤ length u.link.waiting) shows there within refl (λ k. refl) refl (λ ok. ok)
      (λ t. written_shown _ t n)

  -- `ended`.
  pub shows_ended : (id : ℕ) (s : SessionValue) → Shows v es → session_of id v.sessions ≡ Some s
      → Shows (server_ended v id) (es ++ Ended id ∷ [])
  unfolding IsAccepted acted steps_by
  shows_ended id s shows there =
      shows_on id s _ _ _ _ (λ u. Unit {0}) shows there tt refl (λ k. refl) refl (λ ok. ok)
      (λ t history any. ended_side_shown _ t history)

  -- `release`.
  pub shows_released : (id : ℕ) (s : SessionValue) → Shows v es → session_of id v.sessions ≡ Some s
      → release_refusal s.link ≡ None → Shows (server_released v id) (es ++ Released id ∷ [])
  unfolding IsAccepted acted steps_by
  shows_released id s shows there none =
      shows_on id s _ _ _ _ (λ u. release_refusal u.link ≡ None) shows there none refl (λ k. refl) refl (λ ok. ok)
      (released_shown (rest_on id))

  -- `respond`.
  pub shows_responded : (id : ℕ) (m : Message) (s : SessionValue) → Shows v es → session_of id v.sessions ≡ Some s
      → response_refusal s.link m ≡ None → Shows (server_responded v id m) (es ++ Responded id m ∷ [])
  unfolding IsAccepted acted steps_by
  shows_responded id m s shows there none =
      shows_on id s _ _ _ _ (λ u. response_refusal u.link m ≡ None) shows there none refl (λ k. refl) refl (λ ok. ok)
      (λ t history may. given_shown _ t m history)

  -- `announce`.
  pub shows_announced : (id size : ℕ) (s : SessionValue) → Shows v es → session_of id v.sessions ≡ Some s
      → session_raises s size ≡ true → Shows (server_announced v id size) (es ++ Announced id size ∷ [])
  unfolding IsAccepted acted steps_by
  shows_announced id size s shows there raises =
      shows_on id s _ _ _ _ (λ u. session_raises u size ≡ true) shows there raises refl (λ k. refl) refl (λ ok. ok)
      (λ t. announced_shown _ t size)

  -- `drop_conn`.
  pub shows_dropped : (id : ℕ) (s : SessionValue) → Shows v es → session_of id v.sessions ≡ Some s
      → Shows (server_dropped v id) (es ++ Dropped id ∷ [])
  unfolding IsAccepted server_of acted steps_by
  shows_dropped id s shows there =
      let others : (ℕ × SessionValue) → Bool = λ o. not (o.0 == id) in
      shows_step (Dropped id) _ (λ u. record u { sessions = filter others u.sessions }) shows
      (rw (session_there id s shows there).there tt) refl (λ k. refl)
      (ap (λ (os : List (ℕ × SessionValue)). record (server_of config es) { sessions = os })
      (mapped_filter (place_shown largest es) others model.sides))

  -- `tick`.
  pub shows_ticked : (now : ℕ) → Shows v es → v.shared.now ≤ now → now ≤ 18446744073709551615
      → Shows (server_ticked v now) (es ++ Ticked now ∷ [])
  unfolding IsAccepted server_of acted steps_by
  shows_ticked now shows later small =
      let ticks_there : ticks model.now now ≡ true = grind (arith, nat_tests, shared_shown shows) in
      shows_step (Ticked now) _ (λ u. record u { shared = record u.shared { now = now } }) shows ticks_there refl
      (λ k. refl) (rw ticks_there)

  -- `put`.
  pub shows_put : (path : Path) (format : Option ℕ) (bytes : List ℕ) → Shows v es
      → put_refusal v.shared.store path bytes ≡ None
      → Shows (server_put v path format bytes) (es ++ Stored path format bytes ∷ [])
  unfolding IsAccepted server_of acted steps_by
  shows_put path format bytes shows none =
      let free = rw (shared_shown shows) at none in
      shows_step _ _
      (λ u. record u { shared = record u.shared { store = put_in u.shared.store path format bytes } }) shows free
      refl (λ k. refl) (rw free)

  -- `remove`.
  pub shows_removed : (path : Path) → Shows v es → remove_refusal v.shared.store path ≡ None
      → Shows (server_removed v path) (es ++ Removed path ∷ [])
  unfolding IsAccepted server_of acted steps_by
  shows_removed path shows none =
      shows_step _ _
      (λ u. record u { shared = record u.shared { store = removed_in u.shared.store path } }) shows
      (rw (shared_shown shows) at none) refl (λ k. refl) refl

  -- `open`.
  pub shows_opened : Shows v es → v.ids + 1 ≤ 18446744073709551615
      → length v.sessions < v.config.connections → Shows (server_opened v) (es ++ Opened (v.ids + 1) ∷ [])
  unfolding IsAccepted server_of steps_by
  shows_opened shows left room =
      let id : ℕ = v.ids + 1 in
      let shown = place_shown largest es in
      let new : SessionValue = new_session config.limits in
      let is = accepted_is config es shows.accepted in
      let next : id ≡ model.ids + 1 = ap (λ (u : ServerValue). u.ids + 1) shows.same in
      let new_shown_then : session_shown (rest_on id) (new_side config.limits) ≡ new =
      ap (λ (s : Stream × ℕ). session_shown s.0.rest (new_side config.limits)) (is.silent id (omega arith))
      ∙ ap (λ (l : LinkValue). record { frame = []; link = l; observers = [] })
      (sym (new_shown Server config.limits 0 (new_link Server config.limits 0) refl).same) in
      let few : length model.sides < config.connections =
      omega (arith, ap (λ (u : ServerValue). length u.sessions) shows.same, length-map model.sides shown) in
      shows_step (Opened id) _ (λ u. record u { ids = id; sessions = u.sessions ++ (id, new) ∷ [] }) shows
      (next, left, few) refl (λ k. refl) (ap (server_shown config es) (opens config model id is.numbered next)
      ∙ ap (λ (os : List (ℕ × SessionValue)). record (server_shown config es model) { ids = id; sessions = os })
      (map-append shown model.sides (record { id = id; side = new_side config.limits } ∷ [])
      ∙ ap (λ (s : SessionValue). map shown model.sides ++ (id, s) ∷ []) new_shown_then))

  -- ---- accepted bytes

  takes_by : (id : ℕ) (piece : List ℕ) (side : Option Connection) → IsReached config es
      → side_of id model.sides ≡ side → count_on v piece (option_map (session_shown (rest_on id)) side)
      ≡ takes_of (size_on largest id es) (rest_on id) piece side
  takes_by id piece None is e = refl
  takes_by id piece (Some t) is e = taking_count v.shared (size_on largest id es) (rest_on id) piece t (is.sizes id t e)

  -- The number of bytes that a server accepts is a function of its events.
  pub takes_shown : (id : ℕ) (piece : List ℕ) → Shows v es → count_taken v id piece ≡ takes config es id piece
  unfolding count_taken takes
  takes_shown id piece shows =
      ap (count_on v piece) (sessions_shown id shows)
      ∙ takes_by id piece (side_of id model.sides) (accepted_is config es shows.accepted) refl

  pub shows_taken : (id : ℕ) (piece : List ℕ) (s : SessionValue) → Shows v es → session_of id v.sessions ≡ Some s
      → Shows (server_taken v id piece) (es ++ Took id (take (count_taken v id piece) piece) ∷ [])
  unfolding server_taken
  shows_taken id piece s shows e =
      let shared : ServerState = shared_of model.store model.now in
      let at = session_there id s shows e in
      let is = accepted_is config es shows.accepted in
      let taken : TakeOutcome = taking shared (session_shown (rest_on id) at.side) piece in
      let same = ap (λ (h : ServerState). taking h s piece) (shared_shown shows)
      ∙ ap (λ (u : SessionValue). taking shared u piece) at.shown in
      let count : taken.count ≡ takes config es id piece =
      taking_count shared (size_on largest id es) (rest_on id) piece at.side (is.sizes id at.side at.there)
      ∙ sym (takes_there config es id piece at.side at.there) in
      rw (takes_shown id piece shows) (shows_event _ (Took id (take (takes config es id piece) piece)) shows
      (piece_accepted config es id piece at.side is at.there)
      (ap (server_taken_on v id piece) e ∙ ap (server_taken_so v id) same
      ∙ ap (λ (u : ServerValue). server_taken_so u id taken) shows.same
      ∙ server_takes config es id piece at.side shows.moment is at.there
      ∙ ap (λ (n : ℕ). server_of config (es ++ Took id (take n piece) ∷ [])) count))

-- ---- allocation failed

-- The connection exists.
pub refused_on : (v : ServerValue) (piece : List ℕ) (n : ℕ) (found : Option SessionValue)
    → RefusesPieceOn v piece n found → (s : SessionValue) × (found ≡ Some s) × RefusesPiece v.shared s piece n
refused_on v piece n None refuses = absurd refuses
refused_on v piece n (Some s) refuses = (s, refl, refuses)

-- A slice on a connection of the model.
module _ (v : ServerValue) (es : List AcceptedCall) (id : ℕ) (piece : List ℕ) (n : ℕ) (t : Connection)
    (shows : Shows v es) (there : side_of id (world_after v.config es).sides ≡ Some t)
    (refuses : RefusesPiece v.shared (session_shown (stream_on v.config.limits.max_message id es).rest t) piece n) where
  abbrev stream_then : Stream
  stream_then = stream_on v.config.limits.max_message id es

  abbrev size_so_far : ℕ
  size_so_far = size_on v.config.limits.max_message id es

  abbrev framing_so_far : Framing
  framing_so_far = framing size_so_far stream_then.rest piece

  size_there : t.history.own_max ≡ size_so_far
  size_there = (accepted_is v.config es shows.accepted).sizes id t there

  pub refused_unfinished : (stream_then.fault ≡ None) × (prefix_kind size_so_far stream_then.rest ≡ Unfinished)
  refused_unfinished =
      let none = handling_goes_on v.config es id t (accepted_is v.config es shows.accepted) there refuses.takes in
      (none, rest_unfinished v.config.limits.max_message id es none)

  -- The slice begins with a frame whose message stores a representation, and that ends after `n` more bytes.
  pub refused_message : StoresBy v.shared (session_shown stream_then.rest t) framing_so_far.finding
  refused_message =
      stores_by v.shared _ framing_so_far _
      (rw (taking_front v.shared size_so_far stream_then.rest piece t size_there refuses.takes) at refuses.stores)

  pub refused_front : front_of size_so_far stream_then.rest piece ≡ n + 1
  refused_front =
      sym (rw refuses.takes at (taking_count v.shared size_so_far stream_then.rest piece t size_there)) ∙ refuses.last

  refused_count : count_taken v id (take n piece) ≡ n
  refused_count =
      let stored = refused_message in
      let nothing = but_last_unfinished size_so_far stream_then.rest piece stored.frame n refused_unfinished.1
      stored.is refused_front in
      let within =
      front_within size_so_far stream_then.rest piece stored.frame n refused_unfinished.1 stored.is refused_front in
      takes_shown v es id _ shows ∙ takes_there v.config es id _ t there
      ∙ rw refuses.takes (ap (λ f. f.taken) nothing ∙ length-take-le n piece (omega arith))

-- All bytes but the last of a message that stores a representation are accepted, and the server shows this.
pub shows_refused_take : (v : ServerValue) (es : List AcceptedCall) (id : ℕ) (piece : List ℕ) (n : ℕ) (s : SessionValue)
    → Shows v es → session_of id v.sessions ≡ Some s → RefusesPiece v.shared s piece n
    → Shows (server_taken v id (take n piece)) (es ++ Took id (take n piece) ∷ [])
shows_refused_take v es id piece n s shows e refuses =
    let at = session_there v es id s shows e in
    let count : take (count_taken v id (take n piece)) (take n piece) ≡ take n piece =
    rw (refused_count v es id piece n at.side shows at.there (rw at.shown at refuses))
    (take-take n n piece (omega arith)) in
    rw count at (shows_taken v es id (take n piece) s shows e)

-- ---- equal steps

-- Equal normalised steps and equal bytes kept of unfinished messages determine equal servers.
pub same_servers : (c : ConfigValues) (es fs : List AcceptedCall) → normalised_steps c es ≡ normalised_steps c fs
    → ((id : ℕ) → kept_at c es id ≡ kept_at c fs id) → server_of c es ≡ server_of c fs
unfolding server_of
same_servers c es fs alike kept =
    let M : ℕ = c.limits.max_message in
    let w : World = world_after c es in
    let worlds : w ≡ world_after c fs = same_received c es fs alike in
    let same : (id : ℕ) (s : Connection) → side_of id w.sides ≡ Some s
    → kept_on s (stream_on M id es).rest ≡ kept_on s (stream_on M id fs).rest = λ id s there. cc (kept id) in
    let sessions : map (place_shown M es) w.sides ≡ map (place_shown M fs) w.sides =
    each_same (place_shown M es) (place_shown M fs) w.sides (events_distinct c es)
    (λ id s there. ap (λ (frame : List ℕ). (id, record (session_shown (stream_on M id es).rest s) { frame = frame }))
    (same id s there)) in
    cc

-- A server that meets the clauses of a call on its value shows the event of this call.

-- The connection with this id, if it exists and a call on it does not fail.
where_one : (o : Option SessionValue) → true ≡ is_there o → (s : SessionValue) × (o ≡ Some s)
where_one o there = grind arith

pub where_free : {F : Type 0} (refusal : Option SessionValue → Option F) (fault : F) (o : Option SessionValue)
    → refusal None ≡ Some fault → refusal o ≡ None → (s : SessionValue) × (o ≡ Some s) × (refusal (Some s) ≡ None)
where_free refusal fault o missing none = grind arith

-- ---- new

pub new_shows : {F : Type 0} (r : Result ServerValue F) (c : ConfigValues) → c.starts.moment < 2 ^ 64
    → IfSome c.applications (λ a. 1 ≤ a.deadline) → IfOk r (λ v. v ≡ new_server c) → IfOk r (λ v. Shows v [])
unfolding server_of AreAcceptedAfter
new_shows (Ok v) c fits least is =
    rw is (record { accepted = tt; same = rw (world_first c); moment = omega (arith, fits); deadline = least })
new_shows (Err e) c fits least is = tt

-- ---- calls

-- A response that was accepted is a message, and a request waits for it.
accepted_response : (s : SessionValue) (read : Result Message FormatFault)
    → option_map response_fault (frame_refusal s.link read) ≡ None
    → (m : Message) × (read ≡ Ok m) × (response_refusal s.link m ≡ None)
accepted_response s read none = grind arith

-- The connection after it.
pub given_is : (v w : SessionValue) (read : Result Message FormatFault) → frame_refusal v.link read ≡ None
    → OnMessage read (λ m. w ≡ session_given v m) → w ≡ session_given_by read v
given_is v w read none is = grind arith

-- The server shows the event of a response that was accepted.
pub shows_given : (v : ServerValue) (es : List AcceptedCall) (id : ℕ) (bytes : List ℕ) → Shows v es
    → responded_refusal v id bytes ≡ None → Shows (server_given v id bytes) (es ++ response_event id (message_of bytes))
shows_given v es id bytes shows none =
    let at = where_free (responded_refusal_on bytes) responding.NoSuch _ refl none in
    let read = accepted_response at.0 _ at.2 in
    rw read.1 (shows_responded v es id read.0 at.0 shows at.1 read.2)

module _ (v new : ServerValue) where
  pub open_shows : (id : ℕ) → id < 2 ^ 64 → open_refusal v ≡ None → id ≡ v.ids + 1 → new ≡ server_opened v
      → ShowsMore v new (Opened id ∷ [])
  open_shows id fits none next is es shows =
      rw (next, is) (shows_opened v es shows (omega (arith, fits)) (grind (arith, nat_tests, none)))

  pub tick_shows : (now : ℕ) → now < 2 ^ 64 → true ≡ nat_le v.shared.now now → new ≡ server_ticked v now
      → ShowsMore v new (Ticked now ∷ [])
  tick_shows now fits later is es shows =
      rw is (shows_ticked v es now shows (leb-true _ now (sym later)) (omega (arith, fits)))

  pub put_shows : (path : Path) (format : Option ℕ) (bytes : List ℕ) → put_refusal v.shared.store path bytes ≡ None
      → new ≡ server_put v path format bytes → ShowsMore v new (Stored path format bytes ∷ [])
  put_shows path format bytes none is es shows = rw is (shows_put v es path format bytes shows none)

  pub remove_shows : (path : Path) → remove_refusal v.shared.store path ≡ None → new ≡ server_removed v path
      → ShowsMore v new (Removed path ∷ [])
  remove_shows path none is es shows = rw is (shows_removed v es path shows none)

  module _ (id : ℕ) where
    pub written_shows : (n : ℕ) → written_refusal v id n ≡ None → new ≡ server_written v id n
        → ShowsMore v new (Wrote id n ∷ [])
    written_shows n none is es shows =
        let at = where_free (written_refusal_on n) writing.NoSuch _ refl none in
        rw is (shows_written v es id n at.0 shows at.1 (grind (arith, nat_tests, at.2)))

    pub ended_shows : true ≡ is_there (session_of id v.sessions) → new ≡ server_ended v id
        → ShowsMore v new (Ended id ∷ [])
    ended_shows there is es shows = let at = where_one _ there in rw is (shows_ended v es id at.0 shows at.1)

    pub drop_shows : true ≡ is_there (session_of id v.sessions) → new ≡ server_dropped v id
        → ShowsMore v new (Dropped id ∷ [])
    drop_shows there is es shows = let at = where_one _ there in rw is (shows_dropped v es id at.0 shows at.1)

    pub announce_shows : {T : Type 0} (r : Result T AnnounceFault) (size : ℕ)
        → IsAnnounced size (session_of id v.sessions) r → OnOk r (new ≡ server_announced v id size)
        → OnOk r (ShowsMore v new (Announced id size ∷ []))
    announce_shows (Ok x) size none is = λ es shows.
        let at = where_free (announced_refusal_on size) announcing.NoSuch (session_of id v.sessions) refl none in
        rw is (shows_announced v es id size at.0 shows at.1 (grind (arith, nat_tests, at.2)))
    announce_shows (Err e) size none is = tt

    pub release_shows : {T : Type 0} (r : Result T ReleaseFault) → RefusedBy r (released_refusal v id)
        → OnOk r (new ≡ server_released v id) → OnOk r (ShowsMore v new (Released id ∷ []))
    release_shows (Ok x) none is = λ es shows.
        let at = where_free released_refusal_on releasing.NoSuch _ refl none in
        rw is (shows_released v es id at.0 shows at.1 (none_made release_fault _ at.2))
    release_shows (Err e) none is = tt

    pub respond_shows : {T : Type 0} (r : Result T ResponseFault) (bytes : List ℕ)
        → RefusedBy r (responded_refusal v id bytes) → OnOk r (new ≡ server_given v id bytes)
        → OnOk r (ShowsMore v new (response_event id (message_of bytes)))
    respond_shows (Ok x) bytes none is = λ es shows. rw is (shows_given v es id bytes shows none)
    respond_shows (Err e) bytes none is = tt

    pub take_shows : (piece : List ℕ) (n : ℕ) → n ≡ count_taken v id piece
        → is_there (session_of id v.sessions) ≡ true → new ≡ server_taken v id piece
        → ShowsMore v new (Took id (take n piece) ∷ [])
    take_shows piece n count there is es shows =
        let at = where_one _ (sym there) in rw (is, count) (shows_taken v es id piece at.0 shows at.1)

pub refused_take_shows : (fault : TakeFault) (v new : ServerValue) (id : ℕ) (piece : List ℕ)
    → IsNotTaken v id piece fault new → (es : List AcceptedCall) → Shows v es → ShowsRefused es id piece fault new
refused_take_shows taken.NoSuch v new id piece not es shows = rw not.1 shows
refused_take_shows (taken.Memory n) v new id piece not es shows =
    let refused = refused_on v piece n _ not.0 in
    rw not.1 (shows_refused_take v es id piece n refused.0 shows refused.1 refused.2)
