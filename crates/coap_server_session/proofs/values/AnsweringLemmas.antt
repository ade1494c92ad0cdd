-- The link and the entries after a request, after a due entry was sent, and after a notification.
use Rattle.std.proofs.Common.{◌≡◌, ℕ, Bool, true, false, ◌&&◌, List, map, Option, Some, None, refl, ◌∙◌, ◌==◌, arith}
use Rattle.std.proofs.Common.{slice_get, slice_set, if◌then◌else◌}
use Rattle.std.proofs.lemmas.List.{append-nil}
use Rattle.std.proofs.lemmas.Bool.{false_from_ne_true}
use Rattle.coap_wire.specs.Codes as code
use Rattle.coap_conn.specs.Calls as call
use Rattle.coap_conn.proofs.PendingLaws.{due_nothing}
use Rattle.coap_store.specs.Answer as answer
use Rattle.coap_store.specs.Answer.{Answer}
use Rattle.coap_store.specs.declared.plan.Watch.TheVariants as watch
use Rattle.coap_store.proofs.ApplicationLaws.{prompt_cases}
use Rattle.coap_store.proofs.HoldLaws.{delay_of_answer, delayed_unwatched, same_change, same_at_once, refused_for_now}
use Rattle.coap_store.proofs.WatchLaws.{promptly_watched_is_there}
use Rattle.coap_model.proofs.world.EntryLemmas.{asks_to_enter}
use Rattle.coap_server_session.specs.Prelude.{is_observed, remove, Message, Reply, fit, bare_response, first_due}
use Rattle.coap_server_session.specs.Prelude.{link_after, LinkValue, limit_in, can_hold, path_of, says, only, answer_of}
use Rattle.coap_server_session.specs.Prelude.{immediate_answer, changes, StoreValue, application_deadline}
use Rattle.coap_server_session.specs.Prelude.{prompt_answer, Application, is_handed, unless_handed, Delay, delay_or}
use Rattle.coap_server_session.specs.Prelude.{hold_call, response_message, response_with_observe, notification_of}
use Rattle.coap_server_session.specs.Prelude.{MayObserve, ServerState, moment_after, asks_entry, is_whole, with_entry}
use Rattle.coap_server_session.specs.Prelude.{goes_on, ObserverValue, ObserversValue, new_entry, answer_on, delay_on}
use Rattle.coap_server_session.specs.Prelude.{delay_in, is_stale, mark_of, notification_on, state_on, first_index}
use Rattle.coap_server_session.specs.Prelude.{is_sent, link_replied, entries_replied, entries_notified, without_entry}
use Rattle.coap_server_session.specs.Prelude.{change_hash, shared_changed, AreMarked, changed_mark}
use Rattle.coap_server_session.proofs.values.EntryLemmas.{is_first}

-- ---- a request

-- States the effect of a request: the hash of the changed path, the link, the observers, and the server state.
pub record IsAnswered (shared : ServerState) (l : LinkValue) (o : ObserversValue) (m : Message) (hash : Option ℕ)
    (after : LinkValue) (p : ObserversValue) (later : ServerState) : Type 0 where
  pub changed : hash ≡ change_hash (answer_on shared m).change
  pub link : after ≡ link_replied shared l o.room (without_entry m.token o.entries) m (delay_in l (delay_on shared m))
  pub entries : p.entries
      ≡ entries_replied shared l o.room (without_entry m.token o.entries) m (delay_in l (delay_on shared m))
  pub room : p.room ≡ o.room
  pub marked : AreMarked later p.entries p.marks
  pub shared_is : later ≡ shared_changed shared (answer_on shared m).change

pub may_watch : (shared : ServerState) (m : Message) → asks_entry (answer_on shared m).watch ≡ true
    → MayObserve shared.store shared.now (path_of m) (answer_on shared m)
may_watch shared m asks =
    prompt_cases shared.store shared.now m (λ a. a.watch ≡ watch.Add → MayObserve shared.store shared.now (path_of m) a)
    (λ e. absurd cc) (promptly_watched_is_there shared.store shared.now m)
    (asks_to_enter (answer_on shared m).watch asks)

-- A change that changes something is not `Nothing`.
pub nothing_changed : (c : answer.Change) → changes c ≡ false → c ≡ answer.Nothing
nothing_changed c e = grind arith

-- ---- a request whose response is to be delayed

-- The answer with a full pending list: 5.03 and nothing else.
pub record IsRefusedDelay (a : Answer) : Type 0 where
  pub quiet : a.change ≡ answer.Nothing
  pub refused : a.response ≡ only code.service_unavailable
  pub unwatched : asks_entry a.watch ≡ false

refused_by : (s : StoreValue) (now : ℕ) (m : Message) (d : Delay) (deadline hold : Option ℕ)
    → (answer_of s now m).hold ≡ hold → delay_or deadline hold ≡ Some d
    → IsRefusedDelay (unless_handed deadline (immediate_answer s now m))
unfolding immediate_answer
refused_by s now m d (Some seconds) hold holds is = record { quiet = refl; refused = refl; unwatched = refl }
refused_by s now m d None None holds is = absurd cc
refused_by s now m d None (Some seconds) holds is =
    let same : (answer_of s now m).watch ≡ (immediate_answer s now m).watch = cc holds in
    record {
      quiet = same_change s now m ∙ (delay_of_answer s now m seconds holds).change;
      refused = refused_for_now s now m seconds holds;
      unwatched = false_from_ne_true _
          (λ asks. delayed_unwatched s now m seconds holds (same ∙ asks_to_enter _ asks));
    }

refused_delay_of : (shared : ServerState) (m : Message) (d : Delay) → delay_on shared m ≡ Some d
    → IsRefusedDelay (answer_on shared m)
unfolding prompt_answer
refused_delay_of shared m d =
    refused_by shared.store shared.now m d (application_deadline shared.store.applications m)
    (answer_of shared.store shared.now m).hold refl

module _ (shared : ServerState) (m : Message) (d : Delay) (room : ℕ) (others : List ObserverValue)
    (delays : delay_on shared m ≡ Some d) where
  pub late_quiet : (answer_on shared m).change ≡ answer.Nothing
  late_quiet = (refused_delay_of shared m d delays).quiet

-- Its response is delayed if the pending list has room, and is 5.03 otherwise. It gets no entry.
pub late_answered : (shared : ServerState) (l : LinkValue) (o : ObserversValue) (m : Message) (d : Delay) (moment : ℕ)
    (after : LinkValue) (p : ObserversValue) → delay_on shared m ≡ Some d → moment ≡ moment_after shared.now d.seconds
    → AreMarked shared o.entries o.marks
    → after ≡ (if can_hold l then link_after l (hold_call d.by m.token moment)
    else link_after l (call.Reply (response_message m.token (only code.service_unavailable))))
    → p.entries ≡ without_entry m.token o.entries
    → ((mark : ObserverValue → Option ℕ) → o.marks ≡ map mark o.entries → p.marks ≡ map mark p.entries)
    → p.room ≡ o.room → IsAnswered shared l o m None after p shared
late_answered shared l o m d moment after p delays at marked link_is entries_is marks_are room_is =
    let refused = refused_delay_of shared m d delays in
    record {
      changed = cc refused.quiet;
      link = grind (arith, refused);
      entries = grind (arith, refused);
      room = room_is;
      marked = marks_are (changed_mark shared) marked;
      shared_is = cc refused.quiet;
    }

-- A request of the application is handed over if the pending list has room.
pub handed_late : (shared : ServerState) (m : Message) {seconds : ℕ}
    → delay_on shared m ≡ Some (record { by = Application; seconds = seconds }) → (l : LinkValue)
    → can_hold l ≡ is_handed (delay_in l (delay_on shared m))
handed_late shared m delays l = grind (arith, delays)

-- ---- a request that is answered at once

module _ (shared : ServerState) (m : Message) (unhanded : application_deadline shared.store.applications m ≡ None)
    (a : Answer) (is : a ≡ answer_of shared.store shared.now m) (at_once : a.hold ≡ None) where
  pub prompt_is : (delay_on shared m ≡ None) × (a ≡ answer_on shared m)
  unfolding prompt_answer
  prompt_is =
      let none : (answer_of shared.store shared.now m).hold ≡ None = cc in
      (rw (unhanded, none) refl, rw (unhanded, same_at_once shared.store shared.now m none) is)

  -- A request that changes the store gets no entry.
  pub change_answered : (l : LinkValue) (o p : ObserversValue) (planned : Answer) (hash : Option ℕ)
      (after : LinkValue) (later : ServerState) → changes a.change ≡ true → planned.change ≡ a.change
      → planned.response ≡ a.response → hash ≡ change_hash planned.change
      → after ≡ link_after l (call.Reply (response_with_observe m.token false planned.response))
      → p.entries ≡ without_entry m.token o.entries → p.room ≡ o.room → AreMarked later p.entries p.marks
      → later ≡ shared_changed shared planned.change → IsAnswered shared l o m hash after p later
  change_answered l o p planned hash after later does change_is response_is hash_is after_is entries_is room_is marked
      later_is =
      let prompt = prompt_is in
      let watches = may_watch shared m in
      record {
        changed = cc prompt.1;
        link = grind (arith, prompt, watches);
        entries = grind (arith, prompt, watches);
        room = room_is;
        marked = marked;
        shared_is = cc prompt.1;
      }

  pub prompt_answered : (l : LinkValue) (o before p : ObserversValue) (observes enters : Bool) (reply : Reply)
      (after : LinkValue) → changes a.change ≡ false → before.entries ≡ without_entry m.token o.entries
      → before.room ≡ o.room → AreMarked shared before.entries before.marks
      → observes ≡ is_observed shared o.room (without_entry m.token o.entries) m → (observes && is_whole reply) ≡ enters
      → reply ≡ fit (limit_in l) (response_with_observe m.token observes a.response)
      (bare_response (response_with_observe m.token observes a.response))
      → after ≡ link_after l (call.Reply (response_with_observe m.token observes a.response))
      → p.entries ≡ with_entry enters before.entries (new_entry shared m)
      → p.room ≡ before.room → AreMarked shared p.entries p.marks
      → IsAnswered shared l o m None after p shared
  prompt_answered l o before p observes enters reply after quiet entries_is room_is marked observes_is enters_is
      reply_is after_is p_is same_room marked_is =
      let prompt = prompt_is in
      let nothing = nothing_changed a.change quiet in
      record {
        changed = cc (prompt.1, nothing);
        link = cc (prompt.0, prompt.1);
        entries = cc (prompt.0, prompt.1);
        room = cc;
        marked = marked_is;
        shared_is = cc (prompt.1, nothing);
      }

-- ---- pending entries

-- If no entry is due, nothing is sent.
pub nothing_sent : (l : LinkValue) (now : ℕ) → first_due now l.pending ≡ None → link_after l (call.Due now) ≡ l
nothing_sent l now none = rw (none, (due_nothing now l.pending none).1, append-nil l.waiting) refl

-- ---- a notification

-- `true` if a notification is a 2.05 and is sent whole.
abbrev pub goes_whole : ServerState → LinkValue → ObserverValue → Bool
goes_whole shared l o =
    goes_on (notification_of shared.store shared.now o.path o.format) && is_sent l (notification_on shared o)

-- The entries after the notification of the observer at the index of the first stale one.
pub notified_entries : (shared : ServerState) (l : LinkValue) (entries : List ObserverValue) (index : ℕ)
    (o : ObserverValue) (stays : Bool) → first_index (is_stale shared) entries ≡ Some index → stays
    ≡ goes_whole shared l o
    → (if stays then slice_set entries index (record o { mark = mark_of shared.now (state_on shared o.path) })
    else remove entries index) ≡ entries_notified shared l entries o
notified_entries shared l entries index o true first is =
    (is_first (is_stale shared) entries index first).becomes _ ∙ cc
notified_entries shared l entries index o false first is = (is_first (is_stale shared) entries index first).goes ∙ cc

-- An observer stays if and only if the code computes so from the entry at the index.
pub observer_stays_by : (shared : ServerState) (l : LinkValue) (entries : List ObserverValue) (index : ℕ)
    (found o : ObserverValue) (a : Answer) (c : ℕ) (goes : Bool) (reply : Reply) → slice_get entries index ≡ Some found
    → slice_get entries index ≡ Some o
    → a ≡ says (notification_of shared.store shared.now found.path found.format) → c ≡ a.response.code
    → goes ≡ (c == code.content)
    → reply ≡ fit (limit_in l) (response_with_observe found.token goes a.response)
    (bare_response (response_with_observe found.token goes a.response)) → (goes && is_whole reply)
    ≡ goes_whole shared l o
observer_stays_by shared l entries index found o a c goes reply read at reported code_is goes_is sent =
    let same : found ≡ o = cc (read, at) in
    rw (← same) (cc (reported, code_is, goes_is, sent))
