-- Lemmas on the responses of a directory.
use Rattle.std.proofs.Common.{◌≡◌, ℕ, Bool, true, false, List, [], ◌∷◌, ◌++◌, sym, ap, subst, ◌∙◌}
use Rattle.std.proofs.Common.{append-nil, true≢false}
use Rattle.std.specs.Prelude.{if◌then◌else◌}
use Rattle.std.specs.Bool.{OnTrue, OnFalse}
use Rattle.coap_wire.specs.Message.{Message}
use Rattle.coap_wire.specs.Spelling.{spelling}
use Rattle.coap_server_engine.specs.values.Exchanges.{Exchange, Requested}
use Rattle.directory_core.specs.Replies.{DirectoryValue, new_directory, at_time, allocates, replying, Replies}
use Rattle.directory_core.specs.Endpoints.{ReachedDirectory, Begun, AfterRequest}
use Rattle.directory_core.specs.Responses.{fits}
use Rattle.directory_core.specs.declared.reply.Reply.{Reply}
use Rattle.directory_core.specs.declared.reply.Reply.TheVariants as reply
use Rattle.program_directory.specs.Answers.{Answers, IsAnswered, NoRequests, OneAnswered, ResultGiven, ConnectionGone}
use Rattle.program_directory.specs.Answers.{time_at, results_within, written_in}

-- ---- one response

-- There was none for the first, and the second was written if there was room for it.
other_written : (fits fits_other wrote : Bool) (first other old new : List ℕ) → false ≡ fits → wrote ≡ fits_other
    → OnTrue wrote (new ≡ old ++ other) → OnFalse wrote (new ≡ old)
    → new ≡ old ++ (if fits then first else (if fits_other then other else []))
other_written true fits_other wrote first other old new lacks same written kept = absurd (true≢false (sym lacks))
other_written false true true first other old new lacks same written kept = written
other_written false false true first other old new lacks same written kept = absurd (true≢false same)
other_written false true false first other old new lacks same written kept = absurd (true≢false (sym same))
other_written false false false first other old new lacks same written kept = kept ∙ sym (append-nil old)

-- The same for two messages and a buffer, which the first attempt left as it was.
pub other_appended : {V : Type 0} (items : V → List ℕ) (room : V → ℕ) (message other : Message) (old mid new : V)
    (wrote : Bool) → false ≡ fits (room old) message → mid ≡ old → wrote ≡ fits (room mid) other
    → OnTrue wrote (items new ≡ items mid ++ spelling other) → OnFalse wrote (new ≡ mid)
    → items new ≡ items old ++ written_in (room old) message other
other_appended items room message other old mid new true lacks is same written kept =
    other_written (fits (room old) message) (fits (room old) other) true (spelling message) (spelling other)
    (items old) (items new) lacks (same ∙ ap (λ v. fits (room v) other) is)
    (written ∙ ap (λ v. items v ++ spelling other) is) kept
other_appended items room message other old mid new false lacks is same written kept =
    other_written (fits (room old) message) (fits (room old) other) false (spelling message) (spelling other)
    (items old) (items new) lacks (same ∙ ap (λ v. fits (room v) other) is) written (ap items (kept ∙ is))

-- ---- exchanges

-- A new directory has answered nothing.
pub begun : (d : DirectoryValue) (limit capacity : ℕ) → d ≡ new_directory limit capacity → Answers [] d
begun d limit capacity is = subst (λ v. Answers [] v) (sym is) (NoRequests limit capacity)

-- The request has this token, and the buffer was empty: so it has the response alone.
pub response_alone : (reads : List ℕ → Type 0) (before after : DirectoryValue) (limit room : ℕ) (m : Message)
    (token bytes old new : List ℕ) → token ≡ m.token → old ≡ [] → new ≡ old ++ bytes
    → IsAnswered reads before limit room m token bytes after → IsAnswered reads before limit room m m.token new after
response_alone reads before after limit room m token bytes old new is_token is_empty is_new is =
    let written : bytes ≡ new = sym (is_new ∙ ap (λ start. start ++ bytes) is_empty) in
    subst (λ t. IsAnswered reads before limit room m t new after) is_token
    (subst (λ response. IsAnswered reads before limit room m token response after) written is)

-- One more request was answered.
pub answered : (reads : List ℕ → Type 0) (earlier : List Exchange) (before after : DirectoryValue) (id : ℕ)
    (limit room : ℕ) (m : Message) (response : List ℕ) → IsAnswered reads before limit room m m.token response after
    → Answers earlier before → Answers (earlier ++ Requested id m limit response ∷ []) after
answered reads earlier before after id limit room m response is all =
    OneAnswered earlier before after id limit room m response all
    (record { moment = is.moment; read = tt; reply = is.reply; replies = is.replies; written = is.written })

-- ---- the directories of applications

-- A request that names no path, which only moves the time.
abbrev elsewhere : Message
elsewhere = record { code = 0; token = []; options = []; payload = [] }

-- The directory after a request.
after_reply : (d after : DirectoryValue) (now limit : ℕ) (m : Message) → ReachedDirectory d
    → (replying d now limit m).1 ≡ after → ReachedDirectory after
after_reply d after now limit m is same = subst ReachedDirectory same (AfterRequest d now limit m is)

-- The directory after a reply is that of the definition, or allocation failed.
reached_by : (d after : DirectoryValue) (now limit : ℕ) (m : Message) (r : Reply) → ReachedDirectory d
    → Replies (allocates d now m) (at_time d now) r after (replying d now limit m) → ReachedDirectory after
unfolding replying
reached_by d after now limit m (reply.Created n) is replies = after_reply d after now limit m is replies.1
reached_by d after now limit m reply.Changed is replies = after_reply d after now limit m is replies.1
reached_by d after now limit m reply.Deleted is replies = after_reply d after now limit m is replies.1
reached_by d after now limit m reply.Content is replies = after_reply d after now limit m is replies.1
reached_by d after now limit m (reply.Refused e) is replies = after_reply d after now limit m is replies.1
reached_by d after now limit m reply.OutOfMemory is replies =
    subst ReachedDirectory (sym replies.1) (AfterRequest d now limit elsewhere is)

-- Requests reach the directory of an application.
pub reached : (exchanges : List Exchange) (d : DirectoryValue) → Answers exchanges d → ReachedDirectory d
reached _ _ (NoRequests limit capacity) = Begun limit capacity
reached _ _ (OneAnswered exchanges before after id limit room m response all is) =
    reached_by before after (time_at is.moment) (results_within limit m.token) m is.reply
    (reached exchanges before all) is.replies
reached _ _ (ResultGiven exchanges d id outcome all) = reached exchanges d all
reached _ _ (ConnectionGone exchanges d id all) = reached exchanges d all
