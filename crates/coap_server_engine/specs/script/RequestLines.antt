-- Defined by this project: the lines of the requests that the takes of an `in` hand to the application.
use Rattle.std.specs.Prelude.{◌≡◌, ℕ, zero, suc, ◌+◌, true, List, [], ◌∷◌, ◌++◌, length, take, drop, Option, Some, None}
use Rattle.std.specs.Prelude.{is_some, ◌⊎◌, if◌then◌else◌}
use Rattle.coap_script.specs.script.Lines.{request_line}
use Rattle.coap_model.specs.declared.answers.TakeFault.TheVariants as taking
use Rattle.coap_model.specs.world.Events.{AcceptedCall, Took}
use Rattle.coap_server_engine.specs.values.HandedRequests.{handed_frame}
use Rattle.coap_server_engine.specs.values.InResults.{InResult, IsPartialIn, IsPartlyTaken, ShowsMore, fed_turns}
use Rattle.coap_server_engine.specs.values.InResults.{goes_on, took_turns, where_there}
use Rattle.coap_server_engine.specs.values.ServerAnswers.{IsNotTaken}
use Rattle.coap_server_engine.specs.values.Servers.{ServerValue, count_taken, server_taken, session_of}

-- ---- the lines

-- The line of a request with this encoding, if there is one.
abbrev pub request_text : ℕ → Option (List ℕ) → List ℕ
request_text id None = []
request_text id (Some frame) = request_line id frame

-- The line of the request that one more take hands over, if a take is to be made and hands over one.
abbrev pub request_once : ℕ → List ℕ → InResult → List ℕ
request_once id bytes f =
    if goes_on bytes f then request_text id (handed_frame f.server id (drop f.count bytes)) else []

-- The lines of the requests that the takes of `fed_turns` hand over, in the order of the takes.
unfoldable pub request_turns : ℕ → ServerValue → ℕ → List ℕ → List ℕ
request_turns zero v id bytes = []
request_turns (suc turns) v id bytes =
    request_turns turns v id bytes ++ request_once id bytes (fed_turns turns v id bytes)

-- The lines of the requests that the takes of `in_result` hand over.
abbrev pub request_lines : ServerValue → ℕ → List ℕ → List ℕ
request_lines v id bytes = request_turns (length bytes) v id bytes

-- ---- failed allocations

-- Holds if allocation failed in a take of `left`. `after` is the server then.
pub record IsTakeRefused (v : ServerValue) (id : ℕ) (left : List ℕ) (after : ServerValue) : Type 0 where
  pub count : ℕ
  pub refused : IsNotTaken v id left (taking.Memory count) after
  pub shows : ShowsMore v after (Took id (take count left) ∷ [])

-- Holds if allocation failed for the line of the request that a take of `left` handed over.
pub record IsLineRefused (v : ServerValue) (id : ℕ) (left : List ℕ) (after : ServerValue) : Type 0 where
  pub handed : is_some (handed_frame v id left) ≡ true
  pub server : after ≡ server_taken v id left
  pub shows : ShowsMore v after
      (where_there (session_of id v.sessions) (λ s. Took id (take (count_taken v id left) left)))

-- Holds if allocation failed for the line of a request, after the take that handed it over. `after` is the server then.
pub record IsUnlisted (v : ServerValue) (id : ℕ) (bytes : List ℕ) (after : ServerValue) : Type 0 where
  pub turns : ℕ
  pub going : goes_on bytes (fed_turns turns v id bytes) ≡ true
  pub handed :
      is_some (handed_frame (fed_turns turns v id bytes).server id (drop (fed_turns turns v id bytes).count bytes))
      ≡ true
  pub server : after ≡ (fed_turns (turns + 1) v id bytes).server

-- States the server after allocation failed for an `in`: in a take, or for the line of a request.
abbrev pub IsUnfinishedIn : ServerValue → ℕ → List ℕ → ServerValue → Type 0
IsUnfinishedIn v id bytes after = IsPartialIn v id bytes after ⊎ IsUnlisted v id bytes after

-- Holds if `more` are the events of the takes before the line of a request failed.
pub record IsUnlistedAfter (v : ServerValue) (id : ℕ) (bytes : List ℕ) (after : ServerValue)
    (more : List AcceptedCall) : Type 0 where
  pub unlisted : IsUnlisted v id bytes after
  pub made : more ≡ took_turns (unlisted.turns + 1) v id bytes

-- States the events of an `in` for which allocation failed.
abbrev pub IsUnfinishedAfter : ServerValue → ℕ → List ℕ → ServerValue → List AcceptedCall → Type 0
IsUnfinishedAfter v id bytes after more = IsPartlyTaken v id bytes after more ⊎ IsUnlistedAfter v id bytes after more
