-- The room of a buffer for the responses of an application. It lasts, since no call changes the configuration.
use Rattle.std.proofs.Common.{◌≡◌, ◌≤◌, ◌∙◌, ℕ, arith, List, [], ◌∷◌, Some, refl, ap}
use Rattle.std.proofs.Math.Nat.{min-le_left}
use Rattle.coap_server_engine.specs.Prelude.{ConfigValues, HasResponseRoom, Message, ServerValue, ask_result, handed_by}
use Rattle.coap_server_engine.specs.Prelude.{message_limit, served, server_offered, server_taken, IsPartlyServed}
use Rattle.coap_server_engine.specs.Prelude.{AcceptedCall, Exchange, IsTakenFor, IsNotTakenFor}
use Rattle.coap_server_engine.proofs.scripting.ShownLemmas.{config_stays}
use Rattle.coap_server_engine.proofs.world.AtOnceLaws.{has_applications, session_handed}

-- A take that hands over a request is one of a server with applications. So there is room for the response.
pub limit_within : (v : ServerValue) (id : ℕ) (piece : List ℕ) (m : Message) {capacity : ℕ}
    → v.config.applications ≡ v.shared.store.applications → handed_by v id piece ≡ Some m
    → HasResponseRoom v.config capacity → message_limit v id ≤ capacity
unfolding message_limit
limit_within v id piece m {capacity} same handed room =
    let at = session_handed v id piece m handed in
    let most = room (rw same (has_applications at.2)) in
    rw at.1 (omega (arith, min-le_left v.config.limits.max_sent at.0.link.peer_max))

-- A larger buffer has room too.
pub more_room : (c : ConfigValues) {small large : ℕ} → small ≤ large → HasResponseRoom c small → HasResponseRoom c large
more_room c more room some = omega (arith, room some)

-- ---- the configuration

pub offered_config : (v : ServerValue) (id : ℕ) (bytes : List ℕ) → (server_offered v id bytes).config ≡ v.config
offered_config v id bytes = grind arith

asked_config : (v : ServerValue) (id : ℕ) (left response : List ℕ)
    → (ask_result v id left response).server.config ≡ v.config
asked_config v id left response = grind (arith, config_stays v id left, offered_config (server_taken v id left) id)

pub served_config : (v : ServerValue) (id : ℕ) (bytes : List ℕ) (responses : List (List ℕ))
    → (served v id bytes responses).fed.server.config ≡ v.config
unfolding served
served_config v id bytes [] = refl
served_config v id bytes (response ∷ responses) =
    asked_config (served v id bytes responses).fed.server id _ response ∙ served_config v id bytes responses

pub partly_config : {v after : ServerValue} {id : ℕ} {bytes : List ℕ} {reported : List AcceptedCall → Type 0}
    {asks : List Exchange → Type 0} → IsPartlyServed v id bytes after reported asks → after.config ≡ v.config
partly_config {v = v} {id = id} {bytes = bytes} so =
    ap (λ u. u.config) so.refused.1 ∙ config_stays (served v id bytes so.responses).fed.server id _
    ∙ served_config v id bytes so.responses

-- ---- room after a take

room_on : {c after : ConfigValues} {small large : ℕ} → after ≡ c → small ≤ large → HasResponseRoom c small
    → HasResponseRoom after large
room_on {c} is more room = rw is (more_room c more room)

pub room_after_take : {v after : ServerValue} {id count : ℕ} {left response : List ℕ}
    {reported : List AcceptedCall → Type 0} {asks : List Exchange → Type 0} {small large : ℕ}
    → IsTakenFor v id left response count after reported asks → small ≤ large → HasResponseRoom v.config small
    → HasResponseRoom after.config large
room_after_take {v = v} {id = id} {left = left} {response = response} so =
    room_on (ap (λ u. u.config) so.server ∙ asked_config v id left response)

pub room_after_failure : {v after : ServerValue} {id : ℕ} {left : List ℕ} {reported : List AcceptedCall → Type 0}
    {small large : ℕ} → IsNotTakenFor v id left after reported → small ≤ large → HasResponseRoom v.config small
    → HasResponseRoom after.config large
room_after_failure {v = v} {id = id} {left = left} so = room_on (ap (λ u. u.config) so.refused.1 ∙ config_stays v id _)
