-- Defined by this project: the request of a `take` that stores or deletes a resource. The stores before and after
-- differ at its path.
use Rattle.std.specs.Prelude.{◌≡◌, ◌≢◌, ◌∷◌, ◌++◌, [], ℕ, List, Option, Some, None, option_and_then, if◌then◌else◌}
use Rattle.coap_wire.specs.Message.{Message}
use Rattle.coap_path.specs.Paths.{Path}
use Rattle.coap_store.specs.Store.{StoreValue, found_in}
use Rattle.coap_store.specs.State.{key_for}
use Rattle.coap_store.specs.Requests.{path_of}
use Rattle.coap_store.specs.Changes.{changes}
use Rattle.coap_model.specs.Configs.{ConfigValues}
use Rattle.coap_model.specs.world.Events.{AcceptedCall, world_after}
use Rattle.coap_server_session.specs.values.Sessions.{SessionValue, taking}
use Rattle.coap_server_session.specs.values.HandedRequests.{completed}
use Rattle.coap_server_engine.specs.values.Servers.{ServerValue, session_of}
use Rattle.coap_server_engine.specs.values.HandedRequests.{frame_message}

-- The frame that a `take` of `piece` completes on a connection, if its message stores or deletes a resource.
abbrev pub changing_on : ServerValue → List ℕ → Option SessionValue → Option (List ℕ)
changing_on v piece None = None
changing_on v piece (Some s) = if changes (taking v.shared s piece).change then completed s piece else None

-- The same for the connection with this id.
unfoldable pub changing_frame : ServerValue → ℕ → List ℕ → Option (List ℕ)
changing_frame v id piece = changing_on v piece (session_of id v.sessions)

-- The path of a request, if a resource can have it.
abbrev pub request_key : Message → Option Path
request_key m = key_for (path_of m)

-- The path of the request that a frame encodes, if a resource can have it.
abbrev pub frame_key : List ℕ → Option Path
frame_key frame = option_and_then request_key (frame_message frame)

-- The representations that two stores have at this path differ. At every other path they are the same.
pub record DifferAt (before after : StoreValue) (path : Path) : Type 0 where
  pub here : found_in after.resources path ≢ found_in before.resources path
  pub elsewhere : (other : Path) → other ≢ path → found_in after.resources other ≡ found_in before.resources other

-- Two stores differ at exactly this path, or are the same if there is none.
abbrev pub DifferBy : StoreValue → StoreValue → Option Path → Type 0
DifferBy before after None = after ≡ before
DifferBy before after (Some path) = DifferAt before after path

-- The stores of the worlds before and after an event differ at exactly this path, or are the same if there is none.
abbrev pub ChangesBy : ConfigValues → List AcceptedCall → AcceptedCall → Option Path → Type 0
ChangesBy c earlier e path = DifferBy (world_after c earlier).store (world_after c (earlier ++ e ∷ [])).store path
