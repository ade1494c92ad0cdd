-- Defined by this project: the results of the calls on the handle of entries, and of the call that makes a
-- server of them.
use Rattle.std.specs.Prelude.{◌≡◌, ℕ, Bool, true, false, ◌==◌, List, [], Option, Some, None, option_map, ◌⊎◌}
use Rattle.coap_path.specs.Paths.{Path}
use Rattle.coap_path.specs.Applications.{ApplicationsValue}
use Rattle.coap_path.specs.Refusals.{entry_refusal, with_entry}
use Rattle.coap_server_engine.specs.values.Servers.{config_with, new_server}
use Rattle.coap_server_engine.specs.world.Shows.{Shows}
use Rattle.coap_server_polled.specs.declared.polled_server.PolledServer.{PolledServer}
use Rattle.c_api.specs.Numbers.{entry_code}
use Rattle.c_api.specs.PathTexts.{text_path, methods_named}
use Rattle.c_api.specs.Results.{OnHandle, AtPath, Answers}
use Rattle.c_api.specs.Settings.{settings_config, settings_refusal}
use Rattle.c_api.specs.declared.settings.Settings.{Settings}

-- ---- new

abbrev pub HasNone : ℕ → Option ApplicationsValue → ℕ → Type 0
HasNone deadline None r = r ≡ 2
HasNone deadline (Some a) r = (r ≡ 0) × (a ≡ record { deadline = deadline; entries = [] })

abbrev pub CreatedUnless : Bool → ℕ → Option ApplicationsValue → ℕ → Type 0
CreatedUnless true deadline a' r = (r ≡ 85) × (a' ≡ None)
CreatedUnless false deadline a' r = HasNone deadline a' r

-- `new` returns 3 if the handle has entries. Otherwise it fails with 85 if the deadline is 0, or with 2, and the handle
-- stays empty; or it makes a list without entries.
abbrev pub IsCreated : ℕ → Option ApplicationsValue → Option ApplicationsValue → ℕ → Type 0
IsCreated deadline None a' r = CreatedUnless (deadline == 0) deadline a' r
IsCreated deadline (Some a) a' r = (r ≡ 3) × (a' ≡ Some a)

-- ---- add

-- The entry is added at the end. Otherwise the call fails with 2, because an allocation failed, or with the number of
-- the entry's error, and changes nothing.
abbrev pub AddsEntry : Path → (methods attributes : List ℕ) → ApplicationsValue → ApplicationsValue → ℕ → Type 0
AddsEntry path methods attributes a a' r = ((r ≡ 2) × (a' ≡ a))
    ⊎ Answers (Unit {0}) (option_map entry_code (entry_refusal a.entries path methods attributes))
    (a' ≡ with_entry a path methods attributes) a a' r

abbrev pub IsAdded : List ℕ → ℕ → List ℕ → Option ApplicationsValue → Option ApplicationsValue → ℕ → Type 0
IsAdded text bits attributes =
    OnHandle (Unit {0})
    (AtPath (Unit {0}) (text_path text) (λ path a a' r. AddsEntry path (methods_named bits) attributes a a' r))

-- ---- a server of the entries

-- A new server, whose application answers the requests of the entries `a`, shows no event.
abbrev pub IsNewFor : Settings → ApplicationsValue → Option PolledServer → ℕ → Type 0
IsNewFor s a None r = r ≡ 2
IsNewFor s a (Some v) r =
    (r ≡ 0) × ((v.engine ≡ new_server (config_with (settings_config s) (Some a))) × Shows v.engine [])

-- The handle of the entries is empty after the call.
abbrev pub TakesEntries : Settings → (a a' : Option ApplicationsValue) → Option PolledServer → ℕ → Type 0
TakesEntries s None a' v' r = (r ≡ 1) × ((a' ≡ None) × (v' ≡ None))
TakesEntries s (Some a) a' v' r = (a' ≡ None) × IsNewFor s a v' r

abbrev pub MadeForUnless : Option ℕ → Settings → (a a' : Option ApplicationsValue) → Option PolledServer → ℕ → Type 0
MadeForUnless None s a a' v' r = TakesEntries s a a' v' r
MadeForUnless (Some number) s a a' v' r = (r ≡ number) × ((a' ≡ a) × (v' ≡ None))

-- `new_for` returns 3 if the handle has a server, then the number of a value out of range, then 1 if there are no
-- entries. Both handles are as before then. Otherwise it takes the entries: it fails with 2, and the handle stays
-- empty, or it makes the server.
abbrev pub IsMadeFor : Settings → (a a' : Option ApplicationsValue) → Option PolledServer
    → Option PolledServer → ℕ → Type 0
IsMadeFor s a a' None v' r = MadeForUnless (settings_refusal s) s a a' v' r
IsMadeFor s a a' (Some v) v' r = (r ≡ 3) × ((a' ≡ a) × (v' ≡ Some v))
