-- Properties of notifications.
use Rattle.std.proofs.Common.{◌≡◌, ℕ, ◌<◌, ◌≤◌, ◌^◌, true, List, [], length, Option, Some, None, refl, arith}
use Rattle.coap_store.specs.Prelude.{listing, option_eq, nat_eq, only, content, Path, is_path, Representation}
use Rattle.coap_store.specs.Prelude.{StoreValue, kind_of_path, state_of, Response, answer_of, ReportsState, plain_get}
use Rattle.coap_store.specs.Prelude.{content_of, IsStore, notification_at, notification_of, ResourceKind, Dynamic}
use Rattle.std.proofs.lemmas.Bool.{cond_both}
use Rattle.coap_wire.specs.Codes as code
use Rattle.coap_store.proofs.CatalogueLemmas.{equal_format}
use Rattle.coap_store.proofs.AnswerLaws.{state_short}
use Rattle.coap_store.proofs.StoreLemmas.{stored_small}
use Rattle.coap_store.proofs.StateLemmas.{state_stored}
use Rattle.coap_store.proofs.ServingLaws.{stored_is_served}

-- ---- all notifications

-- A 2.05 has the representation, with the Content-Format of earlier notifications.
record ReportsAsBefore (place : ResourceKind) (now : Option Representation) (before : Option ℕ)
    (r : Response) : Type 0 where
  state : ReportsState place now r
  format : r.format ≡ before

notified_reports : (place : ResourceKind) (state : Option Representation) (format : Option ℕ)
    → (notification_at place state format).code ≡ code.content
    → ReportsAsBefore place state format (notification_at place state format)
unfolding notification_at
notified_reports place None format is = absurd (omega arith)
notified_reports place (Some r) format is = grind (arith, cond_both, equal_format)

pub notification_reports : (s : StoreValue) (now : ℕ) (path : Path) (format : Option ℕ)
    → (notification_of s now path format).code ≡ code.content
    → ReportsState (kind_of_path path) (state_of s now path) (notification_of s now path format)
notification_reports s now path format is = (notified_reports (kind_of_path path) (state_of s now path) format is).state

pub notification_format : (s : StoreValue) (now : ℕ) (path : Path) (format : Option ℕ)
    → (notification_of s now path format).code ≡ code.content → (notification_of s now path format).format ≡ format
notification_format s now path format is = (notified_reports (kind_of_path path) (state_of s now path) format is).format

short_notification_at : (place : ResourceKind) (state : Option Representation) (format : Option ℕ)
    → ((r : Representation) → state ≡ Some r → length r.bytes ≤ 1048576)
    → length (notification_at place state format).payload ≤ 1048576
unfolding notification_at
short_notification_at place None format short = omega arith
short_notification_at place (Some r) format short = grind (arith, cond_both)

pub notification_short : (s : StoreValue) (now : ℕ) (path : Path) (format : Option ℕ) → IsStore s
    → length (listing s.applications s.resources) ≤ 1048576 → now < 2 ^ 64
    → length (notification_of s now path format).payload ≤ 1048576
notification_short s now path format is listed small = grind (arith, stored_small, short_notification_at, state_short)

-- No notification has a path.
pub notification_located : (place : ResourceKind) (state : Option Representation) (format : Option ℕ)
    → (notification_at place state format).location ≡ []
unfolding notification_at
notification_located place None format = refl
notification_located place (Some r) format =
    cond_both (option_eq nat_eq r.format format) (content place r) (only code.not_acceptable) (λ n. n.location ≡ [])
    (λ _. refl) (λ _. refl)

-- ---- a GET has the same response

content_at : (place : ResourceKind) (state : Option Representation) (format : Option ℕ) → place ≡ Dynamic
    → (notification_at place state format).code ≡ code.content
    → (r : Representation) × (state ≡ Some r) × (content_of r ≡ notification_at place state format)
unfolding notification_at
content_at place None format is said = absurd (omega arith)
content_at place (Some r) format is said = grind (arith, cond_both)

pub notification_get : (s : StoreValue) (now : ℕ) (token : List ℕ) (path : Path) (format : Option ℕ)
    → is_path path ≡ true → kind_of_path path ≡ Dynamic → (notification_of s now path format).code ≡ code.content
    → (answer_of s now (plain_get token path)).response ≡ notification_of s now path format
notification_get s now token path format is place said = grind (arith, content_at, stored_is_served, state_stored)

pub ruleset notifications_report_state_steps = (notification_reports, notification_format, notification_get)
