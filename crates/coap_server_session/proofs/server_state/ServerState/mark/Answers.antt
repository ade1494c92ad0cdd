use Rattle.std.proofs.Common.{◌≡◌, ℕ, true, Option, refl, sym, arith, option_map, ◌==◌, if◌then◌else◌}
use Rattle.coap_store.proofs.AnswerLaws.{place_dynamic}
use Rattle.coap_store.proofs.StateLemmas.{state_stored}
use Rattle.coap_server_session.specs.Prelude.{present_mark, ServerState, Path, found_in, is_path, is_dynamic}
use Rattle.coap_server_session.specs.Prelude.{kind_of_path}
use Rattle.coap_server_session.proofs.server_state.ServerState.mark.Goals as goal

-- The mark of a created resource is its version.
mark_is : (shared : ServerState) (path : Path) {version : Option ℕ} → is_path path ≡ true
    → is_dynamic (kind_of_path path) ≡ true → version
    ≡ option_map (λ r. r.version) (found_in shared.store.resources path)
    → present_mark shared path ≡ option_map (λ v. if v == 0 then shared.now else v) version
mark_is shared path is dynamic found =
    rw (state_stored shared.store shared.now path is (place_dynamic _ dynamic), found) (grind arith)

pub returns-then-version-eq0 : goal.returns-then-version-eq0
returns-then-version-eq0 c =
    rw (mark_is c.args.self.now c.args.path.now c.is_kept.ensures c.requires c.in-Some.ensures, c.if-version-eq0.true)
    refl

pub returns-else-version-eq0 : goal.returns-else-version-eq0
returns-else-version-eq0 c =
    rw (mark_is c.args.self.now c.args.path.now c.is_kept.ensures c.requires c.in-Some.ensures) (grind arith)

pub returns-in-None : goal.returns-in-None
returns-in-None c = sym (mark_is c.args.self.now c.args.path.now c.is_kept.ensures c.requires c.in-None.ensures)
