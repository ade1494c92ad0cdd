use Rattle.std.proofs.Common.{refl, arith, ◌+◌, rules, map, nat_eq, ◌≡◌}
use Rattle.std.proofs.lemmas.List.{length-map}
use Rattle.coap_server_engine.specs.Prelude.{unmarked, unmarked_entry, insert_entry, new_session, server_value}
use Rattle.coap_server_engine.proofs.values.ServerLemmas.{opens, keys_unmarked, opened_server, opened_value, one_last}
use Rattle.coap_server_engine.proofs.values.ServerLemmas.{opened_lies, inserted_unmarked, all_inserted}
use Rattle.coap_server_engine.proofs.world.ShowLaws.{open_shows}
use Rattle.coap_server_engine.proofs.values.ConcernedLemmas.{covered_opened}
use Rattle.coap_server_engine.proofs.server.Server.open.Goals as goal

pub invariant_of-self-2 : goal.invariant_of-self-2
invariant_of-self-2 c =
    let es = c.self.inside.sessions.entries in
    let id = c.self.inside.ids + 1 in
    let inserted : unmarked c.insert.new.self.entries
    ≡ insert_entry nat_eq (unmarked es) id (new_session c.self.inside.config.limits) =
    rw (c.in-Ok-insert.ensures.entries, inserted_unmarked, c.in-Ok.ensures.value, c.limits.ensures) in
    let none : c.in-Ok.session.marks ≡ map _ _ = rw c.in-Ok.ensures.value in
    record {
      server = opened_server _ _ c.self.invariant.server inserted (omega (arith, length-map es unmarked_entry));
      marked =
          rw c.in-Ok-insert.ensures.entries
          (all_inserted _ es id _ c.self.invariant.marked none);
      covered =
          covered_opened _ id _ _ _ (one_last _ _ c.self.invariant.server inserted) c.self.invariant.covered;
    }

pub returns : goal.returns
returns c =
    let v = server_value c.self.inside in
    let inserted : unmarked c.insert.new.self.entries
    ≡ insert_entry nat_eq (unmarked c.self.inside.sessions.entries) (c.self.inside.ids + 1)
    (new_session c.self.inside.config.limits) =
    rw (c.in-Ok-insert.ensures.entries, inserted_unmarked, c.in-Ok.ensures.value, c.limits.ensures) in
    let none = opens v (omega (arith, length-map c.self.inside.sessions.entries unmarked_entry))
    (λ e. omega (arith, e)) in
    let ok = opened_value _ _ c.self.invariant.server inserted in
    let lies = opened_lies _ _ c.self.invariant.server inserted
    (rw (keys_unmarked c.insert.new.self.entries) c.in-Ok-insert.ensures.unique) in
    rw (← c.self.view_is, ← c.limits.ensures) (search (
      rules,
      none,
      ok,
      lies,
      c.in-Ok.ensures.ranges,
      open_shows v _ _ (omega arith) none refl ok,
    ))
