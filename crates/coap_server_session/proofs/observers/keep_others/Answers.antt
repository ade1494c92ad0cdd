use Rattle.std.proofs.Common.{◌≡◌, ◌≤◌, ℕ, Bool, List, length, rules, map, ap, arith, ◌∙◌}
use Rattle.coap_server_session.specs.Prelude.{filter, not, same_bytes, observer_value}
use Rattle.std.proofs.lemmas.Bool.{ltb-false}
use Rattle.std.proofs.lemmas.Fn.{filter_same}
use Rattle.coap_server_session.specs.declared.observer.Observer.{Observer}
use Rattle.coap_server_session.proofs.values.EntryLemmas.{other_values}
use Rattle.coap_server_session.specs.Prelude.{IsTagged}
use Rattle.coap_server_session.proofs.values.TagLemmas.{all_kept_stay, others_keep_marks}
use Rattle.coap_model.proofs.world.EntryLemmas.{all_filter}
use Rattle.coap_server_session.proofs.observers.keep_others.Goals as goal

abbrev keeps : List ℕ → Observer → Bool
keeps token o = not (same_bytes o.token.items token)

kept : (c : goal.After-len) → c.retain.new.self.items ≡ filter (keeps c.args.token.now) c.args.observers.now.items
kept c = filter_same _ (keeps c.args.token.now) _ (λ x b q k. search rules) _ _ c.retain.ensures.filtered

pub returns-clause-others : goal.returns-clause-others
returns-clause-others c = ap (map observer_value) (kept c) ∙ other_values c.args.token.now c.args.observers.now.items

pub returns-clause-same : goal.returns-clause-same
returns-clause-same c = λ no_less.
    let many : c.len-before.result ≤ c.len.result = ltb-false c.len.result c.len-before.result no_less in
    kept c ∙ all_kept_stay (keeps c.args.token.now) c.args.observers.now.items
    (omega (arith, many, c.len-before.ensures, c.len.ensures, ap length (kept c)))

pub returns-clause-marks : goal.returns-clause-marks
returns-clause-marks c =
    λ mark same. rw (kept c) (others_keep_marks (keeps c.args.token.now) mark c.args.observers.now.items same)

pub returns-clause-tagged : goal.returns-clause-tagged
returns-clause-tagged c =
    λ all. rw (kept c) (all_filter IsTagged (keeps c.args.token.now) c.args.observers.now.items all)
