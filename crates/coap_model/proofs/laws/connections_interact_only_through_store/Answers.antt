use Rattle.std.proofs.Common.{List, ap, sym, ◌∙◌}
use Rattle.coap_model.specs.Prelude.{AcceptedCall, new_world, after_steps, steps_of, world_after}
use Rattle.coap_model.proofs.world.ViewLaws.{share_of, view_concerns, view_shares}
use Rattle.coap_model.proofs.world.ViewEventLaws.{events_concern}
use Rattle.coap_model.proofs.laws.connections_interact_only_through_store.Goals as goal

pub returns : goal.returns
unfolding world_after
returns c = record {
  concern = view_concerns;
  side = λ k id ss. ap (λ x. x.side) (view_shares k id ss);
  store = λ k id ss. ap (λ x. x.store) (view_shares k id ss);
  now = λ k id ss. ap (λ x. x.now) (view_shares k id ss);
  events_side = λ k id events. ap (λ x. x.side) (view_shares k id (steps_of k.limits.max_message events));
  events_store = λ k id events. ap (λ x. x.store) (view_shares k id (steps_of k.limits.max_message events));
  events_now = λ k id events. ap (λ x. x.now) (view_shares k id (steps_of k.limits.max_message events));
  view_side = λ k id events all. ap (λ x. x.side) (events_concern k id events all).alike;
  view_store = λ k id events all. ap (λ x. x.store) (events_concern k id events all).alike;
  view_now = λ k id events all. ap (λ x. x.now) (events_concern k id events all).alike;
  view_accepted = λ k id events all. (events_concern k id events all).accepted;
  alike = λ k id events others same.
      let shares = λ (es : List AcceptedCall). view_shares k id (steps_of k.limits.max_message es) in
      ap (λ x. x.side) (shares events ∙ ap (λ ss. share_of id (after_steps k.limits (new_world k) ss)) same
      ∙ sym (shares others));
}
