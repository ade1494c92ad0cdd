use Rattle.std.proofs.Common.{ap, arith, length, ◌≤◌}
use Rattle.coap_conn.proofs.SmallLemmas.{first_csm_bytes_small}
use Rattle.coap_model.proofs.world.AcrossLaws.{kept_history}
use Rattle.coap_model.proofs.world.GoingOn.{kept_after, side_is}
use Rattle.coap_model.proofs.world.LimitLaws.{few_keeps, HoldsFew, all_hold_few, Waits, all_wait, kept_within}
use Rattle.coap_model.proofs.laws.limits_are_kept.Goals as goal

pub returns : goal.returns
returns c = record {
  waiting = λ k events id s ranges there.
      let new = first_csm_bytes_small k.limits.max_message in
      let first : Waits _ = grind arith in
      omega (
        arith,
        (kept_history k Waits first all_wait events id s there).few,
        ap (λ l. l.queue) (side_is k events id s there).same_limits,
      );
  observers = λ k. kept_after k (λ t. length t.observers ≤ k.limits.observers) (few_keeps k.limits k.applications);
  pending = λ k events id s there. omega (
    arith,
    kept_history k HoldsFew (omega arith) all_hold_few events id s there,
    ap (λ l. l.pending) (side_is k events id s there).same_limits,
  );
  kept = kept_within;
}
