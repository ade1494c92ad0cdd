use Rattle.coap_record.proofs.ReplayLaws.{lines_replay, front_replays, part_replays}
use Rattle.coap_record.proofs.laws.a_recorded_run_replays.Goals as goal

pub returns : goal.returns
returns c = record {
  whole = lines_replay;
  limit = λ v header text cs turns silent is shows none. (
    is.front,
    is.later,
    is.all,
    front_replays v header text cs is.front is.later turns silent is.all is.lines shows none,
  );
  lines = part_replays;
}
