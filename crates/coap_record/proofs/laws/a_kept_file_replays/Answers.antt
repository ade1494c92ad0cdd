use Rattle.coap_record.proofs.FileLaws.{file_replays}
use Rattle.coap_record.proofs.laws.a_kept_file_replays.Goals as goal

pub returns : goal.returns
returns c start v header file lost text calls turns =
    let outlet = start.args.recorder.now.outlet in
    file_replays v header outlet.outlet.passed.bytes outlet.queue.waiting file lost text calls _ _ turns
