use Rattle.std.proofs.Common.{arith, refl}
use Rattle.coap_io.proofs.streams.WriteLemmas.{rest_of}
use Rattle.coap_server_engine.proofs.values.ResponseLemmas.{on_err}
use Rattle.coap_server_engine.proofs.values.RoomLemmas.{room_after_failure, room_after_take}
use Rattle.coap_server_engine.proofs.values.ServerLemmas.{is_there_at}
use Rattle.coap_server_engine.proofs.values.ServingLemmas.{serves_nothing, serves_nobody, serves_all, serves_partly}
use Rattle.coap_server_engine.proofs.values.ServingLemmas.{serves_more, serves_stopped}
use Rattle.coap_server_engine.proofs.values.WorkLemmas.{keeps_all_work, none_reported, one_reported}
use Rattle.coap_server_engine.proofs.server.Server.take_all_for.Goals as goal

-- No connection has this id.
pub returns-in_default-clause-served : goal.returns-in_default-clause-served
returns-in_default-clause-served g c =
    rw c.in_default.ensures.same
    (serves_nobody _ c.args.id _ (g.M.Monitor.follows c.args.monitor.now)
    _ c.in_default.ensures.none)

pub loop-taken-init : goal.loop-taken-init
loop-taken-init g c =
    let lies = c.in-Some.ensures.at in
    rw c.in-Some.ensures.same (record {
      serves =
          serves_nothing _ c.args.id _ (g.M.Monitor.follows c.args.monitor.now)
          _
          (is_there_at c.args.id _ c.args.self.now.sessions lies);
      lies = lies;
      reported =
          none_reported _ c.insert.new.self.words _ c.args.self.now refl c.insert.ensures.set;
      capacity = omega arith;
      room = c.requires;
    })

-- Allocation failed in a take.
pub returns-in_err-count-clause-partly : goal.returns-in_err-count-clause-partly
returns-in_err-count-clause-partly g c =
    let e = rw (rest_of c.loop-taken.taken c.args.bytes.now) at c.in_err-count.ensures in
    on_err c.from_residual.result _ (rw e.silent (serves_partly c.loop-taken.invariant.serves c.loop-taken-test.true
    (g.M.Monitor.follows c.take_for.new.monitor) _ e.err))

pub returns-in_err-count-clause-room : goal.returns-in_err-count-clause-room
returns-in_err-count-clause-room g c =
    room_after_failure c.in_err-count.ensures.err c.take_for.ensures.capacity c.loop-taken.invariant.room

-- A take accepted no byte.
pub returns-then-count-eq0-clause-served : goal.returns-then-count-eq0-clause-served
returns-then-count-eq0-clause-served g c =
    let e = rw (rest_of _ c.args.bytes.now) at c.in_ok-count.ensures in
    serves_stopped c.loop-taken.invariant.serves c.loop-taken-test.true _
    (g.A.Application.follows c.take_for.new.application) e.count e.ok c.if-count-eq0.true

pub returns-then-count-eq0-clause-room : goal.returns-then-count-eq0-clause-room
returns-then-count-eq0-clause-room g c =
    room_after_take c.in_ok-count.ensures.ok c.in_ok-count.ensures.capacity c.loop-taken.invariant.room

pub loop-taken-preserved : goal.loop-taken-preserved
loop-taken-preserved g c =
    let so_far = c.loop-taken.invariant in
    let e = rw (rest_of c.loop-taken.taken c.args.bytes.now) at c.in_ok-count.ensures in
    record {
      serves =
          serves_more so_far.serves c.loop-taken-test.true (g.M.Monitor.follows c.take_for.new.monitor)
          (g.A.Application.follows c.take_for.new.application) e.count e.ok e.within c.if-count-eq0.false;
      lies = e.lies;
      reported = one_reported so_far.lies e.affected so_far.reported;
      capacity = omega (arith, so_far.capacity, e.capacity);
      room = room_after_take e.ok e.capacity so_far.room;
    }

-- No byte is left.
pub returns-clause-served : goal.returns-clause-served
returns-clause-served g c = serves_all c.loop-taken.invariant.serves (omega (arith, c.loop-taken-test.false))

pub returns-in_default-clause-affected : goal.returns-in_default-clause-affected
returns-in_default-clause-affected g c =
    rw c.in_default.ensures.same (keeps_all_work c.empty-affected.result.words c.args.self.now)

pub returns-then-count-eq0-clause-affected : goal.returns-then-count-eq0-clause-affected
returns-then-count-eq0-clause-affected g c =
    (one_reported c.loop-taken.invariant.lies c.in_ok-count.ensures.affected c.loop-taken.invariant.reported).keeps

pub returns-clause-affected : goal.returns-clause-affected
returns-clause-affected g c = c.loop-taken.invariant.reported.keeps
