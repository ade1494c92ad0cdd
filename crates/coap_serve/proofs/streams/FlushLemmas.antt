-- A flush, one iteration after the other, as the code makes it and reports it to a monitor.
use Rattle.std.proofs.Common.{◌≡◌, ℕ, suc, ◌≤◌, List, [], length, take, Option, None, Bool, true, false, refl, sym, ap}
use Rattle.std.proofs.Common.{◌∙◌, arith, inl, inr, not}
use Rattle.std.proofs.lemmas.List.{append-nil, take_all}
use Rattle.coap_serve.specs.Prelude.{AddsBytes, WritesPart, FollowsMore, Following, ServerValue, waiting_at, more_at}
use Rattle.coap_serve.specs.Prelude.{flush_turns, flush_calls, calls_of_flush, IsFlushedOnce, IsReportedFlush}
use Rattle.coap_serve.specs.Prelude.{IsCutFlush, Reason, SessionValue, LiesAt, is_there, session_of, session_written}
use Rattle.coap_serve.specs.Prelude.{stop_on, waiting_in}
use Rattle.coap_server_engine.proofs.values.ServerLemmas.{lies_where_taken}
use Rattle.coap_io.proofs.streams.DeviceLemmas.{bytes_none, bytes_then}
use Rattle.coap_server_engine.proofs.scripting.FollowLemmas.{followed_none, followed_then}

-- All queued bytes are a prefix of the queued bytes.
pub whole_part : {queued : List ℕ} (part : List ℕ) → part ≡ queued → part ≡ take (length part) queued
whole_part {queued = queued} part is = rw is (sym (take_all (length queued) queued (omega arith)))

-- After these iterations the server is `now`. The outlet recorded `x` before the flush, and records `y`. `a` and `m`
-- are the records of the monitor.
pub record ReportsFlush (id : ℕ) (v : ServerValue) (turns : ℕ) (now : ServerValue) (x y : Option (List ℕ))
    (a m : Following) : Type 0 where
  pub server : now ≡ (flush_turns turns id v).server
  pub written : AddsBytes x y (flush_turns turns id v).text
  pub reports : FollowsMore a m (calls_of_flush turns id v)

pub report_begins : {id : ℕ} {v : ServerValue} {x : Option (List ℕ)} {a : Following} → ReportsFlush id v 0 v x x a a
unfolding flush_turns calls_of_flush
report_begins {x = x} {a = a} = record { server = refl; written = bytes_none x; reports = followed_none a }

-- The state after an iteration of the code: as above if it wrote something, otherwise the flush is complete.
abbrev pub AfterFlush : ℕ → ServerValue → ℕ → ServerValue → (x y : Option (List ℕ)) (a m : Following)
    → (waited : Bool) → Type 0
AfterFlush id v turns now x y a m true = ReportsFlush id v turns now x y a m
AfterFlush id v turns now x y a m false = IsReportedFlush id v now (AddsBytes x y) (FollowsMore a m)

pub report_more : {id : ℕ} {v : ServerValue} {turns : ℕ} {now : ServerValue} {x y : Option (List ℕ)}
    (z : Option (List ℕ)) {a m : Following} (n : Following) (next : ServerValue) (more : ℕ) (waited : Bool) →
    ReportsFlush id v turns now x y a m
    → turns ≤ suc (more_at id v) → more ≡ suc turns → IsFlushedOnce id now next (AddsBytes y z) waited
    → FollowsMore m n (flush_calls id now waited) → AfterFlush id v more next x z a n waited
unfolding flush_turns calls_of_flush
report_more {id = id} {v = v} {turns = turns} {now = now} {x = x} {y = y} z {a = a} {m = m} n next more true so_far
    within one did reported = rw one (record {
      server = cc (did.0, so_far.server);
      written =
          rw so_far.server at (bytes_then x y z (flush_turns turns id v).text (waiting_at id now) so_far.written did.1);
      reports = followed_then a m n _ _ so_far.reports (rw so_far.server at reported);
    })
report_more {id = id} {turns = turns} {x = x} {y = y} z {a = a} {m = m} n next more false so_far within one did
    reported = record {
      flushed = record {
        turns = turns;
        within = within;
        done = inl (ap (waiting_at id) did.1 ∙ did.0);
        server = did.1 ∙ so_far.server;
        written = rw append-nil at (bytes_then x y z _ [] so_far.written did.2);
      };
      reports = rw append-nil at (followed_then a m n _ [] so_far.reports reported);
    }

pub report_goes_on : {id : ℕ} {v : ServerValue} {turns : ℕ} {now : ServerValue} {x y : Option (List ℕ)}
    {a m : Following} (waited : Bool) → not waited ≡ false → AfterFlush id v turns now x y a m waited
    → ReportsFlush id v turns now x y a m
report_goes_on true is so_far = so_far
report_goes_on false is so_far = absurd cc

-- A write failed in one more iteration.
pub report_cut : {id : ℕ} {v : ServerValue} {turns : ℕ} {now : ServerValue} {x y : Option (List ℕ)}
    (z : Option (List ℕ)) {a m : Following} → ReportsFlush id v turns now x y a m → turns ≤ more_at id v
    → WritesPart y z (waiting_at id now) → IsCutFlush id v (AddsBytes x z) (FollowsMore a m)
report_cut {id = id} {turns = turns} {x = x} {y = y} z so_far within wrote = record {
  turns = turns;
  within = within;
  reports = so_far.reports;
  part = wrote.0;
  missing = wrote.1;
  some = wrote.2;
  all = ap (waiting_at id) (sym so_far.server) ∙ wrote.3;
  written = bytes_then x y z _ wrote.0 so_far.written wrote.4;
}

-- The last iteration wrote nothing.
pub report_stops : {id : ℕ} {v : ServerValue} (turns : ℕ) {now : ServerValue} (x y : Option (List ℕ)) (a m : Following)
    (waited : Bool) → not waited ≡ true → AfterFlush id v turns now x y a m waited
    → IsReportedFlush id v now (AddsBytes x y) (FollowsMore a m)
report_stops turns x y a m true is so_far = absurd cc
report_stops turns x y a m false is so_far = so_far

-- All iterations were made.
pub report_ends : {id : ℕ} {v : ServerValue} (turns : ℕ) {now : ServerValue} (x y : Option (List ℕ)) (a m : Following)
    (waited : Bool) → turns ≡ suc (more_at id v) → AfterFlush id v turns now x y a m waited
    → IsReportedFlush id v now (AddsBytes x y) (FollowsMore a m)
report_ends turns x y a m true all so_far = record {
  flushed = record {
    turns = turns;
    within = omega (arith, all);
    done = inr all;
    server = so_far.server;
    written = so_far.written;
  };
  reports = so_far.reports;
}
report_ends turns x y a m false all so_far = so_far

-- ---- the index of the connection

-- The connection keeps its index.
pub flushed_lies : (id i : ℕ) (v after : ServerValue) (wrote : List ℕ → Type 0) (waited : Bool) → LiesAt id i v.sessions
    → IsFlushedOnce id v after wrote waited → LiesAt id i after.sessions
flushed_lies id i v after wrote true lies did =
    rw did.0 (lies_where_taken id i (λ s. session_written s (length (waiting_at id v))) v.shared v.sessions lies)
flushed_lies id i v after wrote false lies did = rw did.1 lies

none_waits : (o : Option SessionValue) → false ≡ is_there o → waiting_in o ≡ []
none_waits o none = grind arith

pub none_stops : (o : Option SessionValue) → false ≡ is_there o → ◌≡◌ {A = Option Reason} None (stop_on o)
none_stops o none = grind arith

-- There is no connection with this id.
pub none_flushed : (id : ℕ) {v : ServerValue} (x : Option (List ℕ)) (a : Following)
    → false ≡ is_there (session_of id v.sessions) → IsReportedFlush id v v (AddsBytes x x) (FollowsMore a a)
unfolding flush_turns calls_of_flush
none_flushed id {v = v} x a none = record {
  flushed = record {
    turns = 0;
    within = omega arith;
    done = inl (none_waits (session_of id v.sessions) none);
    server = refl;
    written = bytes_none x;
  };
  reports = followed_none a;
}
