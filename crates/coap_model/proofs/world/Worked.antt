-- Worked examples of definitions that no program computes: views, sizes, the order of pending entries, Pongs with
-- Custody, and fates of requests.
use Rattle.std.proofs.Common.{◌≡◌, ℕ, Bool, true, false, List, [], ◌∷◌, ◌++◌, map, Some, None, refl, sym, codes, inl}
use Rattle.std.proofs.Common.{ap, arith, inr, length, true≢false}
use Rattle.std.proofs.lemmas.List.{length-append}
use Rattle.coap_model.specs.Prelude.{digits, kind_of, is_recognised, checked_given, recognised_in, first_critical_in}
use Rattle.coap_model.specs.Prelude.{announced, due_index, first_due, without_due, react, live_reaction, is_path}
use Rattle.coap_model.specs.Prelude.{found_in, put_at, removed_at, encoded_byte, path_bytes, entry_bytes, listing}
use Rattle.coap_model.specs.Prelude.{kind_of_path, key_for, state_at, has_option, value_of, number_of, match_holds}
use Rattle.coap_model.specs.Prelude.{is_seconds, get_answer, store_answer, method_answer, resource_answer, answer_at}
use Rattle.coap_model.specs.Prelude.{answer_of, immediate_answer, prompt_answer, application_deadline, notification_at}
use Rattle.coap_model.specs.Prelude.{put_refusal, is_due, without_token, first_becomes, side_after, change_after}
use Rattle.coap_model.specs.Prelude.{side_faulted, side_written, side_ended, side_released, settled_once}
use Rattle.coap_model.specs.Prelude.{settled_within, settled, side_announced, side_of, acted, step, after_steps}
use Rattle.coap_model.specs.Prelude.{taken_on, size_on, sizes_on, steps_by, later_steps, steps_of, world_after, takes}
use Rattle.coap_model.specs.Prelude.{concerns, view_step, view_of, is_answered, response_refusal, without_request}
use Rattle.coap_model.specs.Prelude.{side_responded, with_fate, requests_after, requests_responded, requests_once}
use Rattle.coap_model.specs.Prelude.{requests_within, requests_settled, requests_acted, requests_then, requests_by}
use Rattle.coap_model.specs.Prelude.{requests_on, ConfigValues, Message, new_world, Answer, Pong, Engine, Application}
use Rattle.coap_model.specs.Prelude.{FollowsAnswers, HaveDistinctAnswers, asks_pong, pong_with, responds, CorrespondTo}
use Rattle.coap_model.specs.Prelude.{AcceptedCall, Opened, Took, Wrote, Ticked, Ended, Responded, Dropped, Announced}
use Rattle.coap_model.specs.Prelude.{Fate, Unanswered, Answered, late_message, refusal_of}
use Rattle.coap_store.specs.Requests.{values_of}
use Rattle.coap_wire.specs.StreamPrefix.{prefix_kind}
use Rattle.coap_wire.specs.Frames.{frames_within, sized_frames}
use Rattle.coap_wire.specs.Reading.{body_at, body_within, declared_of, four_bytes_at, head_at, length_at, message_of}
use Rattle.coap_wire.specs.Reading.{one_byte_at, option_at, option_head_at, option_number_at, two_bytes_at}
use Rattle.coap_wire.specs.Spelling.{spelling}
use Rattle.coap_wire.specs.Stream.{sized_split, split}
use Rattle.coap_wire.specs.Uint.{bytes_of_uint}
use Rattle.coap_wire.specs.Codes as code
use Rattle.coap_wire.specs.OptionNumbers as numbers
use Rattle.coap_conn.specs.SignalOptions as option
use Rattle.coap_frame.specs.Framing.{framing}
use Rattle.coap_model.specs.world.World as step

-- Unfolding this unfolds all definitions that the examples compute with.
computed : Unit {0}
unfolding split sized_split sized_frames frames_within framing prefix_kind declared_of length_at one_byte_at
    two_bytes_at four_bytes_at message_of head_at option_number_at option_head_at option_at body_at body_within spelling
    bytes_of_uint prompt_answer application_deadline immediate_answer answer_of answer_at resource_answer method_answer
    get_answer store_answer kind_of is_recognised checked_given recognised_in first_critical_in values_of has_option
    value_of number_of match_holds is_seconds is_path kind_of_path key_for state_at found_in put_at removed_at listing
    entry_bytes path_bytes encoded_byte digits notification_at put_refusal announced react live_reaction due_index
    first_due without_due is_due without_token first_becomes side_after change_after side_faulted side_written
    side_ended side_released side_announced settled_once settled_within settled side_of acted step after_steps taken_on
    size_on sizes_on steps_by later_steps steps_of world_after takes concerns view_step view_of with_fate
    requests_after requests_responded requests_once requests_within requests_settled requests_acted requests_then
    requests_by requests_on response_refusal without_request is_answered side_responded CorrespondTo HaveDistinctAnswers
computed = tt

-- A server with at most one dynamic resource, whose application answers POST below `/rd`. `most` limits
-- pending entries.
abbrev config : (most : ℕ) → ConfigValues
config most = record {
  limits = record {
    max_message = 65536;
    max_sent = 65536;
    queue = 131072;
    pending = most;
    observers = 16;
    outstanding = 16;
  };
  connections = 16;
  dynamic_max = 1;
  rep_max = 65000;
  turns = 1000;
  starts = record { moment = 0; versions = 0; ids = 0 };
  applications = Some (record {
    deadline = 60;
    entries = record { prefix = codes "rd" ∷ []; methods = code.post ∷ []; attributes = [] } ∷ [];
  });
}

-- A CSM without options.
abbrev csm : List ℕ
csm = 0x00 ∷ 0xe1 ∷ []

-- ---- the view that a connection has of the others

-- Two connections. The second one stores x at `/a`, fails to store at `/time`, gets `/a`, deletes it, and is removed.
both : List AcceptedCall
both =
    Opened 1 ∷ Wrote 1 8 ∷ Opened 2 ∷ Wrote 2 8 ∷ Took 2 csm ∷ Took 1 csm
    ∷ Took 2 (0x40 ∷ 0x03 ∷ 0xb1 ∷ 0x61 ∷ 0xff ∷ 0x78 ∷ [])
    ∷ Took 2 (0x70 ∷ 0x03 ∷ 0xb4 ∷ (codes "time" ++ 0xff ∷ 0x78 ∷ []))
    ∷ Took 2 (0x20 ∷ 0x01 ∷ 0xb1 ∷ 0x61 ∷ []) ∷ Ticked 5
    ∷ Took 2 (0x20 ∷ 0x04 ∷ 0xb1 ∷ 0x61 ∷ []) ∷ Dropped 2 ∷ []

-- In the view of the first one, x is stored at `/a` and removed. The view does not say who did it.
view_of_first : view_of (config 16).limits 1 (new_world (config 16)) (steps_of 65536 both)
    ≡ step.Opened 1 ∷ step.Written 1 8
    ∷ step.Handled 1 (record { code = code.csm; token = []; options = []; payload = [] })
    ∷ step.Stored (codes "a" ∷ []) None (codes "x") ∷ step.Ticked 5 ∷ step.Removed (codes "a" ∷ []) ∷ []
unfolding computed both
view_of_first = refl

-- ---- sizes

-- The size of each byte is the one that was current when it came.
sizes_of_bytes : map (sizes_on 1152 1 (Took 1 (0xe1 ∷ 0x03 ∷ []) ∷ Announced 1 2000 ∷ Took 1 (0x6f ∷ []) ∷ []))
    (0 ∷ 1 ∷ 2 ∷ 3 ∷ []) ≡ 1152 ∷ 1152 ∷ 2000 ∷ 2000 ∷ []
unfolding computed
sizes_of_bytes = refl

-- Of two announced sizes the larger one counts, and one of another connection does not.
size_now : size_on 1152 1 (Announced 1 4000 ∷ Announced 1 2000 ∷ Announced 2 9000 ∷ []) ≡ 4000
unfolding computed
size_now = refl

-- ---- the order of pending entries

abbrev late_get : Message
late_get = record {
  code = code.get;
  token = 5 ∷ [];
  options = record { number = numbers.uri_path; value = codes "async" } ∷ [];
  payload = [];
}

abbrev custody_ping : Message
custody_ping = record {
  code = code.ping;
  token = 6 ∷ [];
  options = record { number = option.custody; value = [] } ∷ [];
  payload = [];
}

-- Pending entries are in the order of the messages that asked for them, and each has its own message.
in_order : CorrespondTo None (late_get ∷ custody_ping ∷ []) (Answer Engine (5 ∷ []) 3 ∷ Pong (6 ∷ []) ∷ [])
unfolding computed
in_order = inl (refl, inl (refl, tt))

not_turned : CorrespondTo None (custody_ping ∷ late_get ∷ []) (Answer Engine (5 ∷ []) 3 ∷ Pong (6 ∷ []) ∷ []) → ⊥
unfolding computed
not_turned (inl (asks, rest)) = true≢false (sym asks)
not_turned (inr (inl (asks, rest))) = rest
not_turned (inr (inr rest)) = rest

not_twice : CorrespondTo None (late_get ∷ []) (Answer Engine (5 ∷ []) 3 ∷ Answer Engine (5 ∷ []) 3 ∷ []) → ⊥
unfolding computed
not_twice (inl (asks, rest)) = rest
not_twice (inr rest) = rest

-- ---- Pongs with Custody

abbrev custody_pong : Message
custody_pong = pong_with true (6 ∷ [])

-- A GET between two Pings with one token. The second Pong follows the response to the GET.
second_follows : FollowsAnswers (custody_ping ∷ late_get ∷ custody_ping ∷ []) custody_pong
    (custody_pong ∷ late_message Engine (5 ∷ []) ∷ [])
unfolding computed
second_follows = record {
  earlier = custody_ping ∷ late_get ∷ [];
  ping = custody_ping;
  later = [];
  there = refl;
  asks = refl;
  own = inl (refl, tt);
  answered = (
    record {
      before = custody_pong ∷ [];
      response = late_message Engine (5 ∷ []);
      rest = [];
      there = refl;
      responds_to = refl;
    },
    tt,
  );
}

-- A Pong is no response to the GET.
no_response : (before : List Message) (response : Message) (rest : List Message)
    → custody_pong ∷ [] ≡ before ++ response ∷ rest → responds (5 ∷ []) response ≡ true → ⊥
no_response [] response rest there responds_to =
    let same : response ≡ custody_pong = cc in true≢false (sym (rw same at responds_to))
no_response (b ∷ before) response rest there responds_to =
    omega (arith, ap length there, length-append before (response ∷ rest))

-- Without that response, the second Pong does not follow, since the first Ping belongs to the first Pong.
second_waits : FollowsAnswers (custody_ping ∷ late_get ∷ custody_ping ∷ []) custody_pong (custody_pong ∷ []) → ⊥
unfolding computed
second_waits is = by is.earlier is.ping is.later is.there is.asks is.own is.answered
  where
    by : (earlier : List Message) (ping : Message) (later : List Message)
        → custody_ping ∷ late_get ∷ custody_ping ∷ [] ≡ earlier ++ ping ∷ later → asks_pong ping (6 ∷ []) ≡ true
        → CorrespondTo None earlier (Pong (6 ∷ []) ∷ []) → HaveDistinctAnswers earlier (custody_pong ∷ []) → ⊥
    by [] ping later there asks own answered = own
    by (a ∷ []) ping later there asks own answered =
        let same : ping ≡ late_get = cc in true≢false (sym (rw same at asks))
    by (a ∷ b ∷ earlier) ping later there asks own answered =
        let first : a ≡ custody_ping = cc in
        let second : b ≡ late_get = cc in
        let place = (rw (first, second) at answered).0 in
        no_response place.before place.response place.rest place.there place.responds_to

-- ---- the fates of requests for the application

abbrev post : ℕ → Message
post token = record {
  code = code.post;
  token = token ∷ [];
  options = record { number = numbers.uri_path; value = codes "rd" } ∷ [];
  payload = [];
}

abbrev posted : ℕ → AcceptedCall
posted token = Took 1 (0x31 ∷ 0x02 ∷ token ∷ 0xb2 ∷ codes "rd")

-- The response 2.01 of the application, and the 5.04 of the server.
abbrev created : ℕ → Message
created token = record { code = code.created; token = token ∷ []; options = []; payload = [] }

abbrev expired : ℕ → Message
expired token = late_message Application (token ∷ [])

-- The requests of connection 1 after these calls: whether each is the only one with its token, whether the application
-- got it, and its fate.
abbrev fates : ℕ → List AcceptedCall → List (ℕ × Bool × Bool × Fate)
fates most calls =
    map (λ r. (r.deadline, r.alone, r.handed, r.fate))
    (requests_on (config most) 1 (Opened 1 ∷ Wrote 1 8 ∷ Took 1 csm ∷ calls))

-- The application answers the second of two requests. The first is answered by 5.04 at its deadline.
one_expires : fates 16 (posted 5 ∷ posted 6 ∷ Responded 1 (created 6) ∷ Ticked 60 ∷ [])
    ≡ (60, true, true, Answered Engine (expired 5) (expired 5) 3 2)
    ∷ (60, true, true, Answered Application (created 6) (created 6) 3 1)
    ∷ []
unfolding computed
one_expires = refl

-- If the list is full, a request is not handed to the application, and is answered by 5.03 at once.
full_list : fates 1 (posted 5 ∷ posted 6 ∷ [])
    ≡ (60, true, true, Unanswered)
    ∷ (60, true, false, Answered Engine (refusal_of (post 6)) (refusal_of (post 6)) 3 1) ∷ []
unfolding computed
full_list = refl

-- The end of input gives up the request.
given_up : fates 16 (posted 5 ∷ Ended 1 ∷ Ticked 60 ∷ []) ≡ (60, true, true, Unanswered) ∷ []
unfolding computed
given_up = refl

-- Of two requests with one token the first is answered first.
token_twice : fates 16 (posted 5 ∷ posted 5 ∷ Responded 1 (created 5) ∷ Ticked 60 ∷ [])
    ≡ (60, true, true, Answered Application (created 5) (created 5) 3 1)
    ∷ (60, false, true, Answered Engine (expired 5) (expired 5) 3 2)
    ∷ []
unfolding computed
token_twice = refl
