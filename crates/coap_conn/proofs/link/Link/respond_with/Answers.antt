use Rattle.std.proofs.Common.{◌≡◌, ◌≤◌, length, ap, ◌∙◌, sym, ◌++◌, true, None, remove, rules, tests}
use Rattle.coap_conn.specs.Prelude.{spelling, is_plain_response, room_refusal, LinkValue, limit_in}
use Rattle.coap_conn.proofs.PendingLemmas.{pending_without}
use Rattle.coap_conn.proofs.ApplicationLemmas.{position_in, refused_absent, refused_kind, room_decides, whole_room}
use Rattle.coap_conn.proofs.ApplicationLemmas.{respond_ok, whole_link}
use Rattle.coap_conn.proofs.link.Link.respond_with.Goals as goal

-- ---- no request has the token

pub returns-in_default-clause-answer : goal.returns-in_default-clause-answer
returns-in_default-clause-answer c =
    refused_absent c.args.self.now c.args.message.now
    (position_in c.args.self.now _ _ _ _ _ (ap (λ v. v.pending) c.self.view_is)
    c.deref.ensures.value c.token.ensures c.in_default.ensures.first)

-- ---- a request has the token

pub returns-then-not-is_plain_response-clause-answer : goal.returns-then-not-is_plain_response-clause-answer
returns-then-not-is_plain_response-clause-answer c =
    refused_kind c.args.self.now c.args.message.now c.in-Some.index
    (position_in c.args.self.now _ _ _ _ _ (ap (λ v. v.pending) c.self.view_is)
    c.deref.ensures.value c.token.ensures c.in-Some.ensures.first) (search (rules, tests))

pub returns-then-frame-limit-clause-answer : goal.returns-then-frame-limit-clause-answer
returns-then-frame-limit-clause-answer c =
    let found = position_in c.args.self.now _ _ _ _ _ (ap (λ v. v.pending) c.self.view_is)
    c.deref.ensures.value c.token.ensures c.in-Some.ensures.first in
    let plain : is_plain_response c.args.message.now ≡ true = search (rules, tests) in
    rw (room_decides c.args.self.now c.args.message.now c.in-Some.index found plain) c.respond_bare.ensures.room

pub returns-then-frame-limit-clause-after : goal.returns-then-frame-limit-clause-after
returns-then-frame-limit-clause-after c =
    respond_ok c.respond_bare.result c.args.self.now c.respond_bare.new.self c.args.message.now c.in-Some.index
    (search (rules, tests))
    (position_in c.args.self.now _ _ _ _ _ (ap (λ v. v.pending) c.self.view_is)
    c.deref.ensures.value c.token.ensures c.in-Some.ensures.first)
    (search (rules, tests)) c.respond_bare.ensures.room c.respond_bare.ensures.after

-- ---- the whole response is sent, if there is room

pub returns-then-frame-free-clause-answer : goal.returns-then-frame-free-clause-answer
returns-then-frame-free-clause-answer c =
    let found = position_in c.args.self.now _ _ _ _ _ (ap (λ v. v.pending) c.self.view_is)
    c.deref.ensures.value c.token.ensures c.in-Some.ensures.first in
    let small : length (spelling c.args.message.now) ≤ limit_in c.args.self.now = search (rules, tests) in
    room_decides c.args.self.now c.args.message.now c.in-Some.index found (search (rules, tests))
    ∙ whole_room c.args.self.now c.args.message.now small ∙ search (rules, tests)

pub returns-clause-answer : goal.returns-clause-answer
returns-clause-answer c =
    let found = position_in c.args.self.now _ _ _ _ _ (ap (λ v. v.pending) c.self.view_is)
    c.deref.ensures.value c.token.ensures c.in-Some.ensures.first in
    let small : length (spelling c.args.message.now) ≤ limit_in c.args.self.now = search (rules, tests) in
    room_decides c.args.self.now c.args.message.now c.in-Some.index found (search (rules, tests))
    ∙ whole_room c.args.self.now c.args.message.now small ∙ search (rules, tests)

pub returns-clause-after : goal.returns-clause-after
returns-clause-after c =
    let found = position_in c.args.self.now _ _ _ _ _ (ap (λ v. v.pending) c.self.view_is)
    c.deref.ensures.value c.token.ensures c.in-Some.ensures.first in
    let plain : is_plain_response c.args.message.now ≡ true = search (rules, tests) in
    let room : room_refusal c.args.self.now c.args.message.now ≡ None =
    sym (room_decides c.args.self.now c.args.message.now c.in-Some.index found plain) ∙ returns-clause-answer c in
    rw (ap (λ q. q.waiting) c.extend.ensures, c.remove.ensures.items, pending_without, c.requires)
    (ap (λ (v : LinkValue). record v {
      waiting = v.waiting ++ spelling c.args.message.now;
      pending = remove v.pending c.in-Some.index;
    }) c.self.view_is
    ∙ whole_link c.args.self.now c.args.message.now c.in-Some.index (search (rules, tests)) found plain
    (search (rules, tests)) room)
