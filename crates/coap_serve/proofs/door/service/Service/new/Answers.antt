use Rattle.std.proofs.Common.{ap, arith, false, is_some, rules, sym, true, ◌≡◌, ◌∙◌}
use Rattle.coap_serve.proofs.door.service.Service.new.Goals.{else-is_some, then-is_some+in_ok-response}
use Rattle.coap_serve.proofs.door.service.Service.new.Goals.{in-None+in_ok-server-in-None, in-Some+in_ok-server-in-Some}
use Rattle.coap_serve.proofs.door.service.Service.new.Goals as goal

pub returns-clause-shows : goal.returns-clause-shows
returns-clause-shows g c = elim c.match-applications-2.branch [
  | in-Some+in_ok-server-in-Some w ↦ rw w.server-is w.in_ok-server-in-Some.ensures.shows
  | in-None+in_ok-server-in-None w ↦ rw w.server-is w.in_ok-server-in-None.ensures.shows
]

-- The buffer is reserved if there are applications.
pub invariant_of-result-clause-room : goal.invariant_of-result-clause-room
invariant_of-result-clause-room g c = elim c.match-applications-2.branch [
  | in-Some+in_ok-server-in-Some w ↦ elim c.if-is_some.branch [
    | then-is_some+in_ok-response r ↦ rw (w.server-is, w.in_ok-server-in-Some.ensures.value, r.response-is) (λ some.
        omega (
          arith,
          r.in_ok-response.ensures.exact,
          r.max_sent.ensures.value,
          ap (λ l. l.max_sent) r.limits.ensures,
        ))
    | else-is_some r ↦
        let none : is_some c.args.config.applications ≡ false = sym c.is_some.ensures ∙ r.if-is_some.false in
        absurd (let never : true ≡ false = rw w.in-Some.is at none in cc never)
  ]
  | in-None+in_ok-server-in-None w ↦
      rw (w.server-is, w.in_ok-server-in-None.ensures.value) (λ some. absurd (some (search rules)))
]
