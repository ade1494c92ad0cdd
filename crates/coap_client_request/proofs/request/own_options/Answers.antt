use Rattle.std.proofs.Common.{append_assoc}
use Rattle.coap_client_request.specs.Prelude.{own_options}
use Rattle.coap_client_request.proofs.request.own_options.Goals as goal

pub returns-clause-value : goal.returns-clause-value
unfolding own_options
returns-clause-value c =
    rw (
      c.push_one-4.ensures.added,
      c.push_each-2.ensures.added,
      c.push_one-3.ensures.added,
      c.push_each.ensures.added,
      c.push_one-2.ensures.added,
      c.push_one.ensures.added,
      c.new-options.ensures,
      c.host_sent.ensures.value,
      c.segments.ensures.value,
      c.bytes_in.ensures.value,
      c.requires.formats.content_format,
      c.arguments.ensures.value,
      c.bytes_in-2.ensures.value,
      c.requires.formats.accept,
    )
    (simp append_assoc)
