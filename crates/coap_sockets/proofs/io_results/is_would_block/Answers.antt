use Rattle.std.proofs.Common.{ap, sym, ◌∙◌}
use Rattle.coap_sockets.specs.IoResults as spec
use Rattle.coap_sockets.proofs.IoResultLemmas.{another_is_no_would_block}
use Rattle.coap_sockets.proofs.io_results.is_would_block.Goals as goal

pub returns-in-WouldBlock : goal.returns-in-WouldBlock
unfolding spec.is_would_block
returns-in-WouldBlock c = ap spec.is_would_block (sym c.in-WouldBlock.is ∙ c.kind.ensures)

pub returns-in_default : goal.returns-in_default
returns-in_default c = another_is_no_would_block _ (λ is. c.in_default.not-WouldBlock (c.kind.ensures ∙ is))
