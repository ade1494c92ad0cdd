use Rattle.directory_links.proofs.LinkSteps.{link_shorter}
use Rattle.directory_links.proofs.parser.check_links.Goals as goal

pub loop-link-smaller : goal.loop-link-smaller
loop-link-smaller c = link_shorter _ _ _ _ c.in_ok-_link.ensures (rw c.in-Some.is at c.in_ok-next.ensures)
