use Rattle.coap_wire.proofs.HeadLaws.{declares, declared_only}
use Rattle.coap_wire.proofs.SizeLaws.{size_only, size_more, spelling_is_frame}
use Rattle.coap_wire.proofs.laws.size_is_declared_once.Goals as goal

pub returns-clause-once : goal.returns-clause-once
returns-clause-once c = size_only

pub returns-clause-stays : goal.returns-clause-stays
returns-clause-stays c = size_more

pub returns-clause-spelling : goal.returns-clause-spelling
returns-clause-spelling c = spelling_is_frame

pub returns-clause-has : goal.returns-clause-has
returns-clause-has c = declares

pub returns-clause-no_other : goal.returns-clause-no_other
returns-clause-no_other c = declared_only
