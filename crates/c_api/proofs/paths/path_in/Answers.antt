use Rattle.c_api.proofs.PathLemmas.{too_many}
use Rattle.c_api.proofs.paths.path_in.Goals as goal

pub returns-in_default : goal.returns-in_default
returns-in_default c = too_many c.args.text.now c.in_default.ensures.many
