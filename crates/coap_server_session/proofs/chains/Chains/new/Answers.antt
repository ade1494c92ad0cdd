use Rattle.std.proofs.Common.{◌≡◌, None, replicate, refl}
use Rattle.coap_server_session.specs.Prelude.{Cause, Chains, last_in}
use Rattle.coap_server_session.specs.declared.cause.Cause.TheVariants as cause
use Rattle.coap_server_session.proofs.values.FlagLemmas.{all_default}
use Rattle.coap_server_session.proofs.chains.Chains.new.Goals as goal

-- The chains without an observer.
abbrev empty : Chains
empty = record { hashed = replicate 256 None; of_time = None }

none_yet : (why : Cause) → last_in why empty ≡ None
none_yet (cause.Path hash) = all_default 256 hash None
none_yet (cause.Moment before) = refl

pub returns : goal.returns
returns c = none_yet
