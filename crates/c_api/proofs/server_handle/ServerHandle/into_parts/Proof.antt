use Rattle.c_handle.proofs.Handles.{into_parts_meets}
use Rattle.c_api.proofs.HandleTypes.{server_handle}
use Rattle.c_api.proofs.server_handle.ServerHandle.into_parts.Statement.{statement}
use Rattle.c_api.proofs.server_handle.ServerHandle.into_parts.Code.{unfolded}

pub into_parts_spec : {M : Type 1} → statement M
into_parts_spec 𝓤 𝓛 𝓜 𝓡 wired = into_parts_meets server_handle 𝓤 𝓛 𝓜 𝓡 (unfolded 𝓤 𝓛.H 𝓜 𝓡 wired)
