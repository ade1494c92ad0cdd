use Rattle.c_handle.proofs.Handles.{of_meets}
use Rattle.c_api.proofs.HandleTypes.{server_handle}
use Rattle.c_api.proofs.server_handle.ServerHandle.of.Statement.{statement}
use Rattle.c_api.proofs.server_handle.ServerHandle.of.Code.{unfolded}

pub of_spec : {M : Type 1} → statement M
of_spec 𝓤 𝓛 𝓜 𝓡 wired = of_meets server_handle 𝓤 𝓛 𝓜 𝓡 (unfolded 𝓤 𝓛.H 𝓜 𝓡 wired)
