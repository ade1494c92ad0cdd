use Rattle.c_handle.proofs.Handles.{empty_meets}
use Rattle.c_api.proofs.HandleTypes.{applications_handle}
use Rattle.c_api.proofs.applications_handle.ApplicationsHandle.empty.Statement.{statement}
use Rattle.c_api.proofs.applications_handle.ApplicationsHandle.empty.Code.{unfolded}

pub empty_spec : {M : Type 1} → statement M
empty_spec 𝓤 𝓛 𝓜 𝓡 wired = empty_meets applications_handle 𝓤 𝓛 𝓜 𝓡 (unfolded 𝓤 𝓛.H 𝓜 𝓡 wired)
