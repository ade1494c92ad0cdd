-- The types of handles.
use Rattle.std.proofs.Common.{refl}
use Rattle.coap_path.specs.contracts.applications.Applications.{the_row as applications_row}
use Rattle.coap_client_engine.specs.contracts.client.Client.{the_row as client_row}
use Rattle.coap_server_polled.specs.contracts.polled_server.PolledServer.{the_row as server_row}
use Rattle.c_api.specs.contracts.applications_handle.ApplicationsHandle as applications
use Rattle.c_api.specs.contracts.client_handle.ClientHandle as client
use Rattle.c_api.specs.contracts.server_handle.ServerHandle as server
use Rattle.c_handle.proofs.Handles.{Handle}

abbrev pub applications_handle : Handle
applications_handle = record {
  name = applications.struct.name;
  held = applications_row;
  row = applications.the_row;
  at = λ h. h.at;
  value = λ h. h.value;
  make = λ p x. record { at = p; value = x };
  value_is = λ p x. refl;
  owns_made = λ p x vs. refl;
  owns_slot = λ d vs. refl;
  last = λ d. tt;
  used_up = λ d w. tt;
}

abbrev pub client_handle : Handle
client_handle = record {
  name = client.struct.name;
  held = client_row;
  row = client.the_row;
  at = λ h. h.at;
  value = λ h. h.value;
  make = λ p x. record { at = p; value = x };
  value_is = λ p x. refl;
  owns_made = λ p x vs. refl;
  owns_slot = λ d vs. refl;
  last = λ d. tt;
  used_up = λ d w. tt;
}

abbrev pub server_handle : Handle
server_handle = record {
  name = server.struct.name;
  held = server_row;
  row = server.the_row;
  at = λ h. h.at;
  value = λ h. h.value;
  make = λ p x. record { at = p; value = x };
  value_is = λ p x. refl;
  owns_made = λ p x vs. refl;
  owns_slot = λ d vs. refl;
  last = λ d. tt;
  used_up = λ d w. tt;
}
