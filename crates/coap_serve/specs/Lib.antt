pub mod streams
pub mod listener
pub use Rattle.coap_model.specs.Configs
pub mod views
pub mod Prelude
pub use Rattle.coap_wire.specs.Codes
