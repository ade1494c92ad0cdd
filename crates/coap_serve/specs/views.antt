-- Re-exports the view of a configuration from `coap_model`.
pub use Rattle.coap_model.specs.views.ConfigViews
