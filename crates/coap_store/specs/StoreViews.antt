-- Defined by this project: the model value and the invariant of the type `Store`.
use Rattle.coap_store.specs.Store.{StoreValue}
use Rattle.coap_store.specs.Invariant.{IsStore}
use Rattle.coap_store.specs.declared.store.Store.TheInside.{Inside}

abbrev pub store_value : Inside → StoreValue
store_value s = record {
  dynamic_max = s.dynamic_max;
  rep_max = s.rep_max;
  resources = s.resources.resources;
  versions = s.versions;
  applications = s.resources.applications;
}

abbrev pub is_store : Inside → Type 0
is_store s = IsStore (store_value s)
