-- RFC 9176 section 6: the links that a lookup finds, and the part that it lists.
use Rattle.std.specs.Prelude.{List, map, filter, take, drop}
use Rattle.std.specs.List.{flat_map}
use Rattle.directory_links.specs.Links.{Link}
use Rattle.directory_registry.specs.Registrations.{RegistrationValue, RegistryValue, registrations}
use Rattle.directory_registry.specs.Matching.{CriterionValue, is_selected_endpoint, is_selected_link}
use Rattle.directory_registry.specs.Lookups.{PageValue, endpoint_link, resolved_link}

-- The links of the endpoints that the criteria select, in the order of their first registrations.
abbrev pub endpoints_found : List CriterionValue → RegistryValue → List Link
endpoints_found criteria v = map endpoint_link (filter (is_selected_endpoint criteria) (registrations v))

-- The links of a registration that the criteria select.
abbrev pub links_of_registration : List CriterionValue → RegistrationValue → List Link
links_of_registration criteria r = map (resolved_link r.base) (filter (is_selected_link criteria r) r.links)

-- The links of the registrations that the criteria select, in the order of the first registrations.
abbrev pub resources_found : List CriterionValue → RegistryValue → List Link
resources_found criteria v = flat_map (links_of_registration criteria) (registrations v)

-- The part of the results that a page has.
abbrev pub part_of : PageValue → List Link → List Link
part_of page links = take page.count (drop page.skip links)
