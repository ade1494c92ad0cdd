-- Names for the contracts and proofs of the crate, re-exported from one place. This file defines nothing.
pub use Rattle.std.specs.Iterator.{YieldsFirst, YieldsFirstBy, item_count}
pub use Rattle.directory_links.specs.Characters.{is_quoted_char, is_same_name}
unfoldable pub use Rattle.directory_links.specs.Characters.{is_name_char, is_token_char, is_target_char}
pub use Rattle.directory_links.specs.Links.{AttributeValue, NoValue, ExtendedValue, TokenValue, QuotedValue, Attribute}
pub use Rattle.directory_links.specs.Links.{Link}
pub use Rattle.directory_links.specs.Links.{is_run, is_parmname, is_value, is_attribute, is_link, value_text}
pub use Rattle.directory_links.specs.Links.{attribute_text}
pub use Rattle.directory_links.specs.Links.{link_text}
pub use Rattle.directory_links.specs.Links.{links_text, Writes}
unfoldable pub use Rattle.directory_links.specs.Links.{is_quoted_text, attributes_text, more_links_text}
pub use Rattle.directory_links.specs.Reading.{◌>>=◌, run_of, plus, links_after, attributes_read, links_read}
unfoldable pub use Rattle.directory_links.specs.Reading.{name_at, token_at, quoted_length, quoted_at, given_at}
unfoldable pub use Rattle.directory_links.specs.Reading.{extended_at}
unfoldable pub use Rattle.directory_links.specs.Reading.{value_at, attribute_at, attributes_within, attributes_at}
unfoldable pub use Rattle.directory_links.specs.Reading.{after_target}
unfoldable pub use Rattle.directory_links.specs.Reading.{target_at, link_at, next_link_at, links_within, some_links}
unfoldable pub use Rattle.directory_links.specs.Reading.{links_of, links_from}
pub use Rattle.directory_links.specs.LinkViews.{value_of, attribute_of, lefts, Gives, GivesRest, GivesLinks, GivesAt}
