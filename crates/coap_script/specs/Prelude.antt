-- Names that the contracts and proofs of this crate use, re-exported from one file. Declares nothing.

-- ---- std and the crates that come with Rattle
pub use Rattle.arrayvec.specs.ArrayVec.{array_vec_len}
unfoldable pub use Rattle.percent_encoding.specs.Percent.{percent_decode}
pub use Rattle.std.specs.Cow.{cow_slice_items}
pub use Rattle.std.specs.List.{list_all, onto_first}
pub use Rattle.std.specs.Result.{result_ok}
-- ---- coap_path
pub use Rattle.coap_path.specs.PathViews.{segment_list}
pub use Rattle.coap_path.specs.Paths.{Path}
unfoldable pub use Rattle.coap_path.specs.Paths.{is_path}
-- ---- coap_store
unfoldable pub use Rattle.coap_store.specs.State.{key_for}
-- ---- coap_text
pub use Rattle.coap_text.specs.Words.{is_hyphen, parts}
unfoldable pub use Rattle.coap_text.specs.Words.{decimal_value}
-- ---- coap_script
pub use Rattle.coap_script.specs.script.EventViews.{event_value, IsScript, fault_number, TakesLine}
pub use Rattle.coap_script.specs.script.Events.{ScriptEventValue}
unfoldable pub use Rattle.coap_script.specs.script.Events.{event_of}
pub use Rattle.coap_script.specs.script.Lines.{phase_text}
pub use Rattle.coap_script.specs.script.Script.{script_of, said_on, said_after, said_by_line}
unfoldable pub use Rattle.coap_script.specs.script.Script.{event_in, events_in, said_by_parts}
pub use Rattle.coap_script.specs.script.Words.{newline, slash, words_of}
unfoldable pub use Rattle.coap_script.specs.script.Words.{format_value, path_value}
unfoldable pub use Rattle.coap_script.specs.script.Words.{payload_value, segments_of}
