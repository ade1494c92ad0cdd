-- Names for the contracts and proofs of this crate, re-exported from one file. Declares nothing.

-- ---- std and the kit's crates
pub use Rattle.std.specs.Io.KnownBytes.{append_known}
pub use Rattle.std.specs.List.{concat, list_all, flat_map}
pub use Rattle.std.specs.Char.{is_ascii_digit}
pub use Rattle.std.specs.Str.{all_ascii_digits}
unfoldable pub use Rattle.hex.specs.Hex.{encode_with}
pub use Rattle.hex.specs.Hex.{encode_lower, lower_digits}
unfoldable pub use Rattle.percent_encoding.specs.Percent.{percent_decode}
-- ---- coap_wire
pub use Rattle.coap_wire.specs.declared.sizes.TheConstants.{BASE_MESSAGE_SIZE, LARGEST_QUEUE}
unfoldable pub use Rattle.coap_wire.specs.Spelling.{spelling}
-- ---- coap_conn
pub use Rattle.coap_conn.specs.QueueValue.{QueueValue}
-- ---- coap_io
pub use Rattle.coap_io.specs.streams.Device.{AddsBytes, WritesPart, is_failed_write}
-- ---- coap_path
pub use Rattle.coap_path.specs.Paths.{Path}
unfoldable pub use Rattle.coap_path.specs.Paths.{is_path}
-- ---- coap_store
unfoldable pub use Rattle.coap_store.specs.Listing.{encoded_byte, path_bytes}
unfoldable pub use Rattle.coap_store.specs.State.{key_for}
-- ---- coap_text
pub use Rattle.coap_text.specs.Words.{is_hyphen, parts}
unfoldable pub use Rattle.coap_text.specs.Words.{decimal_value, hex_value}
-- ---- coap_script
pub use Rattle.coap_script.specs.script.Events.{ScriptEventValue, Drain}
unfoldable pub use Rattle.coap_script.specs.script.Events.{drain_event, event_alone, event_of, event_with_one}
unfoldable pub use Rattle.coap_script.specs.script.Events.{event_with_two, in_event, number_event, put_event}
unfoldable pub use Rattle.coap_script.specs.script.Events.{remove_event, respond_event}
pub use Rattle.coap_script.specs.script.Lines.{bytes_text, tick_line, word_line, out_line}
pub use Rattle.coap_script.specs.script.Script.{script_of}
unfoldable pub use Rattle.coap_script.specs.script.Script.{event_in, events_in, said_by_parts, says_nothing}
pub use Rattle.coap_script.specs.script.Words.{newline, space, slash, words_of}
unfoldable pub use Rattle.coap_script.specs.script.Words.{format_value, path_value}
unfoldable pub use Rattle.coap_script.specs.script.Words.{payload_value, segments_of}
-- ---- coap_model
pub use Rattle.coap_model.specs.world.Events.{AcceptedCall, Wrote}
unfoldable pub use Rattle.coap_model.specs.world.Events.{world_after}
unfoldable pub use Rattle.coap_model.specs.world.World.{side_of}
pub use Rattle.coap_model.specs.streams.Output.{waiting_of}
-- ---- coap_server_engine
pub use Rattle.coap_server_engine.specs.values.Calls.{call_value}
unfoldable pub use Rattle.coap_server_engine.specs.values.Calls.{FollowsMore}
pub use Rattle.coap_server_engine.specs.values.Servers.{ServerValue, new_server}
pub use Rattle.coap_server_engine.specs.world.Shows.{Shows}
unfoldable pub use Rattle.coap_server_engine.specs.world.Shows.{server_of}
unfoldable pub use Rattle.coap_server_engine.specs.script.Replay.{replayed, event_ran}
-- ---- this crate
pub use Rattle.coap_record.specs.RecordLines.{format_word, drain_line, stored_line, removed_line, announced_line}
pub use Rattle.coap_record.specs.RecordLines.{respond_line}
unfoldable pub use Rattle.coap_record.specs.RecordLines.{path_word, took_line, line_of, lines_of}
unfoldable pub use Rattle.coap_record.specs.SaidEvents.{events_said, all_events_said, IsInRange}
pub use Rattle.coap_record.specs.SaidEvents.{IsNumber, AreBytes, IsPathOfBytes, IsFormat, CanReplay}
pub use Rattle.coap_record.specs.SaidEvents.{IsReadBack, IsRecordable, AnnouncesNoSize}
pub use Rattle.coap_record.specs.Writes.{WritesText, WritesUpTo, room_in}
pub use Rattle.coap_record.specs.Records.{HasLines, HasFirstLines, HasPart, IsRecordOf, AreWholeLines, SaysNoEvent}
pub use Rattle.coap_record.specs.Records.{is_printable}
pub use Rattle.coap_record.specs.Records.{whole_lines_in}
pub use Rattle.coap_record.specs.Replays.{with_turns, server_with_turns, write_in, lines_of_writes, ReplaysTo}
unfoldable pub use Rattle.coap_record.specs.Replays.{writes_of, drains_of}
