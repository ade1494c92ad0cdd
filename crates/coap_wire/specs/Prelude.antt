-- The names that the contracts and the proofs of this crate use, re-exported from one file. Nothing is defined here.

-- ---- std and the kit's crates
pub use Rattle.std.specs.Cmp.Lexicographic.{pointwise}
pub use Rattle.std.specs.Int.{to_be_bytes, w32, w64}
pub use Rattle.std.specs.Iterator.{YieldsFirstBy, item_count}
pub use Rattle.std.specs.List.{AllByRecursion, concat}
pub use Rattle.std.specs.Prelude.{All, IsOk, IsTrue, not, slice_get, unwrap_or, ◌&&◌, ◌==◌}
pub use Rattle.std.specs.Prelude.{◌↔◌}
-- ---- coap_wire
pub use Rattle.coap_wire.specs.declared.sizes.TheConstants.{MAX_EXTENDED_LENGTH}
pub use Rattle.coap_wire.specs.declared.sizes.TheConstants.{LARGEST_MESSAGE}
pub use Rattle.coap_wire.specs.StreamPrefix.{IsFrameFault, IsUnfinished, Unfinished, Whole, Faulty, fault_bytes}
pub use Rattle.coap_wire.specs.StreamPrefix.{StreamPrefix, IsTooLarge, size_bytes}
unfoldable pub use Rattle.coap_wire.specs.StreamPrefix.{prefix_kind}
pub use Rattle.coap_wire.specs.BuilderViews.{built_message}
pub use Rattle.coap_wire.specs.Faults.{IsFirstFault, HasOptionFault, IsOptionFault}
pub use Rattle.coap_wire.specs.Forms.{length_form, option_form, greatest_length, IsLengthForm}
pub use Rattle.coap_wire.specs.Forms.{IsOptionForm, IsTokenForm, token_form, greatest_token, extension_of}
pub use Rattle.coap_wire.specs.Forms.{option_extension}
pub use Rattle.coap_wire.specs.Frames.{Frames, Sizes, FramedAs, constant_size, size_for, sizes_after, sizes_of_rest}
pub use Rattle.coap_wire.specs.Frames.{frames_on, AreAtMost, AreFrames, FramesEndWith, FollowsRest, frames_gone_on}
pub use Rattle.coap_wire.specs.Frames.{frames_then, size_after, sizes_first, with_frame}
unfoldable pub use Rattle.coap_wire.specs.Frames.{sized_frames, frames_within}
pub use Rattle.coap_wire.specs.Layout.{declared_in, IsLaidOut}
unfoldable pub use Rattle.coap_wire.specs.Layout.{outline_of}
pub use Rattle.coap_wire.specs.Message.{last_number, Message, CoapOption, AreBytes, AreOrdered, IsByte}
pub use Rattle.coap_wire.specs.Message.{body_of}
pub use Rattle.coap_wire.specs.Reading.{options_in, token_length_at, Head, head_at_code}
pub use Rattle.coap_wire.specs.Reading.{options_read, value_at, ◌>>=◌}
pub use Rattle.coap_wire.specs.Reading.{body_read}
unfoldable pub use Rattle.coap_wire.specs.Reading.{declared_of, message_of, body_at, one_byte_at, two_bytes_at}
unfoldable pub use Rattle.coap_wire.specs.Reading.{four_bytes_at, length_at, option_number_at, head_at}
unfoldable pub use Rattle.coap_wire.specs.Reading.{option_head_at, option_at, body_within}
pub use Rattle.coap_wire.specs.Recognition.{kind_of, once, repeated, IsFirstWithNumber, IsRecognised, known_options}
pub use Rattle.coap_wire.specs.Recognition.{first_critical, option_before, has_kind, is_critical}
pub use Rattle.coap_wire.specs.Recognition.{is_first_with_number, CheckedOptionValue, checked_options}
unfoldable pub use Rattle.coap_wire.specs.Recognition.{is_recognised, checked_given, first_critical_in, recognised_in}
pub use Rattle.coap_wire.specs.Refusal.{RefusedBy}
pub use Rattle.coap_wire.specs.Size.{IsDeclaredSize, IsFrame, Declares, HasBadToken}
pub use Rattle.coap_wire.specs.Size.{StatesLengths, code_and_extension}
pub use Rattle.coap_wire.specs.Spelling.{Spells, body_spelling, HasSpelling, HasOptionForm, option_spelling}
pub use Rattle.coap_wire.specs.Spelling.{options_spelling, payload_bytes, head_spelling, IsHeadAndBody, IsOneOption}
pub use Rattle.coap_wire.specs.Spelling.{IsOptionBytes, IsOptionHead}
pub use Rattle.coap_wire.specs.Spelling.{payload_marker, option_head_spelling}
unfoldable pub use Rattle.coap_wire.specs.Spelling.{spelling, front_spelling}
pub use Rattle.coap_wire.specs.Stream.{Stream, SplitsAs, stream_then, sized_split_on, split_on, EndsWith, Format}
pub use Rattle.coap_wire.specs.Stream.{OfFrame, SpellEach, StreamFault, frame_then, continued}
pub use Rattle.coap_wire.specs.Stream.{read_found}
unfoldable pub use Rattle.coap_wire.specs.Stream.{sized_split, split}
pub use Rattle.coap_wire.specs.Uint.{uint_of, without_leading_zeros}
unfoldable pub use Rattle.coap_wire.specs.Uint.{bytes_of_uint}
pub use Rattle.coap_wire.specs.Views.{coap_options, CanBeBuilt, option_refusal, payload_refusal, with_option}
pub use Rattle.coap_wire.specs.Views.{coap_option, Gives, GivesPayload, checked_option}
pub use Rattle.coap_wire.specs.CompactViews.{compact_message, encoded_size, IsEncoding}
-- ---- coap_wire, declared
pub use Rattle.coap_wire.specs.declared.fault.FormatFault.{FormatFault}
pub use Rattle.coap_wire.specs.declared.fault.FormatFault.TheVariants.{EmptyPayload, NotOneFrame, OptionCut}
pub use Rattle.coap_wire.specs.declared.fault.FormatFault.TheVariants.{OptionDelta, OptionLength, OptionNumber}
pub use Rattle.coap_wire.specs.declared.fault.FormatFault.TheVariants.{TokenLength}
pub use Rattle.coap_wire.specs.declared.fault.FrameFault.{FrameFault}
pub use Rattle.coap_wire.specs.declared.fault.FrameFault.TheVariants.{TooLarge}
pub use Rattle.coap_wire.specs.declared.declaration.Declared.{Declared}
pub use Rattle.coap_wire.specs.declared.declaration.Declared.TheVariants.{BadToken, Size, Unknown}
pub use Rattle.coap_wire.specs.declared.option_table.OptionKind.{OptionKind}
pub use Rattle.coap_wire.specs.declared.option.OptionRef.{OptionRef}
pub use Rattle.coap_wire.specs.declared.layout.FrameLayout.{FrameLayout}
