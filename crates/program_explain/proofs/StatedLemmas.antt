-- The options that the header of a record states are read back.
use Rattle.std.proofs.Common.{◌≡◌, ℕ, zero, suc, ◌<◌, ◌≤◌, ◌^◌, true, false, ◌==◌, List, [], ◌∷◌, ◌++◌, length, drop}
use Rattle.std.proofs.Common.{Option, Some, None, refl, sym, ap, subst, ◌∙◌, arith, codes, decimal, append_assoc}
use Rattle.std.proofs.Common.{append-nil, le-leb, true≢false}
use Rattle.std.specs.List.{list_all}
use Rattle.std.specs.Char.{is_ascii_digit}
use Rattle.std.specs.Str.{IsAscii}
use Rattle.std.proofs.lemmas.Bool.{and_parts}
use Rattle.std.proofs.lemmas.Bool.Decides.{nat_tests}
use Rattle.std.proofs.lemmas.Fmt.{decimal_nonempty}
use Rattle.std.proofs.lemmas.List.Folds.{list_all-append}
use Rattle.std.proofs.lemmas.List.Splits.{slice_split_none, slice_split_at}
use Rattle.std.proofs.lemmas.Str.{IsUtf8-from_ascii}
use Rattle.clap.specs.Words.{Text}
use Rattle.coap_conn.specs.Prelude.{BASE_MESSAGE_SIZE, LARGEST_MESSAGE, LARGEST_QUEUE, LARGEST_SENT_MESSAGE}
use Rattle.coap_text.specs.Words.{parts}
use Rattle.coap_model.specs.Configs.{ConfigValues, StartValues}
use Rattle.coap_command_line.specs.CommandLines.{is_used, number_within}
use Rattle.coap_command_line.specs.ServerWords.{excludes_application, excludes_mode, excludes_record, file_name}
use Rattle.coap_command_line.specs.ServerWords.{limits_said, records_to_output, server_plan_in, starts_a_listener}
use Rattle.coap_command_line.specs.ServerWords.{starts_in, three_in, values_said}
use Rattle.coap_command_line.specs.ApplicationWords.{applications_said}
use Rattle.coap_command_line.specs.declared.server_plan.StartCounts.{StartCounts}
use Rattle.coap_record.proofs.WordLaws.{IsWord, all_fail, number_back, number_digits, number_word, word_byte}
use Rattle.coap_record.proofs.LineLaws.{AreWords, spaced, words_of_line}
use Rattle.program_server_common.specs.RecordHeaders.{options_line, options_text, starts_text}
use Rattle.coap_server_engine.specs.values.Servers.{ServerValue, new_server}
use Rattle.program_explain.specs.Header.{AreUtf8, HasNoConfig, config_said, options_in, script_words, words_of}
use Rattle.program_explain.specs.Stated.{IsStartable, replay_config}
use Rattle.program_explain.proofs.OptionWalk.{is_value, plan_found, words_with}

-- ---- values

-- A text is a word, and the value of an option that reads it as `x`.
record IsRead {A : Type 0} (reads : Text → Option A) (x : A) (text : Text) : Type 0 where
  pub word : IsWord text
  pub value : is_value text ≡ true
  pub back : reads text ≡ Some x

digits_first : (ds rest : Text) → list_all is_ascii_digit ds ≡ true → 0 < length ds → is_value (ds ++ rest) ≡ true
digits_first [] rest all some = absurd (omega arith)
digits_first (c ∷ cs) rest all some =
    let first = (and_parts (is_ascii_digit c) (list_all is_ascii_digit cs) all).0 in
    grind (arith, nat_tests)

number_first : (n : ℕ) (rest : Text) → n < 2 ^ 64 → is_value (decimal n ++ rest) ≡ true
number_first n rest small = digits_first (decimal n) rest (number_digits n small) (decimal_nonempty n small)

number_in : (low high n : ℕ) → n < 2 ^ 64 → low ≤ n → n ≤ high → number_within low high (decimal n) ≡ Some n
unfolding number_within
number_in low high n small above below = rw (number_back n small, le-leb low n above, le-leb n high below)

number_read : (low high n : ℕ) → low ≤ n → n ≤ high → high < 2 ^ 64 → IsRead (number_within low high) n (decimal n)
number_read low high n above below small =
    let fits : n < 2 ^ 64 = omega arith in
    record {
      word = number_word n fits;
      value = rw append-nil at (number_first n [] fits);
      back = number_in low high n fits above below;
    }

-- ---- start values

no_comma : (b : ℕ) → is_ascii_digit b ≡ true → (b == 44) ≡ false
no_comma b is = grind (arith, nat_tests)

number_alone : (n : ℕ) (rest : Text) → n < 2 ^ 64 → parts 44 (decimal n ++ 44 ∷ rest) ≡ decimal n ∷ parts 44 rest
number_alone n rest small =
    slice_split_at (λ b. b == 44) (decimal n) 44 rest
    (all_fail is_ascii_digit (λ b. b == 44) no_comma (decimal n) (number_digits n small)) refl

last_number : (n : ℕ) → n < 2 ^ 64 → parts 44 (decimal n) ≡ decimal n ∷ []
last_number n small =
    slice_split_none (λ b. b == 44) (decimal n)
    (all_fail is_ascii_digit (λ b. b == 44) no_comma (decimal n) (number_digits n small))

three_parts : (s : StartValues) → s.moment < 2 ^ 64 → s.versions < 2 ^ 64 → s.ids < 2 ^ 64
    → parts 44 (starts_text s) ≡ decimal s.moment ∷ decimal s.versions ∷ decimal s.ids ∷ []
three_parts s moment versions ids =
    let text : starts_text s ≡ decimal s.moment ++ 44 ∷ (decimal s.versions ++ 44 ∷ decimal s.ids) =
    simp append_assoc in
    rw (
      text,
      number_alone s.moment (decimal s.versions ++ 44 ∷ decimal s.ids) moment,
      number_alone s.versions (decimal s.ids) versions,
      last_number s.ids ids,
    )

-- The values as the option reads them.
abbrev counts_of : StartValues → StartCounts
counts_of s = record { moment = s.moment; versions = s.versions; ids = s.ids }

starts_read : (s : StartValues) → s.moment < 2 ^ 64 → s.versions < 2 ^ 64 → s.ids < 18446744073709551615
    → IsRead starts_in (counts_of s) (starts_text s)
unfolding starts_in three_in
starts_read s moment versions ids =
    let small : s.ids < 2 ^ 64 = omega arith in
    record {
      word =
          simp (
            list_all-append,
            number_word s.moment moment,
            number_word s.versions versions,
            number_word s.ids small,
          );
      value = simp append_assoc (number_first s.moment _ moment);
      back =
          rw (
            three_parts s moment versions small,
            number_back s.moment moment,
            number_back s.versions versions,
            number_in 0 18446744073709551614 s.ids small (omega arith) (omega arith),
          );
    }

-- ---- words

ascii_word : (word : Text) → IsWord word → IsAscii word
ascii_word [] is i = omega arith
ascii_word (b ∷ bs) is zero =
    let first = (and_parts (word_byte b) (list_all word_byte bs) is).0 in
    grind (arith, nat_tests)
ascii_word (b ∷ bs) is (suc i) = ascii_word bs (and_parts (word_byte b) (list_all word_byte bs) is).1 i

utf8_words : (words : List Text) → AreWords words → AreUtf8 words
utf8_words [] are = tt
utf8_words (word ∷ words) are = (IsUtf8-from_ascii word (ascii_word word are.0), utf8_words words are.1)

-- Texts in a row, from the left and from the right.
regrouped : (t d tm m ts s tq q tp p to o tn n tb b : Text)
    → t ++ d ++ tm ++ m ++ ts ++ s ++ tq ++ q ++ tp ++ p ++ to ++ o ++ tn ++ n ++ tb ++ b
    ≡ t ++ (d ++ (tm ++ (m ++ (ts ++ (s ++ (tq ++ (q ++ (tp ++ (p ++ (to ++ (o ++ (tn ++ (n ++ (tb ++ b))))))))))))))
regrouped t d tm m ts s tq q tp p to o tn n tb b = simp append_assoc

-- ---- the plan

module _ (c : ConfigValues) (text : ℕ → Text) (b : Text) where
  -- The option of a number in this range reads its text.
  abbrev IsNumber : ℕ → ℕ → ℕ → Type 0
  IsNumber low high n = IsRead (number_within low high) n (text n)

  -- The options read the texts of all values.
  record AreRead : Type 0 where
    pub is_d : IsNumber 0 1000 c.dynamic_max
    pub is_m : IsNumber BASE_MESSAGE_SIZE LARGEST_MESSAGE c.limits.max_message
    pub is_s : IsNumber BASE_MESSAGE_SIZE LARGEST_SENT_MESSAGE c.limits.max_sent
    pub is_q : IsNumber c.limits.max_sent LARGEST_QUEUE c.limits.queue
    pub is_p : IsNumber 0 256 c.limits.pending
    pub is_o : IsNumber 0 256 c.limits.observers
    pub is_n : IsNumber 1 256 c.connections
    pub is_b : IsRead starts_in (counts_of c.starts) b

  -- The words of the options.
  abbrev words : List Text
  words =
      words_with (text c.dynamic_max) (text c.limits.max_message) (text c.limits.max_sent) (text c.limits.queue)
      (text c.limits.pending) (text c.limits.observers) (text c.connections) b

  are_words : AreRead → AreWords words
  are_words are = assumption

  -- The words have a plan with the values.
  config_read : AreRead → config_said words ≡ Some (replay_config c)
  unfolding config_said server_plan_in values_said limits_said excludes_mode excludes_record excludes_application
      applications_said starts_a_listener records_to_output is_used file_name
  config_read are =
      rw (
        plan_found _ _ _ _ _ _ _ _ are.is_d.value are.is_m.value are.is_s.value are.is_q.value are.is_p.value
            are.is_o.value are.is_n.value are.is_b.value,
        are.is_d.back,
        are.is_m.back,
        are.is_s.back,
        are.is_q.back,
        are.is_p.back,
        are.is_o.back,
        are.is_n.back,
        are.is_b.back,
      )

module _ (c : ConfigValues) (is : IsStartable c) where
  are_read : AreRead c decimal (starts_text c.starts)
  are_read = record {
    is_d = number_read 0 1000 c.dynamic_max (omega arith) is.values.dynamic_high (omega arith);
    is_m = number_read _ _ _ is.limits.message_low is.limits.message_high (omega arith);
    is_s = number_read _ _ _ is.limits.sent_low is.limits.sent_high (omega arith);
    is_q = number_read _ _ _ is.limits.queue_low is.limits.queue_high (omega arith);
    is_p = number_read _ _ _ (omega arith) is.limits.pending_high (omega arith);
    is_o = number_read _ _ _ (omega arith) is.limits.observers_high (omega arith);
    is_n = number_read _ _ _ is.values.connections_low is.values.connections_high (omega arith);
    is_b = starts_read c.starts is.moment is.versions (omega (arith, is.ids));
  }

  abbrev option_words : List Text
  option_words = words c decimal (starts_text c.starts)

  options_split : words_of (options_text c) ≡ option_words
  unfolding options_text spaced
  options_split =
      let others = drop 3 option_words in
      let text : options_text c ≡ spaced (codes "-d") others = rw regrouped in
      ap (λ t. script_words ++ parts 32 t) text
      ∙ ap (λ ws. script_words ++ ws) (words_of_line (codes "-d") others refl (are_words c decimal _ are_read).1.1.1)

  options_read : config_said (words_of (options_text c)) ≡ Some (replay_config c)
  options_read = rw options_split (config_read c decimal _ are_read)

  are_utf8 : AreUtf8 (words_of (options_text c))
  are_utf8 = subst AreUtf8 (sym options_split) (utf8_words option_words (are_words c decimal _ are_read))

  has_config : HasNoConfig (words_of (options_text c)) → ⊥
  has_config none =
      true≢false (sym (rw (
        options_read,
        le-leb 1 c.connections is.values.connections_low,
        le-leb c.connections 256 is.values.connections_high,
        le-leb c.dynamic_max 1000 is.values.dynamic_high,
      ) at none))

  -- ---- the line

  module _ (line : List ℕ) (states : line ≡ options_line c) where
    -- A line that states options has no others.
    stated : options_in line ≡ Some (options_text c)
    unfolding options_in
    stated = rw states

    pub has_options : options_in line ≡ None → ⊥
    has_options none = cc stated

    -- The server after the line is a new one with the configuration.
    pub is_stated : (options : List ℕ) (config : ConfigValues) (after : ServerValue) → options_in line ≡ Some options
        → config_said (words_of options) ≡ Some config → after ≡ new_server config
        → after ≡ new_server (replay_config c)
    is_stated options config after has said by =
        let same : options ≡ options_text c = cc stated in
        let alike : config ≡ replay_config c = cc options_read in
        rw alike at by

    -- The options are not refused.
    pub never_refused : (options : List ℕ) → options_in line ≡ Some options
        → (AreUtf8 (words_of options) → HasNoConfig (words_of options)) → ⊥
    never_refused options has refused =
        let same : options ≡ options_text c = cc stated in
        has_config ((rw same at refused) are_utf8)
