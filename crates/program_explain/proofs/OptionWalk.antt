-- The walk of `clap` over the options of a script: each has a value.
use Rattle.std.proofs.Common.{◌≡◌, ℕ, Bool, true, false, not, ◌&&◌, ◌==◌, List, [], ◌∷◌, Option, Some, None, is_some}
use Rattle.std.proofs.Common.{Result, refl, codes, take, drop, ap, ◌∙◌, arith}
use Rattle.std.specs.Str.{bytes_eq}
use Rattle.std.specs.Prelude.{fold}
use Rattle.std.proofs.lemmas.Bool.{and_parts}
use Rattle.std.proofs.lemmas.Bool.Decides.{nat_tests}
use Rattle.clap.specs.Words.{Text, Row, Rule}
use Rattle.clap.specs.Walk.{Walk, walked, walk_from, idle, option, arg_by_id, most_values, nothing_held}
use Rattle.clap.specs.Walk.{reading_by, settled, finished}
use Rattle.clap.specs.Faults.{walk_fault, turn_fault, settle_fault, defaults_fault, check_fault, entered_fault}
use Rattle.clap.specs.Kinds.{Kinds, or_else}
use Rattle.clap.specs.Simple.{Shape, built, entered}
use Rattle.clap.specs.declared.parser.matches.ValueSource.TheVariants.{CommandLine, DefaultValue}
use Rattle.clap.proofs.OnLiterals.{clap_on_literals}
use Rattle.coap_command_line.specs.CommandLines.{WordsFaultValue, unless_refused, word_flag, word_option}
use Rattle.coap_command_line.specs.ServerWords.{ServerPlanValue, server_app, server_plan_in, server_plan_of}

-- An option waits for its value.
abbrev before_value : List Row → Text → Walk
before_value rows id = record {
  held = record { rows = rows; pending = Some (id, []); skip = 0 };
  waiting = option id;
  position = 1;
  is_trailing = false;
  stopped = None;
}

-- An option has its value.
abbrev after_value : List Row → Text → Text → Walk
after_value rows id v = record {
  held = record { rows = rows; pending = Some (id, v ∷ []); skip = 0 };
  waiting = idle;
  position = 1;
  is_trailing = false;
  stopped = None;
}

-- A text that is no option.
abbrev pub is_value : Text → Bool
is_value [] = false
is_value (c ∷ cs) = not (c == 45)

-- An option takes one value.
abbrev takes_one : Text → Option Rule → Bool
takes_one id None = false
takes_one id (Some a) = (most_values a == 1) && bytes_eq id a.id

no_hyphen : (c : ℕ) → not (c == 45) ≡ true → (c == 45) ≡ false
no_hyphen c p = grind (arith, nat_tests)

is_one : (n : ℕ) → (n == 1) ≡ true → n ≡ 1
is_one n p = grind (arith, nat_tests)

-- The walk reads the value.
value_met : (rules : List Rule) (found : Option Rule) (rows : List Row) (id v : Text) → arg_by_id rules id ≡ found
    → takes_one id found ≡ true
    → is_value v ≡ true → walked rules [] (before_value rows id) v ≡ after_value rows id v
unfolding walked
value_met rules found rows id [] is takes p = absurd cc
value_met rules None rows id (c ∷ cs) is takes p = absurd cc
value_met rules (Some a) rows id (c ∷ cs) is takes p =
    let no_option = no_hyphen c p in
    let both = and_parts (most_values a == 1) (bytes_eq id a.id) takes in
    rw (no_option, no_option, is, both.1, is_one (most_values a) both.0)

value_passes : (s : Shape) (rows : List Row) (id v : Text) → is_value v ≡ true
    → turn_fault s [] (before_value rows id) v ≡ []
value_passes s rows id [] p = absurd cc
value_passes s rows id (c ∷ cs) p = let no_option = no_hyphen c p in rw (no_option, no_option)

-- A walk over words, and its first error.
abbrev walked_on : Shape → Walk → List Text → Walk × Kinds
walked_on s w words = (fold (walked s.rules []) w words, walk_fault s [] w words)

-- After the value of an option, the walk goes on.
value_read : (s : Shape) (rows : List Row) (id v : Text) (rest : List Text)
    → takes_one id (arg_by_id s.rules id) ≡ true → is_value v ≡ true
    → walked_on s (before_value rows id) (v ∷ rest) ≡ walked_on s (after_value rows id v) rest
unfolding walk_fault
value_read s rows id v rest takes p =
    rw (value_passes s rows id v p, value_met s.rules (arg_by_id s.rules id) rows id v refl takes p)

-- An option with a value.
abbrev pub row : Text → Text → Row
row id v =
    record { id = id; values = v ∷ []; count = None; source = Some CommandLine; reading = reading_by (word_option id) }

-- The only flag, which is not given.
abbrev pub flag_row : Row
flag_row = record {
  id = codes "--stdio";
  values = codes "false" ∷ [];
  count = None;
  source = Some DefaultValue;
  reading = reading_by (word_flag (codes "--stdio"));
}

-- The command of `coap-server`.
abbrev top : Shape
top = (built server_app).top

-- The errors after a walk.
abbrev rest_fault : Walk → Kinds
rest_fault w =
    or_else (entered_fault (built server_app) w.stopped)
    (or_else (settle_fault top.rules top.args_override_self w.held)
    (or_else (defaults_fault (settled top.rules w.held).rows top.rules)
    (check_fault top (finished top.rules w.held) (is_some (entered (built server_app) w.stopped)))))

-- The plan after a walk and its first error.
abbrev plan_after : Walk × Kinds → Result ServerPlanValue WordsFaultValue
plan_after w = unless_refused (or_else w.1 (rest_fault w.0)) (server_plan_in (finished top.rules w.0.held))

module _ (d m s q p o n b : Text) where
  -- The options of a script, with these values.
  abbrev pub words_with : List Text
  words_with =
      codes "--script" ∷ codes "-" ∷ codes "-d" ∷ d ∷ codes "--max-message" ∷ m ∷ codes "--max-sent" ∷ s
      ∷ codes "--queue" ∷ q ∷ codes "--pending" ∷ p ∷ codes "--observers" ∷ o ∷ codes "--connections" ∷ n
      ∷ codes "--starts" ∷ b ∷ []

  -- The rows of all options, and of the only flag, which is not given.
  abbrev pub all_rows : List Row
  all_rows =
      row (codes "--script") (codes "-") ∷ row (codes "-d") d ∷ row (codes "--max-message") m
      ∷ row (codes "--max-sent") s ∷ row (codes "--queue") q ∷ row (codes "--pending") p
      ∷ row (codes "--observers") o ∷ row (codes "--connections") n ∷ row (codes "--starts") b ∷ flag_row ∷ []

  -- The walk over all words.
  abbrev last_walk : Walk
  last_walk = after_value (take 8 all_rows) (codes "--starts") b

  plan_last : plan_after (last_walk, []) ≡ server_plan_in all_rows
  unfolding clap_on_literals
  plan_last = refl

  module _ (d_is : is_value d ≡ true) (m_is : is_value m ≡ true) (s_is : is_value s ≡ true) (q_is : is_value q ≡ true)
      (p_is : is_value p ≡ true) (o_is : is_value o ≡ true) (n_is : is_value n ≡ true) (b_is : is_value b ≡ true) where
    words_read : walked_on top (walk_from nothing_held) words_with ≡ (last_walk, [])
    unfolding clap_on_literals
    words_read =
        value_read top (take 1 all_rows) (codes "-d") d (drop 4 words_with) refl d_is
        ∙ value_read top (take 2 all_rows) (codes "--max-message") m (drop 6 words_with) refl m_is
        ∙ value_read top (take 3 all_rows) (codes "--max-sent") s (drop 8 words_with) refl s_is
        ∙ value_read top (take 4 all_rows) (codes "--queue") q (drop 10 words_with) refl q_is
        ∙ value_read top (take 5 all_rows) (codes "--pending") p (drop 12 words_with) refl p_is
        ∙ value_read top (take 6 all_rows) (codes "--observers") o (drop 14 words_with) refl o_is
        ∙ value_read top (take 7 all_rows) (codes "--connections") n (drop 16 words_with) refl n_is
        ∙ value_read top (take 8 all_rows) (codes "--starts") b (drop 18 words_with) refl b_is

    -- `clap` accepts the options and finds them.
    pub plan_found : server_plan_of words_with ≡ server_plan_in all_rows
    unfolding server_plan_of
    plan_found = ap plan_after words_read ∙ plan_last
