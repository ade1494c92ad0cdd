use Rattle.std.proofs.Common.{sym, ◌∙◌, rules, tests, length, ◌≡◌}
use Rattle.coap_text.specs.Words.{decimal_value}
use Rattle.std.specs.Char.{is_ascii_digit}
use Rattle.std.proofs.lemmas.Iterator.{YieldsList-from_slice}
use Rattle.std.proofs.lemmas.Iterator.Search.{all_from_yields_List}
use Rattle.coap_text.proofs.WordLemmas.{text_read, number_read}
use Rattle.coap_text.proofs.words.number_in.Goals as goal
use Rattle.coap_text.proofs.words.number_in.Goals.{then-word-gt-MAX_DIGITS-via-then-word-gt-MAX_DIGITS}
use Rattle.coap_text.proofs.words.number_in.Goals.{then-word-gt-MAX_DIGITS-via-else-word-gt-MAX_DIGITS+then-not-all}
use Rattle.std.proofs.lemmas.Bool.{lt-leb}
use Rattle.std.proofs.Math.Bool.{and-false}

pub returns-then-word-gt-MAX_DIGITS : goal.returns-then-word-gt-MAX_DIGITS
unfolding decimal_value
returns-then-word-gt-MAX_DIGITS c =
    elim c.then-word-gt-MAX_DIGITS.branch [
      | then-word-gt-MAX_DIGITS-via-then-word-gt-MAX_DIGITS w ↦
          simp (lt-leb (length c.args.word.now) 20 w.if-word-gt-MAX_DIGITS.true, and-false)
      | then-word-gt-MAX_DIGITS-via-else-word-gt-MAX_DIGITS+then-not-all w ↦
          let all = all_from_yields_List is_ascii_digit _ _ w.all.result w.all.ensures.ran
          (YieldsList-from_slice c.args.word.now cc) (λ x b q k. search (rules, tests)) in
          simp (sym all ∙ w.if-not-all.true, and-false)
    ]

pub returns-in_err-text : goal.returns-in_err-text
returns-in_err-text c =
    let all = all_from_yields_List is_ascii_digit _ _ c.all.result c.all.ensures.ran
    (YieldsList-from_slice c.args.word.now cc) (λ x b q k. search (rules, tests)) in
    let text =
    text_read _ c.args.word.now c.from_utf8.result (sym all ∙ c.if-not-all.false) c.from_utf8.ensures.cases in
    absurd (cc (text.1, c.ok.ensures.value, c.in_err-text.was))

pub returns : goal.returns
returns c =
    let all = all_from_yields_List is_ascii_digit _ _ c.all.result c.all.ensures.ran
    (YieldsList-from_slice c.args.word.now cc) (λ x b q k. search (rules, tests)) in
    let digits = sym all ∙ c.if-not-all.false in
    let text = text_read _ c.args.word.now c.from_utf8.result digits c.from_utf8.ensures.cases in
    let same : c.in_ok-text.text.now ≡ c.args.word.now = cc (text.1, text.2, c.ok.ensures.value, c.in_ok-text.was) in
    c.ok-2.ensures.value ∙ number_read c.args.word.now c.in_ok-text.text.now c.parse.result
    c.if-word-gt-MAX_DIGITS.false digits same c.parse.ensures.value.0
