use Rattle.std.proofs.Common.{◌≡◌, ◌+◌, ◌-◌, List, ℕ, ap, ◌∙◌, take, length, ◌++◌, arith, sym}
use Rattle.coap_log.specs.Taps.{TapValue, with_bytes}
use Rattle.coap_log.proofs.TapLemmas.{filled}
use Rattle.coap_log.proofs.tap.Tap.append.Goals as goal

pub returns : goal.returns
returns c =
    let inside = c.self.inside in
    let len : c.len.result ≡ length inside.kept.items = omega (arith, c.len.ensures) in
    let kept : c.append_first.new.buffer.items ≡ take inside.room (inside.kept.items ++ c.args.bytes.now) =
    c.append_first.ensures.items ∙ ap (λ (n : ℕ). inside.kept.items ++ take (inside.room - n) c.args.bytes.now) len
    ∙ sym (filled inside.room inside.kept.items c.args.bytes.now (omega (arith, c.self.invariant.0.kept))) in
    ap (λ (k : List ℕ). record {
      room = inside.room;
      kept = k;
      passed = inside.passed + length c.args.bytes.now;
      is_whole = inside.is_whole;
      is_silent = inside.is_silent;
      messages = inside.messages;
      bytes = inside.bytes;
    }) kept
    ∙ ap (λ (v : TapValue). with_bytes v c.args.bytes.now) c.self.view_is
