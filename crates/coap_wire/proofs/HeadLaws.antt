-- The head of a frame: decoding returns it if and only if the bytes encode it. `declared_of` agrees with `Declares`.
use Rattle.std.proofs.Common.{◌≡◌, ◌≢◌, ℕ, ◌+◌, ◌*◌, ◌/◌, ◌%◌, ◌<◌, ◌≤◌, cond, eqb, ltb, List, [], ◌∷◌, ◌++◌}
use Rattle.std.proofs.Common.{length}
use Rattle.std.proofs.Common.{take, drop, get_or, Some, None, Ok, Err, inl, inr, refl, sym, ap, ◌∙◌, arith}
use Rattle.std.proofs.Common.{append_assoc, ◌⊎◌}
use Rattle.std.proofs.lemmas.Bool.{eq-eqb, ne_eqb, lt-ltb, le-ltb, cases_eq, cases_lt}
use Rattle.std.proofs.lemmas.Bool.Decides.{nat_tests}
use Rattle.std.proofs.lemmas.List.{length-take, length-drop, length-append, take-append-drop, take_at, drop_at}
use Rattle.std.proofs.lemmas.List.{drop_more, drop-drop, get_or-drop}
use Rattle.coap_wire.specs.Prelude.{AreBytes, IsLengthForm, extension_of, IsOptionForm, option_extension}
use Rattle.coap_wire.specs.Prelude.{greatest_token, code_and_extension, StatesLengths, IsDeclaredSize, IsFrame}
use Rattle.coap_wire.specs.Prelude.{HasBadToken, Declares, IsHeadAndBody, IsFirstFault, Declared, Unknown, Size}
use Rattle.coap_wire.specs.Prelude.{BadToken, FormatFault, TokenLength, NotOneFrame, length_at, option_number_at}
use Rattle.coap_wire.specs.Prelude.{one_byte_at, two_bytes_at}
use Rattle.coap_wire.specs.Prelude.{declared_of, Head, head_at_code, head_at, outline_of, FrameLayout, size_bytes}
use Rattle.coap_wire.specs.declared.layout.Outline.TheVariants as outline
use Rattle.coap_wire.proofs.FormLaws.{option_form_bound, option_form_width, length_form_bound}
use Rattle.coap_wire.proofs.NumberLaws.{option_cases, AreBytes-tail, AreBytes-drop, length_again, option_number_again}
use Rattle.coap_wire.proofs.NumberLaws.{length_takes, option_number_takes, length_rest, option_number_rest}
use Rattle.coap_wire.proofs.NumberLaws.{length_short, option_number_short, length_more, option_number_more}

-- ---- the lengths after the first byte

-- The size of a frame with this first byte, a token of t bytes and a body of n bytes.
abbrev pub frame_size : ℕ → ℕ → ℕ → ℕ
frame_size b t n = 1 + extension_of (b / 16) + 1 + option_extension (b % 16) + t + n

-- The layout of a frame with this first byte and a token of t bytes.
abbrev pub layout_by : ℕ → ℕ → FrameLayout
layout_by b t = record {
  code_at = 1 + extension_of (b / 16);
  token_at = 1 + extension_of (b / 16) + 1 + option_extension (b % 16);
  token_length = t;
}

-- After the first byte b, the length y.0 of a body is decoded, and y.1 is left. After the code the length z.0 of a
-- token is decoded, and z.1 is left. This determines what the bytes declare, their outline and their head.
pub record ReadsLengths (b : ℕ) (s : List ℕ) (y z : ℕ × List ℕ) : Type 0 where
  pub nibble : b % 16 ≢ 15
  pub body : length_at (b / 16) s ≡ Some y
  pub token : option_number_at (b % 16) (drop 1 y.1) ≡ Some z
  pub width : length s ≡ extension_of (b / 16) + length y.1
  pub token_width : length (drop 1 y.1) ≡ option_extension (b % 16) + length z.1
  pub at_code : y.1 ≡ drop (1 + extension_of (b / 16)) (b ∷ s)
  pub at_token : z.1 ≡ drop (1 + extension_of (b / 16) + 1 + option_extension (b % 16)) (b ∷ s)
  pub above : option_extension (b % 16) ≤ z.0
  pub declared : declared_of (b ∷ s) ≡ cond (ltb greatest_token z.0) BadToken (Size (frame_size b z.0 y.0))
  pub outline : outline_of (b ∷ s)
      ≡ cond (ltb greatest_token z.0) outline.BadToken (outline.Known (frame_size b z.0 y.0) (layout_by b z.0))
  pub head : head_at (b ∷ s) ≡ cond (ltb greatest_token z.0) (Err TokenLength)
      (cond (eqb (length (b ∷ s)) (frame_size b z.0 y.0))
      (Ok (record { code = get_or y.1 0 0; token = take z.0 z.1; body = drop z.0 z.1 })) (Err NotOneFrame))

head_cut : (x n : ℕ) (s : List ℕ) → option_number_at x (drop 1 s) ≡ None → head_at_code x n s ≡ Err NotOneFrame
head_cut x n [] none = refl
head_cut x n (c ∷ s) none = rw none refl

head_read : (x n before all : ℕ) (s : List ℕ) (z : ℕ × List ℕ) → option_number_at x (drop 1 s) ≡ Some z
    → all ≡ 1 + before + length s → head_at_code x n s ≡ cond (ltb greatest_token z.0) (Err TokenLength)
    (cond (eqb all (1 + before + 1 + option_extension x + z.0 + n))
    (Ok (record { code = get_or s 0 0; token = take z.0 z.1; body = drop z.0 z.1 })) (Err NotOneFrame))
unfolding option_number_at
head_read x n before all [] z token all_is = grind (arith, nat_tests, option_number_rest x [] z token)
head_read x n before all (c ∷ s) z token all_is =
    let k = option_number_rest x s z token in
    rw token (grind (arith, nat_tests, ap length k.1, length-drop (option_extension x) s))

pub reads : (b : ℕ) (s : List ℕ) (y z : ℕ × List ℕ) → b % 16 ≢ 15 → length_at (b / 16) s ≡ Some y
    → option_number_at (b % 16) (drop 1 y.1) ≡ Some z → ReadsLengths b s y z
unfolding declared_of outline_of head_at
reads b s y z nibble body token =
    let x = extension_of (b / 16) in
    let e = option_extension (b % 16) in
    let k = length_rest (b / 16) s y body in
    let l = option_number_rest (b % 16) (drop 1 y.1) z token in
    let width : length s ≡ x + length y.1 = omega (arith, ap length k.1, length-drop x s) in
    let at_code : y.1 ≡ drop (1 + x) (b ∷ s) = k.1 ∙ drop-drop x 1 (b ∷ s) in
    record {
      nibble = nibble;
      body = body;
      token = token;
      width = width;
      token_width = omega (arith, ap length l.1, length-drop e (drop 1 y.1));
      at_code = at_code;
      at_token = grind (arith, drop-drop e 1 y.1, drop-drop (1 + e) (1 + x) (b ∷ s));
      above = l.2;
      declared = rw (ne_eqb (b % 16) 15 nibble, body, token) (grind (arith, nat_tests));
      outline = rw (ne_eqb (b % 16) 15 nibble, body, token) (grind (arith, nat_tests));
      head = rw (ne_eqb (b % 16) 15 nibble, body)
          (head_read (b % 16) y.0 x (length (b ∷ s)) y.1 z token (omega arith));
    }

-- The token length has nibble 15, or a byte of the lengths is missing, or they are decoded.
pub data HeadKind (b : ℕ) (s : List ℕ) : Type 0 where
  NoLength : b % 16 ≡ 15 → declared_of (b ∷ s) ≡ BadToken → outline_of (b ∷ s) ≡ outline.BadToken
      → head_at (b ∷ s) ≡ Err TokenLength → HeadKind b s
  Cut : length (b ∷ s) < size_bytes (b ∷ s) → declared_of (b ∷ s) ≡ Unknown → outline_of (b ∷ s) ≡ outline.Unknown
      → head_at (b ∷ s) ≡ Err NotOneFrame → HeadKind b s
  Lengths : (y z : ℕ × List ℕ) → ReadsLengths b s y z → HeadKind b s

pub head_kind : (b : ℕ) (s : List ℕ) → HeadKind b s
unfolding declared_of outline_of head_at
head_kind b s =
    elim (cases_eq (b % 16) 15) [
      | inl none ↦
          let same = eq-eqb (b % 16) 15 none in
          NoLength none (rw same refl) (rw same refl) (rw same refl)
      | inr nibble ↦
          let other = ne_eqb (b % 16) 15 nibble in
          elim (option_cases (length_at (b / 16) s)) [
            | inr none ↦
                Cut (grind (arith, nat_tests, length_short (b / 16) s none)) (rw (other, none) refl)
                (rw (other, none) refl) (rw (other, none) refl)
            | inl y ↦ elim (option_cases (option_number_at (b % 16) (drop 1 y.0.1))) [
              | inr none ↦
                  let k = length_rest (b / 16) s y.0 y.1 in
                  Cut (grind (
                    arith,
                    nat_tests,
                    k.0,
                    ap length k.1,
                    option_number_short (b % 16) (drop 1 y.0.1) none,
                    length-drop (extension_of (b / 16)) s,
                    length-drop 1 y.0.1,
                  )) (rw (other, y.1, none) refl)
                  (rw (other, y.1, none) refl) (rw (other, y.1) (head_cut (b % 16) y.0.0 y.0.1 none))
              | inl z ↦ Lengths y.0 z.0 (reads b s y.0 z.0 nibble y.1 z.1)
            ]
          ]
    ]

-- ---- all that the first bytes show

-- The head of a frame with this code and a token of t bytes, if `later` follows the extension of the token length.
abbrev pub parts_of : ℕ → ℕ → List ℕ → Head
parts_of code t later = record { code = code; token = take t later; body = drop t later }

-- The bytes show an invalid token length, or too few bytes are present, or they state a size and a layout.
abbrev pub HeadFacts : List ℕ → Type 0
HeadFacts s =
    ((declared_of s ≡ BadToken) × (outline_of s ≡ outline.BadToken) × (head_at s ≡ Err TokenLength)
    × (size_bytes s ≤ length s))
    ⊎ (((declared_of s ≡ Unknown) × (outline_of s ≡ outline.Unknown) × (head_at s ≡ Err NotOneFrame)
    × (1 ≤ length s → length s < size_bytes s))
    ⊎ ((n : ℕ) × (l : FrameLayout) × (declared_of s ≡ Size n) × (outline_of s ≡ outline.Known n l)
    × (size_bytes s < n) × (size_bytes s ≤ length s) × (l.code_at < n) × (l.token_at + l.token_length ≤ n)
    × (l.token_length ≤ greatest_token)
    × (head_at s ≡ cond (eqb (length s) n)
    (Ok (parts_of (get_or s l.code_at 0) l.token_length (drop l.token_at s))) (Err NotOneFrame))))

pub head_facts : (s : List ℕ) → HeadFacts s
unfolding declared_of outline_of head_at
head_facts [] = inr (inl (refl, refl, refl, λ some. absurd (omega arith)))
head_facts (b ∷ s) =
    elim (head_kind b s) [
      | NoLength none d o h ↦ inl (d, o, h, grind (arith, nat_tests))
      | Cut few d o h ↦ inr (inl (d, o, h, λ some. few))
      | Lengths y z r ↦ elim (cases_lt greatest_token z.0) [
        | inl long ↦
            inl (grind (arith, nat_tests), grind (arith, nat_tests), grind (arith, nat_tests), grind (arith, nat_tests))
        | inr short ↦ inr (inr (
          frame_size b z.0 y.0,
          layout_by b z.0,
          grind (arith, nat_tests),
          grind (arith, nat_tests),
          grind (arith, nat_tests),
          grind (arith, nat_tests, length-drop 1 y.1),
          omega arith,
          omega arith,
          short,
          grind (arith, nat_tests, get_or-drop (1 + extension_of (b / 16)) (b ∷ s) 0 0),
        ))
      ]
    ]

-- ---- forms of lengths are decoded

reads_forms : (x y : ℕ) (e d : List ℕ) (n t : ℕ) (at_code at_token : List ℕ) → IsLengthForm x e n → IsOptionForm y d t
    → drop 1 at_code ≡ d ++ at_token → ReadsLengths (16 * x + y) (e ++ at_code) (n, at_code) (t, at_token)
reads_forms x y e d n t at_code at_token f g is =
    let small : y < 15 = (option_form_bound y d t g).0 in
    let above : (16 * x + y) / 16 ≡ x = omega arith in
    let below : (16 * x + y) % 16 ≡ y = omega arith in
    reads (16 * x + y) (e ++ at_code) (n, at_code) (t, at_token) (omega arith) (rw above (length_again x e n at_code f))
    (rw (below, is) (option_number_again y d t at_token g))

-- The bytes after the code and the extension of the token length.
after_code : (code : ℕ) (d more : List ℕ) → (r : List ℕ) × (drop 1 (code_and_extension code d ++ more) ≡ d ++ r)
after_code code [] more = (drop 1 more, refl)
after_code code (e ∷ es) more = (more, refl)

code_length : (code : ℕ) (d : List ℕ)
    → length (code_and_extension code d) ≡ cond (eqb (length d) 0) 0 (1 + length d)
code_length code [] = refl
code_length code (e ∷ es) = grind (arith, nat_tests)

-- The lengths that the first bytes state are decoded. The bytes that state them end with the byte at which the size is
-- known.
pub record ReadsStated (head more : List ℕ) (t n : ℕ) (h : StatesLengths head t n) : Type 0 where
  pub first : ℕ
  pub later : List ℕ
  pub at_code : List ℕ
  pub at_token : List ℕ
  pub bytes : head ++ more ≡ first ∷ later
  pub read : ReadsLengths first later (n, at_code) (t, at_token)
  pub extension : length h.extension ≡ extension_of (first / 16)
  pub token_extension : length h.token_extension ≡ option_extension (first % 16)
  pub size : size_bytes (first ∷ later) ≡ length head

pub stated_read : (head more : List ℕ) (t n : ℕ) → (h : StatesLengths head t n) → ReadsStated head more t n h
stated_read head more t n h =
    let first = 16 * h.length_nibble + h.token_nibble in
    let front = code_and_extension h.code h.token_extension in
    let after = after_code h.code h.token_extension more in
    let r = reads_forms h.length_nibble h.token_nibble h.extension h.token_extension n t (front ++ more) after.0
    h.length_form h.token_form after.1 in
    let small : h.token_nibble < 15 = (option_form_bound h.token_nibble h.token_extension t h.token_form).0 in
    let above : first / 16 ≡ h.length_nibble = omega arith in
    let below : first % 16 ≡ h.token_nibble = omega arith in
    let k = (length_form_bound h.length_nibble h.extension n h.length_form).2 in
    let l = option_form_width h.token_nibble h.token_extension t h.token_form in
    record {
      first = first;
      later = h.extension ++ (front ++ more);
      at_code = front ++ more;
      at_token = after.0;
      bytes = rw (h.head, append_assoc) refl;
      read = r;
      extension = rw above k;
      token_extension = rw below l;
      size = grind (
        arith,
        nat_tests,
        ap length h.head,
        length-append h.extension front,
        code_length h.code h.token_extension,
      );
    }

-- ---- the sizes that bytes declare

-- A size that the first bytes state is declared.
pub size_declared : (s : List ℕ) (n : ℕ) → IsDeclaredSize s n → declared_of s ≡ Size n
size_declared s n d =
    let h = d.3 in
    let r = stated_read d.0 d.1 h.token_length h.body_length h.lengths in
    rw (d.2, r.bytes, r.read.declared) (grind (arith, nat_tests, h.short, h.size, r.extension, r.token_extension))

-- An invalid token length that the first bytes state is declared.
pub bad_token_declared : (s : List ℕ) → HasBadToken s → declared_of s ≡ BadToken
unfolding declared_of
bad_token_declared s bad =
    elim (bad.3) [
      | inl none ↦ rw (bad.2, none.1) (rw (eq-eqb (none.0 % 16) 15 none.2) refl)
      | inr long ↦
          let r = stated_read bad.0 bad.1 long.0 long.1 long.2 in
          rw (bad.2, r.bytes) (r.read.declared ∙ rw (lt-ltb greatest_token long.0 long.3) refl)
    ]

pub declared_nothing : declared_of [] ≡ Unknown
unfolding declared_of
declared_nothing = refl

declares_unknown : (s : List ℕ) → declared_of s ≡ Unknown → Declares s Unknown
declares_unknown s e = (λ bad. cc (bad_token_declared s bad, e), λ n d. cc (size_declared s n d, e))

-- ---- decoded lengths are stated

-- The forms of decoded lengths.
record HasForms (b : ℕ) (s : List ℕ) (y z : ℕ × List ℕ) : Type 0 where
  extension : List ℕ
  token_extension : List ℕ
  length_form : IsLengthForm (b / 16) extension y.0
  token_form : IsOptionForm (b % 16) token_extension z.0
  parts : s ≡ extension ++ y.1
  token_parts : drop 1 y.1 ≡ token_extension ++ z.1
  fits : AreBytes z.1
  first : b ≡ 16 * (b / 16) + b % 16
  width : length extension ≡ extension_of (b / 16)
  token_width : length token_extension ≡ option_extension (b % 16)

have_forms : (b : ℕ) (s : List ℕ) (y z : ℕ × List ℕ) → AreBytes (b ∷ s) → ReadsLengths b s y z → HasForms b s y z
have_forms b s y z fits r =
    let byte : b < 256 = fits 0 in
    let k = length_takes (b / 16) s y (AreBytes-tail (b ∷ []) s fits) (omega arith) r.body in
    let later = AreBytes-drop 1 y.1 (AreBytes-tail k.extension y.1 (rw k.parts at (AreBytes-tail (b ∷ []) s fits))) in
    let l = option_number_takes (b % 16) (drop 1 y.1) z later (omega (arith, r.nibble)) r.token in
    record {
      extension = k.extension;
      token_extension = l.extension;
      length_form = k.form;
      token_form = l.form;
      parts = k.parts;
      token_parts = l.parts;
      fits = AreBytes-tail l.extension z.1 (rw l.parts at later);
      first = omega arith;
      width = (length_form_bound (b / 16) k.extension y.0 k.form).2;
      token_width = option_form_width (b % 16) l.extension z.0 l.form;
    }

-- The code, and the bytes after the code and the extension.
record HasCode (s extension : List ℕ) : Type 0 where
  code : ℕ
  more : List ℕ
  parts : s ≡ code_and_extension code extension ++ more

code_before : (s extension later : List ℕ) → drop 1 s ≡ extension ++ later → HasCode s extension
code_before s [] later h = record { code = 0; more = s; parts = refl }
code_before [] (e ∷ es) later h = cc
code_before (c ∷ s) (e ∷ es) later h = record { code = c; more = later; parts = ap (λ l. c ∷ l) h }

-- The bytes that state the lengths, and the bytes after them.
record IsStated (b : ℕ) (s : List ℕ) (y z : ℕ × List ℕ) : Type 0 where
  head : List ℕ
  more : List ℕ
  bytes : b ∷ s ≡ head ++ more
  lengths : StatesLengths head z.0 y.0
  size : frame_size b z.0 y.0 ≡ 1 + length lengths.extension + 1 + length lengths.token_extension + z.0 + y.0

read_stated : (b : ℕ) (s : List ℕ) (y z : ℕ × List ℕ) → AreBytes (b ∷ s) → ReadsLengths b s y z → IsStated b s y z
read_stated b s y z fits r =
    let f = have_forms b s y z fits r in
    let c = code_before y.1 f.token_extension z.1 f.token_parts in
    record {
      head = b ∷ (f.extension ++ code_and_extension c.code f.token_extension);
      more = c.more;
      bytes = cc (f.parts, c.parts, append_assoc f.extension (code_and_extension c.code f.token_extension) c.more);
      lengths = record {
        length_nibble = b / 16;
        extension = f.extension;
        token_nibble = b % 16;
        code = c.code;
        token_extension = f.token_extension;
        length_form = f.length_form;
        token_form = f.token_form;
        head = cc f.first;
      };
      size = omega arith;
    }

-- The first bytes declare the result of `declared_of`.
pub declares : (s : List ℕ) → AreBytes s → Declares s (declared_of s)
declares [] fits = rw declared_nothing (declares_unknown [] declared_nothing)
declares (b ∷ s) fits =
    elim (head_kind b s) [
      | NoLength none d o h ↦ rw d (b ∷ [], s, refl, inl (b, refl, none))
      | Cut few d o h ↦ rw d (declares_unknown (b ∷ s) d)
      | Lengths y z r ↦
          let i = read_stated b s y z fits r in
          elim (cases_lt greatest_token z.0) [
            | inl long ↦
                rw (r.declared, lt-ltb greatest_token z.0 long)
                (i.head, i.more, i.bytes, inr (z.0, y.0, i.lengths, long))
            | inr short ↦ rw (r.declared, le-ltb greatest_token z.0 short) (
              i.head,
              i.more,
              i.bytes,
              record {
                token_length = z.0;
                body_length = y.0;
                lengths = i.lengths;
                short = short;
                size = i.size;
              },
            )
          ]
    ]

-- The first bytes declare no other result.
pub declared_only : (s : List ℕ) (d : Declared) → AreBytes s → Declares s d → d ≡ declared_of s
declared_only s (Size n) fits p = sym (size_declared s n p)
declared_only s BadToken fits p = sym (bad_token_declared s p)
declared_only s Unknown fits p = go (declared_of s) (declares s fits)
  where
    go : (d : Declared) → Declares s d → Unknown ≡ d
    go Unknown q = refl
    go (Size n) q = absurd (p.1 n q)
    go BadToken q = absurd (p.0 q)

-- ---- the head

pub head_nothing : head_at [] ≡ Err NotOneFrame
unfolding head_at
head_nothing = refl

-- The bytes of a decoded head encode it, and its body has bytes only.
head_spelled : (b : ℕ) (s : List ℕ) (y z : ℕ × List ℕ) → AreBytes (b ∷ s) → ReadsLengths b s y z
    → z.0 ≤ greatest_token → length (b ∷ s) ≡ frame_size b z.0 y.0
    → IsHeadAndBody (b ∷ s) (get_or y.1 0 0) (take z.0 z.1) (drop z.0 z.1) × AreBytes (drop z.0 z.1)
head_spelled b s y z fits r short whole =
    let f = have_forms b s y z fits r in
    let token : length (take z.0 z.1) ≡ z.0 = omega (arith, length-take z.0 z.1, length-drop 1 y.1) in
    let body : length (drop z.0 z.1) ≡ y.0 = omega (arith, length-drop z.0 z.1, length-drop 1 y.1) in
    let code : y.1 ≡ get_or y.1 0 0 ∷ drop 1 y.1 = drop_more y.1 0 0 (omega arith) in (
      record {
        length_nibble = b / 16;
        extension = f.extension;
        token_nibble = b % 16;
        token_extension = f.token_extension;
        length_form = rw body f.length_form;
        token_form = rw token (f.token_form, short);
        bytes = cc (take-append-drop z.0 z.1);
      },
      AreBytes-drop z.0 z.1 f.fits,
    )

-- The bytes of a decoded head encode it.
pub head_takes : (s : List ℕ) (h : Head) → AreBytes s → head_at s ≡ Ok h
    → IsHeadAndBody s h.code h.token h.body × AreBytes h.body
head_takes [] h fits e = cc head_nothing
head_takes (b ∷ s) h fits e =
    elim (head_kind b s) [
      | NoLength none d o bad ↦ cc
      | Cut few d o bad ↦ cc
      | Lengths y z r ↦
          let is : h ≡ record { code = get_or y.1 0 0; token = take z.0 z.1; body = drop z.0 z.1 } =
          grind (arith, nat_tests) in
          rw is (head_spelled b s y z fits r (grind (arith, nat_tests)) (grind (arith, nat_tests)))
    ]

-- The encoding of a head is decoded to it.
pub head_again : (s : List ℕ) (code : ℕ) (token body : List ℕ) → IsHeadAndBody s code token body
    → head_at s ≡ Ok (record { code = code; token = token; body = body })
head_again s code token body h =
    let later = token ++ body in
    let r = reads_forms h.length_nibble h.token_nibble h.extension h.token_extension (length body) (length token)
    (code ∷ (h.token_extension ++ later)) later h.length_form h.token_form.0 refl in
    rw (h.bytes, r.head) (grind (
      arith,
      nat_tests,
      take_at token body (length token) refl,
      drop_at token body (length token) refl,
      length-append h.extension (code ∷ (h.token_extension ++ later)),
      length-append h.token_extension later,
      length-append token body,
    ))

-- The head of a frame is decoded without an error.
pub frame_head : (s : List ℕ) → IsFrame s → (h : Head) × (head_at s ≡ Ok h)
frame_head s f =
    let e = size_declared s (length s) f in
    elim (head_facts s) [
      | inl bad ↦ cc
      | inr others ↦ elim others [
        | inl unknown ↦ cc
        | inr k ↦ (parts_of (get_or s k.1.code_at 0) k.1.token_length (drop k.1.token_at s), grind (arith, nat_tests))
      ]
    ]

-- A head and a body of the stated length are a frame.
pub head_frame : (s : List ℕ) (code : ℕ) (token body : List ℕ) → IsHeadAndBody s code token body → IsFrame s
head_frame s code token body h =
    let later = code ∷ (h.token_extension ++ (token ++ body)) in
    let c = code_before later h.token_extension (token ++ body) refl in
    let front = code_and_extension c.code h.token_extension in (
      (16 * h.length_nibble + h.token_nibble) ∷ (h.extension ++ front),
      c.more,
      cc (h.bytes, c.parts, append_assoc h.extension front c.more),
      record {
        token_length = length token;
        body_length = length body;
        lengths = record {
          length_nibble = h.length_nibble;
          extension = h.extension;
          token_nibble = h.token_nibble;
          code = c.code;
          token_extension = h.token_extension;
          length_form = h.length_form;
          token_form = h.token_form.0;
          head = refl;
        };
        short = h.token_form.1;
        size = omega (
          arith,
          ap length h.bytes,
          length-append h.extension later,
          length-append h.token_extension (token ++ body),
          length-append token body,
        );
      },
    )

-- ---- the error of a head

-- An invalid token length is an error.
pub bad_token_read : (s : List ℕ) → HasBadToken s → head_at s ≡ Err TokenLength
bad_token_read s bad = let e = bad_token_declared s bad in grind (arith, head_facts s)

not_one_frame : (s : List ℕ) → head_at s ≡ Err NotOneFrame → IsFirstFault s NotOneFrame
not_one_frame s e = (λ bad. cc (bad_token_read s bad), λ f. let h = frame_head s f in cc)

fault_by : (s : List ℕ) (e : FormatFault) → AreBytes s → head_at s ≡ Err e
    → ((declared_of s ≡ BadToken) × (e ≡ TokenLength)) ⊎ (e ≡ NotOneFrame) → IsFirstFault s e
fault_by s e fits h (inl p) = rw (p.1) (rw (p.0) at (declares s fits))
fault_by s e fits h (inr is) = rw is (not_one_frame s (rw is at h))

-- If decoding a head fails, the bytes have the error returned.
pub head_is_wrong : (s : List ℕ) (e : FormatFault) → AreBytes s → head_at s ≡ Err e → IsFirstFault s e
head_is_wrong s e fits h =
    fault_by s e fits h (elim (head_facts s) [
      | inl bad ↦ inl (bad.0, cc)
      | inr others ↦ elim others [ inl unknown ↦ inr cc | inr k ↦ inr (grind (arith, nat_tests)) ]
    ])

-- ---- more bytes

token_more : (x : ℕ) (s t : List ℕ) (z : ℕ × List ℕ) → option_number_at x (drop 1 s) ≡ Some z
    → (later : List ℕ) × (option_number_at x (drop 1 (s ++ t)) ≡ Some (z.0, later))
unfolding option_number_at one_byte_at two_bytes_at
token_more x [] t z e = (drop 1 t, grind (arith, nat_tests))
token_more x (c ∷ s) t z e = (z.1 ++ t, option_number_more x s t z e)

-- Decoded lengths stay the same when more bytes follow.
pub reads_more : (b : ℕ) (s t : List ℕ) (y z : ℕ × List ℕ) → ReadsLengths b s y z
    → (later : List ℕ) × ReadsLengths b (s ++ t) (y.0, y.1 ++ t) (z.0, later)
reads_more b s t y z r =
    let k = token_more (b % 16) y.1 t z r.token in
    (k.0, reads b (s ++ t) (y.0, y.1 ++ t) (z.0, k.0) r.nibble (length_more (b / 16) s t y r.body) k.1)

-- The declaration stays the same when more bytes follow, unless it is unknown.
pub known_more : (s t : List ℕ) → (declared_of s ≡ Unknown → ⊥)
    → (declared_of (s ++ t) ≡ declared_of s) × (outline_of (s ++ t) ≡ outline_of s)
unfolding declared_of outline_of
known_more [] t known = absurd (known refl)
known_more (b ∷ s) t known =
    elim (head_kind b s) [
      | NoLength none d o h ↦ (grind (arith, nat_tests), grind (arith, nat_tests))
      | Cut few d o h ↦ absurd (known d)
      | Lengths y z r ↦ let m = (reads_more b s t y z r).1 in (m.declared ∙ sym r.declared, m.outline ∙ sym r.outline)
    ]

-- The first byte determines the byte at which the size is known.
pub size_bytes_more : (s t : List ℕ) → 1 ≤ length s → size_bytes (s ++ t) ≡ size_bytes s
size_bytes_more [] t h = absurd (omega arith)
size_bytes_more (b ∷ s) t h = refl
