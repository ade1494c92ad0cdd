-- The options collected from all recognised options are those of the request.
use Rattle.std.proofs.Common.{◌≡◌, ℕ, Bool, true, false, ◌||◌, ◌==◌, cond, List, [], ◌∷◌, map, filter, Option, Some}
use Rattle.std.proofs.Common.{None, refl, sym, ap, ◌∙◌, arith}
use Rattle.coap_store.specs.Prelude.{CoapOption, Message, known_options, values_of, value_of, has_option, path_of}
use Rattle.coap_store.specs.Prelude.{is_given, first_or_none, match_along, place_at, RequestOptions, nothing}
use Rattle.coap_store.specs.Prelude.{first_given, options_after, all_noted, AreOptionsOf}
use Rattle.coap_wire.specs.OptionNumbers as numbers
use Rattle.coap_store.proofs.RequestLemmas.{has_number, values_in}
use Rattle.coap_path.proofs.MatchLemmas.{place_by_match}

pub or_none_more : (b : Bool) → (b || false) ≡ b
or_none_more true = refl
or_none_more false = refl

-- The presence of an option.
module _ (field : RequestOptions → Bool) (number : ℕ)
    (step : (n : RequestOptions) (o : CoapOption) → field (options_after n o) ≡ (field n || o.number == number)) where
  pub flag_noted : (n : RequestOptions) (os : List CoapOption)
      → field (all_noted n os) ≡ (field n || is_given (values_in number os))
  flag_noted n [] = sym (or_none_more (field n))
  flag_noted n (o ∷ os) = grind (arith, flag_noted (options_after n o) os, step n o)

pub or_one : (b : Bool) → (b || true) ≡ true
or_one true = refl
or_one false = refl

-- A value of another option is not kept.
pub not_given : (first : Option (List ℕ)) (value : List ℕ) → first_given first false value ≡ first
not_given None value = refl
not_given (Some v) value = refl

-- An option that changes nothing.
pub nothing_noted : (n : RequestOptions) (o : CoapOption) → (o.number == numbers.uri_path) ≡ false
    → (o.number == numbers.if_match) ≡ false → (o.number == numbers.etag) ≡ false
    → (o.number == numbers.if_none_match) ≡ false → (o.number == numbers.proxy_uri) ≡ false
    → (o.number == numbers.proxy_scheme) ≡ false → (o.number == numbers.observe) ≡ false
    → (o.number == numbers.content_format) ≡ false → (o.number == numbers.uri_query) ≡ false
    → (o.number == numbers.accept) ≡ false → n ≡ options_after n o
unfolding options_after
nothing_noted n o a b c d e f g h i j = rw (a, b, c, d, e, f, g, h, i, j) (simp (or_none_more, not_given))

-- The first of two values.
abbrev or_first : Option (List ℕ) → Option (List ℕ) → Option (List ℕ)
or_first None second = second
or_first (Some first) second = Some first

or_none : (first : Option (List ℕ)) → first ≡ or_first first None
or_none None = refl
or_none (Some v) = refl

first_moved : (first : Option (List ℕ)) (here : Bool) (o : CoapOption) (os : List CoapOption)
    → or_first (first_given first here o.value) (first_or_none (map (λ (o : CoapOption). o.value) os))
    ≡ or_first first (first_or_none (map (λ (o : CoapOption). o.value) (cond here (o ∷ os) os)))
first_moved (Some v) here o os = refl
first_moved None true o os = refl
first_moved None false o os = refl

module _ (field : RequestOptions → Option (List ℕ)) (number : ℕ) (step : (n : RequestOptions) (o : CoapOption)
    → field (options_after n o) ≡ first_given (field n) (o.number == number) o.value) where
  pub first_noted : (n : RequestOptions) (os : List CoapOption)
      → field (all_noted n os) ≡ or_first (field n) (first_or_none (values_in number os))
  first_noted n [] = or_none (field n)
  first_noted n (o ∷ os) =
      rw (first_noted (options_after n o) os, step n o)
      (first_moved (field n) (has_number number o) o (filter (has_number number) os))

-- The state of matching the path.
match_noted : (n : RequestOptions) (os : List CoapOption)
    → (all_noted n os).matched ≡ match_along n.matched (values_in numbers.uri_path os)
unfolding options_after
match_noted n [] = refl
match_noted n (o ∷ os) = grind (arith, match_noted (options_after n o) os)

-- All recognised options of a request.
pub scan_options : (m : Message) → AreOptionsOf m (all_noted nothing (known_options m.options))
unfolding options_after has_option value_of values_of
scan_options m =
    let os = known_options m.options in
    record {
      place = ap place_at (match_noted nothing os) ∙ place_by_match (path_of m);
      if_match = flag_noted (λ n. n.if_match) numbers.if_match (λ n o. refl) nothing os;
      etag = flag_noted (λ n. n.etag) numbers.etag (λ n o. refl) nothing os;
      if_none_match = flag_noted (λ n. n.if_none_match) numbers.if_none_match (λ n o. refl) nothing os;
      proxy_uri = flag_noted (λ n. n.proxy_uri) numbers.proxy_uri (λ n o. refl) nothing os;
      proxy_scheme = flag_noted (λ n. n.proxy_scheme) numbers.proxy_scheme (λ n o. refl) nothing os;
      observe = first_noted (λ n. n.observe) numbers.observe (λ n o. refl) nothing os;
      content_format = first_noted (λ n. n.content_format) numbers.content_format (λ n o. refl) nothing os;
      query = first_noted (λ n. n.query) numbers.uri_query (λ n o. refl) nothing os;
      accept = first_noted (λ n. n.accept) numbers.accept (λ n o. refl) nothing os;
    }

pub ruleset note_steps = (or_none_more, or_one, not_given, nothing_noted)
