-- Requests reach a registry that calls reach, in which each registration has the attributes that name its endpoint.
use Rattle.std.proofs.Common.{arith}
use Rattle.std.proofs.Common.{◌≡◌, ℕ, Bool, true, false, cond, ◌&&◌, List, [], ◌∷◌, ◌++◌, length}
use Rattle.std.proofs.Common.{codes, nat_eq, nat_lt, nat_le, Option, Some, None, is_none, option_map, Result, Ok, Err}
use Rattle.std.proofs.Common.{refl, ap, subst, ◌∙◌}
use Rattle.std.specs.List.{list_all}
use Rattle.std.proofs.lemmas.Bool.{cond_both}
use Rattle.coap_wire.specs.Message.{CoapOption, Message}
use Rattle.coap_wire.specs.Codes.{get, post, delete}
use Rattle.directory_links.specs.Links.{Attribute, is_attribute}
use Rattle.directory_registry.specs.IndexViews.{Each}
use Rattle.directory_registry.specs.Registrations.{RegistrationValue, RegistryValue, place_of, registered, attributed}
use Rattle.directory_registry.specs.Registrations.{updated, renewed, expired, removed, found_at, with_change}
use Rattle.directory_registry.specs.Registrations.{with_attributes, has_location}
use Rattle.directory_registry.specs.Registrations.{registered_at}
use Rattle.directory_registry.specs.Reached.{Reached, AfterRegistration, AfterUpdate, AfterAttributes, AfterRemoval}
use Rattle.directory_registry.specs.Reached.{AfterExpiry}
use Rattle.directory_registry.specs.Reached as registry
use Rattle.directory_registry.proofs.EntryLemmas.{each_filter}
use Rattle.directory_registry.proofs.ReachedLemmas.{Entry, each_without, each_registered}
use Rattle.directory_core.specs.Requests.{named, repeats_parameter, segments, route_of}
use Rattle.directory_core.specs.Parameters.{has_allowed_name, given, merged, endpoint_type}
use Rattle.directory_core.specs.Conditions.{conditions_hold}
use Rattle.directory_core.specs.declared.refusal.Refusal.{Refusal}
use Rattle.directory_core.specs.declared.refusal.Refusal.TheVariants as refusal
use Rattle.directory_core.specs.declared.reply.Reply.{Reply}
use Rattle.directory_core.specs.declared.reply.Reply.TheVariants as reply
use Rattle.directory_core.specs.declared.route.Route.{Route}
use Rattle.directory_core.specs.declared.route.Route.TheVariants as route
use Rattle.directory_core.specs.Changes.{◌>>=◌, or_refused, only_if, key_with, identified, limited}
use Rattle.directory_core.specs.Changes.{attributes_in, registered_attributes, links_in, prepared, registering}
use Rattle.directory_core.specs.Changes.{renewing, update_parts, attributes_after}
use Rattle.directory_core.specs.Changes.{attributed_if, updating_with, attributes_at_location, updating}
use Rattle.directory_core.specs.Replies.{DirectoryValue, at_time, created, if_holds, registration_reply}
use Rattle.directory_core.specs.Replies.{update_reply, removal_reply, location_reply, found_reply, lookup_reply}
use Rattle.directory_core.specs.Replies.{reply_at, replying}
use Rattle.directory_core.specs.Endpoints.{ReachedDirectory, Begun, AfterRequest, IsNamed, AreNamed}
use Rattle.directory_core.proofs.AttributeLemmas.{same_list, each_given}
use Rattle.directory_core.proofs.EndpointLemmas.{registered_is_named, updated_is_named}

-- ---- the entries of a registry

module _ (Q : Entry → Type 0) where
  renewed_kept : (now : ℕ) (lifetime : Option ℕ) (base : Option (List ℕ)) (n : ℕ) (es : List Entry)
      → ((key : List ℕ) (r : RegistrationValue) → Q (key, r) → Q (key, renewed now lifetime base r))
      → Each Q es → Each Q (with_change (renewed now lifetime base) n es)
  renewed_kept now lifetime base n [] keeps all = tt
  renewed_kept now lifetime base n (e ∷ es) keeps all =
      cond_both (nat_eq e.1.number n) _ _ (Each Q) (λ k. (keeps e.0 e.1 all.0, all.1))
      (λ k. (all.0, renewed_kept now lifetime base n es keeps all.1))

  attributed_kept : (attributes : List Attribute) (n : ℕ) (r : RegistrationValue) (es : List Entry)
      → ((key : List ℕ) → Q (key, r) → Q (key, with_attributes attributes r)) → found_at es n ≡ Some r
      → Each Q es → Each Q (with_change (with_attributes attributes) n es)
  attributed_kept attributes n r [] keeps there all = tt
  attributed_kept attributes n r (e ∷ es) keeps there all =
      cond_both (nat_eq e.1.number n) _ _ (Each Q)
      (λ k.
      let this : r ≡ e.1 = cc (rw k at there) in
      (subst (λ x. Q (e.0, x) → Q (e.0, with_attributes attributes x)) this (keeps e.0) all.0, all.1))
      (λ k. (all.0, attributed_kept attributes n r es keeps (rw k at there) all.1))

-- ---- results that are no refusals

pub bound : {A B : Type 0} → (r : Result A Refusal) (f : A → Result B Refusal) (y : B) (G : Type 0) → (r >>= f) ≡ Ok y
    → ((x : A) → r ≡ Ok x → f x ≡ Ok y → G) → G
bound (Ok x) f y G h k = k x refl h
bound (Err e) f y G h k = absurd cc

abbrev pub value : {A : Type 0} → A → Result A Refusal
value x = Ok x

pub same_value : {A : Type 0} → (x y : A) → value x ≡ value y → x ≡ y
same_value x y h = cc

pub not_refused : {A : Type 0} → (e : Refusal) (o : Option A) (x : A) → or_refused e o ≡ Ok x → o ≡ Some x
not_refused e None x h = absurd cc
not_refused e (Some y) x h = cc

pub test_holds : {A : Type 0} → (test : Bool) (e : Refusal) (x y : A) → only_if test e x ≡ Ok y
    → (test ≡ true) × (x ≡ y)
test_holds true e x y h = (refl, cc)
test_holds false e x y h = absurd cc

identified_key : (os : List CoapOption) (parts : List ℕ × ℕ × List ℕ) → identified os ≡ Ok parts
    → (repeats_parameter os ≡ false) × (key_with (named (codes "d") os) (named (codes "ep") os) ≡ Some parts.0)
unfolding identified
identified_key os parts h = grind (arith, h)

attributes_given : (os : List CoapOption) (attributes : List Attribute) → attributes_in os ≡ Ok attributes
    → (list_all has_allowed_name os ≡ true) × (given os ≡ attributes)
unfolding attributes_in
attributes_given os attributes h = grind (arith, h)

pub attributes_valid : (os : List CoapOption) (attributes : List Attribute) → attributes_in os ≡ Ok attributes
    → list_all is_attribute attributes ≡ true
unfolding attributes_in
attributes_valid os attributes h = grind (arith, h, each_given os)

-- ---- registrations

prepared_named : (now : ℕ) (m : Message) (made : List ℕ × RegistrationValue) → prepared now m ≡ Ok made
    → IsNamed made.0 made.1.attributes
unfolding prepared
prepared_named now m made h =
    bound (identified m.options) _ made Goal h (λ parts i h2.
    bound (registered_attributes m.options) _ made Goal h2 (λ attributes j h3.
    bound (links_in m.payload) _ made Goal h3 (λ links l last.
    let key = identified_key m.options parts i in
    let this = same_value _ made last in
    let same_key = ap (λ (x : List ℕ × RegistrationValue). x.0) this in
    let same_attributes = ap (λ (x : List ℕ × RegistrationValue). x.1.attributes) this in
    bound (attributes_in m.options) _ attributes Goal j (λ list k few.
    let from = attributes_given m.options list k in
    let all = (test_holds (nat_le (length (list ++ endpoint_type ∷ [])) 64) refusal.Many
    (list ++ endpoint_type ∷ []) attributes few).1 in
    subst (λ (key : List ℕ). IsNamed key made.1.attributes) same_key
    (subst (λ (a : List Attribute). IsNamed parts.0 a)
    (ap (λ (g : List Attribute). g ++ endpoint_type ∷ []) from.1 ∙ all ∙ same_attributes)
    (registered_is_named m.options parts.0 from.0 key.0 key.1))))))
  where
    Goal : Type 0
    Goal = IsNamed made.0 made.1.attributes

pub registering_kept : (Q : Entry → Type 0) (v : RegistryValue) (now : ℕ) (m : Message) (x : ℕ × RegistryValue)
    → ((made : List ℕ × RegistrationValue) (number : ℕ) → prepared now m ≡ Ok made → place_of v made.0 ≡ Some number
    → Q (made.0, record made.1 { number = number }))
    → registering v now m ≡ Ok x → Each Q v.entries → Each Q x.1.entries
unfolding registering
registering_kept Q v now m x holds h all =
    bound (prepared now m) _ x Goal h (λ made i h2.
    bound (or_refused refusal.Full (place_of v made.0)) _ x Goal h2 (λ number j last.
    let this : registered v made.0 (record made.1 { number = number }) ≡ x.1 = cc in
    let is = holds made number i (not_refused refusal.Full (place_of v made.0) number j) in
    subst (λ (w : RegistryValue). Each Q w.entries) this
    (each_registered Q v made.0 (record made.1 { number = number }) is
    (λ k h3. subst (λ (key : List ℕ). Q (key, record made.1 { number = number })) (same_list made.0 k h3) is) all)))
  where
    Goal : Type 0
    Goal = Each Q x.1.entries

-- ---- updates

renewing_key : (os : List CoapOption) (parts : Option ℕ × Option (List ℕ)) → renewing os ≡ Ok parts
    → (is_none (named (codes "ep") os) && is_none (named (codes "d") os)) ≡ true
unfolding renewing
renewing_key os parts h = grind (arith, h)

changed_kept : (Q : Entry → Type 0) (v : RegistryValue) (number : ℕ) (new : List Attribute)
    (y : Option (List Attribute))
    → ((key : List ℕ) (r : RegistrationValue) → Q (key, r) → Q (key, with_attributes (merged r.attributes new) r))
    → attributes_after (attributes_at_location v number) new ≡ Ok y → Each Q v.entries
    → Each Q (attributed_if v number y).entries
unfolding attributed
changed_kept Q v number new y keeps h all = by (found_at v.entries number) refl new keeps h
  where
    Goal : Type 0
    Goal = Each Q (attributed_if v number y).entries

    as_before : None ≡ y → Goal
    as_before i = subst (λ (o : Option (List Attribute)). Each Q (attributed_if v number o).entries) i all

    by : (o : Option RegistrationValue) → found_at v.entries number ≡ o → (new : List Attribute)
        → ((key : List ℕ) (r : RegistrationValue) → Q (key, r) → Q (key, with_attributes (merged r.attributes new) r))
        → attributes_after (option_map (λ (r : RegistrationValue). r.attributes) o) new ≡ Ok y → Goal
    by o e [] keep k = as_before cc
    by None e (a ∷ new) keep k = as_before cc
    by (Some r) e (a ∷ new) keep k =
        bound (limited (merged r.attributes (a ∷ new))) _ y Goal k (λ attributes i last.
        let this : Some attributes ≡ y = cc in
        let list = (test_holds (nat_le (length (merged r.attributes (a ∷ new))) 64) refusal.Many
        (merged r.attributes (a ∷ new)) attributes i).1 in
        subst (λ (o : Option (List Attribute)). Each Q (attributed_if v number o).entries) this
        (attributed_kept Q attributes number r v.entries
        (λ key is. subst (λ (l : List Attribute). Q (key, with_attributes l r)) list (keep key r is)) e all))

-- The parameters of an update with these options.
pub record IsUpdate (os : List CoapOption) (parts : Option ℕ × Option (List ℕ)) (list : List Attribute) : Type 0 where
  pub renews : renewing os ≡ Ok parts
  pub gives : attributes_in os ≡ Ok list

pub updating_kept : (Q : Entry → Type 0) (now : ℕ) (m : Message)
    → ((parts : Option ℕ × Option (List ℕ)) (list : List Attribute) → IsUpdate m.options parts list
    → (key : List ℕ) (r : RegistrationValue) → Q (key, r)
    → Q (key, renewed now parts.0 parts.1 r) × Q (key, with_attributes (merged r.attributes list) r))
    → (v : RegistryValue) (number : ℕ) → Each Q v.entries → Each Q (updating v now number m).1.entries
unfolding updating updated
updating_kept Q now m keeps v number all = by (nat_eq (length m.payload) 0) result refl
  where
    result : Result ((Option ℕ × Option (List ℕ)) × Option (List Attribute)) Refusal
    result =
        update_parts m.options >>= λ x.
        attributes_after (attributes_at_location v number) x.1 >>= λ attributes.
        Ok (x.0, attributes)

    by : (empty : Bool) (r : Result ((Option ℕ × Option (List ℕ)) × Option (List Attribute)) Refusal) → result ≡ r
        → Each Q (cond empty (updating_with v now number r) (Err refusal.Payload, v)).1.entries
    by false r e = all
    by true (Err error) e = all
    by true (Ok x) e =
        bound (update_parts m.options) _ x Kept e (λ parts i e2.
        bound (attributes_after (attributes_at_location v number) parts.1) _ x Kept e2 (λ attributes j last.
        bound (renewing m.options) _ parts Kept i (λ renewal k i2.
        bound (attributes_in m.options) _ parts Kept i2 (λ list l i3.
        let this = same_value _ x last in
        let read = same_value _ parts i3 in
        let is = keeps renewal list (record { renews = k; gives = l }) in
        let new = ap (λ (y : (Option ℕ × Option (List ℕ)) × List Attribute). y.1) read in
        let times = ap (λ (y : (Option ℕ × Option (List ℕ)) × List Attribute). y.0) read
        ∙ ap (λ (y : (Option ℕ × Option (List ℕ)) × Option (List Attribute)). y.0) this in
        let given = ap (λ (y : (Option ℕ × Option (List ℕ)) × Option (List Attribute)). y.1) this in
        renewed_kept Q now x.0.0 x.0.1 number (attributed_if v number x.1).entries
        (λ key r q. subst (λ (y : Option ℕ × Option (List ℕ)). Q (key, renewed now y.0 y.1 r)) times (is key r q).0)
        (subst (λ (o : Option (List Attribute)). Each Q (attributed_if v number o).entries) given
        (changed_kept Q v number parts.1 attributes
        (λ key r q. subst (λ (g : List Attribute). Q (key, with_attributes (merged r.attributes g) r)) new
        (is key r q).1)
        j all))))))
      where
        Kept : Type 0
        Kept =
            Each Q (with_change (renewed now x.0.0 x.0.1) number (attributed_if v number x.1).entries)

-- ---- registries that calls reach

registering_reached : (v : RegistryValue) (now : ℕ) (m : Message) (x : ℕ × RegistryValue) → registering v now m ≡ Ok x
    → Reached v → Reached x.1
unfolding registering
registering_reached v now m x h before =
    bound (prepared now m) _ x (Reached x.1) h (λ made i h2.
    bound (or_refused refusal.Full (place_of v made.0)) _ x (Reached x.1) h2 (λ number j last.
    let place = not_refused refusal.Full (place_of v made.0) number j in
    let this : registered v made.0 (record made.1 { number = number }) ≡ x.1 = cc in
    subst (λ (w : RegistryValue). Reached w) (ap (λ (o : Option ℕ). registered_at o v made.0 made.1) place ∙ this)
    (AfterRegistration v made.0 made.1 before)))

updating_reached : (v : RegistryValue) (now number : ℕ) (m : Message) → Reached v → Reached (updating v now number m).1
unfolding updating
updating_reached v now number m before = by (nat_eq (length m.payload) 0) result
  where
    result : Result ((Option ℕ × Option (List ℕ)) × Option (List Attribute)) Refusal
    result =
        update_parts m.options >>= λ x.
        attributes_after (attributes_at_location v number) x.1 >>= λ attributes.
        Ok (x.0, attributes)

    with_given : (given : Option (List Attribute)) → Reached (attributed_if v number given)
    with_given None = before
    with_given (Some attributes) = AfterAttributes v number attributes before

    by : (empty : Bool) (r : Result ((Option ℕ × Option (List ℕ)) × Option (List Attribute)) Refusal)
        → Reached (cond empty (updating_with v now number r) (Err refusal.Payload, v)).1
    by false r = before
    by true (Err error) = before
    by true (Ok x) = AfterUpdate (attributed_if v number x.1) number now x.0.0 x.0.1 (with_given x.1)

-- ---- each request keeps what each change of the registrations keeps

module _ (P : RegistryValue → Type 0)
    (registers : (v : RegistryValue) (now : ℕ) (m : Message) (x : ℕ × RegistryValue) → registering v now m ≡ Ok x → P v
    → P x.1)
    (updates : (v : RegistryValue) (now number : ℕ) (m : Message) → P v → P (updating v now number m).1)
    (removes : (v : RegistryValue) (number : ℕ) → P v → P (removed v number))
    (expires : (v : RegistryValue) (now : ℕ) → P v → P (expired v now))
    (begins : (limit : ℕ) → P (record { entries = []; next = 1; limit = limit })) where
  met : (exists : Bool) (d : DirectoryValue) (m : Message) (replied : Reply × DirectoryValue) → P d.registry
      → P replied.1.registry → P (if_holds exists d m replied).1.registry
  met exists d m replied before after =
      cond_both (conditions_hold exists m.options) _ _ (λ (x : Reply × DirectoryValue). P x.1.registry) (λ h. after)
      (λ h. before)

  created_kept : (d : DirectoryValue) (r : Result (ℕ × RegistryValue) Refusal)
      → ((x : ℕ × RegistryValue) → r ≡ Ok x → P x.1) → P d.registry → P (created d r).1.registry
  created_kept d (Ok x) after before = after x refl
  created_kept d (Err e) after before = before

  reply_kept : (d : DirectoryValue) (now limit : ℕ) (m : Message) (r : Route) → P d.registry
      → P (reply_at d now limit m r).1.registry
  unfolding registration_reply location_reply lookup_reply
  reply_kept d now limit m route.Registrations before = by (nat_eq m.code post)
    where
      after : P (created d (registering d.registry now m)).1.registry
      after =
          created_kept d (registering d.registry now m) (λ x h. registers d.registry now m x h before) before

      by : (b : Bool) → P (cond b (if_holds true d m (created d (registering d.registry now m)))
          (reply.Refused refusal.Method, d)).1.registry
      by true = met true d m (created d (registering d.registry now m)) before after
      by false = before
  reply_kept d now limit m (route.Location number) before = by (nat_eq m.code post) (nat_eq m.code delete)
    where
      there : Bool
      there = has_location d.registry number

      by : (update removal : Bool) → P (cond update (if_holds there d m (update_reply d now number m))
          (cond removal (if_holds there d m (removal_reply d number)) (reply.Refused refusal.Method, d))).1.registry
      by true removal = met there d m (update_reply d now number m) before (updates d.registry now number m before)
      by false true = met there d m (removal_reply d number) before (removes d.registry number before)
      by false false = before
  reply_kept d now limit m route.Endpoints before = by (nat_eq m.code get)
    where
      by : (b : Bool) → P (cond b (if_holds true d m (found_reply d true limit m))
          (reply.Refused refusal.Method, d)).1.registry
      by true = met true d m (found_reply d true limit m) before before
      by false = before
  reply_kept d now limit m route.Resources before = by (nat_eq m.code get)
    where
      by : (b : Bool) → P (cond b (if_holds true d m (found_reply d false limit m))
          (reply.Refused refusal.Method, d)).1.registry
      by true = met true d m (found_reply d false limit m) before before
      by false = before
  reply_kept d now limit m route.Elsewhere before = before

  pub reached_kept : (d : DirectoryValue) → ReachedDirectory d → P d.registry
  unfolding replying
  reached_kept _ (Begun limit capacity) = begins limit
  reached_kept _ (AfterRequest d now limit m before) =
      reply_kept (at_time d now) now limit m (route_of (segments m.options))
      (expires d.registry now (reached_kept d before))

-- ---- the names of endpoints

abbrev IsNamedEntry : Entry → Type 0
IsNamedEntry e = IsNamed e.0 e.1.attributes

registering_named : (v : RegistryValue) (now : ℕ) (m : Message) (x : ℕ × RegistryValue) → registering v now m ≡ Ok x
    → Each IsNamedEntry v.entries → Each IsNamedEntry x.1.entries
registering_named v now m x h all =
    registering_kept IsNamedEntry v now m x (λ made number i place. prepared_named now m made i) h all

updating_named : (v : RegistryValue) (now number : ℕ) (m : Message) → Each IsNamedEntry v.entries
    → Each IsNamedEntry (updating v now number m).1.entries
updating_named v now number m all =
    updating_kept IsNamedEntry now m (λ parts list is key r named.
    let from = attributes_given m.options list is.gives in
    let none = renewing_key m.options parts is.renews in (
      named,
      subst (λ (g : List Attribute). IsNamed key (merged r.attributes g)) from.1
          (updated_is_named m.options key r.attributes from.0 none named),
    )) v number all

pub reached_named : (d : DirectoryValue) → ReachedDirectory d → AreNamed d
unfolding expired removed
reached_named =
    reached_kept (λ v. Each IsNamedEntry v.entries) registering_named updating_named
    (λ v number all. each_without IsNamedEntry number v.entries all)
    (λ v now all. each_filter _ (λ e. nat_lt now e.1.deadline) v.entries all) (λ limit. tt)

pub reached_registry : (d : DirectoryValue) → ReachedDirectory d → Reached d.registry
reached_registry = reached_kept Reached registering_reached updating_reached AfterRemoval AfterExpiry registry.Begun
