-- Each definition of the component may stand behind those before it.
use Rattle.std.proofs.Common.{◌≡◌, ◌<◌, ◌≤◌, ◌+◌, ℕ, suc, true, false, List, [], ◌∷◌, ◌++◌, map, length, None, refl, sym, ap, subst, ◌∙◌, append-nil, append_assoc, arith}
use Rattle.std.specs.List.{All, list_all, flat_map}
use Rattle.std.specs.Prelude.{if◌then◌else◌}
use Rattle.std.proofs.lemmas.Bool.{and_parts, and_from}
use Rattle.std.proofs.lemmas.List.{length-map, length-append}
use Rattle.std.proofs.lemmas.List.Elements.{All-nil, All-cons}
use Rattle.distinct_names.specs.Names.{is_new, all_new}
use Rattle.binary_grammar.specs.Several.{grown}
use Rattle.component_sections.specs.Passed.component_entries-Entries.{DefinedValue, nothing}
use Rattle.component_sections.specs.Component.{with_definition, Follow}
use Rattle.known_definitions.specs.Definition.{DefinitionValue, ArgumentValue, InlineExportValue, core_module_of, instantiation_of, inline_of, alias_of, type_of, lift_of, lower_of, import_of, export_of}
use Rattle.known_definitions.specs.Known.{definition_of}
use Rattle.known_definitions.proofs.Following.{module_follows, lower_follows, lift_follows, import_follows, export_follows, alias_follows, inline_follows, instantiation_follows, type_follows}
use Rattle.plain_worlds.specs.World.{FunctionItem, function_fits, functions_fit, world_fits}
use Rattle.wit_component.specs.CoreNames.{root, standard}
use Rattle.wit_component.specs.Linking.{Linking}
use Rattle.wit_component.specs.Table.{needed, is_needed}
use Rattle.wit_component.specs.Places.{Places, ArePlaces}
use Rattle.wit_component.specs.Component.{numbered, types_of, is_given_under, given_at, given_under, argument_for, instance_with, instances_for, arguments_for, import_side, instance_side, export_side, component_of}
use Rattle.wit_component.specs.Written.{among}
use Rattle.wit_component.proofs.WrittenGiven.{arguments_within}
use Rattle.wit_component.proofs.WrittenNames.{parameters_differ, names_of, functions_differ, some_fit, all_new_without}
use Rattle.wit_component.proofs.WrittenLinks.{names_for, text_at, placed_length, placed_texts}
use Rattle.wit_component.proofs.WrittenComponent.{aliases_agree}

-- how many of each sort there are, and which names
pub record Counted (k : DefinedValue) (modules instances core_functions functions types : ℕ) (imports exports : List (List ℕ)) : Type 0 where
  pub modules_are : k.scope.core_modules ≡ modules
  pub instances_are : k.scope.core_instances ≡ instances
  pub core_functions_are : k.scope.core_functions ≡ core_functions
  pub functions_are : k.scope.functions ≡ functions
  pub types_are : k.scope.types ≡ types
  pub imports_are : k.imports ≡ imports
  pub exports_are : k.exports ≡ exports

-- the definitions may stand behind what is known, and then this is there
pub record Leads (k : DefinedValue) (ds : List DefinitionValue) (modules instances core_functions functions types : ℕ) (imports exports : List (List ℕ)) : Type 0 where
  pub follow : Follow k (among ds)
  pub counted : Counted (grown with_definition k (among ds)) modules instances core_functions functions types imports exports

module _ (m i c f t : ℕ) (is es : List (List ℕ)) where
  pub leads_on : (k : DefinedValue) (ds more : List DefinitionValue) → Follow k (among ds) → Leads (grown with_definition k (among ds)) more m i c f t is es → Leads k (ds ++ more) m i c f t is es
  leads_on k [] more h rest = rest
  leads_on k (d ∷ ds) more h rest =
      let next = leads_on (with_definition k (definition_of d)) ds more h.1 rest in
      record { follow = (h.0, next.follow); counted = next.counted }

pub follow_on : (k : DefinedValue) (ds more : List DefinitionValue) → Follow k (among ds) → Follow (grown with_definition k (among ds)) (among more) → Follow k (among (ds ++ more))
follow_on k [] more h rest = rest
follow_on k (d ∷ ds) more h rest = (h.0, follow_on (with_definition k (definition_of d)) ds more h.1 rest)

-- ---- types

types_lead : (fs : List FunctionItem) (k : DefinedValue) (m i c f t u : ℕ) (is es : List (List ℕ)) → list_all function_fits fs ≡ true → Counted k m i c f t is es → u ≡ t + length fs → Leads k (types_of fs) m i c f u is es
types_lead [] k m i c f t u is es fit h e = record { follow = tt; counted = subst (λ n. Counted k m i c f n is es) (omega (arith, e)) h }
types_lead (g ∷ gs) k m i c f t u is es fit h e =
    let parts = and_parts (function_fits g) (list_all function_fits gs) fit in
    let k2 = with_definition k (definition_of (type_of g.ty)) in
    let h2 : Counted k2 m i c f (suc t) is es =
    record { modules_are = h.modules_are; instances_are = h.instances_are; core_functions_are = h.core_functions_are; functions_are = h.functions_are; types_are = ap suc h.types_are; imports_are = h.imports_are; exports_are = h.exports_are } in
    let rest = types_lead gs k2 m i c f (suc t) u is es parts.1 h2 (omega (arith, e)) in
    record { follow = (type_follows k g.ty (parameters_differ g parts.0), rest.follow); counted = rest.counted }

-- ---- imports

imports_lead : (fs : List FunctionItem) (n : ℕ) (k : DefinedValue) (m i c f t v : ℕ) (is es : List (List ℕ)) → n + length fs ≤ t → all_new is (names_of fs) ≡ true → Counted k m i c f t is es → v ≡ f + length fs
    → Leads k (numbered (λ n f. import_of f.name n) n fs) m i c v t (is ++ names_of fs) es
imports_lead [] n k m i c f t v is es few new h e =
    record { follow = tt; counted = subst (λ w. Counted k m i c w t (is ++ []) es) (omega (arith, e)) (subst (λ ns. Counted k m i c f t ns es) (sym (append-nil is)) h) }
imports_lead (g ∷ gs) n k m i c f t v is es few new h e =
    let parts = and_parts (is_new is g.name) (all_new (is ++ g.name ∷ []) (names_of gs)) new in
    let fresh : is_new k.imports g.name ≡ true = ap (λ ns. is_new ns g.name) h.imports_are ∙ parts.0 in
    let there : n < k.scope.types = omega (arith, few, h.types_are) in
    let k2 = with_definition k (definition_of (import_of g.name n)) in
    let more : k2.imports ≡ is ++ g.name ∷ [] = rw fresh (ap (λ ns. ns ++ g.name ∷ []) h.imports_are) in
    let h2 : Counted k2 m i c (suc f) t (is ++ g.name ∷ []) es =
    record { modules_are = h.modules_are; instances_are = h.instances_are; core_functions_are = h.core_functions_are; functions_are = ap suc h.functions_are; types_are = h.types_are; imports_are = more; exports_are = h.exports_are } in
    let rest = imports_lead gs (suc n) k2 m i c (suc f) t v (is ++ g.name ∷ []) es (omega (arith, few)) parts.1 h2 (omega (arith, e)) in
    record { follow = (import_follows k g.name n fresh there, rest.follow); counted = subst (λ ns. Counted (grown with_definition k2 (among (numbered (λ n f. import_of f.name n) (suc n) gs))) m i c v t ns es) (append_assoc is (g.name ∷ []) (names_of gs)) rest.counted }

-- ---- exports

exports_lead : (fs : List FunctionItem) (n : ℕ) (k : DefinedValue) (m i c f t : ℕ) (is es : List (List ℕ)) → n + length fs ≤ f → all_new es (names_of fs) ≡ true → Counted k m i c f t is es
    → Follow k (among (numbered (λ n f. export_of f.name n None) n fs))
exports_lead [] n k m i c f t is es few new h = tt
exports_lead (g ∷ gs) n k m i c f t is es few new h =
    let parts = and_parts (is_new es g.name) (all_new (es ++ g.name ∷ []) (names_of gs)) new in
    let fresh : is_new k.exports g.name ≡ true = ap (λ ns. is_new ns g.name) h.exports_are ∙ parts.0 in
    let there : n < k.scope.functions = omega (arith, few, h.functions_are) in
    let k2 = with_definition k (definition_of (export_of g.name n None)) in
    let more : k2.exports ≡ es ++ g.name ∷ [] = rw fresh (ap (λ ns. ns ++ g.name ∷ []) h.exports_are) in
    let h2 : Counted k2 m i c (suc f) t is (es ++ g.name ∷ []) =
    record { modules_are = h.modules_are; instances_are = h.instances_are; core_functions_are = h.core_functions_are; functions_are = ap suc h.functions_are; types_are = h.types_are; imports_are = h.imports_are; exports_are = more } in
    (export_follows k g.name n fresh there, exports_lead gs (suc n) k2 m i c (suc f) t is (es ++ g.name ∷ []) (omega (arith, few)) parts.1 h2)

-- ---- lowerings and lifts

lowers_lead : (fs : List FunctionItem) (n : ℕ) (k : DefinedValue) (m i c d f t : ℕ) (is es : List (List ℕ)) → n + length fs ≤ f → Counted k m i c f t is es → d ≡ c + length fs → Leads k (numbered (λ n f. lower_of n) n fs) m i d f t is es
lowers_lead [] n k m i c d f t is es few h e = record { follow = tt; counted = subst (λ w. Counted k m i w f t is es) (omega (arith, e)) h }
lowers_lead (g ∷ gs) n k m i c d f t is es few h e =
    let there : n < k.scope.functions = omega (arith, few, h.functions_are) in
    let k2 = with_definition k (definition_of (lower_of n)) in
    let h2 : Counted k2 m i (suc c) f t is es =
    record { modules_are = h.modules_are; instances_are = h.instances_are; core_functions_are = ap suc h.core_functions_are; functions_are = h.functions_are; types_are = h.types_are; imports_are = h.imports_are; exports_are = h.exports_are } in
    let rest = lowers_lead gs (suc n) k2 m i (suc c) d f t is es (omega (arith, few)) h2 (omega (arith, e)) in
    record { follow = (lower_follows k n there, rest.follow); counted = rest.counted }

lifts_lead : (fs : List FunctionItem) (n : ℕ) (k : DefinedValue) (m i c f v t : ℕ) (is es : List (List ℕ)) → n + length fs ≤ c → n + length fs ≤ t → Counted k m i c f t is es → v ≡ f + length fs → Leads k (numbered (λ n f. lift_of n n) n fs) m i c v t is es
lifts_lead [] n k m i c f v t is es few types h e = record { follow = tt; counted = subst (λ w. Counted k m i c w t is es) (omega (arith, e)) h }
lifts_lead (g ∷ gs) n k m i c f v t is es few types h e =
    let there : n < k.scope.core_functions = omega (arith, few, h.core_functions_are) in
    let typed : n < k.scope.types = omega (arith, types, h.types_are) in
    let k2 = with_definition k (definition_of (lift_of n n)) in
    let h2 : Counted k2 m i c (suc f) t is es =
    record { modules_are = h.modules_are; instances_are = h.instances_are; core_functions_are = h.core_functions_are; functions_are = ap suc h.functions_are; types_are = h.types_are; imports_are = h.imports_are; exports_are = h.exports_are } in
    let rest = lifts_lead gs (suc n) k2 m i c (suc f) v t is es (omega (arith, few)) (omega (arith, types)) h2 (omega (arith, e)) in
    record { follow = (lift_follows k n n there typed, rest.follow); counted = rest.counted }

-- ---- aliases

aliases_lead : (names : List (List ℕ)) (j : ℕ) (k : DefinedValue) (m i c d f t : ℕ) (is es : List (List ℕ)) → j < i → Counted k m i c f t is es → d ≡ c + length names → Leads k (map (alias_of j) names) m i d f t is es
aliases_lead [] j k m i c d f t is es lt h e = record { follow = tt; counted = subst (λ w. Counted k m i w f t is es) (omega (arith, e)) h }
aliases_lead (n ∷ ns) j k m i c d f t is es lt h e =
    let there : j < k.scope.core_instances = omega (arith, lt, h.instances_are) in
    let k2 = with_definition k (definition_of (alias_of j n)) in
    let h2 : Counted k2 m i (suc c) f t is es =
    record { modules_are = h.modules_are; instances_are = h.instances_are; core_functions_are = ap suc h.core_functions_are; functions_are = h.functions_are; types_are = h.types_are; imports_are = h.imports_are; exports_are = h.exports_are } in
    let rest = aliases_lead ns j k2 m i (suc c) d f t is es lt h2 (omega (arith, e)) in
    record { follow = (alias_follows k j n there, rest.follow); counted = rest.counted }

-- ---- instances

instance_leads : (xs : List InlineExportValue) (k : DefinedValue) (m i j c f t : ℕ) (is es : List (List ℕ)) → All (λ x. x.func < c) xs → all_new [] (map (λ x. x.name) xs) ≡ true → Counted k m i c f t is es → j ≡ i + length (instance_with xs)
    → Leads k (instance_with xs) m j c f t is es
instance_leads [] k m i j c f t is es low differ h e = record { follow = tt; counted = subst (λ w. Counted k m w c f t is es) (omega (arith, e)) h }
instance_leads (x ∷ xs) k m i j c f t is es low differ h e =
    let there : All (λ y. y.func < k.scope.core_functions) (x ∷ xs) = subst (λ w. All (λ (y : InlineExportValue). y.func < w) (x ∷ xs)) (sym h.core_functions_are) low in
    let k2 = with_definition k (definition_of (inline_of (x ∷ xs))) in
    let h2 : Counted k2 m (suc i) c f t is es =
    record { modules_are = h.modules_are; instances_are = ap suc h.instances_are; core_functions_are = h.core_functions_are; functions_are = h.functions_are; types_are = h.types_are; imports_are = h.imports_are; exports_are = h.exports_are } in
    record { follow = (inline_follows k (x ∷ xs) there differ, tt); counted = subst (λ w. Counted k2 m w c f t is es) (omega (arith, e)) h2 }

-- ---- what the main module is given

module _ (l : Linking) (place : List ℕ) where
  abbrev flat : ℕ → List FunctionItem → List InlineExportValue
  flat n fs = flat_map (λ given. given) (numbered (given_at l place) n fs)

  given_cases : (n : ℕ) (g : FunctionItem) (gs : List FunctionItem) (P : List InlineExportValue → Type 0) → P (flat (suc n) gs) → P (record { name = g.name; func = n } ∷ flat (suc n) gs) → P (flat n (g ∷ gs))
  given_cases n g gs P without with =
      elim (is_given_under l place g) as (λ b. P ((if b then record { name = g.name; func = n } ∷ [] else []) ++ flat (suc n) gs)) [
        | true ↦ with
        | false ↦ without
      ]

  given_low : (fs : List FunctionItem) (n c : ℕ) → n + length fs ≤ c → All (λ x. x.func < c) (flat n fs)
  given_low [] n c le = All-nil (λ (x : InlineExportValue). x.func < c)
  given_low (g ∷ gs) n c le =
      let rest = given_low gs (suc n) c (omega (arith, le)) in
      given_cases n g gs (All (λ (x : InlineExportValue). x.func < c)) rest (All-cons (λ (x : InlineExportValue). x.func < c) (record { name = g.name; func = n }) (flat (suc n) gs) (omega (arith, le)) rest)

  given_differ : (fs : List FunctionItem) (n : ℕ) (seen : List (List ℕ)) → all_new seen (names_of fs) ≡ true → all_new seen (map (λ x. x.name) (flat n fs)) ≡ true
  given_differ [] n seen e = refl
  given_differ (g ∷ gs) n seen e =
      let parts = and_parts (is_new seen g.name) (all_new (seen ++ g.name ∷ []) (names_of gs)) e in
      given_cases n g gs (λ xs. all_new seen (map (λ (x : InlineExportValue). x.name) xs) ≡ true) (given_differ gs (suc n) seen (all_new_without seen g.name (names_of gs) parts.1))
      (and_from _ _ parts.0 (given_differ gs (suc n) (seen ++ g.name ∷ []) parts.1))

arguments_differ : (xs ys : List InlineExportValue) → all_new [] (map (λ a. a.name) (argument_for root 0 xs ++ argument_for standard (length (instance_with xs)) ys)) ≡ true
arguments_differ [] [] = refl
arguments_differ [] (y ∷ ys) = refl
arguments_differ (x ∷ xs) [] = refl
arguments_differ (x ∷ xs) (y ∷ ys) = refl

-- ---- the whole

module _ (l : Linking) (p : Places) (places : ArePlaces l p) (fit : world_fits l.world ≡ true) where
  abbrev n : ℕ
  n = length (needed l)

  abbrev e : ℕ
  e = length l.world.exports

  abbrev names : List (List ℕ)
  names = names_of (needed l)

  imported_fit : functions_fit (needed l) ≡ true
  imported_fit = some_fit (is_needed l) l.world.imports (and_parts (functions_fit l.world.imports) (functions_fit l.world.exports) fit).0

  exported_fit : functions_fit l.world.exports ≡ true
  exported_fit = (and_parts (functions_fit l.world.imports) (functions_fit l.world.exports) fit).1

  start : Counted nothing 0 0 0 0 0 [] []
  start = record { modules_are = refl; instances_are = refl; core_functions_are = refl; functions_are = refl; types_are = refl; imports_are = refl; exports_are = refl }

  imports : Leads nothing (import_side l) 1 0 n n n names []
  imports =
      let types = types_lead (needed l) nothing 0 0 0 0 0 n [] [] (and_parts (list_all function_fits (needed l)) _ imported_fit).0 start (omega arith) in
      let k1 = grown with_definition nothing (among (types_of (needed l))) in
      let asked = imports_lead (needed l) 0 k1 0 0 0 0 n n [] [] (omega arith) (functions_differ (needed l) imported_fit) types.counted (omega arith) in
      let k2 = grown with_definition k1 (among (numbered (λ n f. import_of f.name n) 0 (needed l))) in
      let k3 = with_definition k2 (definition_of (core_module_of l.main.bytes)) in
      let h = asked.counted in
      let h3 : Counted k3 1 0 0 n n names [] =
      record { modules_are = ap suc h.modules_are; instances_are = h.instances_are; core_functions_are = h.core_functions_are; functions_are = h.functions_are; types_are = h.types_are; imports_are = h.imports_are; exports_are = h.exports_are } in
      let lowered = lowers_lead (needed l) 0 k3 1 0 0 n n n names [] (omega arith) h3 (omega arith) in
      leads_on 1 0 n n n names [] nothing (types_of (needed l)) _ types.follow
      (leads_on 1 0 n n n names [] k1 (numbered (λ n f. import_of f.name n) 0 (needed l)) _ asked.follow (record { follow = (module_follows k2 l.main.bytes, lowered.follow); counted = lowered.counted }))

  abbrev given : List ℕ → List InlineExportValue
  given place = given_under l place

  instances : (k : DefinedValue) → Counted k 1 0 n n n names [] → Leads k (instance_side l) 1 (suc (length (instances_for l))) n n n names []
  instances k h =
      let a = length (instance_with (given root)) in
      let b = length (instance_with (given standard)) in
      let low = λ (place : List ℕ). given_low l place (needed l) 0 n (omega arith) in
      let differ = λ (place : List ℕ). given_differ l place (needed l) 0 [] (functions_differ (needed l) imported_fit) in
      let first = instance_leads (given root) k 1 0 a n n n names [] (low root) (differ root) h (omega arith) in
      let k1 = grown with_definition k (among (instance_with (given root))) in
      let second = instance_leads (given standard) k1 1 a (a + b) n n n names [] (low standard) (differ standard) first.counted refl in
      let both = leads_on 1 (a + b) n n n names [] k (instance_with (given root)) (instance_with (given standard)) first.follow second in
      let k2 = grown with_definition k (among (instances_for l)) in
      let h2 = both.counted in
      let there : 0 < k2.scope.core_modules = omega (arith, h2.modules_are) in
      let known : All (λ x. x.instance < k2.scope.core_instances) (arguments_for l) = subst (λ w. All (λ (x : ArgumentValue). x.instance < w) (arguments_for l)) (sym h2.instances_are) (arguments_within (given root) (given standard)) in
      let main = instantiation_follows k2 0 (arguments_for l) there known (arguments_differ (given root) (given standard)) in
      let count : a + b ≡ length (instances_for l) = sym (length-append (instance_with (given root)) (instance_with (given standard))) in
      leads_on 1 (suc (length (instances_for l))) n n n names [] k (instances_for l) (instantiation_of 0 (arguments_for l) ∷ []) both.follow
      (record {
        follow = (main, tt);
        counted = record { modules_are = h2.modules_are; instances_are = ap suc (h2.instances_are ∙ count); core_functions_are = h2.core_functions_are; functions_are = h2.functions_are; types_are = h2.types_are; imports_are = h2.imports_are; exports_are = h2.exports_are };
      })

  exports : (k : DefinedValue) → Counted k 1 (suc (length (instances_for l))) n n n names [] → Follow k (among (export_side l))
  exports k h =
      let i = length (instances_for l) in
      let fs = l.world.exports in
      let texts = flat_map (names_for l) fs in
      let as_many : length texts ≡ e = ap length (sym (placed_texts l fs p.exports places.exports)) ∙ length-map p.exports (λ q. text_at l.main.exports q) ∙ placed_length l fs p.exports places.exports in
      let aliases = aliases_lead texts i k 1 (suc i) n (n + e) n n names [] (omega arith) h (omega (arith, as_many)) in
      let k1 = grown with_definition k (among (map (alias_of i) texts)) in
      let types = types_lead fs k1 1 (suc i) (n + e) n n (n + e) names [] (and_parts (list_all function_fits fs) _ exported_fit).0 aliases.counted refl in
      let k2 = grown with_definition k1 (among (types_of fs)) in
      let lifts = lifts_lead fs n k2 1 (suc i) (n + e) n (n + e) (n + e) names [] (omega arith) (omega arith) types.counted refl in
      let k3 = grown with_definition k2 (among (numbered (λ n f. lift_of n n) n fs)) in
      let offered = exports_lead fs n k3 1 (suc i) (n + e) (n + e) (n + e) names [] (omega arith) (functions_differ fs exported_fit) lifts.counted in
      let behind = types_of fs ++ (numbered (λ n f. lift_of n n) n fs ++ numbered (λ n f. export_of f.name n None) n fs) in
      subst (λ ds. Follow k (among (ds ++ behind))) (aliases_agree l fs)
      (follow_on k (map (alias_of i) texts) behind aliases.follow (follow_on k1 (types_of fs) _ types.follow (follow_on k2 (numbered (λ n f. lift_of n n) n fs) _ lifts.follow offered)))

  pub component_follows : Follow nothing (among (component_of l))
  unfolding component_of
  component_follows =
      let k1 = grown with_definition nothing (among (import_side l)) in
      let side = instances k1 imports.counted in
      follow_on nothing (import_side l) (instance_side l ++ export_side l) imports.follow
      (follow_on k1 (instance_side l) (export_side l) side.follow (exports (grown with_definition k1 (among (instance_side l))) side.counted))
