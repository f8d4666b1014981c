-- What is there stays there, whatever follows.
use Rattle.std.proofs.Common.{◌≡◌, ℕ, List, [], ◌∷◌, ◌++◌, Option, sym, ◌∙◌}
use Rattle.std.proofs.lemmas.List.{append-nil, append_assoc}
use Rattle.std.proofs.lemmas.List.Sums.{fold-append}
use Rattle.std.specs.Prelude.{fold}
use Rattle.component_sections.specs.Component.{DefinitionValue}
use Rattle.flat_trees.specs.Passed.type_meaning-Items.{Item, Entry}
use Rattle.flat_trees.specs.Passed.type_meaning-Scope as scopes
use Rattle.flat_trees.specs.Passed.type_meaning-Scope.{Scope, no_scope}
use Rattle.component_meaning.specs.Core.{MainModule, CoreItem, CoreInstance}
use Rattle.component_meaning.specs.Spaces.{Spaces, no_spaces, joined, adds, after, meaning, EarlierIndicesStay}

-- ---- one behind the other

scope_is : (types types2 functions functions2 instances instances2 : List Item) (imports imports2 exports exports2 : List Entry)
    → types ≡ types2 → functions ≡ functions2 → instances ≡ instances2 → imports ≡ imports2 → exports ≡ exports2
    → ◌≡◌ {A = Scope} (record { types = types; functions = functions; instances = instances; imports = imports; exports = exports }) (record { types = types2; functions = functions2; instances = instances2; imports = imports2; exports = exports2 })
scope_is types types2 functions functions2 instances instances2 imports imports2 exports exports2 a b c d e = λ i. record { types = a i; functions = b i; instances = c i; imports = d i; exports = e i }

spaces_are : (scope scope2 : Scope) (modules modules2 : List (List ℕ)) (instances instances2 : List CoreInstance) (functions functions2 tables tables2 memories memories2 globals globals2 : List (Option CoreItem))
    → scope ≡ scope2 → modules ≡ modules2 → instances ≡ instances2 → functions ≡ functions2 → tables ≡ tables2 → memories ≡ memories2 → globals ≡ globals2
    → ◌≡◌ {A = Spaces} (record { scope = scope; modules = modules; core_instances = instances; core_functions = functions; core_tables = tables; core_memories = memories; core_globals = globals })
    (record { scope = scope2; modules = modules2; core_instances = instances2; core_functions = functions2; core_tables = tables2; core_memories = memories2; core_globals = globals2 })
spaces_are scope scope2 modules modules2 instances instances2 functions functions2 tables tables2 memories memories2 globals globals2 a b c d e f g =
    λ i. record { scope = a i; modules = b i; core_instances = c i; core_functions = d i; core_tables = e i; core_memories = f i; core_globals = g i }

scope_end : (s : Scope) → scopes.joined s no_scope ≡ s
scope_end s =
    scope_is (s.types ++ []) s.types (s.functions ++ []) s.functions (s.instances ++ []) s.instances (s.imports ++ []) s.imports (s.exports ++ []) s.exports
    (append-nil s.types) (append-nil s.functions) (append-nil s.instances) (append-nil s.imports) (append-nil s.exports)

scope_assoc : (s t u : Scope) → scopes.joined (scopes.joined s t) u ≡ scopes.joined s (scopes.joined t u)
scope_assoc s t u =
    scope_is ((s.types ++ t.types) ++ u.types) (s.types ++ (t.types ++ u.types)) ((s.functions ++ t.functions) ++ u.functions) (s.functions ++ (t.functions ++ u.functions))
    ((s.instances ++ t.instances) ++ u.instances) (s.instances ++ (t.instances ++ u.instances)) ((s.imports ++ t.imports) ++ u.imports) (s.imports ++ (t.imports ++ u.imports))
    ((s.exports ++ t.exports) ++ u.exports) (s.exports ++ (t.exports ++ u.exports))
    (append_assoc s.types t.types u.types) (append_assoc s.functions t.functions u.functions) (append_assoc s.instances t.instances u.instances) (append_assoc s.imports t.imports u.imports)
    (append_assoc s.exports t.exports u.exports)

pub spaces_end : (s : Spaces) → joined s no_spaces ≡ s
spaces_end s =
    spaces_are (scopes.joined s.scope no_scope) s.scope (s.modules ++ []) s.modules (s.core_instances ++ []) s.core_instances (s.core_functions ++ []) s.core_functions (s.core_tables ++ []) s.core_tables
    (s.core_memories ++ []) s.core_memories (s.core_globals ++ []) s.core_globals
    (scope_end s.scope) (append-nil s.modules) (append-nil s.core_instances) (append-nil s.core_functions) (append-nil s.core_tables) (append-nil s.core_memories) (append-nil s.core_globals)

pub spaces_assoc : (s t u : Spaces) → joined (joined s t) u ≡ joined s (joined t u)
spaces_assoc s t u =
    spaces_are (scopes.joined (scopes.joined s.scope t.scope) u.scope) (scopes.joined s.scope (scopes.joined t.scope u.scope)) ((s.modules ++ t.modules) ++ u.modules) (s.modules ++ (t.modules ++ u.modules))
    ((s.core_instances ++ t.core_instances) ++ u.core_instances) (s.core_instances ++ (t.core_instances ++ u.core_instances))
    ((s.core_functions ++ t.core_functions) ++ u.core_functions) (s.core_functions ++ (t.core_functions ++ u.core_functions))
    ((s.core_tables ++ t.core_tables) ++ u.core_tables) (s.core_tables ++ (t.core_tables ++ u.core_tables))
    ((s.core_memories ++ t.core_memories) ++ u.core_memories) (s.core_memories ++ (t.core_memories ++ u.core_memories))
    ((s.core_globals ++ t.core_globals) ++ u.core_globals) (s.core_globals ++ (t.core_globals ++ u.core_globals))
    (scope_assoc s.scope t.scope u.scope) (append_assoc s.modules t.modules u.modules) (append_assoc s.core_instances t.core_instances u.core_instances)
    (append_assoc s.core_functions t.core_functions u.core_functions) (append_assoc s.core_tables t.core_tables u.core_tables) (append_assoc s.core_memories t.core_memories u.core_memories)
    (append_assoc s.core_globals t.core_globals u.core_globals)

-- ---- folds

stays_from : (main : MainModule) (s : Spaces) (more : List DefinitionValue) → (t : Spaces) × (fold (after main) s more ≡ joined s t)
stays_from main s [] = (no_spaces, sym (spaces_end s))
stays_from main s (d ∷ more) =
    let rest = stays_from main (after main s d) more in
    (joined (adds main s d) rest.0, rest.1 ∙ spaces_assoc s (adds main s d) rest.0)

pub stays : EarlierIndicesStay
unfolding meaning
stays main ds more =
    let rest = stays_from main (fold (after main) no_spaces ds) more in
    (rest.0, fold-append (after main) no_spaces ds more ∙ rest.1)
