-- The component that is written for a linking, as the list of its definitions. Indices are counted out from this order:
-- types of the needed imports, the imports, the main module, the lowerings, what the module is given, its instance, its
-- core exports, types of the exports, the lifts, the exports (Component Model Binary, Index Spaces).
use Rattle.std.specs.Prelude.{ℕ, suc, List, [], ◌∷◌, ◌++◌, map, length, None, Bool, ◌&&◌, bytes_eq, if◌then◌else◌}
use Rattle.std.specs.List.{flat_map, list_any}
use Rattle.known_definitions.specs.Definition.{ArgumentValue, InlineExportValue, DefinitionValue, core_module_of, instantiation_of, inline_of, alias_of, type_of, lift_of, lower_of, import_of, export_of}
use Rattle.plain_worlds.specs.World.{FunctionItem}
use Rattle.wit_component.specs.CoreNames.{root, standard}
use Rattle.wit_component.specs.Linking.{Linking}
use Rattle.wit_component.specs.Table.{exported_by, needed}

-- each with its number, from this one on
abbrev pub numbered : {X Y : Type 0} → (ℕ → X → Y) → ℕ → List X → List Y
numbered make n [] = []
numbered make n (x ∷ xs) = make n x ∷ numbered make (suc n) xs

abbrev pub types_of : List FunctionItem → List DefinitionValue
types_of = map (λ f. type_of f.ty)

-- ---- what the main module is given: the lowering of each needed function, under the texts that it is imported by

abbrev pub is_given_under : Linking → List ℕ → FunctionItem → Bool
is_given_under l place f = list_any (λ i. bytes_eq i.place place && bytes_eq i.name f.name) l.main.imports

abbrev pub given_at : Linking → List ℕ → ℕ → FunctionItem → List InlineExportValue
given_at l place n f = if is_given_under l place f then record { name = f.name; func = n } ∷ [] else []

-- the inline exports of the instance for one module text; the first needed function's lowering is at 0, and so on
abbrev pub given_under : Linking → List ℕ → List InlineExportValue
given_under l place = flat_map (λ given. given) (numbered (given_at l place) 0 (needed l))

-- an instance, where it would export anything
abbrev pub instance_with : List InlineExportValue → List DefinitionValue
instance_with [] = []
instance_with (x ∷ xs) = inline_of (x ∷ xs) ∷ []

abbrev pub instances_for : Linking → List DefinitionValue
instances_for l = instance_with (given_under l root) ++ instance_with (given_under l standard)

-- the argument of that name, the instance at that index, where there is one
abbrev pub argument_for : List ℕ → ℕ → List InlineExportValue → List ArgumentValue
argument_for place n [] = []
argument_for place n (x ∷ xs) = record { name = place; instance = n } ∷ []

abbrev pub arguments_for : Linking → List ArgumentValue
arguments_for l = argument_for root 0 (given_under l root) ++ argument_for standard (length (instance_with (given_under l root))) (given_under l standard)

-- ---- the two sides

abbrev pub import_side : Linking → List DefinitionValue
import_side l =
    types_of (needed l)
    ++ (numbered (λ n f. import_of f.name n) 0 (needed l)
    ++ (core_module_of l.main.bytes
    ∷ numbered (λ n f. lower_of n) 0 (needed l)))

abbrev pub instance_side : Linking → List DefinitionValue
instance_side l = instances_for l ++ instantiation_of 0 (arguments_for l) ∷ []

-- the core exports that stand for a function, of the main module's instance; one where the input is linked
abbrev pub aliases_of : Linking → FunctionItem → List DefinitionValue
aliases_of l f = map (λ e. alias_of (length (instances_for l)) e.name) (exported_by l f)

abbrev pub export_side : Linking → List DefinitionValue
export_side l =
    flat_map (aliases_of l) l.world.exports
    ++ (types_of l.world.exports
    ++ (numbered (λ n f. lift_of n n) (length (needed l)) l.world.exports
    ++ numbered (λ n f. export_of f.name n None) (length (needed l)) l.world.exports))

unfoldable pub component_of : Linking → List DefinitionValue
component_of l = import_side l ++ (instance_side l ++ export_side l)
