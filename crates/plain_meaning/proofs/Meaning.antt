-- All definitions, one after the other.
use Rattle.std.proofs.Common.{ℕ, List, [], ◌∷◌}
use Rattle.std.specs.Prelude.{map, fold}
use Rattle.wasm_format.specs.Module.{ModuleValue}
use Rattle.known_definitions.specs.Definition.{DefinitionValue}
use Rattle.known_definitions.specs.Known.{definition_of}
use Rattle.wit_component.specs.Linking as plain_main
use Rattle.wit_component.specs.Meaning as plain
use Rattle.wit_component.specs.Meaning.{meaning}
use Rattle.component_meaning.specs.Spaces as full
use Rattle.right_components.specs.Main as full_main
use Rattle.plain_meaning.specs.Seen.{IsSeenAs}
use Rattle.plain_meaning.specs.Law.{ExportsHaveTypes, PlainDefinitionsStandForTheSame}
use Rattle.plain_meaning.proofs.Joined.{joined_seen}
use Rattle.plain_meaning.proofs.Adding.{nothing_seen, adds_seen}

seen_from : (bytes : List ℕ) (m : ModuleValue) (s : plain.Spaces) (t : full.Spaces) (ds : List DefinitionValue) → ExportsHaveTypes m → IsSeenAs s t
    → IsSeenAs (fold (plain.after (plain_main.main_of bytes m)) s ds) (fold (full.after (full_main.main_of bytes m)) t (map definition_of ds))
seen_from bytes m s t [] typed h = h
seen_from bytes m s t (d ∷ ds) typed h =
    let main = plain_main.main_of bytes m in
    let full_module = full_main.main_of bytes m in
    seen_from bytes m (plain.after main s d) (full.after full_module t (definition_of d)) ds typed
    (joined_seen s (plain.adds main s d) t (full.adds full_module t (definition_of d)) h (adds_seen bytes m s t d typed h))

pub stands_for_the_same : PlainDefinitionsStandForTheSame
unfolding plain.meaning full.meaning
stands_for_the_same bytes m ds typed = seen_from bytes m plain.no_spaces full.no_spaces ds typed nothing_seen
