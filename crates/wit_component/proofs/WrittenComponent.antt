-- The parts that were added are the component's.
use Rattle.std.proofs.Common.{◌≡◌, ℕ, List, [], ◌∷◌, ◌++◌, length, map, refl, sym, ap, ◌∙◌, Bor, None}
use Rattle.std.specs.List.{flat_map}
use Rattle.std.proofs.lemmas.List.{map-append}
use Rattle.std.proofs.lemmas.List.Concat.{flat_map-cons}
use Rattle.component_sections.specs.Component as whole
use Rattle.known_definitions.specs.Definition.{DefinitionValue, core_module_of, alias_of, lift_of, lower_of, import_of, export_of}
use Rattle.plain_worlds.specs.World.{FunctionItem}
use Rattle.wit_component.specs.Linking.{Linking, CoreExport}
use Rattle.wit_component.specs.Table.{exported_by, needed}
use Rattle.wit_component.specs.Component.{numbered, types_of, import_side, instances_for, instance_side, aliases_of, export_side, component_of}
use Rattle.wit_component.specs.Written.{among}
use Rattle.wit_component.proofs.Written.{both_written}
use Rattle.wit_component.proofs.WrittenLinks.{names_for}

-- ---- aliases

map_twice : {X Y Z : Type 0} (f : Y → Z) (g : X → Y) (xs : List X) → map f (map g xs) ≡ map (λ x. f (g x)) xs
map_twice f g [] = refl
map_twice f g (x ∷ xs) = ap (λ l. f (g x) ∷ l) (map_twice f g xs)

module _ (l : Linking) where
  pub aliases_agree : (fs : List FunctionItem) → map (alias_of (length (instances_for l))) (flat_map (names_for l) fs) ≡ flat_map (aliases_of l) fs
  aliases_agree [] = refl
  aliases_agree (f ∷ fs) =
      let make = alias_of (length (instances_for l)) in
      ap (λ ns. map make ns) (flat_map-cons (names_for l) f fs) ∙ map-append make (names_for l f) (flat_map (names_for l) fs)
      ∙ ap (λ ds. ds ++ map make (flat_map (names_for l) fs)) (map_twice make (λ (e : CoreExport). e.name) (exported_by l f))
      ∙ ap (λ ds. aliases_of l f ++ ds) (aliases_agree fs) ∙ sym (flat_map-cons (aliases_of l) f fs)

  -- the export side by what was found
  abbrev pub exported_as : ℕ → List (Bor (List ℕ)) → ℕ → List FunctionItem → List DefinitionValue
  exported_as instance names from fs =
      map (λ t. alias_of instance t.now) names ++ (types_of fs ++ (numbered (λ n f. lift_of n n) from fs ++ numbered (λ n f. export_of f.name n None) from fs))

  pub exported_is : (instance : ℕ) (names : List (Bor (List ℕ))) (from : ℕ) (fs : List FunctionItem) → instance ≡ length (instances_for l) → map (λ t. t.now) names ≡ flat_map (names_for l) l.world.exports → from ≡ length (needed l) → fs ≡ l.world.exports
      → exported_as instance names from fs ≡ export_side l
  exported_is instance names from fs at texts first all =
      ap (λ i. exported_as i names from fs) at ∙ ap (λ n. exported_as (length (instances_for l)) names n fs) first ∙ ap (λ gs. exported_as (length (instances_for l)) names (length (needed l)) gs) all
      ∙ ap (λ ds. ds ++ (types_of l.world.exports ++ (numbered (λ n f. lift_of n n) (length (needed l)) l.world.exports ++ numbered (λ n f. export_of f.name n None) (length (needed l)) l.world.exports)))
      (sym (map_twice (alias_of (length (instances_for l))) (λ (t : Bor (List ℕ)). t.now) names) ∙ ap (λ ns. map (alias_of (length (instances_for l))) ns) texts ∙ aliases_agree l.world.exports)

  -- ---- the three parts

  pub component_is : (imports instances all : List whole.DefinitionValue) → imports ≡ among (import_side l) → instances ≡ imports ++ among (instance_side l) → all ≡ instances ++ among (export_side l) → all ≡ among (component_of l)
  unfolding component_of
  component_is imports instances all first second third =
      both_written [] imports all (import_side l) (instance_side l ++ export_side l) first (both_written imports instances all (instance_side l) (export_side l) second third)

-- the import side by what was found
abbrev pub imported_as : List FunctionItem → List ℕ → List DefinitionValue
imported_as fs bytes = types_of fs ++ (numbered (λ n f. import_of f.name n) 0 fs ++ (core_module_of bytes ∷ numbered (λ n f. lower_of n) 0 fs))

pub imports_are : (l : Linking) (before : List whole.DefinitionValue) (fs : List FunctionItem) (now : List whole.DefinitionValue) → before ≡ [] → fs ≡ needed l → now ≡ before ++ among (imported_as fs l.main.bytes) → now ≡ among (import_side l)
imports_are l before fs now empty all is = is ∙ ap (λ ds. ds ++ among (imported_as fs l.main.bytes)) empty ∙ ap (λ gs. among (imported_as gs l.main.bytes)) all
