-- Spaces one behind the other are seen as they are one by one.
use Rattle.std.proofs.Common.{◌≡◌, List, ◌++◌, sym, ◌∙◌}
use Rattle.std.specs.Prelude.{map, option_map}
use Rattle.std.proofs.lemmas.List.{map-append}
use Rattle.wit_component.specs.Meaning as plain
use Rattle.component_meaning.specs.Spaces as full
use Rattle.plain_meaning.specs.Seen.{type_item, function_item, import_entry, export_entry, core_item, IsInstanceSeenAs, IsSeenAs}
use Rattle.plain_meaning.proofs.Lists.{zip_append}

mapped : {A B : Type 0} (f : A → B) (xs more : List A) (ys others : List B) → ys ≡ map f xs → others ≡ map f more → ys ++ others ≡ map f (xs ++ more)
mapped f xs more ys others e d = (λ i. e i ++ d i) ∙ sym (map-append f xs more)

pub joined_seen : (s t : plain.Spaces) (u v : full.Spaces) → IsSeenAs s u → IsSeenAs t v → IsSeenAs (plain.joined s t) (full.joined u v)
joined_seen s t u v h k = record {
  modules = λ i. h.modules i ++ k.modules i;
  types = mapped type_item s.types t.types u.scope.types v.scope.types h.types k.types;
  functions = mapped function_item s.functions t.functions u.scope.functions v.scope.functions h.functions k.functions;
  instances = λ i. h.instances i ++ k.instances i;
  imports = mapped import_entry s.imports t.imports u.scope.imports v.scope.imports h.imports k.imports;
  exports = mapped export_entry s.exports t.exports u.scope.exports v.scope.exports h.exports k.exports;
  core_instances = zip_append IsInstanceSeenAs s.instances t.instances u.core_instances v.core_instances h.core_instances k.core_instances;
  core_functions = mapped (option_map core_item) s.core_functions t.core_functions u.core_functions v.core_functions h.core_functions k.core_functions;
  core_tables = λ i. h.core_tables i ++ k.core_tables i;
  core_memories = λ i. h.core_memories i ++ k.core_memories i;
  core_globals = λ i. h.core_globals i ++ k.core_globals i;
}
