-- Components of known definitions.
use Rattle.std.proofs.Common.{◌≡◌, ℕ, List, map, Some, None, sym, ap, subst, ◌∙◌}
use Rattle.binary_grammar.specs.declared.fault.Fault.{Fault}
use Rattle.component_sections.specs.Component as whole
use Rattle.component_sections.proofs.Reading as read
use Rattle.plain_worlds.specs.World.{each_of}
use Rattle.known_definitions.specs.Definition.{DefinitionValue}
use Rattle.known_definitions.specs.Known.{definition_of, known_of}
use Rattle.known_definitions.specs.Component.{IsComponent, HasUnknown}
use Rattle.known_definitions.proofs.Lists.{some_is, each_again, each_back}
use Rattle.known_definitions.proofs.Projection.{known_again, known_back}

all_known : (ds : List DefinitionValue) → each_of known_of (map definition_of ds) ≡ Some ds
all_known ds = each_again known_of definition_of known_again ds

pub one_list : (bytes : List ℕ) (ds es : List DefinitionValue) → IsComponent bytes ds → IsComponent bytes es → ds ≡ es
one_list bytes ds es h k = some_is ds es (sym (all_known ds) ∙ ap (each_of known_of) (read.one_list bytes (map definition_of ds) (map definition_of es) h k) ∙ all_known es)

none_some : {A : Type 0} (x : A) → None ≡ Some x → ⊥
none_some x e = absurd cc

pub not_known : (bytes : List ℕ) (ds : List DefinitionValue) → HasUnknown bytes → IsComponent bytes ds → ⊥
not_known bytes ds (es, is, none) h = none_some ds (sym none ∙ ap (each_of known_of) (read.one_list bytes es (map definition_of ds) is h) ∙ all_known ds)

-- what was read is a component of what is known of it
pub are_known : (bytes : List ℕ) (xs : List whole.DefinitionValue) (ds : List DefinitionValue) → whole.IsComponent bytes xs → each_of known_of xs ≡ Some ds → IsComponent bytes ds
are_known bytes xs ds is e = subst (whole.IsComponent bytes) (each_back known_of definition_of known_back xs ds e) is

-- bytes that break a rule are no component
pub no_break : (bytes : List ℕ) (ds : List DefinitionValue) (e : Fault) → whole.BreaksComponent bytes e → IsComponent bytes ds → ⊥
no_break bytes ds e broken h = (read.one_break bytes e broken).0 (map definition_of ds) h
