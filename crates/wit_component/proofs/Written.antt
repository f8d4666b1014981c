-- What is written, one definition after the other.
use Rattle.std.proofs.Common.{◌≡◌, ℕ, ◌+◌, ◌<◌, List, ◌∷◌, ◌++◌, length, drop, get_or, map, sym, ap, ◌∙◌, append_assoc, Bor}
use Rattle.std.proofs.lemmas.List.{drop_more, map-append}
use Rattle.component_sections.specs.Component as whole
use Rattle.known_definitions.specs.Definition.{DefinitionValue}
use Rattle.known_definitions.specs.Known.{definition_of}
use Rattle.plain_worlds.specs.declared.world.Function.{Function}
use Rattle.plain_worlds.specs.World.{FunctionItem, function_item}
use Rattle.wit_component.specs.Written.{among}

-- the functions behind references
abbrev pub items_of : List (Bor Function) → List FunctionItem
items_of fs = map (λ f. function_item f.now) fs

-- one behind the other
pub both_written : (before mid after : List whole.DefinitionValue) (first second : List DefinitionValue) → mid ≡ before ++ among first → after ≡ mid ++ among second → after ≡ before ++ among (first ++ second)
both_written before mid after first second e f =
    f ∙ ap (λ ws. ws ++ among second) e ∙ append_assoc before (among first) (among second) ∙ ap (λ ws. before ++ ws) (sym (map-append definition_of first second))

-- ---- the first of what is left of a list

module _ {X : Type 0} (xs : List X) (i : ℕ) (lt : i < length xs) (x : X) (here : x ≡ get_or xs i x) where
  pub split_at : drop i xs ≡ x ∷ drop (i + 1) xs
  split_at = drop_more xs i x lt ∙ ap (λ (y : X). y ∷ drop (i + 1) xs) (sym here)

  pub split_map : {Y : Type 0} (f : X → Y) → map f (drop i xs) ≡ f x ∷ map f (drop (i + 1) xs)
  split_map f = ap (λ l. map f l) split_at
