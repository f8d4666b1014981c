-- A walk over all definitions is their meaning.
use Rattle.std.proofs.Common.{◌≡◌, ℕ, ◌+◌, ◌<◌, ◌≤◌, List, [], ◌∷◌, ◌++◌, length, take, get_or, fold, sym, ap, subst, ◌∙◌}
use Rattle.std.proofs.lemmas.List.{map_more, take_all}
use Rattle.std.proofs.lemmas.List.Sums.{fold-append}
use Rattle.known_definitions.specs.declared.definition.KnownDefinition.{KnownDefinition}
use Rattle.known_definitions.specs.Definition.{definition_value, definition_values}
use Rattle.wit_component.specs.Linking.{MainModule}
use Rattle.wit_component.specs.Meaning.{Spaces, no_spaces, after, meaning}

module _ (main : MainModule) (items there : List KnownDefinition) (same : there ≡ items) (k : ℕ) where
  pub walked_more : (d : KnownDefinition) → k < length there → d ≡ get_or there k d → (old new : Spaces) → old ≡ fold (after main) no_spaces (definition_values (take k items)) → new ≡ after main old (definition_value d)
      → new ≡ fold (after main) no_spaces (definition_values (take (k + 1) items))
  walked_more d lt is old new so_far step =
      let below : k < length items = subst (λ (ds : List KnownDefinition). k < length ds) same lt in
      let read : d ≡ get_or items k d = is ∙ ap (λ (ds : List KnownDefinition). get_or ds k d) same in
      let more : definition_values (take (k + 1) items) ≡ definition_values (take k items) ++ definition_value d ∷ [] =
      map_more definition_value items k d below ∙ ap (λ (x : KnownDefinition). definition_values (take k items) ++ definition_value x ∷ []) (sym read) in
      step ∙ ap (λ s. after main s (definition_value d)) so_far ∙ sym (ap (fold (after main) no_spaces) more ∙ fold-append (after main) no_spaces (definition_values (take k items)) (definition_value d ∷ []))

  pub walked_all : length items ≤ k → (s : Spaces) → s ≡ fold (after main) no_spaces (definition_values (take k items)) → s ≡ meaning main (definition_values items)
  unfolding meaning
  walked_all le s so_far = so_far ∙ ap (λ ds. fold (after main) no_spaces (definition_values ds)) (take_all k items le)
