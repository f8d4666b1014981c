-- Core types and what functions ask for: what is known of types one by one is what their trees have.
use Rattle.std.proofs.Common.{◌≡◌, List, Option, Some, sym, ap, ◌∙◌}
use Rattle.wasm_types.specs.Types.{FuncTypeValue}
use Rattle.wit_reach.specs.Types.{AreTypesBackward}
use Rattle.wit_types.specs.declared.function.Function.{Function}
use Rattle.wit_types.specs.declared.interface.TypeDef.{TypeDef}
use Rattle.wit_types.specs.declared.mangling.AbiVariant.{AbiVariant}
use Rattle.flat_trees.specs.Passed.type_writing-Unfolding.{WitTree}
use Rattle.canonical_options.specs.Passed.flat_types-Flats.{FlatValue, flats, known_signature, known_required}
use Rattle.canonical_options.specs.Passed.flat_types-Signature.{SignatureValue, RequiredValue}
use Rattle.flat_trees.specs.Flat.{signature, core_type}
use Rattle.flat_trees.specs.Law.{UnfoldedFunctionsAreFlat}
use Rattle.link_table.specs.Types.{HasTree, HasCoreType, Requires, IsOfType, IsMistyped}

module _ (law : UnfoldedFunctionsAreFlat) (types : List TypeDef) (known : List FlatValue) (variant : AbiVariant) (f : Function) (backward : AreTypesBackward types) (are : known ≡ flats types) (t : WitTree) (has : HasTree types f t) where
  -- the signature that is worked out is that of the tree
  signed : (s : SignatureValue) → s ≡ known_signature known variant f.params.items f.result → s ≡ signature variant t
  signed s e = e ∙ ap (λ (k : List FlatValue). known_signature k variant f.params.items f.result) are ∙ law.signatures types variant f.params.items f.result t backward has

  core : (s : SignatureValue) → s ≡ known_signature known variant f.params.items f.result → HasCoreType types variant f (core_type s)
  core s e = record { tree = t; unfolds = has; is = ap core_type (signed s e) }

  pub is_of_type : (s : SignatureValue) (found : Option FuncTypeValue) → s ≡ known_signature known variant f.params.items f.result → found ≡ Some (core_type s) → IsOfType types variant f found
  is_of_type s found e same = (core_type s, core s e, same)

  pub is_mistyped : (s : SignatureValue) (found : Option FuncTypeValue) → s ≡ known_signature known variant f.params.items f.result → (found ≡ Some (core_type s) → ⊥) → IsMistyped types variant f found
  is_mistyped s found e other = (core_type s, core s e, other)

  pub is_required : (r : RequiredValue) → r ≡ known_required known variant f.params.items f.result → Requires types variant f r
  is_required r e = record {
    tree = t;
    unfolds = has;
    is = e ∙ ap (λ (k : List FlatValue). known_required k variant f.params.items f.result) are ∙ law.options types variant f.params.items f.result t backward has;
  }

  -- all that is asked for is what is worked out
  pub one_required : (r q : RequiredValue) → r ≡ known_required known variant f.params.items f.result → Requires types variant f q → q ≡ r
  one_required r q e asked =
      asked.is ∙ sym (law.options types variant f.params.items f.result asked.tree backward asked.unfolds) ∙ ap (λ (k : List FlatValue). known_required k variant f.params.items f.result) (sym are) ∙ sym e
