-- What interfaces hold, where it stands in another arena (WIT, Item: `interface`, Feature Gates).
use Rattle.std.specs.Prelude.{◌≡◌, ℕ, Bool, true, false, ◌&&◌, List, [], ◌∷◌, Some, String, slice_get}
use Rattle.std.specs.declared.alloc.Global.{Global}
use Rattle.wit_features.specs.Passed.wit_words-declared-source_map-Span.{Span}
use Rattle.wit_features.specs.Passed.wit_types-declared-function-Function.{Function}
use Rattle.wit_features.specs.Passed.wit_types-declared-interface-Interface.{Interface}
use Rattle.wit_moves.specs.declared.plan.MoveFault.{MoveFault}
use Rattle.wit_moves.specs.declared.plan.MoveFault.TheVariants.{ItemNotFound, OutOfMemory}
use Rattle.wit_features.specs.Features.{FeatureSet, stays as item_stays}
use Rattle.wit_moves.specs.Moved.{Places, is_placed, to, resource_of, is_resource_placed, is_signature_placed, IsMovedFunction}

-- entries of a map that stay, in their order, each changed
pub data AreKept {K V : Type 0} (stays : V → Bool) (changes : V → V → Type 0) : List (K × V) → List (K × V) → Type 0 where
  no_entries : AreKept stays changes [] []
  one_goes : (k : K) (v : V) (es fs : List (K × V)) → stays v ≡ false → AreKept stays changes es fs → AreKept stays changes ((k, v) ∷ es) fs
  one_stays : (k : K) (v w : V) (es fs : List (K × V)) → stays v ≡ true → changes v w → AreKept stays changes es fs → AreKept stays changes ((k, v) ∷ es) ((k, w) ∷ fs)

-- names of types, each where its type stands; those of types that are left out go
abbrev pub AreMovedNames : Places → List (String Global × ℕ) → List (String Global × ℕ) → Type 0
AreMovedNames places = AreKept (is_placed places) (λ (i j : ℕ). j ≡ to places i)

-- a function stays where its gates let it and the resource that it is of does
abbrev pub function_stays : FeatureSet → Places → Function → Bool
function_stays features places f = item_stays features f.stability && is_resource_placed places (resource_of f.kind)

abbrev pub AreMovedFunctions : FeatureSet → Places → List (String Global × Function) → List (String Global × Function) → Type 0
AreMovedFunctions features places = AreKept (function_stays features places) (IsMovedFunction (to places))

-- a function that stays takes or gives a type that doesn't: a break at the function
pub record FunctionsBreak (features : FeatureSet) (places : Places) (es : List (String Global × Function)) (at : Span) : Type 0 where
  pub place : ℕ
  pub one : String Global × Function
  pub there : slice_get es place ≡ Some one
  pub stays : function_stays features places one.1 ≡ true
  pub unplaced : is_signature_placed places one.1.params.items one.1.result ≡ false
  pub stands : one.1.span ≡ at

abbrev pub IsFunctionCause : FeatureSet → Places → List (String Global × Function) → MoveFault → Type 0
IsFunctionCause features places es OutOfMemory = ⊥
IsFunctionCause features places es (ItemNotFound at) = FunctionsBreak features places es at

-- ---- interfaces

-- the same interface of a package, with what of it stays
pub record IsMovedInterface (features : FeatureSet) (places : Places) (owner : ℕ) (old new : Interface) : Type 0 where
  pub name : new.name ≡ old.name
  pub types : AreMovedNames places old.types.entries new.types.entries
  pub functions : AreMovedFunctions features places old.functions.entries new.functions.entries
  pub docs : new.docs ≡ old.docs
  pub stability : new.stability ≡ old.stability
  pub owner_is : new.«package» ≡ Some owner
  pub span : new.span ≡ old.span
